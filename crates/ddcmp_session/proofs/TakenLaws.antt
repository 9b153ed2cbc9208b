-- Messages that are taken from a link, and the session after that.
use Rattle.std.proofs.Common.{◌≡◌, ◌∙◌, inl, inr, ap, sym, refl, ℕ, zero, suc, ◌+◌, ◌-◌}
use Rattle.std.proofs.Common.{◌<◌, ◌≤◌, Bool, true, false, cond, List, [], ◌∷◌, length, drop, arith}
use Rattle.std.proofs.Common.{Some, None}
use Rattle.std.specs.Prelude.{◌&&◌, ◌==◌, min, nat_le, slice_index_or}
use Rattle.ddcmp_io.specs.Queue.{QueueView, after_taken}
use Rattle.ddcmp_station.specs.Linking.{LinkView, after_taking}
use Rattle.ddcmp_window.specs.Store.{first_message}
use Rattle.ddcmp_streams.specs.Options.{takes_at_once}
use Rattle.ddcmp_session.specs.Devices.{HoldsMail, OnlyDelivers}
use Rattle.ddcmp_session.specs.Finishing.{HasRoomIfEmpty, IsDrained}
use Rattle.ddcmp_session.specs.Session.{SessionView, after_output, after_queued, after_takes}
use Rattle.ddcmp_session.specs.Session.{is_written, one_queued, taken_at_once, taken_when_written}
use Rattle.ddcmp_session.specs.Session.{room_for_mail, with_taken}

-- ---- what stays of a link

pub takes-line : (n : ℕ) (d : LinkView) → (after_takes n d).station.line ≡ d.station.line
unfolding after_takes
takes-line zero d = refl
takes-line (suc n) d = takes-line n d

pub takes-out : (n : ℕ) (d : LinkView)
    → (after_takes n d).station.core.station.out ≡ d.station.core.station.out
unfolding after_takes
takes-out zero d = refl
takes-out (suc n) d = takes-out n d

pub takes-outbox : (n : ℕ) (d : LinkView) → (after_takes n d).outbox ≡ d.outbox
unfolding after_takes
takes-outbox zero d = refl
takes-outbox (suc n) d = takes-outbox n d

pub takes-none : (d : LinkView) → after_takes 0 d ≡ d
unfolding after_takes
takes-none d = refl

pub takes-one-more : (n : ℕ) (d : LinkView)
    → after_takes (n + 1) d ≡ after_taking (after_takes n d)
unfolding after_takes
takes-one-more n d = ap (λ k. after_takes k d) more
  where
    more : n + 1 ≡ suc n
    more = omega arith

-- ---- the next message

pub at-front : (messages : List (List ℕ)) (i : ℕ) → i < length messages
    → first_message (drop i messages) ≡ Some (slice_index_or messages i [])
at-front [] i lt = absurd (omega (arith, lt))
at-front (message ∷ rest) zero lt = refl
at-front (message ∷ rest) (suc i) lt = at-front rest i (omega (arith, lt))

pub none-left : (messages : List (List ℕ)) (i : ℕ) → length messages ≤ i
    → first_message (drop i messages) ≡ None
none-left [] zero le = refl
none-left [] (suc i) le = refl
none-left (message ∷ rest) zero le = absurd (omega (arith, le))
none-left (message ∷ rest) (suc i) le = none-left rest i (omega (arith, le))

-- ---- what a call only delivers

only-by : (old new to : SessionView) → new ≡ record old {
  link = to.link;
  output = new.output;
  unwritten = to.unwritten;
} → to.link.station.core.station.out ≡ old.link.station.core.station.out
    → to.link.outbox ≡ old.link.outbox → OnlyDelivers old new
only-by old new to is out outbox =
    let link : new.link ≡ to.link = ap (λ (x : SessionView). x.link) is in
    let left : new.unwritten ≡ to.unwritten = ap (λ (x : SessionView). x.unwritten) is in
    record {
      out = ap (λ (d : LinkView). d.station.core.station.out) link ∙ out;
      outbox = ap (λ (d : LinkView). d.outbox) link ∙ outbox;
      stays =
          is ∙ (λ i. record old {
            link = sym link i;
            output = new.output;
            unwritten = sym left i;
          });
    }

pub only-delivered : (has : Bool) (old new : SessionView)
    → new ≡ record (cond has (after_queued old) old) { output = new.output }
    → OnlyDelivers old new
only-delivered true old new stays =
    only-by old new (after_queued old) stays (takes-out (taken_at_once old) old.link)
    (takes-outbox (taken_at_once old) old.link)
only-delivered false old new stays = only-by old new old stays refl refl

pub only-took : (n : ℕ) (old new : SessionView) → new ≡ after_output n old
    → OnlyDelivers old new
only-took n old new is =
    let output : new.output ≡ (after_output n old).output = ap (λ (x : SessionView). x.output) is in
    only-by old new (after_output n old)
    (is ∙ ap (λ o. record (with_taken (taken_when_written n old) old) { output = o }) (sym output))
    (takes-out (taken_when_written n old) old.link)
    (takes-outbox (taken_when_written n old) old.link)

-- ---- written output

module _ (n : ℕ) (old mid : SessionView) (o : QueueView)
    (is : o ≡ after_taken (min n (length old.output.waiting)) mid.output) where
  abbrev most : ℕ
  most = min n (length old.output.waiting)

  of-all : (b : Bool) → b ≡ true → mid ≡ with_taken old.unwritten old
      → record mid { output = o } ≡ record (with_taken (cond b old.unwritten 0) old) {
        output = after_taken most old.output;
      }
  of-all b e m = λ i. record (m i) {
    link = (ap (λ (s : SessionView). s.link) m ∙ ap (λ (c : Bool).
        after_takes (cond c old.unwritten 0) old.link) (sym e)) i;
    unwritten = (ap (λ (s : SessionView). s.unwritten) m ∙ ap (λ (c : Bool).
        old.unwritten - cond c old.unwritten 0) (sym e)) i;
    output = (is ∙ ap (λ (s : SessionView). after_taken most s.output) m) i;
  }

  pub output-all : length old.output.waiting ≤ n → mid ≡ with_taken old.unwritten old
      → record mid { output = o } ≡ after_output most old
  output-all fits m = of-all (nat_le (length old.output.waiting) most) all m
    where
      all : nat_le (length old.output.waiting) most ≡ true
      all = grind (arith, fits)

  pub output-part : n < length old.output.waiting → mid ≡ old
      → record mid { output = o } ≡ after_output most old
  output-part small m = λ i. record (m i) {
    link =
        (ap (λ (s : SessionView). s.link) m ∙ sym (takes-none old.link)
        ∙ ap (λ (c : Bool). after_takes (cond c old.unwritten 0) old.link) (sym part)) i;
    unwritten =
        (ap (λ (s : SessionView). s.unwritten) m ∙ left
        ∙ ap (λ (c : Bool). old.unwritten - cond c old.unwritten 0) (sym part)) i;
    output = (is ∙ ap (λ (s : SessionView). after_taken most s.output) m) i;
  }
    where
      part : nat_le (length old.output.waiting) most ≡ false
      part = grind (arith, small)

      left : old.unwritten ≡ old.unwritten - 0
      left = omega arith

-- ---- a queued message

pub after-queueing : (takes : Bool) (old mid new : SessionView)
    → takes ≡ takes_at_once old.options → mid ≡ record (one_queued old) { output = mid.output }
    → new ≡ cond takes (with_taken mid.unwritten mid) mid
    → new ≡ record (after_queued old) { output = new.output }
after-queueing takes old mid new by queued is =
    let output : new.output ≡ mid.output = ap (λ (x : SessionView). x.output) is ∙ kept takes in
    is
    ∙ ap (λ (m : SessionView). cond takes (with_taken m.unwritten m) m) queued
    ∙ same takes
    ∙ ap (λ (n : ℕ). record (with_taken n (one_queued old)) { output = mid.output })
    (ap (λ (b : Bool). cond b (old.unwritten + 1) 0) by)
    ∙ ap (λ o. record (after_queued old) { output = o }) (sym output)
  where
    kept : (b : Bool) → (cond b (with_taken mid.unwritten mid) mid).output ≡ mid.output
    kept true = refl
    kept false = refl

    same : (b : Bool)
        → cond b
        (with_taken (old.unwritten + 1) (record (one_queued old) { output = mid.output }))
        (record (one_queued old) { output = mid.output })
        ≡ record (with_taken (cond b (old.unwritten + 1) 0) (one_queued old)) {
          output = mid.output;
        }
    same true = refl
    same false = λ i. record (one_queued old) {
      link = sym (takes-none old.link) i;
      output = mid.output;
      unwritten = none i;
    }
      where
        none : old.unwritten + 1 ≡ old.unwritten + 1 - 0
        none = omega arith

-- ---- an output that was drained

none-counted : (n : ℕ) → n == 0 ≡ true → n ≡ 0
none-counted n e = grind (arith, e)

written-none : (waiting : List ℕ) → length waiting == 0 ≡ true → waiting ≡ []
written-none [] e = refl
written-none (byte ∷ rest) e =
    absurd (let z = none-counted (suc (length rest)) e in omega (arith, z))

both-hold : (a b : Bool) → a && b ≡ true → (a ≡ true) × (b ≡ true)
both-hold true b e = (refl, e)
both-hold false b e = cc

pub written-out : (s : SessionView) → is_written s ≡ true → s.output.waiting ≡ []
written-out s is =
    written-none s.output.waiting
    (both-hold (length s.output.waiting == 0) (s.unwritten == 0) is).0

pub is-drained : (s : SessionView) → is_written s ≡ true → HoldsMail s → HasRoomIfEmpty s
    → IsDrained s
is-drained s is holds room = record {
  waiting = written-out s is;
  mail = λ fits. by holds fits;
}
  where
    left : s.unwritten ≡ 0
    left =
        none-counted s.unwritten
        (both-hold (length s.output.waiting == 0) (s.unwritten == 0) is).1

    by : HoldsMail s → room_for_mail s ≤ s.output.size
        → first_message s.link.station.core.station.inbox ≡ None
    by (inl none) fits =
        ap (λ n. first_message (drop n s.link.station.core.station.inbox)) (sym left) ∙ none
    by (inr small) fits =
        let all = room (written-out s is) in absurd (omega (arith, small, fits, all))
