-- Feeding what arrived, part after part.
use Rattle.std.proofs.Common.{◌≡◌, ℕ, ◌+◌, ◌<◌, ◌≤◌, Bool, true, false, List, [], ◌∷◌, ◌++◌, length}
use Rattle.std.proofs.Common.{take, drop, refl, sym, ◌∙◌, ap, subst, arith, append_assoc}
use Rattle.std.proofs.Common.{append-nil, Option, Some, None}
use Rattle.std.specs.Prelude.{option_to_list, min}
use Rattle.std.proofs.Math.Seq.{take-add, drop-length}
use Rattle.std.proofs.lemmas.List.{drop-drop, take-append-drop}
use Rattle.std.proofs.lemmas.List.Sums.{sum_by-append}
use Rattle.ddcmp_core.specs.declared.notice.Notice.{Notice}
use Rattle.ddcmp_core.specs.Core.{CoreView}
use Rattle.ddcmp_core.specs.Counting.{count_plus}
use Rattle.ddcmp_core.specs.declared.state.State.{State}
use Rattle.ddcmp_core.specs.declared.state.State.TheVariants.{Halted, IStart, AStart, Running}
use Rattle.ddcmp_core.specs.declared.state.State.TheVariants.{Maintenance}
use Rattle.ddcmp_core.specs.Table.{Limits, StationState, Frame, Data, Acked, Naked, Rep, Strt}
use Rattle.ddcmp_core.specs.Table.{Stack, Maint, Received, Good, BadHeader, BadData, TooLong}
use Rattle.ddcmp_core.specs.Table.{BadFormat, is_halted, on, on_by, notice_of, notice_by}
use Rattle.ddcmp_core.specs.Table.{halted_notice, acknowledged_by}
use Rattle.ddcmp_frame.specs.Reading.{ReadItem}
use Rattle.ddcmp_proto.specs.Bytes.{received_of, after_item, after_items, notices_of_item}
use Rattle.ddcmp_proto.specs.Bytes.{notices_of_items, items_added, after_piece, notices_of_piece}
use Rattle.ddcmp_proto.proofs.FeedLaws.{after_piece-append, notices_of_piece-append}
use Rattle.ddcmp_proto.proofs.FeedLaws.{after_piece-none, notices_of_piece-none}
use Rattle.ddcmp_pair.specs.declared.side.receiver.NoticeTally.{NoticeTally}
use Rattle.ddcmp_pair.specs.Run.{acknowledged_in, restarts_by, restarts_in}

-- what is to be done from `at` on is what was to be done from `from` on
pub record LeftToFeed (arrived : List ℕ) (from : ℕ) (k0 : CoreView) (h0 : NoticeTally) (at : ℕ)
    (k : CoreView) (h : NoticeTally) : Type 0 where
  pub state : after_piece (take at arrived) (drop at arrived) k
      ≡ after_piece (take from arrived) (drop from arrived) k0
  pub notices : h.notices.items ++ notices_of_piece (take at arrived) (drop at arrived) k
      ≡ h0.notices.items ++ notices_of_piece (take from arrived) (drop from arrived) k0
  pub acknowledged : h.acknowledged
      + acknowledged_in (notices_of_piece (take at arrived) (drop at arrived) k)
      ≡ h0.acknowledged
      + acknowledged_in (notices_of_piece (take from arrived) (drop from arrived) k0)
  pub starts : count_plus h.starts
      (restarts_in (notices_of_piece (take at arrived) (drop at arrived) k))
      ≡ count_plus h0.starts
      (restarts_in (notices_of_piece (take from arrived) (drop from arrived) k0))

-- ---- one part more

count-more : (s a b : ℕ) → count_plus (count_plus s a) b ≡ count_plus s (a + b)
count-more s a b = omega arith

rest-state : (arrived : List ℕ) (at u : ℕ) (k l : CoreView)
    → l ≡ after_piece (take at arrived) (take u (drop at arrived)) k
    → after_piece (take (at + u) arrived) (drop (at + u) arrived) l
    ≡ after_piece (take at arrived) (drop at arrived) k
rest-state arrived at u k l e =
    let t = take at arrived in
    let d = drop at arrived in
    rw (e, take-add at u arrived, ← drop-drop u at arrived)
    (sym (after_piece-append t (take u d) (drop u d) k)
    ∙ ap (λ p. after_piece t p k) (take-append-drop u d))

rest-notices : (arrived : List ℕ) (at u : ℕ) (k l : CoreView)
    → l ≡ after_piece (take at arrived) (take u (drop at arrived)) k
    → notices_of_piece (take at arrived) (take u (drop at arrived)) k
    ++ notices_of_piece (take (at + u) arrived) (drop (at + u) arrived) l
    ≡ notices_of_piece (take at arrived) (drop at arrived) k
rest-notices arrived at u k l e =
    let t = take at arrived in
    let d = drop at arrived in
    rw (e, take-add at u arrived, ← drop-drop u at arrived)
    (sym (notices_of_piece-append t (take u d) (drop u d) k)
    ∙ ap (λ p. notices_of_piece t p k) (take-append-drop u d))

pub left-more : (arrived : List ℕ) (from : ℕ) (k0 : CoreView) (h0 : NoticeTally) (at u : ℕ)
    (k l : CoreView) (h i : NoticeTally)
    (given : List Notice) → LeftToFeed arrived from k0 h0 at k h
    → l ≡ after_piece (take at arrived) (take u (drop at arrived)) k
    → notices_of_piece (take at arrived) (take u (drop at arrived)) k ≡ given
    → i.notices.items ≡ h.notices.items ++ given
    → i.acknowledged ≡ h.acknowledged + acknowledged_in given
    → i.starts ≡ count_plus h.starts (restarts_in given)
    → LeftToFeed arrived from k0 h0 (at + u) l i
left-more arrived from k0 h0 at u k l h i given left state told notices acknowledged starts =
    let rest = notices_of_piece (take (at + u) arrived) (drop (at + u) arrived) l in
    let all : given ++ rest ≡ notices_of_piece (take at arrived) (drop at arrived) k =
    ap (λ t. t ++ rest) (sym told) ∙ rest-notices arrived at u k l state in
    record {
      state = rest-state arrived at u k l state ∙ left.state;
      notices = ap (λ t. t ++ rest) notices ∙ append_assoc h.notices.items given rest
          ∙ ap (λ t. h.notices.items ++ t) all ∙ left.notices;
      acknowledged =
          let sum = sum_by-append (λ n. acknowledged_by (Some n)) given rest in
          let whole = ap acknowledged_in all in
          omega (arith, acknowledged, sum, whole, left.acknowledged);
      starts =
          ap (λ s. count_plus s (restarts_in rest)) starts
          ∙ count-more h.starts (restarts_in given) (restarts_in rest)
          ∙ ap (count_plus h.starts)
          (sym (sum_by-append restarts_by given rest) ∙ ap restarts_in all) ∙ left.starts;
    }

-- ---- all is fed

pub record AllFed (arrived : List ℕ) (from : ℕ) (k0 : CoreView) (h0 : NoticeTally) (k : CoreView)
    (h : NoticeTally) : Type 0 where
  pub state : k ≡ after_piece (take from arrived) (drop from arrived) k0
  pub notices : h.notices.items
      ≡ h0.notices.items ++ notices_of_piece (take from arrived) (drop from arrived) k0
  pub acknowledged : h.acknowledged
      ≡ h0.acknowledged
      + acknowledged_in (notices_of_piece (take from arrived) (drop from arrived) k0)
  pub starts : min h.starts 4294967295
      ≡ count_plus h0.starts
      (restarts_in (notices_of_piece (take from arrived) (drop from arrived) k0))

pub left-none : (arrived : List ℕ) (from : ℕ) (k0 : CoreView) (h0 : NoticeTally) (at : ℕ)
    (k : CoreView) (h : NoticeTally)
    → LeftToFeed arrived from k0 h0 at k h → at ≡ length arrived → AllFed arrived from k0 h0 k h
left-none arrived from k0 h0 at k h left e =
    let d : drop at arrived ≡ [] = ap (λ n. drop n arrived) e ∙ drop-length arrived in
    let none : notices_of_piece (take at arrived) (drop at arrived) k ≡ [] =
    ap (λ p. notices_of_piece (take at arrived) p k) d
    ∙ notices_of_piece-none (take at arrived) k in
    record {
      state =
          sym (ap (λ p. after_piece (take at arrived) p k) d ∙ after_piece-none (take at arrived) k)
          ∙ left.state;
      notices =
          sym (ap (λ t. h.notices.items ++ t) none ∙ append-nil h.notices.items) ∙ left.notices;
      acknowledged = (let z = ap acknowledged_in none in omega (arith, z, left.acknowledged));
      starts =
          (let z = ap restarts_in none in
          ap (λ n. min n 4294967295) (omega (arith, z)) ∙ left.starts);
    }

-- ---- a halted station

on-halted : (l : Limits) (s : StationState) (h : Received) → is_halted s.state ≡ true → on l s h ≡ s
unfolding on
on-halted l s h e = by s.state refl e
  where
    by : (p : State) → s.state ≡ p → is_halted p ≡ true → on_by p l s h ≡ s
    by Halted q e = refl
    by IStart q e = absurd (cc)
    by AStart q e = absurd (cc)
    by Running q e = absurd (cc)
    by Maintenance q e = absurd (cc)

frame-quiet : (f : Frame) → acknowledged_by (halted_notice (Good f)) ≡ 0
frame-quiet (Data resp num message) = refl
frame-quiet (Acked resp) = refl
frame-quiet (Naked why resp) = refl
frame-quiet (Rep num) = refl
frame-quiet Strt = refl
frame-quiet Stack = refl
frame-quiet (Maint message) = refl

quiet : (h : Received) → acknowledged_by (halted_notice h) ≡ 0
quiet (Good f) = frame-quiet f
quiet BadHeader = refl
quiet (BadData of_data) = refl
quiet (TooLong of_data) = refl
quiet BadFormat = refl

notice-halted : (l : Limits) (s : StationState) (h : Received) → is_halted s.state ≡ true
    → acknowledged_by (notice_of l s h) ≡ 0
unfolding notice_of
notice-halted l s h e = by s.state refl e
  where
    by : (p : State) → s.state ≡ p → is_halted p ≡ true → acknowledged_by (notice_by p l s h) ≡ 0
    by Halted q e = quiet h
    by IStart q e = absurd (cc)
    by AStart q e = absurd (cc)
    by Running q e = absurd (cc)
    by Maintenance q e = absurd (cc)

of-option : (n : Option Notice) → acknowledged_in (option_to_list n) ≡ acknowledged_by n
of-option None = refl
of-option (Some n) = omega arith

item-halted : (given : ReadItem) (k : CoreView) → is_halted k.station.state ≡ true
    → is_halted (after_item given k).station.state ≡ true
item-halted given k e =
    subst (λ s. is_halted s.state ≡ true) (sym (on-halted k.limits k.station (received_of given) e))
    e

items-halted : (x : List ReadItem) (k : CoreView) → is_halted k.station.state ≡ true
    → (is_halted (after_items x k).station.state ≡ true)
    × (acknowledged_in (notices_of_items x k) ≡ 0)
unfolding after_items notices_of_items
items-halted [] k e = (e, refl)
items-halted (given ∷ x) k e =
    let rest = items-halted x (after_item given k) (item-halted given k e) in
    let sum =
    sum_by-append (λ n. acknowledged_by (Some n)) (notices_of_item given k)
    (notices_of_items x (after_item given k)) in
    let first =
    of-option (notice_of k.limits k.station (received_of given))
    ∙ notice-halted k.limits k.station (received_of given) e in
    (rest.0, omega (arith, sum, first, rest.1))

pub halted-stays : (text piece : List ℕ) (k l : CoreView) → is_halted k.station.state ≡ true
    → l ≡ after_piece text piece k → is_halted l.station.state ≡ true
halted-stays text piece k l e a =
    subst (λ x. is_halted x.station.state ≡ true) (sym a)
    ((items-halted (items_added k.limits.longest text piece) k e).0)

pub halted-tells : (text piece : List ℕ) (k : CoreView) (n : Notice)
    → is_halted k.station.state ≡ true
    → notices_of_piece text piece k ≡ n ∷ [] → acknowledged_by (Some n) ≡ 0
halted-tells text piece k n e a =
    let all = (items-halted (items_added k.limits.longest text piece) k e).1 in
    let one = ap acknowledged_in a in
    omega (arith, all, one)

-- what is reported acknowledged is no more than the number that is kept
pub told-small : (halted : Bool) (ack0 out0 ack out told left : ℕ) → (halted ≡ true → told ≡ 0)
    → (halted ≡ false → ack0 + out0 < 18446744073709551616) → ack + out ≤ ack0 + out0
    → told + left ≤ out
    → 0 < told → ack + told < 18446744073709551616
told-small true ack0 out0 ack out told left none small leaves fed some =
    (let z = none refl in absurd (omega (arith, z, some)))
told-small false ack0 out0 ack out told left none small leaves fed some =
    (let z = small refl in omega (arith, z, leaves, fed))

-- ---- what holds of an end after an arrival

pub told-after : (halted : Bool) (ack out given more left : ℕ) → ack ≤ given
    → (halted ≡ false → ack + out ≤ given)
    → more + left ≤ ack + out → (halted ≡ true → more ≡ ack) → more ≤ given
told-after true ack out given more left told kept leaves same =
    (let z = same refl in omega (arith, z))
told-after false ack out given more left told kept leaves same =
    (let z = kept refl in omega (arith, z))

pub kept-after : (halted after : Bool) (ack out given more left : ℕ)
    → (halted ≡ false → ack + out ≤ given)
    → more + left ≤ ack + out → (halted ≡ true → after ≡ true) → after ≡ false → more + left ≤ given
kept-after true after ack out given more left kept leaves stays runs =
    absurd (let z = sym (stays refl) ∙ runs in cc)
kept-after false after ack out given more left kept leaves stays runs =
    (let z = kept refl in omega (arith, z))
