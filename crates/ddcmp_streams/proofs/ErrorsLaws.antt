-- Lines for standard error, piece by piece.
use Rattle.std.proofs.Common.{◌≡◌, ◌∙◌, ap, sym, subst, refl, List, [], ℕ, ◌++◌, ◌≤◌}
use Rattle.std.proofs.Common.{append-nil, append_assoc, Bool, true, false, arith, codes, min}
use Rattle.std.proofs.Common.{◌-◌, ◌^◌}
use Rattle.std.specs.Prelude.{MatchBool, if◌then◌else◌, ◌==◌, ◌&&◌, not, nat_le}
use Rattle.std.proofs.lemmas.Bool.{MatchBool-at_true, MatchBool-at_false, le-leb}
use Rattle.std.proofs.lemmas.Bool.{eqb-true, not-true, and_parts}
use Rattle.ddcmp_io.specs.Written.{HandsOver}
use Rattle.ddcmp_io.specs.Queue.{QueueView}
use Rattle.ddcmp_io.proofs.WrittenLaws.{sends-then}
use Rattle.ddcmp_io.proofs.TextLaws.{sends-as, sends-nothing}
use Rattle.ddcmp_log.specs.Day.{text_at, time_text}
use Rattle.ddcmp_streams.specs.Queued.{queued, paged}
use Rattle.ddcmp_streams.specs.Errors.{ErrorsView, Queues, HasNoted, QueuedAs, LeftOut}
use Rattle.ddcmp_streams.specs.Errors.{settled, ReportsLeftOut, note_text, stamp_text}
use Rattle.ddcmp_streams.specs.Errors.{left_out_text, reports_left_out}
use Rattle.ddcmp_streams.specs.declared.errors.TheConstants.{NOTE}

-- ---- one text after another

pub if-room : (b : Bool) (P Q : Type 0) → b ≡ true → P → MatchBool b P Q
if-room b P Q is p = subst (λ b. MatchBool b P Q) (sym is) p

pub if-none : (b : Bool) (P Q : Type 0) → b ≡ false → Q → MatchBool b P Q
if-none b P Q is q = subst (λ b. MatchBool b P Q) (sym is) q

pub queues-as : {s t : List ℕ} {a b : ErrorsView} → s ≡ t → Queues s a b → Queues t a b
queues-as {s} {t} {a} {b} e p = subst (λ x. Queues x a b) e p

-- a text goes to a queue by way of a new page, which is flushed
pub through-page : (a b c : QueueView) (first now last text : List ℕ) → first ≡ [] → last ≡ []
    → HandsOver (paged a first) (paged b now) text → HandsOver (paged b now) (paged c last) []
    → HandsOver (queued a) (queued c) text
through-page a b c first now last text is_new is_flushed sends flushes =
    subst (λ p. HandsOver (paged a p) (queued c) text) is_new
    (subst (λ p. HandsOver (paged a first) (paged c p) text) is_flushed
    (sends-as (append-nil text) (sends-then sends flushes)))

-- a text was written to the queue of lines
pub queues-into : (inside old : ErrorsView) (q : QueueView) (text : List ℕ) → inside ≡ old
    → HandsOver (queued inside.queue) (queued q) text
    → Queues text old (record inside { queue = q })
queues-into inside old q text is sends =
    subst (λ e. Queues text e (record inside { queue = q })) is
    (record { wrote = sends; stays = refl })

-- by way of a new page
pub queues-by-page : (inside old : ErrorsView) (b c : QueueView) (first now last text : List ℕ)
    → inside ≡ old → first ≡ [] → last ≡ []
    → HandsOver (paged inside.queue first) (paged b now) text
    → HandsOver (paged b now) (paged c last) [] → Queues text old (record inside { queue = c })
queues-by-page inside old b c first now last text is is_new is_flushed sends flushes =
    queues-into inside old c text is
    (through-page inside.queue b c first now last text is_new is_flushed sends flushes)

pub queues-nothing : (e : ErrorsView) → Queues [] e e
queues-nothing e = record { wrote = sends-nothing (queued e.queue); stays = refl }

pub queues-then : {s t : List ℕ} {a b c : ErrorsView} → Queues s a b → Queues t b c
    → Queues (s ++ t) a c
queues-then {s} {t} {a} {b} {c} p q = record {
  wrote = sends-then p.wrote q.wrote;
  stays = q.stays ∙ ap (λ (e : ErrorsView). record e { queue = c.queue }) p.stays;
}

-- ---- the time of day

-- it has a last moment that is less than the last which is counted
pub timed : (moment : ℕ) → time_text (min moment (2 ^ 64 - 1)) ≡ time_text moment
unfolding time_text
timed moment = ap text_at (omega arith)

-- ---- lines that were left out

-- what is written if there are some, and if there are none
noted-as : (e : ErrorsView) (b : Bool) → (e.left_out == 0) ≡ b
    → note_text e
    ≡ (if b then [] else stamp_text [] (codes " ") e.began e.now ++ left_out_text e.left_out)
noted-as e b is =
    ap (λ b. if b then [] else stamp_text [] (codes " ") e.began e.now ++ left_out_text e.left_out)
    is

noted-none : (old new : ErrorsView) → (old.left_out == 0) ≡ true → new ≡ old → HasNoted old new
noted-none old new none is = record {
  wrote =
      subst (λ (n : ErrorsView). HandsOver (queued old.queue) (queued n.queue) (note_text old))
      (sym is) (sends-as (sym (noted-as old true none)) (sends-nothing (queued old.queue)));
  stays =
      is
      ∙ (λ i. record old { left_out = eqb-true old.left_out 0 none i })
      ∙ ap (λ (n : ErrorsView). record old { queue = n.queue; left_out = 0 }) (sym is);
}

noted-by : (b : Bool) (old new : ErrorsView) → (old.left_out == 0) ≡ b → NOTE ≤ old.queue.room
    → MatchBool (not b && nat_le NOTE old.queue.room) (HasNoted old new) (new ≡ old)
    → HasNoted old new
noted-by true old new e room reports = noted-none old new e reports
noted-by false old new e room reports =
    MatchBool-at_true (HasNoted old new) (new ≡ old) (le-leb NOTE old.queue.room room) reports

pub noted-if : (old new : ErrorsView) → NOTE ≤ old.queue.room → ReportsLeftOut old new
    → HasNoted old new
noted-if old new room reports = noted-by (old.left_out == 0) old new refl room reports

pub noted-settled : (old mid new : ErrorsView) → mid ≡ record old { queue = settled old.queue }
    → HasNoted mid new → HasNoted old new
noted-settled old mid new is h =
    let there : HasNoted (record old { queue = settled old.queue }) new =
    subst (λ e. HasNoted e new) is h in
    record { wrote = there.wrote; stays = there.stays }

pub reports-noted : (old mid next new : ErrorsView) → reports_left_out old ≡ true
    → Queues (stamp_text [] (codes " ") old.began old.now) old mid
    → Queues (left_out_text mid.left_out) mid next
    → new ≡ record next { left_out = 0 } → ReportsLeftOut old new
reports-noted old mid next new is first second ends =
    let some : (old.left_out == 0) ≡ false =
    not-true (old.left_out == 0)
    (and_parts (not (old.left_out == 0)) (nat_le NOTE old.queue.room) is).0 in
    let same : mid.left_out ≡ old.left_out = ap (λ (e : ErrorsView). e.left_out) first.stays in
    let both = queues-then first (queues-as (ap left_out_text same) second) in
    if-room (reports_left_out old) _ _ is
    (record {
      wrote =
          subst (λ (n : ErrorsView). HandsOver (queued old.queue) (queued n.queue) (note_text old))
          (sym ends) (sends-as (sym (noted-as old false some)) both.wrote);
      stays =
          ends
          ∙ ap (λ (n : ErrorsView). record n { left_out = 0 }) both.stays
          ∙ ap (λ (n : ErrorsView). record old { queue = n.queue; left_out = 0 }) (sym ends);
    })

-- ---- a line after what is before it

pub begun : (opening before after : List ℕ) (old mid new : ErrorsView) → HasNoted old mid
    → Queues (opening ++ stamp_text before after mid.began mid.now) mid new
    → QueuedAs opening before after [] old new
begun opening before after old mid new h queues =
    let stamp = stamp_text before after old.began old.now in
    record {
      wrote =
          sends-as
          (ap
          (λ (e : ErrorsView). note_text old ++ (opening ++ stamp_text before after e.began e.now))
          h.stays
          ∙ sym (append_assoc (note_text old) opening stamp)
          ∙ sym (append-nil (note_text old ++ opening ++ stamp)))
          (sends-then h.wrote queues.wrote);
      stays = queues.stays ∙ ap (λ (e : ErrorsView). record e { queue = new.queue }) h.stays;
    }

pub queued-then : (opening before after text : List ℕ) (old mid new : ErrorsView)
    → QueuedAs opening before after [] old mid → Queues text mid new
    → QueuedAs opening before after text old new
queued-then opening before after text old mid new line queues = record {
  wrote =
      sends-as
      (ap (λ t. t ++ text)
      (append-nil (note_text old ++ opening ++ stamp_text before after old.began old.now)))
      (sends-then line.wrote queues.wrote);
  stays = queues.stays ∙ ap (λ (e : ErrorsView). record e { queue = new.queue }) line.stays;
}

-- ---- a line or an object, if it has room

-- a text was written once its line was begun
pub line-then : (opening before after text : List ℕ) (b : Bool) (old mid new : ErrorsView)
    → b ≡ true
    → MatchBool b (QueuedAs opening before after [] old mid) (LeftOut old mid)
    → Queues text mid new
    → MatchBool b (QueuedAs opening before after text old new) (LeftOut old new)
line-then opening before after text b old mid new is line queues =
    if-room b _ _ is
    (queued-then opening before after text old mid new
    (MatchBool-at_true (QueuedAs opening before after [] old mid) (LeftOut old mid) is line)
    queues)

-- none was, as the line was left out
pub line-none : (opening before after text : List ℕ) (b : Bool) (old new : ErrorsView)
    → b ≡ false
    → MatchBool b (QueuedAs opening before after [] old new) (LeftOut old new)
    → MatchBool b (QueuedAs opening before after text old new) (LeftOut old new)
line-none opening before after text b old new is line =
    if-none b _ _ is
    (MatchBool-at_false (QueuedAs opening before after [] old new) (LeftOut old new) is line)
