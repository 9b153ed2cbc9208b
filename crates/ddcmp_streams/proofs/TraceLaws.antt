-- The lines of a trace, in each notation.
use Rattle.std.proofs.Common.{◌≡◌, ◌∙◌, ◌+◌, ◌*◌, ℕ, true, false, List, [], ◌∷◌, ◌++◌, length}
use Rattle.std.proofs.Common.{Option, Some, None, refl, ap, sym, subst}
use Rattle.ddcmp_log.specs.declared.notation.LogNotation.{LogNotation}
use Rattle.ddcmp_log.specs.declared.notation.LogNotation.TheVariants.{Plain, Json, Ladder}
use Rattle.ddcmp_streams.specs.Errors.{ErrorsView, Queues, has_room}
use Rattle.ddcmp_streams.specs.Trace.{HasLines, HasTraced, TraceView, WayReaderView}
use Rattle.ddcmp_streams.specs.Trace.{after_begun, capped, completed_lines, item_line, room_beside}
use Rattle.ddcmp_streams.specs.Trace.{skipped_lines, with_heard}
use Rattle.ddcmp_streams.specs.declared.skipped.Completed.{Completed}
use Rattle.ddcmp_streams.specs.declared.trace.TheConstants.{NOTE}
use Rattle.ddcmp_streams.specs.declared.trace.Way.{Way}
use Rattle.ddcmp_streams.specs.declared.trace.Way.TheVariants.{ToLine, FromLine}
use Rattle.ddcmp_streams.proofs.ErrorsLaws.{line-none, line-then}

-- a text was written once its line was begun
pub traced-then : (notation : LogNotation) (needed : ℕ) (text : List ℕ) (old mid new : ErrorsView)
    → has_room needed old ≡ true → HasTraced notation needed [] old mid → Queues text mid new
    → HasTraced notation needed text old new
traced-then Plain needed text old mid new is line queues =
    line-then _ _ _ text (has_room needed old) old mid new is line queues
traced-then Json needed text old mid new is line queues =
    line-then _ _ _ text (has_room needed old) old mid new is line queues
traced-then Ladder needed text old mid new is line queues =
    line-then _ _ _ text (has_room needed old) old mid new is line queues

-- none was, as the line was left out
pub traced-none : (notation : LogNotation) (needed : ℕ) (text : List ℕ) (old new : ErrorsView)
    → has_room needed old ≡ false → HasTraced notation needed [] old new
    → HasTraced notation needed text old new
traced-none Plain needed text old new is line =
    line-none _ _ _ text (has_room needed old) old new is line
traced-none Json needed text old new is line =
    line-none _ _ _ text (has_room needed old) old new is line
traced-none Ladder needed text old new is line =
    line-none _ _ _ text (has_room needed old) old new is line

-- one more line after others
pub lines-then : (notation : LogNotation) (spared : ℕ) (lines : List (ℕ × List ℕ))
    (last : ℕ × List ℕ) (a b c : ErrorsView) → HasLines notation spared lines a b
    → HasTraced notation (room_beside spared last.0) (after_begun notation last.1) b c
    → HasLines notation spared (lines ++ last ∷ []) a c
lines-then notation spared [] last a b c none line = (
  c,
  subst
      (λ e. HasTraced notation (room_beside spared last.0) (after_begun notation last.1) e c) none
      line,
  refl,
)
lines-then notation spared (one ∷ rest) last a b c lines line =
    (lines.0, lines.1, lines-then notation spared rest last lines.0 b c lines.2 line)

-- how the lines of a trace are written
abbrev pub form_of : TraceView → LogNotation × ℕ × ℕ
form_of t = (t.notation, t.spared, t.now)

-- a byte in one direction doesn't change that
heard-form : (way : Way) (heard : WayReaderView) (t : TraceView)
    → form_of (with_heard way heard t) ≡ form_of t
heard-form ToLine heard t = refl
heard-form FromLine heard t = refl

pub same-form : (way : Way) (heard : WayReaderView) (inside new old : TraceView) → inside ≡ new
    → new ≡ with_heard way heard old → form_of inside ≡ form_of old
same-form way heard inside new old is stays =
    ap form_of is ∙ ap form_of stays ∙ heard-form way heard old

-- the lines of what a byte completed
pub completed-none : (t : TraceView) (way : Way) (given : Option Completed) (lent : List ℕ)
    (a b : ErrorsView) → given ≡ None → b ≡ a
    → HasLines t.notation t.spared (completed_lines t.notation t.now way given lent) a b
completed-none t way given lent a b none is =
    subst (λ g. HasLines t.notation t.spared (completed_lines t.notation t.now way g lent) a b)
    (sym none) is

pub completed-some : (t : TraceView) (form : LogNotation × ℕ × ℕ) (way : Way)
    (given : Option Completed) (it : Completed) (sent lent : List ℕ) (a b c : ErrorsView)
    → form ≡ form_of t → given ≡ Some it → sent ≡ lent
    → HasLines form.0 form.1 (skipped_lines form.0 form.2 way it.discarded) a b
    → HasTraced form.0 (room_beside form.1 (capped (2 * length sent + NOTE)))
    (after_begun form.0 (item_line form.0 form.2 way (it.item, sent))) b c
    → HasLines t.notation t.spared (completed_lines t.notation t.now way given lent) a c
completed-some t form way given it sent lent a b c is some same lines line =
    subst
    (λ (f : LogNotation × ℕ × ℕ). HasLines f.0 f.1 (completed_lines f.0 f.2 way given lent) a c) is
    (subst (λ g. HasLines form.0 form.1 (completed_lines form.0 form.2 way g lent) a c) (sym some)
    (subst (λ d. HasLines form.0 form.1 (completed_lines form.0 form.2 way (Some it) d) a c) same
    (lines-then form.0 form.1 _ _ a b c lines line)))
