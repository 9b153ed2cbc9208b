-- How a run is shown, and what a script begins with.
use Rattle.std.proofs.Common.{◌≡◌, ◌⊎◌, ◌∙◌, sym, ap, subst, ℕ, Bool, true, false, List, Option}
use Rattle.std.proofs.Common.{Some, None, Result, Ok, inl, inr, is_some}
use Rattle.std.specs.Borrow.{Bor}
use Rattle.std.specs.Io.KnownBytes.{Keeps}
use Rattle.ddcmp_io.specs.declared.carrier.End.TheVariants.{A, B}
use Rattle.ddcmp_pair.specs.declared.event.Event.TheVariants as event
use Rattle.ddcmp_pair.specs.Run.{PairState, after_event, run}
use Rattle.ddcmp_pair.specs.Settle.{settled}
use Rattle.ddcmp_io.specs.Carriages.{Carriage}
use Rattle.ddcmp_io.specs.Written.{Known}
use Rattle.ddcmp_line.specs.ScriptEnds.{around, Plays}
use Rattle.ddcmp_line.specs.declared.script_fault.ScriptFault.{ScriptFault}
use Rattle.ddcmp_picture.specs.declared.canvas.Picture.{Picture}
use Rattle.ddcmp_args.specs.declared.view.ScriptView.{ScriptView}
use Rattle.ddcmp_commands.specs.declared.fault.Fault.TheVariants.{Memory}
use Rattle.ddcmp_commands.specs.declared.ending.Ending.{Ending}
use Rattle.ddcmp_commands.specs.declared.ending.Ending.TheVariants.{Fault as Faulted}
use Rattle.ddcmp_commands.specs.Endings.{IsUnopened, ReadsFile, Streams}
use Rattle.ddcmp_cli.specs.Scripts.{Picks, ShowsBy, ShowsFrom, begun}

-- what a carrier that reports nothing did is known of none
pub untold : (counted : Bool) (input : List ℕ) (before p q : PairState) (is_direct : Bool)
    (t u : Option (List Carriage)) (Wrote WrotePart : List ℕ → Type 0)
    (r : Result (Unit {0}) ScriptFault)
    → before ≡ p → t ≡ None → u ≡ None
    → Plays counted input (around before q is_direct t u) Wrote WrotePart r
    → Plays counted input (around p q is_direct None None) Wrote WrotePart r
untold counted input before p q is_direct t u Wrote WrotePart r e n m h =
    subst (λ b. Plays counted input (around b q is_direct None None) Wrote WrotePart r) e
    (subst (λ x. Plays counted input (around before q is_direct x None) Wrote WrotePart r) n
    (subst (λ y. Plays counted input (around before q is_direct t y) Wrote WrotePart r) m h))

-- the picture of a view is the one that is shown
picked : (svg ladder is_drawn : Bool) (Refused : Type 0) (Runs : Bool → Type 0)
    → ShowsBy svg ladder ⊥ (λ drawn. is_drawn ≡ drawn) → Runs is_drawn
    → ShowsBy svg ladder Refused Runs
picked true true is_drawn Refused Runs h runs = absurd h
picked true false is_drawn Refused Runs h runs = subst Runs h runs
picked false true is_drawn Refused Runs h runs = subst Runs h runs
picked false false is_drawn Refused Runs h runs = subst Runs h runs

-- A run is shown by the picture of its view, if its script is in a file.
pub shown_of_file : (held : List ℕ → Known) (file : Option (Bor (List ℕ))) (name : Bor (List ℕ))
    (view : ScriptView) (picture : Option Picture) (Runs : Bool → Streams → Ending → Type 0)
    (s : Streams) (ending : Ending) → file ≡ Some name → Picks view (Ok picture)
    → s.left ≡ Some s.input
    → ReadsFile name.now (held name.now) (Runs (is_some picture)) s.before s.after ending
    → ShowsFrom held file view Runs s ending
shown_of_file held file name view picture Runs s ending is picks left reads =
    subst (λ f. ShowsFrom held f view Runs s ending) (sym is) (
      left,
      picked view.svg view.ladder (is_some picture) _
          (λ drawn. ReadsFile name.now (held name.now) (Runs drawn) s.before s.after ending) picks
          reads,
    )

-- the file couldn't be opened
pub not_opened : (name : List ℕ) (held before after : Known)
    (Reading : Streams → Ending → Type 0) (ending : Ending)
    → IsUnopened name ending ⊎ (ending ≡ Faulted Memory) → Keeps before after
    → ReadsFile name held Reading before after ending
not_opened name held before after Reading ending (inl unopened) kept = inl (unopened, kept)
not_opened name held before after Reading ending (inr memory) kept = inr (inl (memory, kept))

-- both ends were started, and then all was exchanged
pub begins : (p q r s : PairState) → q ≡ after_event (event.Start A) p
    → r ≡ after_event (event.Start B) q → s ≡ settled r → s ≡ begun p
unfolding run
begins p q r s e f g = g ∙ ap settled (f ∙ ap (after_event (event.Start B)) e)
