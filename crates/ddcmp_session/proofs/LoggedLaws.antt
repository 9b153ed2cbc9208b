-- What each call of a session puts on standard error.
use Rattle.std.proofs.Common.{◌≡◌, refl, sym, subst, ℕ, ◌+◌, ◌*◌, Bool, true, false, []}
use Rattle.ddcmp_station.specs.Linking.{LinkView}
use Rattle.ddcmp_station.specs.CountersText.{counters_line}
use Rattle.ddcmp_streams.specs.declared.errors.TheConstants.{LAST_ROOM}
use Rattle.ddcmp_session.specs.declared.text.TheConstants.{END_ROOM}
use Rattle.ddcmp_session.specs.EndText.{end_line}
use Rattle.ddcmp_streams.specs.Errors.{ErrorsView, HasLine, HasObject}
use Rattle.ddcmp_session.specs.Reports.{report_members, report_text}
use Rattle.ddcmp_session.specs.Logged.{LoggedSession, HasReport, HasEnd}
use Rattle.ddcmp_streams.proofs.ErrorsLaws.{if-room, if-none}

-- a report was written as an object, or as a line
pub reported-object : (b : Bool) (lost : ℕ) (d : LinkView) (old new : ErrorsView) → b ≡ true
    → HasObject (2 * END_ROOM + LAST_ROOM) (report_members lost d) old new
    → HasReport b lost d old new
reported-object b lost d old new is object =
    subst (λ b. HasReport b lost d old new) (sym is) object

pub reported-line : (b : Bool) (lost : ℕ) (d : LinkView) (old new : ErrorsView) → b ≡ false
    → HasLine (END_ROOM + LAST_ROOM) (report_text lost d) old new
    → HasReport b lost d old new
reported-line b lost d old new is line =
    subst (λ b. HasReport b lost d old new) (sym is) line

-- The last line was written after the counters, or alone.
pub ends-counted : (b : Bool) (old mid there : LoggedSession) (new : ErrorsView) → b ≡ true
    → there ≡ mid → mid.state ≡ old.state
    → HasLine END_ROOM (counters_line [] old.state.link.station.core.counters) old.log.errors
    mid.log.errors
    → HasLine END_ROOM (end_line there.state.link) there.log.errors new
    → HasEnd b old.state.link old.log.errors new
ends-counted b old mid there new is same state counters line = (
  mid.log.errors,
  if-room b _ _ is counters,
  subst (λ s. HasLine END_ROOM (end_line s.link) mid.log.errors new) state
      (subst
      (λ (s : LoggedSession). HasLine END_ROOM (end_line s.state.link) s.log.errors new)
      same line),
)

pub ends-uncounted : (b : Bool) (old there : LoggedSession) (new : ErrorsView) → b ≡ false
    → there ≡ old → HasLine END_ROOM (end_line there.state.link) there.log.errors new
    → HasEnd b old.state.link old.log.errors new
ends-uncounted b old there new is same line = (
  old.log.errors,
  if-none b _ _ is refl,
  subst (λ (s : LoggedSession). HasLine END_ROOM (end_line s.state.link) s.log.errors new)
      same line,
)
