-- Why a run over lines stops; the session is that after its lines ended and before it is closed.
use Rattle.std.specs.Prelude.{◌≡◌, ◌≢◌, ◌⊎◌, ℕ, true, false, [], Option, Some, Result, Ok, Err}
use Rattle.ddcmp_session.specs.declared.buffers.lines.Stop.TheVariants.{the_data, Device, Left}
use Rattle.ddcmp_session.specs.declared.buffers.lines.Stop.TheVariants.{Lost, NotOpened, Unread}
use Rattle.ddcmp_session.specs.declared.line_end.LineEnd.{LineEnd}
use Rattle.ddcmp_session.specs.declared.line_end.LineEnd.TheVariants.{Down, GivenUp, Halted}
use Rattle.ddcmp_session.specs.declared.line_end.LineEnd.TheVariants.{Restarted}
use Rattle.ddcmp_session.specs.declared.devices.DeviceFault.TheVariants as fault
use Rattle.ddcmp_session.specs.declared.session.EndReason.TheVariants as end_of
use Rattle.ddcmp_session.specs.Devices.{BuffersView}
use Rattle.ddcmp_session.specs.Traffic.{Traffic}
use Rattle.ddcmp_session.specs.Lines.{ReportsOver}
use Rattle.ddcmp_session.specs.Session.{SessionView, after_connected, starts}
use Rattle.ddcmp_session.specs.Timing.{end, reopens}

-- The session was connected while received messages were undelivered, and so didn't start.
pub record HasNotStarted (s : SessionView) : Type 0 where
  pub before : SessionView
  pub refused : starts before ≡ false
  pub connected : s ≡ after_connected s.link.station.line before

-- The line is reported as down, or a command halts the link, or the link restarts, or there were
-- too many tries.
abbrev pub LeavesLine : LineEnd → BuffersView → SessionView → Option Traffic → SessionView
    → Option Traffic → Type 0
LeavesLine (Down why) held old before s after = ReportsOver held old before after (fault.Line why)
LeavesLine Halted held old before s after =
    (end s ≡ Some end_of.Restarted) × (s.course.halted ≡ true)
LeavesLine Restarted held old before s after =
    (end s ≡ Some end_of.Restarted) × (s.course.halted ≡ false)
LeavesLine GivenUp held old before s after = end s ≡ Some end_of.GivenUp

-- the line was left for such a reason and isn't opened again, or the session didn't start
abbrev pub IsLeft : BuffersView → SessionView → Option Traffic → SessionView → Option Traffic
    → Type 0
IsLeft held old before s after =
    HasNotStarted s
    ⊎ ((how : LineEnd) × (reopens s ≡ false) × LeavesLine how held old before s after)

-- The time of the run is over, or an output with queued bytes timed out.
abbrev pub IsTimeOver : SessionView → Type 0
IsTimeOver s = (end s ≡ Some end_of.Time) ⊎ (s.output.waiting ≢ [])

-- all is delivered or lost with a line that has ended, or the line was left, or a time limit was
-- reached
abbrev pub MayStop : BuffersView → SessionView → Option Traffic → SessionView → Option Traffic
    → Type 0
MayStop held old before s after =
    (end s ≡ Some end_of.Done)
    ⊎ (IsLeft held old before s after ⊎ IsTimeOver s)

-- if a line couldn't be opened
abbrev pub IfNotOpened : {A R : Type 0} → Result A (the_data R) → Type 0 → Type 0
IfNotOpened {A} {R} result Then = (refusal : R) → result ≡ Err (NotOpened refusal) → Then

-- The run returned this result for a reason that explains it.
pub record Stops {R : Type 0} (result : Result (Unit {0}) (the_data R)) (held : BuffersView)
    (old : SessionView) (before : Option Traffic) (s : SessionView) (after : Option Traffic)
    : Type 0 where
  pub well : result ≡ Ok tt → MayStop held old before s after
  pub lost : (count : ℕ) → result ≡ Err (Lost count) → MayStop held old before s after
  pub left : result ≡ Err Left → IsLeft held old before s after
  pub unread : result ≡ Err Unread
      → IsLeft held old before s after ⊎ IsTimeOver s
  pub shut : IfNotOpened result (s.options.again ≡ false)
  pub time : result ≡ Err (Device fault.Time) → IsTimeOver s

-- The same for a run to its end; but it may also time out if the output took nothing after its
-- lines had ended for such a reason.
pub record StopsToEnd {R : Type 0} (result : Result (Unit {0}) (the_data R)) (held : BuffersView)
    (old : SessionView) (before : Option Traffic) (s : SessionView) (after : Option Traffic)
    : Type 0 where
  pub well : result ≡ Ok tt → MayStop held old before s after
  pub lost : (count : ℕ) → result ≡ Err (Lost count) → MayStop held old before s after
  pub left : result ≡ Err Left → IsLeft held old before s after
  pub unread : result ≡ Err Unread
      → IsLeft held old before s after ⊎ IsTimeOver s
  pub shut : IfNotOpened result (s.options.again ≡ false)
  pub time : result ≡ Err (Device fault.Time) → MayStop held old before s after

-- The lines ended well, or the line was left, or a time limit was reached: the run may still end
-- well.
abbrev pub MayBeWell : {R : Type 0} → Result (Unit {0}) (the_data R) → Type 0
MayBeWell ran = (ran ≡ Ok tt) ⊎ ((ran ≡ Err Left) ⊎ (ran ≡ Err (Device fault.Time)))

-- How the result of a whole run follows from how its lines ended.
pub record Judges {R : Type 0} (ran result : Result (Unit {0}) (the_data R)) : Type 0 where
  pub well : result ≡ Ok tt → MayBeWell ran
  pub lost : (count : ℕ) → result ≡ Err (Lost count) → MayBeWell ran
  pub left : result ≡ Err Left → ran ≡ Err Left
  pub unread : result ≡ Err Unread → (ran ≡ Err Left) ⊎ (ran ≡ Err (Device fault.Time))
  pub shut : IfNotOpened result (ran ≡ result)
  pub time : result ≡ Err (Device fault.Time) → ran ≡ Err (Device fault.Time)
