-- How a session runs over its devices, over one line after the other, and how its run ends.
use Rattle.std.specs.Prelude.{ℕ, ◌≡◌, ◌≤◌, ◌⊎◌, ⊤, Bool, true, false, List, [], ◌∷◌, Option, Some}
use Rattle.std.specs.Prelude.{None}
use Rattle.ddcmp_window.specs.Store.{first_message}
use Rattle.ddcmp_session.specs.Session.{SessionView, is_delivered, room_for_mail}
use Rattle.ddcmp_session.specs.Calls.{SessionCall, SessionHistory, SessionStep, HasClosed, Closed}
use Rattle.ddcmp_session.specs.Calls.{Connected, after_session_step}
use Rattle.ddcmp_session.specs.Connections.{Connection, AreDone, after_all, after_step}
use Rattle.ddcmp_session.specs.Orders.{KeepsOrder}
use Rattle.ddcmp_session.specs.Devices.{Agrees, BuffersView, HasReported}
use Rattle.ddcmp_session.specs.Traffic.{LineLog, Traffic}
use Rattle.ddcmp_session.specs.declared.devices.DeviceFault.{DeviceFault}

-- nothing was received over it yet
abbrev pub none_received : BuffersView → BuffersView
none_received held = record held { received = []; down = None }

-- a call other than `close`
abbrev pub KeepsOpen : SessionCall → Type 0
KeepsOpen (Closed left is_at_end is_reported) = ⊥
KeepsOpen _ = ⊤

abbrev pub AllKeepOpen : List SessionStep → Type 0
AllKeepOpen [] = ⊤
AllKeepOpen (step ∷ rest) = KeepsOpen step.call × AllKeepOpen rest

-- No received message is undelivered, if the output is large enough for one, as that of each new
-- session is.
abbrev pub IsReady : SessionView → Type 0
IsReady s = room_for_mail s ≤ s.output.size
    → first_message s.link.station.core.station.inbox ≡ None

abbrev pub ReadyIf : SessionCall → SessionView → Type 0
ReadyIf Connected s = IsReady s
ReadyIf _ s = ⊤

-- The session is ready before each call that connects it.
abbrev pub AllReady : List SessionStep → Connection → Type 0
AllReady [] c = ⊤
AllReady (step ∷ rest) c =
    ReadyIf step.call c.history.session × AllReady rest (after_step step c)

-- Further calls led the history of a session to this one, over as many lines as it was connected
-- on, without closing it, and it agrees with its devices again. If `Begins` holds, the session was
-- ready for each line.
pub record WentOver (Begins : Type 0) (c : Connection) (left : List ℕ) (log : LineLog)
    (new : SessionView) (held : BuffersView) (t : Traffic) : Type 0 where
  pub steps : List SessionStep
  pub calls : AreDone steps c
  pub only : AllKeepOpen steps
  pub ready : Begins → AllReady steps c
  pub session : (after_all steps c).history.session ≡ new
  pub agrees : Agrees held (after_all steps c).history t
  pub order : KeepsOrder steps c.history.session left log held.received t.log

abbrev pub GoesIf : Type 0 → BuffersView → SessionView → Option Traffic
    → BuffersView → SessionView → Option Traffic → Type 0
GoesIf Begins held old before new_held new after =
    (c : Connection) (t : Traffic) → c.history.session ≡ old → before ≡ Some t
    → Agrees held c.history t
    → (t' : Traffic) × (after ≡ Some t') × WentOver Begins c held.received t.log new new_held t'

-- over its lines; it was ready for each if it is ready for the first
abbrev pub GoesOver : BuffersView → SessionView → Option Traffic
    → BuffersView → SessionView → Option Traffic → Type 0
GoesOver held old before new_held new after =
    GoesIf (IsReady old) held old before new_held new after

-- over the line that there is, or none, ready or not
abbrev pub StaysOver : BuffersView → SessionView → Option Traffic
    → BuffersView → SessionView → Option Traffic → Type 0
StaysOver held old before new_held new after = GoesIf ⊤ held old before new_held new after

-- Some device has reported this fault, over some line.
abbrev pub ReportsOver : BuffersView → SessionView → Option Traffic → Option Traffic → DeviceFault
    → Type 0
ReportsOver held old before after fault = (c : Connection) (t now : Traffic)
    → c.history.session ≡ old → before ≡ Some t → Agrees held c.history t → after ≡ Some now
    → HasReported fault now

-- The session was closed with the input that is held, and agrees with its devices as before.
pub record Closes (held : BuffersView) (old new : SessionView) : Type 0 where
  pub is_reported : Bool
  pub closed : HasClosed held.input held.is_over is_reported old new
  pub agrees : (h : SessionHistory) (t : Traffic) → h.session ≡ old → Agrees held h t
      → Agrees held (after_session_step (record {
        call = Closed held.input held.is_over is_reported;
        session = new;
      }) h) t

-- A run may end well if all is delivered, or if its station ran over some line.
abbrev pub MayEndWell : SessionView → Type 0
MayEndWell s = (is_delivered s ≡ true) ⊎ (s.course.has_run ≡ true)

-- The session or the device has told the end of the input, or it has none that is waited for.
abbrev pub IsReadToEnd : BuffersView → SessionView → Type 0
IsReadToEnd held s =
    (s.is_read ≡ true) ⊎ ((held.is_over ≡ true) ⊎ (s.options.awaits_end ≡ false))

-- A session ran over its lines and was then closed; if it reports that it ended well, it may, and
-- the input was read to its end.
pub record Ends (is_well : Bool) (held : BuffersView) (old : SessionView)
    (before : Option Traffic) (new_held : BuffersView) (new : SessionView)
    (after : Option Traffic) : Type 0 where
  pub unclosed : SessionView
  pub over : GoesOver held old before new_held unclosed after
  pub closes : Closes new_held unclosed new
  pub well : is_well ≡ true → MayEndWell unclosed
  pub read : is_well ≡ true → IsReadToEnd new_held unclosed
