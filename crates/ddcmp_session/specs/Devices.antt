-- The devices of a session, the bytes that were read from them and written to them, and how a
-- session proceeds over them.
use Rattle.std.specs.Prelude.{◌≡◌, ℕ, ◌<◌, ◌⊎◌, Bool, true, false, if◌then◌else◌, List, []}
use Rattle.std.specs.Prelude.{◌++◌, Option, Some, None, ⊤, ◌∷◌}
use Rattle.ddcmp_frame.specs.Reader.{StandsFor}
use Rattle.ddcmp_io.specs.declared.transfer.Down.{Down}
use Rattle.ddcmp_session.specs.declared.devices.DeviceFault.{DeviceFault}
use Rattle.ddcmp_session.specs.declared.devices.DeviceFault.TheVariants.{Line}
use Rattle.ddcmp_session.specs.Traffic.{LineLog, Traffic, received, sent}
use Rattle.ddcmp_session.specs.Orders.{KeepsOrder}
use Rattle.ddcmp_session.specs.Session.{SessionView, form_of, IsFilled, wants_input, wants_line}
use Rattle.ddcmp_session.specs.Session.{next_mail, room_for_mail, takes_end}
use Rattle.ddcmp_session.specs.Calls.{SessionCall, Connected, TimePassed, LineEnded, Closed}
use Rattle.ddcmp_session.specs.Calls.{SessionHistory, SessionStep, IsSessionHistory}
use Rattle.ddcmp_session.specs.Calls.{after_session_steps, end_in}

abbrev pub HasReported : DeviceFault → Traffic → Type 0
HasReported fault t = (before after : List DeviceFault) × (t.faults ≡ before ++ fault ∷ after)

-- Every fault that was reported before is still reported afterwards.
abbrev pub KeepsFaults : Option Traffic → Option Traffic → Type 0
KeepsFaults old new = (before : Traffic) → old ≡ Some before
    → (after : Traffic) × (new ≡ Some after)
    × ((fault : DeviceFault) → HasReported fault before → HasReported fault after)

-- ---- a session over its devices

-- bytes read from the input or received from the line that the session hasn't used yet; whether the
-- input has ended; and why nothing more is written to the line, if it is down
pub record BuffersView : Type 0 where
  pub input : List ℕ
  pub received : List ℕ
  pub is_over : Bool
  pub down : Option Down

abbrev pub nothing_read : BuffersView
nothing_read = record { input = []; received = []; is_over = false; down = None }

-- the end of its last line, if the session was told that the input has ended
abbrev pub end_of : SessionHistory → List ℕ
end_of h = if h.is_told then end_in (form_of h.session.messages) else []

-- The bytes read from the input and from the line are those that the session used, and then those
-- that are held. The bytes written to the line and to the output are those that the session passed
-- to them. If the session was told that its input has ended, a read has returned that end, and no
-- byte of the input is held.
pub record Agrees (held : BuffersView) (h : SessionHistory) (t : Traffic) : Type 0 where
  pub read : t.read ++ end_of h ≡ h.input ++ held.input
  pub over : held.is_over ≡ t.is_over
  pub told : h.is_told ≡ true → held.is_over ≡ true
  pub drained : h.is_told ≡ true → held.input ≡ []
  pub ended : h.is_told ≡ true → h.session.is_read ≡ true
  pub came : received t.log.acts ≡ h.used ++ held.received
  pub gone : sent t.log.acts ≡ h.gone
  pub written : t.written ≡ h.written
  pub down : (why : Down) → held.down ≡ Some why → HasReported (Line why) t
  pub stands : StandsFor h.session.link.station.line h.used

-- a call of a session other than those that connect it, end its line or close it, or that are made
-- while there is no line
abbrev pub IsOfRun : SessionCall → Type 0
IsOfRun Connected = ⊥
IsOfRun TimePassed = ⊥
IsOfRun (LineEnded how is_reported) = ⊥
IsOfRun (Closed left is_at_end is_reported) = ⊥
IsOfRun _ = ⊤

abbrev pub AreOfRun : List SessionStep → Type 0
AreOfRun [] = ⊤
AreOfRun (step ∷ rest) = IsOfRun step.call × AreOfRun rest

-- Further calls led the history to this session, and it agrees with its devices again, in the order
-- of what was done, too.
pub record WentOn (h : SessionHistory) (left : List ℕ) (log : LineLog) (new : SessionView)
    (held : BuffersView) (t : Traffic) : Type 0 where
  pub steps : List SessionStep
  pub calls : IsSessionHistory steps h
  pub only : AreOfRun steps
  pub session : (after_session_steps steps h).session ≡ new
  pub agrees : Agrees held (after_session_steps steps h) t
  pub order : KeepsOrder steps h.session left log held.received t.log

-- A session with its buffers and devices, before and after a call: any history that agreed with the
-- devices before is continued by calls of the session alone, and agrees with them again.
abbrev pub GoesOn : BuffersView → SessionView → Option Traffic
    → BuffersView → SessionView → Option Traffic → Type 0
GoesOn held old before new_held new after =
    (h : SessionHistory) (t : Traffic) → h.session ≡ old → before ≡ Some t → Agrees held h t
    → (t' : Traffic) × (after ≡ Some t') × WentOn h held.received t.log new new_held t'

-- If session and devices agreed before, some device has reported this fault, in this call or
-- earlier.
abbrev pub Reports : BuffersView → SessionView → Option Traffic → Option Traffic → DeviceFault
    → Type 0
Reports held old before after fault = (h : SessionHistory) (t now : Traffic)
    → h.session ≡ old → before ≡ Some t → Agrees held h t → after ≡ Some now
    → HasReported fault now

-- ---- how it proceeds

-- Received messages were delivered and output was written, and nothing else.
pub record OnlyDelivers (old new : SessionView) : Type 0 where
  pub out : new.link.station.core.station.out ≡ old.link.station.core.station.out
  pub outbox : new.link.outbox ≡ old.link.outbox
  pub stays : new
      ≡ record old { link = new.link; output = new.output; unwritten = new.unwritten }

-- the text of each received message is queued, or the output has no room for one of any length
abbrev pub HoldsMail : SessionView → Type 0
HoldsMail s = (next_mail s ≡ None) ⊎ (s.output.room < room_for_mail s)

-- Nothing is left to do without a device: the line has frames queued, or there are none to send;
-- what was read from the input, or its end, waits until the station accepts a message; bytes
-- received from the line wait for room, and so do received messages.
pub record IsIdle (held : BuffersView) (s : SessionView) : Type 0 where
  pub filled : IsFilled s
  pub input_read : (held.input ≡ []) ⊎ (wants_input s ≡ false)
  pub told : (held.is_over ≡ false) ⊎ ((wants_input s ≡ false) ⊎ (takes_end s ≡ false))
  pub fed : (held.received ≡ []) ⊎ (wants_line s ≡ false)
  pub delivered : HoldsMail s

-- the same, and the line isn't down if it is to be read
abbrev pub Rests : BuffersView → SessionView → Type 0
Rests held s = IsIdle held s × ((held.down ≡ None) ⊎ (wants_line s ≡ false))
