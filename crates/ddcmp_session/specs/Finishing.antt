-- The end of a run: received messages are delivered, and then the last lines are written.
use Rattle.std.specs.Prelude.{◌≡◌, ◌≤◌, ⊤, ℕ, Bool, true, false, List, [], ◌∷◌, ◌++◌}
use Rattle.std.specs.Prelude.{Option, None, Some}
use Rattle.ddcmp_io.specs.Written.{HandsOver}
use Rattle.ddcmp_window.specs.Store.{first_message}
use Rattle.ddcmp_session.specs.declared.devices.DeviceFault.{DeviceFault}
use Rattle.ddcmp_streams.specs.Messages.{is_in_lines}
use Rattle.ddcmp_session.specs.Session.{SessionView, form_of, room_for_mail}
use Rattle.ddcmp_session.specs.Calls.{SessionCall, Delivered, OutputTook, SessionDoes}
use Rattle.ddcmp_session.specs.Calls.{SessionStep, written_in}
use Rattle.ddcmp_session.specs.Devices.{BuffersView}
use Rattle.ddcmp_session.specs.Traffic.{Traffic}
use Rattle.ddcmp_session.specs.EndText.{end_text}
use Rattle.ddcmp_streams.specs.Queued.{queued}
use Rattle.ddcmp_session.specs.Lines.{Ends}

-- ---- received messages are delivered, and output is written

abbrev pub IsDelivery : SessionCall → Type 0
IsDelivery (Delivered has_mail) = ⊤
IsDelivery (OutputTook n) = ⊤
IsDelivery _ = ⊥

-- Each step is such a call, and the steps lead from the one session to the other.
abbrev pub AreDeliveries : List SessionStep → SessionView → SessionView → Type 0
AreDeliveries [] old new = new ≡ old
AreDeliveries (step ∷ rest) old new =
    IsDelivery step.call
    × SessionDoes step.call [] old step.session
    × AreDeliveries rest step.session new

-- the bytes that the output took in these steps
unfoldable pub taken_in : List SessionStep → SessionView → List ℕ
taken_in [] s = []
taken_in (step ∷ rest) s = written_in step.call s ++ taken_in rest step.session

-- The output took these bytes, and these faults were reported.
abbrev pub after_taken_by : List ℕ → List DeviceFault → Traffic → Traffic
after_taken_by bytes faults t =
    record t { written = t.written ++ bytes; faults = t.faults ++ faults }

-- Received messages were delivered and output was written, and nothing else was done. The devices
-- moved no bytes but those that the output took.
pub record Drains (old : SessionView) (before : Option Traffic) (new : SessionView)
    (after : Option Traffic) : Type 0 where
  pub steps : List SessionStep
  pub calls : AreDeliveries steps old new
  pub traffic : (t : Traffic) → before ≡ Some t → (faults : List DeviceFault)
      × (after ≡ Some (after_taken_by (taken_in steps old) faults t))

-- an empty output has all of its room
abbrev pub HasRoomIfEmpty : SessionView → Type 0
HasRoomIfEmpty s = s.output.waiting ≡ [] → s.output.room ≡ s.output.size

-- Nothing is queued for the output, and no received message is left, if the output is large enough
-- for one, as that of each new session is.
pub record IsDrained (s : SessionView) : Type 0 where
  pub waiting : s.output.waiting ≡ []
  pub mail : room_for_mail s ≤ s.output.size
      → first_message s.link.station.core.station.inbox ≡ None

-- ---- the last lines

-- The last lines were written after the queued output; with messages in binary they are no part of
-- it.
pub record WritesEnd (old new : SessionView) : Type 0 where
  pub lines : is_in_lines (form_of old.messages) ≡ true
      → HandsOver (queued old.output) (queued new.output)
      (end_text old.options.counters old.link)
  pub binary : is_in_lines (form_of old.messages) ≡ false → new ≡ old
  pub stays : new ≡ record old { output = new.output }

abbrev pub WritesEndIf : Bool → SessionView → SessionView → Type 0
WritesEndIf true old new = WritesEnd old new
WritesEndIf false old new = new ≡ old

-- After its run a session delivered the messages that it had received. The last lines were written
-- once the output had taken these, and were taken as well if the run is reported as ended well.
pub record Finishes (is_well : Bool) (old : SessionView) (before : Option Traffic)
    (new : SessionView) (after : Option Traffic) : Type 0 where
  pub delivered : SessionView
  pub between : Option Traffic
  pub delivers : Drains old before delivered between
  pub writes : Bool
  pub drained : writes ≡ true → IsDrained delivered
  pub with_lines : SessionView
  pub lines : WritesEndIf writes delivered with_lines
  pub takes : Drains with_lines between new after
  pub well : is_well ≡ true → (writes ≡ true) × IsDrained new

-- A session ran over its lines, was closed, and finished.
pub record RunsToEnd (is_well : Bool) (held : BuffersView) (old : SessionView)
    (before : Option Traffic) (new_held : BuffersView) (new : SessionView)
    (after : Option Traffic) : Type 0 where
  pub closed : SessionView
  pub between : Option Traffic
  pub ends : Ends is_well held old before new_held closed between
  pub finishes : Finishes is_well closed between new after
