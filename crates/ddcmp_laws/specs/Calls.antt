-- One station, call by call: what each call changes, accepts and returns.
use Rattle.std.specs.Prelude.{◌≡◌, ◌⊎◌, ℕ, List, [], ◌∷◌, ◌++◌, map, if◌then◌else◌, option_to_list}
use Rattle.ddcmp_core.specs.Store.{first_message}
use Rattle.ddcmp_core.specs.Table.{Limits, StationState, Frame, Data, Acked, Naked, Strt, Maint}
use Rattle.ddcmp_core.specs.Table.{Received, Good, on, next, next_frame, after_next, may_send}
use Rattle.ddcmp_core.specs.Table.{may_send_maintenance, after_accept, after_take, after_expire}
use Rattle.ddcmp_core.specs.Table.{after_take_arm}

-- The user sends a message or a maintenance message, or takes one; a frame is asked for; something
-- is received; the timer expires; or its start is noted.
pub data Call : Type 0 where
  Sending : List ℕ → Call
  SendingMaintenance : List ℕ → Call
  Taking : Call
  Polling : Call
  Coming : Received → Call
  Expiring : Call
  Arming : Call

abbrev pub after_call : Limits → Call → StationState → StationState
after_call l (Sending message) s = if may_send l s message then after_accept s message else s
after_call l (SendingMaintenance message) s =
    if may_send_maintenance l s message then after_accept s message else s
after_call l Taking s = after_take s
after_call l Polling s = after_next (next s) s
after_call l (Coming h) s = on l s h
after_call l Expiring s = after_expire s
after_call l Arming s = after_take_arm s

-- one call after another
unfoldable pub after_calls : Limits → List Call → StationState → StationState
after_calls l [] s = s
after_calls l (c ∷ rest) s = after_calls l rest (after_call l c s)

-- ---- what is accepted, sent and taken

abbrev pub accepted_by : Limits → Call → StationState → List (List ℕ)
accepted_by l (Sending message) s = if may_send l s message then message ∷ [] else []
accepted_by l (SendingMaintenance message) s =
    if may_send_maintenance l s message then message ∷ [] else []
accepted_by l _ s = []

abbrev pub sent_by : Limits → Call → StationState → List Frame
sent_by l Polling s = option_to_list (next_frame (next s))
sent_by l _ s = []

abbrev pub taken_by : Limits → Call → StationState → List (List ℕ)
taken_by l Taking s = option_to_list (first_message s.inbox)
taken_by l _ s = []

-- the same over calls, in their order
unfoldable pub accepted_in : Limits → List Call → StationState → List (List ℕ)
accepted_in l [] s = []
accepted_in l (c ∷ rest) s = accepted_by l c s ++ accepted_in l rest (after_call l c s)

unfoldable pub sent_in : Limits → List Call → StationState → List Frame
sent_in l [] s = []
sent_in l (c ∷ rest) s = sent_by l c s ++ sent_in l rest (after_call l c s)

unfoldable pub taken_in : Limits → List Call → StationState → List (List ℕ)
taken_in l [] s = []
taken_in l (c ∷ rest) s = taken_by l c s ++ taken_in l rest (after_call l c s)

-- the maintenance messages that are received
unfoldable pub maintenance_in : List Call → List (List ℕ)
maintenance_in [] = []
maintenance_in (Coming (Good (Maint message)) ∷ rest) = message ∷ maintenance_in rest
maintenance_in (c ∷ rest) = maintenance_in rest

-- ---- what the laws state about them

-- The messages are the received ones in their order, of which some may be missing.
abbrev pub IsOrLost : List (List ℕ) → List (List ℕ) → Type 0
IsOrLost [] came = Unit {0}
IsOrLost (message ∷ rest) [] = ⊥
IsOrLost (message ∷ rest) (first ∷ came) =
    ((message ≡ first) × IsOrLost rest came) ⊎ IsOrLost (message ∷ rest) came

-- All frames sent are maintenance messages. Those sent, and then those still queued, are the
-- messages that were queued before, and then the accepted ones, in their order and each once.
pub record SendsInOrder (l : Limits) (calls : List Call) (s : StationState) : Type 0 where
  pub messages : List (List ℕ)
  pub frames : sent_in l calls s ≡ map (λ message. Maint message) messages
  pub order : messages ++ (after_calls l calls s).out ≡ s.out ++ accepted_in l calls s

-- The messages taken, and then those still in the inbox, are the messages that were in the inbox
-- before, and then the received ones in their order, each once or lost.
pub record HandsUpInOrder (l : Limits) (calls : List Call) (s : StationState) : Type 0 where
  pub messages : List (List ℕ)
  pub handed_up : taken_in l calls s ++ (after_calls l calls s).inbox ≡ s.inbox ++ messages
  pub order : IsOrLost messages (maintenance_in calls)

-- These calls leave a message that was sent unanswered: no input acknowledges anything after a, or
-- is a NAK or a STRT, and the timer doesn't expire.
abbrev pub LeavesUnanswered : ℕ → List Call → Type 0
LeavesUnanswered a [] = Unit {0}
LeavesUnanswered a (Coming (Good (Acked resp)) ∷ rest) = (resp ≡ a) × LeavesUnanswered a rest
LeavesUnanswered a (Coming (Good (Data resp num message)) ∷ rest) =
    (resp ≡ a) × LeavesUnanswered a rest
LeavesUnanswered a (Coming (Good (Naked why resp)) ∷ rest) = ⊥
LeavesUnanswered a (Coming (Good Strt) ∷ rest) = ⊥
LeavesUnanswered a (Expiring ∷ rest) = ⊥
LeavesUnanswered a (c ∷ rest) = LeavesUnanswered a rest
