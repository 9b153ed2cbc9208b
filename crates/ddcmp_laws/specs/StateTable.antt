-- The tables of DDCMP 4.1 for one full-duplex point-to-point link, as data: a row for each event in
-- each state, and one for each frame that is sent, in the order and the terms of the specification
-- as remembered (no copy was at hand), so that who has it can compare row by row. What no row has
-- changes nothing. "Unsure" marks what is remembered alone, and "profile" where this project chose,
-- or differs (docs/PROTOCOL.md, Beside DDCMP 4.1).
use Rattle.std.specs.Prelude.{ℕ, Bool, true, false, ◌&&◌, if◌then◌else◌, nat_lt, ◌==◌, not}
use Rattle.std.specs.Prelude.{List, [], ◌∷◌, ◌++◌, drop, length}
use Rattle.ddcmp_frame.specs.declared.nak.Nak.{Nak as Reason}
use Rattle.ddcmp_frame.specs.declared.nak.Nak.TheVariants as reason
use Rattle.ddcmp_window.specs.Numbers.{is_within, next_number}
use Rattle.ddcmp_core.specs.declared.state.State.{State}
use Rattle.ddcmp_core.specs.declared.state.State.TheVariants.{Halted, IStart, AStart, Running}
use Rattle.ddcmp_core.specs.declared.state.State.TheVariants.{Maintenance}
use Rattle.ddcmp_core.specs.declared.state.Owed.{Owed}
use Rattle.ddcmp_core.specs.declared.state.Owed.TheVariants.{Quiet, Ack, Nak}
use Rattle.ddcmp_core.specs.declared.state.Timer.TheVariants.{Off, Fresh}
use Rattle.ddcmp_core.specs.Table.{resp_of as resp_sent}
use Rattle.ddcmp_core.specs.Table.{Limits, StationState, Frame, Data, Acked, Naked, Rep, Strt}
use Rattle.ddcmp_core.specs.Table.{Stack, Maint, Received, Good, BadHeader, BadData, TooLong}
use Rattle.ddcmp_core.specs.Table.{BadFormat, Next, Idle, Sends, after_ack, has_message}
use Rattle.ddcmp_core.specs.Table.{message_at_next, timer_started, owed_after_message}

-- ---- events

-- a request of the user, an expiry of the reply timer, or what the reader yields
pub data Input : Type 0 where
  StartRequested : Input
  HaltRequested : Input
  TimerExpires : Input
  Comes : Received → Input

pub data Event : Type 0 where
  Start : Event
  Halt : Event
  Expiry : Event
  GotStrt : Event
  GotStack : Event
  GotAck : Event
  GotNak : Event
  GotRep : Event
  GotData : Event
  GotMaintenance : Event
  GotHeaderCheck : Event
  GotDataCheck : Event
  GotTooLong : Event
  GotFormat : Event

abbrev pub event_of : Input → Event
event_of StartRequested = Start
event_of HaltRequested = Halt
event_of TimerExpires = Expiry
event_of (Comes (Good Strt)) = GotStrt
event_of (Comes (Good Stack)) = GotStack
event_of (Comes (Good (Acked resp))) = GotAck
event_of (Comes (Good (Naked why resp))) = GotNak
event_of (Comes (Good (Rep num))) = GotRep
event_of (Comes (Good (Data resp num message))) = GotData
event_of (Comes (Good (Maint message))) = GotMaintenance
event_of (Comes BadHeader) = GotHeaderCheck
event_of (Comes (BadData of_data)) = GotDataCheck
event_of (Comes (TooLong of_data)) = GotTooLong
event_of (Comes BadFormat) = GotFormat

-- the fields RESP and NUM of a frame, and its message, if it has them
abbrev pub resp_of : Input → ℕ
resp_of (Comes (Good (Acked resp))) = resp
resp_of (Comes (Good (Naked why resp))) = resp
resp_of (Comes (Good (Data resp num message))) = resp
resp_of _ = 0

abbrev pub num_of : Input → ℕ
num_of (Comes (Good (Rep num))) = num
num_of (Comes (Good (Data resp num message))) = num
num_of _ = 0

abbrev pub message_of : Input → List ℕ
message_of (Comes (Good (Data resp num message))) = message
message_of (Comes (Good (Maint message))) = message
message_of _ = []

-- whether a damaged frame, or one that is too long, has the header of a data message
abbrev pub is_of_data : Input → Bool
is_of_data (Comes (BadData of_data)) = of_data
is_of_data (Comes (TooLong of_data)) = of_data
is_of_data _ = false

-- ---- conditions

pub data Condition : Type 0 where
  -- RESP is 0
  RespIsZero : Condition
  -- RESP is one of A to N
  RespIsOutstanding : Condition
  -- NUM is R, so that nothing is missing
  NumIsReceived : Condition
  -- NUM is R + 1, and there is a buffer
  NumIsNext : Condition
  -- NUM is R + 1, and there is none
  NoBuffer : Condition
  HasBuffer : Condition
  -- the header was that of a data message
  OfData : Condition
  -- a message that was sent isn't acknowledged
  IsUnacknowledged : Condition
  -- the user chose to restart with its peer, and has taken all messages
  Restarts : Condition

abbrev pub has_buffer : Limits → StationState → Bool
has_buffer l s = nat_lt (length s.inbox) l.room

abbrev pub holds : Condition → Limits → StationState → Input → Bool
holds RespIsZero l s i = resp_of i == 0
holds RespIsOutstanding l s i = is_within s.a (resp_of i) s.n
holds NumIsReceived l s i = num_of i == s.r
holds NumIsNext l s i = num_of i == next_number s.r && has_buffer l s
holds NoBuffer l s i = num_of i == next_number s.r && not (has_buffer l s)
holds HasBuffer l s i = has_buffer l s
holds OfData l s i = is_of_data i
holds IsUnacknowledged l s i = not (s.a == s.n)
holds Restarts l s i = l.restart && length s.inbox == 0

-- ---- actions

pub data Action : Type 0 where
  Enter : State → Action
  -- a STRT, or in AStart a STACK, is to be sent
  OweStart : Action
  StartIsDone : Action
  StopTimer : Action
  OweAck : Action
  OweNak : Reason → Action
  -- an ACK for a message; profile: if its user acknowledges it, none until it is taken
  OweForMessage : Action
  OweRep : Action
  -- no reply and no REP is to be sent
  OweNothing : Action
  -- messages up to RESP are acknowledged
  Acknowledge : Action
  -- all messages from A + 1 on are to be sent again, and no REP
  SendAgain : Action
  -- the message goes to the user, and R is NUM
  Deliver : Action
  -- the message goes to the user, without a number
  HandOver : Action
  -- R, N and A are 0, T is 1, nothing is queued
  ResetNumbers : Action

abbrev pub act : Action → Input → StationState → StationState
act (Enter state) i s = record s { state = state }
act OweStart i s = record s { due = true }
act StartIsDone i s = record s { due = false }
act StopTimer i s = record s { timer = Off }
act OweAck i s = record s { reply = Ack }
act (OweNak why) i s = record s { reply = Nak why }
act OweForMessage i s = record s { reply = owed_after_message s.by_user s.reply }
act OweRep i s = record s { rep = true }
act OweNothing i s = record s { reply = Quiet; rep = false }
act Acknowledge i s = after_ack s (resp_of i)
act SendAgain i s = record s { t = next_number s.a; rep = false }
act Deliver i s = record s { r = num_of i; inbox = s.inbox ++ message_of i ∷ [] }
act HandOver i s = record s { inbox = s.inbox ++ message_of i ∷ [] }
act ResetNumbers i s = record s { r = 0; n = 0; a = 0; t = 1; out = [] }

-- one after the other
abbrev pub act_all : List Action → Input → StationState → StationState
act_all [] i s = s
act_all (one ∷ rest) i s = act_all rest i (act one i s)

-- ---- the state table

pub record Row : Type 0 where
  pub state : State
  pub event : Event
  pub when : List Condition
  pub effects : List Action

abbrev pub row : State → Event → List Condition → List Action → Row
row state event when effects = record {
  state = state;
  event = event;
  when = when;
  effects = effects;
}

-- the handshake is complete
abbrev pub run : List Action → List Action
run rest = Enter Running ∷ StartIsDone ∷ StopTimer ∷ rest

-- back to the beginning, with a STRT or STACK to be sent
abbrev pub begin : State → List Action
begin state =
    OweNothing ∷ StopTimer ∷ ResetNumbers ∷ Enter state ∷ OweStart ∷ []

abbrev pub stop : List Action
stop = Enter Halted ∷ StartIsDone ∷ OweNothing ∷ StopTimer ∷ []

abbrev pub state_table : List Row
state_table =
    row Halted Start [] (begin IStart)
    ∷ row Halted Halt [] stop
    ∷ row IStart Halt [] stop
    ∷ row AStart Halt [] stop
    ∷ row Running Halt [] stop
    ∷ row Maintenance Halt [] stop
    ∷ row IStart Expiry [] (OweStart ∷ StopTimer ∷ [])
    ∷ row AStart Expiry [] (OweStart ∷ StopTimer ∷ [])
    ∷ row Running Expiry (IsUnacknowledged ∷ []) (OweRep ∷ StopTimer ∷ [])
    ∷ row Running Expiry [] (StopTimer ∷ [])
    ∷ row Halted Expiry [] (StopTimer ∷ [])
    ∷ row Maintenance Expiry [] (StopTimer ∷ [])
    ∷ row IStart GotStrt [] (Enter AStart ∷ OweStart ∷ StopTimer ∷ [])
    ∷ row IStart GotStack [] (run (OweAck ∷ []))
    ∷ row AStart GotStrt [] (OweStart ∷ [])
    ∷ row AStart GotStack [] (run (OweAck ∷ []))
    -- unsure: whether other messages than these complete the handshake
    ∷ row AStart GotAck (RespIsZero ∷ []) (run [])
    ∷ row AStart GotData (RespIsZero ∷ NumIsNext ∷ [])
    (run (Acknowledge ∷ Deliver ∷ OweForMessage ∷ []))
    ∷ row AStart GotData (RespIsZero ∷ NoBuffer ∷ [])
    (run (Acknowledge ∷ OweNak reason.NoBuffer ∷ []))
    ∷ row AStart GotData (RespIsZero ∷ []) (run (Acknowledge ∷ []))
    -- profile: a user may choose to restart with its peer; 4.1 halts
    ∷ row Running GotStrt (Restarts ∷ [])
    (begin AStart)
    ∷ row Running GotStrt [] stop
    ∷ row Running GotStack [] (OweAck ∷ [])
    ∷ row Running GotAck [] (Acknowledge ∷ [])
    -- unsure: a RESP outside of A to N is ignored
    ∷ row Running GotNak (RespIsOutstanding ∷ []) (Acknowledge ∷ SendAgain ∷ StopTimer ∷ [])
    ∷ row Running GotRep (NumIsReceived ∷ []) (OweAck ∷ [])
    ∷ row Running GotRep [] (OweNak reason.ReplyToRep ∷ [])
    ∷ row Running GotData (NumIsNext ∷ []) (Acknowledge ∷ Deliver ∷ OweForMessage ∷ [])
    ∷ row Running GotData (NoBuffer ∷ []) (Acknowledge ∷ OweNak reason.NoBuffer ∷ [])
    ∷ row Running GotData [] (Acknowledge ∷ [])
    ∷ row Running GotHeaderCheck [] (OweNak reason.HeaderCheck ∷ [])
    -- profile: only a data message has a number that the peer would send again
    ∷ row Running GotDataCheck (OfData ∷ []) (OweNak reason.DataCheck ∷ [])
    ∷ row Running GotTooLong (OfData ∷ []) (OweNak reason.TooLong ∷ [])
    ∷ row Running GotFormat [] (OweNak reason.Format ∷ [])
    -- profile: outside of it a maintenance message is dropped; 4.1 halts
    ∷ row Maintenance GotMaintenance (HasBuffer ∷ []) (HandOver ∷ [])
    ∷ []

abbrev pub number_of_state : State → ℕ
number_of_state Halted = 0
number_of_state IStart = 1
number_of_state AStart = 2
number_of_state Running = 3
number_of_state Maintenance = 4

abbrev pub number_of_event : Event → ℕ
number_of_event Start = 0
number_of_event Halt = 1
number_of_event Expiry = 2
number_of_event GotStrt = 3
number_of_event GotStack = 4
number_of_event GotAck = 5
number_of_event GotNak = 6
number_of_event GotRep = 7
number_of_event GotData = 8
number_of_event GotMaintenance = 9
number_of_event GotHeaderCheck = 10
number_of_event GotDataCheck = 11
number_of_event GotTooLong = 12
number_of_event GotFormat = 13

abbrev pub all_hold : List Condition → Limits → StationState → Input → Bool
all_hold [] l s i = true
all_hold (one ∷ []) l s i = holds one l s i
all_hold (one ∷ two ∷ rest) l s i = holds one l s i && all_hold (two ∷ rest) l s i

-- What is done in a state: the effects of the first row that fits, or nothing.
abbrev pub effects_in : List Row → State → Limits → StationState → Input → List Action
effects_in [] state l s i = []
effects_in (first ∷ rest) state l s i =
    if (number_of_state first.state == number_of_state state)
    && (number_of_event first.event == number_of_event (event_of i))
    && all_hold first.when l s i
    then first.effects
    else effects_in rest state l s i

abbrev pub by_table : Limits → StationState → Input → StationState
by_table l s i = act_all (effects_in state_table s.state l s i) i s

-- ---- what is sent

pub data Pending : Type 0 where
  StartPends : Pending
  NakPends : Pending
  RepPends : Pending
  -- a queued message that wasn't sent since the last NAK
  MessagePends : Pending
  AckPends : Pending
  MaintenancePends : Pending

abbrev pub has_some : List (List ℕ) → Bool
has_some [] = false
has_some (message ∷ rest) = true

abbrev pub pends : Pending → Owed → StationState → Bool
pends StartPends reply s = s.due
pends NakPends (Nak why) s = true
pends NakPends reply s = false
pends RepPends reply s = s.rep
pends MessagePends reply s = has_message s
pends AckPends Ack s = true
pends AckPends reply s = false
pends MaintenancePends reply s = has_some s.out

abbrev pub reason_in : Owed → Reason
reason_in (Nak why) = why
reason_in _ = reason.HeaderCheck

abbrev pub first_of : List (List ℕ) → List ℕ
first_of [] = []
first_of (message ∷ rest) = message

-- the frame of each, with its fields
abbrev pub frame_of : Pending → State → Owed → StationState → Frame
frame_of StartPends IStart reply s = Strt
frame_of StartPends state reply s = Stack
frame_of NakPends state reply s = Naked (reason_in reply) (resp_sent s)
frame_of RepPends state reply s = Rep s.n
frame_of MessagePends state reply s = Data (resp_sent s) s.t (message_at_next s)
frame_of AckPends state reply s = Acked (resp_sent s)
frame_of MaintenancePends state reply s = Maint (first_of s.out)

-- The station once it was sent: STRT, STACK and REP start the reply timer anew, a message starts
-- one that is off, and any frame with RESP is the reply. Unsure: when the timer starts.
abbrev pub after_sending : Pending → StationState → StationState
after_sending StartPends s = record s { due = false; timer = Fresh }
after_sending NakPends s = record s { reply = Quiet }
after_sending RepPends s = record s { rep = false; timer = Fresh }
after_sending MessagePends s =
    record s {
      n = if s.t == next_number s.n then s.t else s.n;
      t = next_number s.t;
      reply = Quiet;
      timer = timer_started s.timer;
    }
after_sending AckPends s = record s { reply = Quiet }
after_sending MaintenancePends s = record s { out = drop 1 s.out }

-- what a station sends in each state, the first that is pending; unsure: the order in Running
abbrev pub order_of : State → List Pending
order_of Halted = []
order_of IStart = StartPends ∷ []
order_of AStart = StartPends ∷ []
order_of Running = NakPends ∷ RepPends ∷ MessagePends ∷ AckPends ∷ []
order_of Maintenance = MaintenancePends ∷ []

abbrev pub first_pending : List Pending → State → Owed → StationState → Next
first_pending [] state reply s = Idle
first_pending (one ∷ rest) state reply s =
    if pends one reply s then Sends (frame_of one state reply s) (after_sending one s)
    else first_pending rest state reply s

abbrev pub next_by_table : StationState → Next
next_by_table s = first_pending (order_of s.state) s.state s.reply s
