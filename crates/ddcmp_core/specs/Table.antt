-- The station's table: its state, the user's calls, the input in each state, and the frame that is
-- sent next.
use Rattle.std.specs.Prelude.{ℕ, Bool, true, false, ◌&&◌, if◌then◌else◌, nat_lt, ◌==◌, List, []}
use Rattle.std.specs.Prelude.{◌∷◌, ◌++◌, length, slice_index_or, Option, Some, None, is_none}
use Rattle.std.specs.Prelude.{Result}
use Rattle.ddcmp_num.specs.declared.seq.Seq.{Seq}
use Rattle.ddcmp_num.specs.Sequence.{distance}
use Rattle.ddcmp_frame.specs.declared.nak.Nak.{Nak as Reason}
use Rattle.ddcmp_frame.specs.declared.nak.Nak.TheVariants as reason
use Rattle.ddcmp_window.specs.declared.sender.SendRefusal.{SendRefusal}
use Rattle.ddcmp_window.specs.declared.sender.SendRefusal.TheVariants.{WrongState}
use Rattle.ddcmp_window.specs.declared.inbox.Offer.{Offer}
use Rattle.ddcmp_window.specs.declared.inbox.Offer.TheVariants as offer
use Rattle.ddcmp_window.specs.Numbers.{is_within, next_number}
use Rattle.ddcmp_window.specs.Sender.{Outgoing, outgoing_before_next, accept_refusal}
use Rattle.ddcmp_window.specs.Sender.{number_accepted, answer_unless, count_acknowledged}
use Rattle.ddcmp_window.specs.Sender.{outgoing_after_ack}
use Rattle.ddcmp_window.specs.Inbox.{Incoming, answer_to_offer, incoming_after_offer}
use Rattle.ddcmp_window.specs.Inbox.{incoming_after_put, incoming_after_take, may_receive}
use Rattle.ddcmp_core.specs.declared.state.State.{State}
use Rattle.ddcmp_core.specs.declared.state.State.TheVariants.{Halted, IStart, AStart, Running}
use Rattle.ddcmp_core.specs.declared.state.State.TheVariants.{Maintenance}
use Rattle.ddcmp_core.specs.declared.state.Owed.{Owed}
use Rattle.ddcmp_core.specs.declared.state.Owed.TheVariants.{Quiet, Ack, Nak}
use Rattle.ddcmp_core.specs.declared.state.Timer.{Timer}
use Rattle.ddcmp_core.specs.declared.state.Timer.TheVariants.{Off, Fresh, On}
use Rattle.ddcmp_core.specs.declared.notice.Notice.{Notice}
use Rattle.ddcmp_core.specs.declared.notice.Notice.TheVariants as notice
use Rattle.ddcmp_core.specs.declared.station_core.StartRefusal.{StartRefusal}
use Rattle.ddcmp_core.specs.declared.station_core.StartRefusal.TheVariants.{NotHalted, Untaken}

-- ---- the state

-- What never changes: the largest number of queued messages (window) and of messages in the inbox
-- (room), the largest length of a message, and whether a running station restarts when its peer
-- does.
pub record Limits : Type 0 where
  pub window : ℕ
  pub room : ℕ
  pub longest : ℕ
  pub restart : Bool

-- due: a STRT (in IStart) or a STACK (in AStart) is pending. r: the highest number received in
-- sequence; n: the highest number sent; a: the highest number acknowledged; t: the next number to
-- send. reply: the pending reply. rep: a REP is pending. out: the queued messages, the first of
-- which has the number a + 1; in Maintenance those to send.
pub record StationState : Type 0 where
  pub state : State
  pub due : Bool
  pub r : ℕ
  pub n : ℕ
  pub a : ℕ
  pub t : ℕ
  pub reply : Owed
  pub rep : Bool
  pub timer : Timer
  pub out : List (List ℕ)
  pub inbox : List (List ℕ)
  pub by_user : Bool

-- the numbers and messages of each direction
abbrev pub outgoing : StationState → Outgoing
outgoing s = record { a = s.a; n = s.n; t = s.t; out = s.out }

abbrev pub incoming : StationState → Incoming
incoming s = record { r = s.r; inbox = s.inbox }

abbrev pub with_outgoing : StationState → Outgoing → StationState
with_outgoing s o = record s { n = o.n; a = o.a; t = o.t; out = o.out }

abbrev pub with_incoming : StationState → Incoming → StationState
with_incoming s i = record s { r = i.r; inbox = i.inbox }

-- RESP of the frames that are sent: R, or, if messages are acknowledged when they are taken, the
-- number of the last one that was taken
abbrev pub resp_of : StationState → ℕ
resp_of s = if s.by_user then distance (length s.inbox) s.r else s.r

-- the number of queued messages before t
abbrev pub before_next : StationState → ℕ
before_next s = outgoing_before_next (outgoing s)

-- a station with this inbox that has sent and received nothing
abbrev pub station_begun : State → Bool → Bool → List (List ℕ) → StationState
station_begun state due by_user inbox = record {
  state = state;
  due = due;
  r = 0;
  n = 0;
  a = 0;
  t = 1;
  reply = Quiet;
  rep = false;
  timer = Off;
  out = [];
  inbox = inbox;
  by_user = by_user;
}

abbrev pub new_station : StationState
new_station = station_begun Halted false false []

abbrev pub is_halted : State → Bool
is_halted Halted = true
is_halted _ = false

abbrev pub is_running : State → Bool
is_running Running = true
is_running _ = false

abbrev pub is_maintenance : State → Bool
is_maintenance Maintenance = true
is_maintenance _ = false

abbrev pub is_starting : State → Bool
is_starting IStart = true
is_starting AStart = true
is_starting _ = false

-- ---- the user's calls

-- Why start and enter_maintenance are refused: the station isn't halted, or its inbox isn't empty.
abbrev pub start_refusal : StationState → Option StartRefusal
start_refusal s =
    if is_halted s.state
    then (if length s.inbox == 0 then None else Some Untaken)
    else Some NotHalted

abbrev pub may_start : StationState → Bool
may_start s = is_none (start_refusal s)

abbrev pub answer_to_start : StationState → Result ℕ StartRefusal
answer_to_start s = answer_unless (start_refusal s) (length s.out)

abbrev pub after_start : StationState → StationState
after_start s = station_begun IStart true s.by_user s.inbox

abbrev pub after_enter_maintenance : StationState → StationState
after_enter_maintenance s = station_begun Maintenance false s.by_user s.inbox

abbrev pub after_halt : StationState → StationState
after_halt s = record s { state = Halted; due = false; reply = Quiet; rep = false; timer = Off }

-- Why a message isn't accepted: the station isn't running, or the window refuses it.
abbrev pub send_refusal : Limits → StationState → List ℕ → Option SendRefusal
send_refusal l s message =
    if is_running s.state
    then accept_refusal l.window l.longest (outgoing s) message
    else Some WrongState

abbrev pub may_send : Limits → StationState → List ℕ → Bool
may_send l s message = is_none (send_refusal l s message)

abbrev pub answer_to_send : Limits → StationState → List ℕ → Result Seq SendRefusal
answer_to_send l s message = answer_unless (send_refusal l s message) (number_accepted (outgoing s))

abbrev pub after_accept : StationState → List ℕ → StationState
after_accept s message = record s { out = s.out ++ message ∷ [] }

-- why a maintenance message isn't accepted
abbrev pub send_maintenance_refusal : Limits → StationState → List ℕ → Option SendRefusal
send_maintenance_refusal l s message =
    if is_maintenance s.state
    then accept_refusal l.window l.longest (outgoing s) message
    else Some WrongState

abbrev pub may_send_maintenance : Limits → StationState → List ℕ → Bool
may_send_maintenance l s message = is_none (send_maintenance_refusal l s message)

abbrev pub answer_to_send_maintenance : Limits → StationState → List ℕ
    → Result (Unit {0}) SendRefusal
answer_to_send_maintenance l s message = answer_unless (send_maintenance_refusal l s message) tt

-- take: if messages are acknowledged then, a running station owes an ACK for a message
abbrev pub owed_after_take : Owed → Owed
owed_after_take Quiet = Ack
owed_after_take Ack = Ack
owed_after_take (Nak why) = Nak why

abbrev pub acknowledges_by_take : StationState → Bool
acknowledges_by_take s = s.by_user && is_running s.state && nat_lt 0 (length s.inbox)

abbrev pub after_take : StationState → StationState
after_take s =
    record (with_incoming s (incoming_after_take (incoming s))) {
      reply = if acknowledges_by_take s then owed_after_take s.reply else s.reply;
    }

-- expire
abbrev pub after_expire_in : State → StationState → StationState
after_expire_in Halted s = record s { timer = Off }
after_expire_in IStart s = record s { due = true; timer = Off }
after_expire_in AStart s = record s { due = true; timer = Off }
after_expire_in Running s = record s { rep = if s.a == s.n then s.rep else true; timer = Off }
after_expire_in Maintenance s = record s { timer = Off }

abbrev pub after_expire_with : Timer → StationState → StationState
after_expire_with Off s = s
after_expire_with Fresh s = after_expire_in s.state s
after_expire_with On s = after_expire_in s.state s

abbrev pub after_expire : StationState → StationState
after_expire s = after_expire_with s.timer s

abbrev pub is_on : Timer → Bool
is_on Off = false
is_on Fresh = true
is_on On = true

-- take_arm
abbrev pub is_fresh : Timer → Bool
is_fresh Fresh = true
is_fresh _ = false

abbrev pub after_take_arm : StationState → StationState
after_take_arm s = record s { timer = if is_fresh s.timer then On else s.timer }

-- ---- input

-- a frame, as far as the table reads it
pub data Frame : Type 0 where
  Data : (resp num : ℕ) → List ℕ → Frame
  Acked : (resp : ℕ) → Frame
  Naked : Reason → (resp : ℕ) → Frame
  Rep : (num : ℕ) → Frame
  Strt : Frame
  Stack : Frame
  Maint : List ℕ → Frame

-- An input from the reader. For damaged data and a frame that is too long it matters whether it is
-- a data message.
pub data Received : Type 0 where
  Good : Frame → Received
  BadHeader : Received
  BadData : (of_data : Bool) → Received
  TooLong : (of_data : Bool) → Received
  BadFormat : Received

-- how many messages an acknowledgement of q newly acknowledges
abbrev pub newly_acknowledged : StationState → ℕ → ℕ
newly_acknowledged s q = count_acknowledged (outgoing s) q

abbrev pub after_ack : StationState → ℕ → StationState
after_ack s q =
    record (with_outgoing s (outgoing_after_ack (outgoing s) q)) {
      rep = if newly_acknowledged s q == 0 then s.rep else false;
      timer = if newly_acknowledged s q == 0 then s.timer else (if q == s.n then Off else Fresh);
    }

abbrev pub acknowledged_notice : ℕ → Option Notice
acknowledged_notice m = if m == 0 then None else Some (notice.Acknowledged m)

-- Halted
abbrev pub halted_notice : Received → Option Notice
halted_notice (Good Strt) = Some notice.PeerStarts
halted_notice (Good (Maint message)) = Some notice.MaintenanceSeen
halted_notice _ = None

-- Maintenance
abbrev pub on_maintenance : Limits → StationState → Received → StationState
on_maintenance l s (Good (Maint message)) =
    with_incoming s (incoming_after_put l.room (incoming s) message)
on_maintenance l s _ = s

abbrev pub has_room : Limits → StationState → Bool
has_room l s = nat_lt (length s.inbox) l.room

abbrev pub maintenance_notice : Limits → StationState → Received → Option Notice
maintenance_notice l s (Good Strt) = Some notice.PeerStarts
maintenance_notice l s (Good (Maint message)) =
    Some (if has_room l s then notice.MaintenanceHandedUp else notice.MaintenanceDropped)
maintenance_notice l s _ = None

-- Running: good data
abbrev pub takes_data : Limits → StationState → ℕ → Bool
takes_data l s num = may_receive l.room (incoming s) num

abbrev pub without_nak : Owed → Owed
without_nak (Nak why) = Quiet
without_nak Quiet = Quiet
without_nak Ack = Ack

-- What is owed once a message is in the inbox: an ACK, or, if messages are acknowledged when they
-- are taken, nothing more; a NAK isn't sent any more.
abbrev pub owed_after_message : Bool → Owed → Owed
owed_after_message by_user reply = if by_user then without_nak reply else Ack

abbrev pub reply_to_offer : Bool → Offer → Owed → Owed
reply_to_offer by_user offer.Accepted reply = owed_after_message by_user reply
reply_to_offer by_user offer.NoRoom reply = Nak reason.NoBuffer
reply_to_offer by_user offer.OutOfSequence reply = reply

abbrev pub after_offer : Limits → StationState → ℕ → List ℕ → StationState
after_offer l s num message =
    record (with_incoming s (incoming_after_offer l.room (incoming s) num message)) {
      reply = reply_to_offer s.by_user (answer_to_offer l.room (incoming s) num) s.reply;
    }

abbrev pub on_data : Limits → StationState → ℕ → ℕ → List ℕ → StationState
on_data l s resp num message = after_offer l (after_ack s resp) num message

abbrev pub data_notice : Limits → StationState → ℕ → ℕ → Option Notice
data_notice l s resp num =
    if takes_data l s num
    then Some (if newly_acknowledged s resp == 0 then notice.HandedUp
    else notice.HandedUpAndAcknowledged (newly_acknowledged s resp))
    else acknowledged_notice (newly_acknowledged s resp)

-- Running: a NAK, a REP and a STRT
abbrev pub on_nak : StationState → ℕ → StationState
on_nak s resp =
    if is_within s.a resp s.n
    then (let u = after_ack s resp in record u { t = next_number u.a; rep = false; timer = Off })
    else s

abbrev pub on_rep : StationState → ℕ → StationState
on_rep s num = record s { reply = if num == s.r then Ack else Nak reason.ReplyToRep }

abbrev pub may_restart : Limits → StationState → Bool
may_restart l s = l.restart && length s.inbox == 0

abbrev pub after_restart : StationState → StationState
after_restart s = station_begun AStart true s.by_user s.inbox

abbrev pub on_strt : Limits → StationState → StationState
on_strt l s = if may_restart l s then after_restart s else after_halt s

abbrev pub strt_notice : Limits → StationState → Notice
strt_notice l s = if may_restart l s then notice.Restarted (length s.out) else notice.PeerRestarted

-- IStart
abbrev pub after_startup : StationState → StationState
after_startup s = record s { state = Running; due = false; timer = Off }

abbrev pub on_istart : StationState → Received → StationState
on_istart s (Good Strt) = record s { state = AStart; due = true; timer = Off }
on_istart s (Good Stack) = record (after_startup s) { reply = Ack }
on_istart s _ = s

abbrev pub istart_notice : Received → Option Notice
istart_notice (Good Stack) = Some notice.Running
istart_notice (Good (Maint message)) = Some notice.MaintenanceSeen
istart_notice _ = None

-- AStart
abbrev pub on_astart : Limits → StationState → Received → StationState
on_astart l s (Good Stack) = record (after_startup s) { reply = Ack }
on_astart l s (Good Strt) = record s { due = true }
on_astart l s (Good (Acked resp)) = if resp == 0 then after_startup s else s
on_astart l s (Good (Data resp num message)) =
    if resp == 0 then on_data l (after_startup s) resp num message else s
on_astart l s _ = s

abbrev pub astart_notice : Limits → StationState → Received → Option Notice
astart_notice l s (Good Stack) = Some notice.Running
astart_notice l s (Good (Acked resp)) = if resp == 0 then Some notice.Running else None
astart_notice l s (Good (Data resp num message)) =
    if resp == 0
    then Some (if takes_data l s num then notice.RunningAndHandedUp else notice.Running)
    else None
astart_notice l s (Good (Maint message)) = Some notice.MaintenanceSeen
astart_notice l s _ = None

-- Running
abbrev pub on_running : Limits → StationState → Received → StationState
on_running l s (Good Strt) = on_strt l s
on_running l s (Good Stack) = record s { reply = Ack }
on_running l s (Good (Acked resp)) = after_ack s resp
on_running l s (Good (Naked why resp)) = on_nak s resp
on_running l s (Good (Rep num)) = on_rep s num
on_running l s (Good (Data resp num message)) = on_data l s resp num message
on_running l s (Good (Maint message)) = s
on_running l s BadHeader = record s { reply = Nak reason.HeaderCheck }
on_running l s (BadData of_data) =
    record s { reply = if of_data then Nak reason.DataCheck else s.reply }
on_running l s (TooLong of_data) =
    record s { reply = if of_data then Nak reason.TooLong else s.reply }
on_running l s BadFormat = record s { reply = Nak reason.Format }

abbrev pub running_notice : Limits → StationState → Received → Option Notice
running_notice l s (Good Strt) = Some (strt_notice l s)
running_notice l s (Good (Acked resp)) = acknowledged_notice (newly_acknowledged s resp)
running_notice l s (Good (Naked why resp)) = acknowledged_notice (newly_acknowledged s resp)
running_notice l s (Good (Data resp num message)) = data_notice l s resp num
running_notice l s (Good (Maint message)) = Some notice.MaintenanceSeen
running_notice l s _ = None

-- in each state
abbrev pub on_by : State → Limits → StationState → Received → StationState
on_by Halted l s h = s
on_by IStart l s h = on_istart s h
on_by AStart l s h = on_astart l s h
on_by Running l s h = on_running l s h
on_by Maintenance l s h = on_maintenance l s h

unfoldable pub on : Limits → StationState → Received → StationState
on l s h = on_by s.state l s h

abbrev pub notice_by : State → Limits → StationState → Received → Option Notice
notice_by Halted l s h = halted_notice h
notice_by IStart l s h = istart_notice h
notice_by AStart l s h = astart_notice l s h
notice_by Running l s h = running_notice l s h
notice_by Maintenance l s h = maintenance_notice l s h

unfoldable pub notice_of : Limits → StationState → Received → Option Notice
notice_of l s h = notice_by s.state l s h

-- the number of messages that a notice reports acknowledged
abbrev pub acknowledged_by : Option Notice → ℕ
acknowledged_by None = 0
acknowledged_by (Some (notice.Acknowledged m)) = m
acknowledged_by (Some (notice.HandedUpAndAcknowledged m)) = m
acknowledged_by (Some _) = 0

-- ---- the frame that is sent next, and the station after it

pub data Next : Type 0 where
  Idle : Next
  Sends : Frame → StationState → Next

abbrev pub next_frame : Next → Option Frame
next_frame Idle = None
next_frame (Sends frame u) = Some frame

abbrev pub after_next : Next → StationState → StationState
after_next Idle s = s
after_next (Sends frame u) s = u

-- a timer that is off is started
abbrev pub timer_started : Timer → Timer
timer_started Off = Fresh
timer_started Fresh = Fresh
timer_started On = On

-- a message with the number t is queued
abbrev pub has_message : StationState → Bool
has_message s = nat_lt (before_next s) (length s.out)

abbrev pub message_at_next : StationState → List ℕ
message_at_next s = slice_index_or s.out (before_next s) []

abbrev pub after_data : StationState → StationState
after_data s =
    record s {
      n = if s.t == next_number s.n then s.t else s.n;
      t = next_number s.t;
      reply = Quiet;
      timer = timer_started s.timer;
    }

abbrev pub is_ack : Owed → Bool
is_ack Ack = true
is_ack _ = false

-- Running: the first of these that applies. A NAK is pending; a REP is pending; a queued message
-- wasn't sent since the last NAK; or an ACK is pending, which data would have carried.
abbrev pub next_running : Owed → StationState → Next
next_running (Nak why) s = Sends (Naked why (resp_of s)) (record s { reply = Quiet })
next_running reply s =
    if s.rep then Sends (Rep s.n) (record s { rep = false; timer = Fresh })
    else if has_message s then Sends (Data (resp_of s) s.t (message_at_next s)) (after_data s)
    else if is_ack reply then Sends (Acked (resp_of s)) (record s { reply = Quiet })
    else Idle

abbrev pub next_maintenance : List (List ℕ) → StationState → Next
next_maintenance [] s = Idle
next_maintenance (message ∷ rest) s = Sends (Maint message) (record s { out = rest })

abbrev pub next_by : State → StationState → Next
next_by Halted s = Idle
next_by IStart s = if s.due then Sends Strt (record s { due = false; timer = Fresh }) else Idle
next_by AStart s = if s.due then Sends Stack (record s { due = false; timer = Fresh }) else Idle
next_by Running s = next_running s.reply s
next_by Maintenance s = next_maintenance s.out s

unfoldable pub next : StationState → Next
next s = next_by s.state s
