-- A link as its callers see it, and what each call does.
use Rattle.std.specs.Prelude.{ℕ, zero, suc, ◌+◌, ◌-◌, Bool, true, false, ◌&&◌, ◌||◌, not, nat_le}
use Rattle.std.specs.Prelude.{nat_lt}
use Rattle.std.specs.Prelude.{◌==◌, if◌then◌else◌, min, List, [], ◌∷◌, ◌++◌, length, drop, Option}
use Rattle.std.specs.Prelude.{Some, None, is_none, is_some, Result}
use Rattle.ddcmp_frame.specs.declared.codes.TheConstants.{NO_BUFFER_REASON}
use Rattle.ddcmp_frame.specs.declared.header.ControlType.{ControlType}
use Rattle.ddcmp_frame.specs.declared.header.ControlType.TheVariants as control
use Rattle.ddcmp_frame.specs.declared.header.Header.{Header}
use Rattle.ddcmp_frame.specs.declared.header.Header.TheVariants as header
use Rattle.ddcmp_frame.specs.Reader.{ReaderView, open_of}
use Rattle.ddcmp_window.specs.declared.sender.SendRefusal.{SendRefusal}
use Rattle.ddcmp_window.specs.Sender.{answer_unless}
use Rattle.ddcmp_core.specs.declared.notice.Notice.{Notice}
use Rattle.ddcmp_core.specs.Table.{Frame, Limits, StationState, is_ack, is_running, is_on}
use Rattle.ddcmp_core.specs.Table.{has_room}
use Rattle.ddcmp_core.specs.Table.{may_start, after_start, send_refusal, may_send, after_accept}
use Rattle.ddcmp_core.specs.Table.{after_take, next, next_frame, acknowledged_by}
use Rattle.ddcmp_core.specs.Table.{after_enter_maintenance, send_maintenance_refusal}
use Rattle.ddcmp_core.specs.Table.{may_send_maintenance}
use Rattle.ddcmp_core.specs.Core.{CoreView}
use Rattle.ddcmp_core.specs.Frames.{header_of}
use Rattle.ddcmp_proto.specs.Bytes.{after_poll}
use Rattle.ddcmp_proto.specs.Config.{core_made}
use Rattle.ddcmp_proto.specs.declared.config.Config.{Config}
use Rattle.ddcmp_proto.specs.Station.{StationView}
use Rattle.ddcmp_station.specs.Driving.{deadline_at, core_at_deadline, core_after_take_arm}
use Rattle.ddcmp_station.specs.Driving.{core_after_halt, frame_bytes}
use Rattle.ddcmp_station.specs.declared.link.Totals.{Totals}
use Rattle.ddcmp_station.specs.declared.outbox.TheConstants.{ROOM}

-- The bytes pending for the line, and how many more there is room for.
pub record OutboxView : Type 0 where
  pub waiting : List ℕ
  pub room : ℕ

abbrev pub no_bytes : OutboxView
no_bytes = record { waiting = []; room = ROOM }

-- once no byte is pending, all the room is free again
abbrev pub after_taken : ℕ → OutboxView → OutboxView
after_taken n o =
    record {
      waiting = drop n o.waiting;
      room = if n == length o.waiting then ROOM else o.room;
    }

abbrev pub after_put : List ℕ → OutboxView → OutboxView
after_put bytes o = record { waiting = o.waiting ++ bytes; room = o.room - length bytes }

-- A link: its station, the bytes pending for the line, the deadline of the timer, if it is set, how
-- many milliseconds after the start of the timer it is, and the totals.
pub record LinkView : Type 0 where
  pub station : StationView
  pub outbox : OutboxView
  pub deadline : Option ℕ
  pub milliseconds : ℕ
  pub totals : Totals

-- ---- totals

-- a total after n more: it stays at its largest value
abbrev pub total_plus : ℕ → ℕ → ℕ
total_plus total n = min (total + n) 18446744073709551615

abbrev pub no_totals : Totals
no_totals = record { read = 0; written = 0; sent = 0; acknowledged = 0; handed = 0 }

-- ---- calls of the station

abbrev pub with_core : CoreView → LinkView → LinkView
with_core k d = record d { station = record d.station { core = k } }

abbrev pub with_state : StationState → LinkView → LinkView
with_state s d = with_core (record d.station.core { station = s }) d

abbrev pub state_of : LinkView → StationState
state_of d = d.station.core.station

abbrev pub limits_in : LinkView → Limits
limits_in d = d.station.core.limits

-- start
abbrev pub started : StationState → StationState
started s = if may_start s then after_start s else s

-- enter_maintenance
abbrev pub entered : StationState → StationState
entered s = if may_start s then after_enter_maintenance s else s

-- the timer is handled as by `drive` at the beginning of a turn
abbrev pub after_wake : ℕ → LinkView → LinkView
after_wake now d = record d {
  station = record d.station {
    core = core_at_deadline now
        (deadline_at d.milliseconds now d.station.core.station.timer d.deadline)
        (core_after_take_arm d.station.core);
  };
  deadline = deadline_at d.milliseconds now d.station.core.station.timer d.deadline;
}

-- the moment when the timer is to be handled at the latest
abbrev pub moment_or_now : Option ℕ → ℕ
moment_or_now None = 0
moment_or_now (Some moment) = moment

abbrev pub wakes_at : LinkView → Option ℕ
wakes_at d =
    if is_on d.station.core.station.timer then Some (moment_or_now d.deadline) else None

-- whether a message of suitable length is accepted
abbrev pub takes_message : LinkView → Bool
takes_message d =
    is_running d.station.core.station.state
    && nat_lt (length d.station.core.station.out) d.station.core.limits.window

abbrev pub after_offered : List ℕ → LinkView → LinkView
after_offered message d =
    if may_send d.station.core.limits d.station.core.station message
    then record (with_state (after_accept d.station.core.station message) d) {
      totals = record d.totals { sent = total_plus d.totals.sent 1 };
    }
    else d

abbrev pub answer_to_offered : List ℕ → LinkView → Result (Unit {0}) SendRefusal
answer_to_offered message d =
    answer_unless (send_refusal d.station.core.limits d.station.core.station message) tt

-- the same in Maintenance
abbrev pub after_offered_maintenance : List ℕ → LinkView → LinkView
after_offered_maintenance message d =
    if may_send_maintenance d.station.core.limits d.station.core.station message
    then record (with_state (after_accept d.station.core.station message) d) {
      totals = record d.totals { sent = total_plus d.totals.sent 1 };
    }
    else d

abbrev pub answer_to_offered_maintenance : List ℕ → LinkView → Result (Unit {0}) SendRefusal
answer_to_offered_maintenance message d =
    answer_unless (send_maintenance_refusal d.station.core.limits d.station.core.station message)
    tt

-- ---- frames pending for the line

-- the frame that the station would send
abbrev pub frame_of_link : LinkView → Option Frame
frame_of_link d = next_frame (next d.station.core.station)

abbrev pub is_nak : ControlType → Bool
is_nak control.Nak = true
is_nak _ = false

abbrev pub is_nak_for_buffer : Header → Bool
is_nak_for_buffer (header.Control h) = is_nak h.kind && (h.sub == NO_BUFFER_REASON)
is_nak_for_buffer _ = false

-- The line is to be read while there is room for a received message, and while messages aren't
-- acknowledged: a user who takes no message before its own are acknowledged would wait for ever.
abbrev pub wants_bytes : Limits → StationState → Bool
wants_bytes l s = has_room l s || not (length s.out == 0)

-- A NAK 8 (no buffer) isn't sent before there is a buffer: while the line isn't to be read it is
-- held back, and so are the frames after it.
abbrev pub is_held_back : Option Frame → Limits → StationState → Bool
is_held_back None l s = false
is_held_back (Some f) l s = is_nak_for_buffer (header_of f) && not (wants_bytes l s)

abbrev pub holds_back : LinkView → Bool
holds_back d = is_held_back (frame_of_link d) d.station.core.limits d.station.core.station

-- whether the next frame carries a message
abbrev pub is_data : Header → Bool
is_data (header.Data h) = true
is_data _ = false

abbrev pub is_message : Option Frame → Bool
is_message None = false
is_message (Some f) = is_data (header_of f)

abbrev pub carries_message : LinkView → Bool
carries_message d = is_message (frame_of_link d)

-- whether the next frame is a NAK of a frame that came damaged or too long: neither one that
-- replies to a REP nor one that waits for a buffer
abbrev pub refuses_frame : Header → Bool
refuses_frame (header.Control h) =
    is_nak h.kind && (not (h.sub == 3) && not (h.sub == NO_BUFFER_REASON))
refuses_frame _ = false

abbrev pub is_refusal : Option Frame → Bool
is_refusal None = false
is_refusal (Some f) = refuses_frame (header_of f)

abbrev pub carries_refusal : LinkView → Bool
carries_refusal d = is_refusal (frame_of_link d)

-- whether an ACK is owed, or a message that carries it
abbrev pub owes_ack : LinkView → Bool
owes_ack d = is_ack d.station.core.station.reply

-- whether the next frame is a reply to a good one of the peer: an ACK, or a NAK that replies to a
-- REP
abbrev pub is_reply_of : ControlType → ℕ → Bool
is_reply_of control.Ack sub = true
is_reply_of control.Nak sub = sub == 3
is_reply_of _ sub = false

abbrev pub is_reply : Header → Bool
is_reply (header.Control h) = is_reply_of h.kind h.sub
is_reply _ = false

abbrev pub is_reply_frame : Option Frame → Bool
is_reply_frame None = false
is_reply_frame (Some f) = is_reply (header_of f)

-- The peer isn't done: a reply to it is pending, or a frame of it with a good header is unfinished.
abbrev pub is_needed : LinkView → Bool
is_needed d = is_reply_frame (frame_of_link d) || nat_le 8 (open_of d.station.line)

-- whether there is room for a frame of any length
abbrev pub fits : LinkView → Bool
fits d = nat_le (d.station.syn + d.station.core.limits.longest + 10) d.outbox.room

-- whether the station is polled, and whether it yields a frame then
abbrev pub polls : LinkView → Bool
polls d = fits d && not (holds_back d)

abbrev pub puts_frame : LinkView → Bool
puts_frame d = polls d && is_some (frame_of_link d)

abbrev pub after_polled : LinkView → LinkView
after_polled d = record (with_core (after_poll d.station.core) d) {
  outbox = after_put (frame_bytes d.station.syn (frame_of_link d)) d.outbox;
}

abbrev pub after_frame : LinkView → LinkView
after_frame d = if polls d then after_polled d else d

-- this many times one after another
unfoldable pub after_frames : ℕ → LinkView → LinkView
after_frames zero d = d
after_frames (suc n) d = after_frame (after_frames n d)

-- the line took this many bytes
abbrev pub after_sent : ℕ → LinkView → LinkView
after_sent n d = record d {
  outbox = after_taken n d.outbox;
  totals = record d.totals { written = total_plus d.totals.written n };
}

-- ---- received bytes

-- how many bytes of the line can be counted before it is cleared
abbrev pub countable : StationView → ℕ
countable v = 18446744073709551615 - v.line.offset

-- this many bytes were used, with this notice
abbrev pub totals_after_feed : ℕ → Option Notice → Totals → Totals
totals_after_feed used notice t =
    record t {
      read = total_plus t.read used;
      acknowledged = total_plus t.acknowledged (acknowledged_by notice);
    }

-- the first received message is taken
abbrev pub totals_after_take : List (List ℕ) → Totals → Totals
totals_after_take [] t = t
totals_after_take (message ∷ rest) t = record t { handed = total_plus t.handed 1 }

abbrev pub after_taking : LinkView → LinkView
after_taking d = record (with_state (after_take d.station.core.station) d) {
  totals = totals_after_take d.station.core.station.inbox d.totals;
}

-- ---- delivery and restarts

-- all accepted messages are acknowledged, and nothing is to be sent
abbrev pub delivered : LinkView → Bool
delivered d =
    length d.station.core.station.out == 0 && length d.outbox.waiting == 0
    && is_none (frame_of_link d)

-- the link is halted, its pending bytes are dropped, and it is started, if all received messages
-- were taken
abbrev pub anew : ReaderView → LinkView → LinkView
anew line d = record d {
  station = record {
    core = record d.station.core {
      station = started (core_after_halt d.station.core).station;
    };
    syn = d.station.syn;
    line = line;
  };
  outbox = no_bytes;
}

-- the same for maintenance
abbrev pub anew_for_maintenance : ReaderView → LinkView → LinkView
anew_for_maintenance line d = record d {
  station = record {
    core = record d.station.core {
      station = entered (core_after_halt d.station.core).station;
    };
    syn = d.station.syn;
    line = line;
  };
  outbox = no_bytes;
}

-- a new link, whose line has received no bytes
abbrev pub link_made : Config → ℕ → ReaderView → LinkView
link_made config milliseconds line = record {
  station = record { core = core_made config; syn = config.syn; line = line };
  outbox = no_bytes;
  deadline = None;
  milliseconds = milliseconds;
  totals = no_totals;
}
