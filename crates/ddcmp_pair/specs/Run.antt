-- Two ends on a line: what each event does, its reply, and the histories of both ends since the
-- line was cleared.
use Rattle.std.specs.Prelude.{ℕ, ◌+◌, Bool, true, false, ◌&&◌, if◌then◌else◌, nat_le, nat_lt, ◌==◌}
use Rattle.std.specs.Prelude.{List, [], ◌∷◌, ◌++◌, length, sum_by, Option, Some, None, is_some}
use Rattle.std.specs.Prelude.{option_map, option_to_list, Result, Ok, Err}
use Rattle.ddcmp_frame.specs.Reading.{good_frames}
use Rattle.ddcmp_core.specs.Store.{first_message}
use Rattle.ddcmp_core.specs.declared.notice.Notice.{Notice}
use Rattle.ddcmp_core.specs.declared.notice.Notice.TheVariants as notice
use Rattle.ddcmp_core.specs.declared.station_core.StartRefusal.{StartRefusal}
use Rattle.ddcmp_core.specs.declared.station_core.StartRefusal.TheVariants.{NotHalted, Untaken}
use Rattle.ddcmp_core.specs.SendRefusal.{SendRefusal}
use Rattle.ddcmp_core.specs.Seq.{Seq}
use Rattle.ddcmp_core.specs.Table.{StationState, Frame, is_halted, may_start, after_start}
use Rattle.ddcmp_core.specs.Table.{answer_to_start, after_halt, may_send, after_accept}
use Rattle.ddcmp_core.specs.Table.{answer_to_send, after_take, after_expire, is_on, next}
use Rattle.ddcmp_core.specs.Table.{next_frame, acknowledged_by}
use Rattle.ddcmp_core.specs.Frames.{header_of, message_of}
use Rattle.ddcmp_core.specs.Counting.{count_plus, counters_after_expire}
use Rattle.ddcmp_core.specs.Core.{CoreView}
use Rattle.ddcmp_proto.specs.Bytes.{after_piece, notices_of_piece, frame_on_line, after_poll}
use Rattle.ddcmp_proto.specs.Config.{core_made}
use Rattle.ddcmp_proto.specs.declared.config.Config.{Config}
use Rattle.ddcmp_io.specs.declared.carrier.End.{End}
use Rattle.ddcmp_io.specs.declared.carrier.End.TheVariants.{A, B}
use Rattle.ddcmp_pair.specs.declared.event.Event.{Event}
use Rattle.ddcmp_pair.specs.declared.event.Event.TheVariants as event
use Rattle.ddcmp_pair.specs.declared.event.Reply.{Reply}
use Rattle.ddcmp_pair.specs.declared.event.Reply.TheVariants as reply
use Rattle.ddcmp_pair.specs.Place.{WholeFrame, place_of}

-- ---- the two ends

-- One end: its station and the SYN fill before each of its frames; and since the line was cleared
-- the messages that it accepted, those that its user took, the frames that it sent, the bytes that
-- arrived, how many messages it reported acknowledged, and how often it was started, or restarted
-- with its peer, up to the largest value of a counter.
pub record EndState : Type 0 where
  pub core : CoreView
  pub syn : ℕ
  pub given : List (List ℕ)
  pub taken : List (List ℕ)
  pub sent : List WholeFrame
  pub arrived : List ℕ
  pub acknowledged : ℕ
  pub starts : ℕ

-- Both ends, and whether each arrival was honest when it happened.
pub record PairState : Type 0 where
  pub a : EndState
  pub b : EndState
  pub honest : Bool

abbrev pub at : End → PairState → EndState
at A p = p.a
at B p = p.b

-- delivered: taken by the user, or still in the inbox
abbrev pub handed_up : EndState → List (List ℕ)
handed_up x = x.taken ++ x.core.station.inbox

-- ---- what was reported

abbrev pub acknowledged_in : List Notice → ℕ
acknowledged_in notices = sum_by (λ n. acknowledged_by (Some n)) notices

abbrev pub restarts_by : Notice → ℕ
restarts_by (notice.Restarted dropped) = 1
restarts_by _ = 0

abbrev pub restarts_in : List Notice → ℕ
restarts_in notices = sum_by restarts_by notices

-- ---- what an event does to the end where it happens

-- the header and the data of a frame
abbrev pub whole_frame : Frame → WholeFrame
whole_frame f = (header_of f, message_of f)

abbrev pub frames_polled : EndState → List WholeFrame
frames_polled x = option_to_list (option_map whole_frame (next_frame (next x.core.station)))

abbrev pub notices_at : List ℕ → EndState → List Notice
notices_at bytes x = notices_of_piece x.arrived bytes x.core

abbrev pub with_station : StationState → EndState → EndState
with_station s x = record x { core = record x.core { station = s } }

abbrev pub after_start_here : EndState → EndState
after_start_here x =
    record (with_station (if may_start x.core.station then after_start x.core.station
    else x.core.station) x) {
      starts = if may_start x.core.station then count_plus x.starts 1 else x.starts;
    }

abbrev pub after_halt_here : EndState → EndState
after_halt_here x = with_station (after_halt x.core.station) x

abbrev pub after_send_here : List ℕ → EndState → EndState
after_send_here message x =
    record (with_station (if may_send x.core.limits x.core.station message
    then after_accept x.core.station message else x.core.station) x) {
      given = if may_send x.core.limits x.core.station message then x.given ++ message ∷ []
          else x.given;
    }

abbrev pub after_poll_here : EndState → EndState
after_poll_here x = record x { core = after_poll x.core; sent = x.sent ++ frames_polled x }

abbrev pub after_arrival_here : List ℕ → EndState → EndState
after_arrival_here bytes x = record x {
  core = after_piece x.arrived bytes x.core;
  arrived = x.arrived ++ bytes;
  acknowledged = x.acknowledged + acknowledged_in (notices_at bytes x);
  starts = count_plus x.starts (restarts_in (notices_at bytes x));
}

abbrev pub after_expire_here : EndState → EndState
after_expire_here x = record x {
  core = record x.core {
    station = after_expire x.core.station;
    counters = counters_after_expire x.core.station x.core.counters;
  };
}

abbrev pub after_take_here : EndState → EndState
after_take_here x =
    record (with_station (after_take x.core.station) x) {
      taken = x.taken ++ option_to_list (first_message x.core.station.inbox);
    }

abbrev pub after_event_here : Event → EndState → EndState
after_event_here (event.Start e) x = after_start_here x
after_event_here (event.Halt e) x = after_halt_here x
after_event_here (event.Send e message) x = after_send_here message x
after_event_here (event.Poll e) x = after_poll_here x
after_event_here (event.Arrive e bytes) x = after_arrival_here bytes x
after_event_here (event.Expire e) x = after_expire_here x
after_event_here (event.Take e) x = after_take_here x
after_event_here event.Clear x = x

-- An arrival is honest if all good frames that have arrived at this end by then are, in their
-- order, among those that the other end had sent.
abbrev pub is_honest_here : Event → EndState → List WholeFrame → Bool
is_honest_here (event.Arrive e bytes) x sent =
    is_some (place_of (good_frames x.core.limits.longest (x.arrived ++ bytes)) sent)
is_honest_here _ x sent = true

-- ---- its reply

abbrev pub started : Result ℕ StartRefusal → Reply
started (Ok dropped) = reply.Started dropped
started (Err refusal) = reply.StartRefused refusal

abbrev pub accepted : Result Seq SendRefusal → Reply
accepted (Ok number) = reply.Accepted number
accepted (Err refusal) = reply.SendRefused refusal

abbrev pub wrote : Option (List ℕ) → Reply
wrote None = reply.Idle
wrote (Some bytes) = reply.Wrote bytes

abbrev pub took : Option (List ℕ) → Reply
took None = reply.Nothing
took (Some message) = reply.Took message

-- the bytes of the frame that this end sends next
abbrev pub line_bytes : EndState → Option (List ℕ)
line_bytes x = option_map (frame_on_line x.syn) (next_frame (next x.core.station))

abbrev pub reply_here : Event → EndState → Reply
reply_here (event.Start e) x = started (answer_to_start x.core.station)
reply_here (event.Halt e) x = reply.Halted
reply_here (event.Send e message) x =
    accepted (answer_to_send x.core.limits x.core.station message)
reply_here (event.Poll e) x = wrote (line_bytes x)
reply_here (event.Arrive e bytes) x = reply.Notices (notices_at bytes x)
reply_here (event.Expire e) x = reply.Expired (is_on x.core.station.timer)
reply_here (event.Take e) x = took (first_message x.core.station.inbox)
reply_here event.Clear x = reply.Nothing

-- ---- the line is cleared

-- Why the line isn't cleared: an end isn't halted, or an inbox isn't empty.
abbrev pub clear_refusal : PairState → Option StartRefusal
clear_refusal p =
    if is_halted p.a.core.station.state && is_halted p.b.core.station.state
    then (if length p.a.core.station.inbox == 0 && length p.b.core.station.inbox == 0 then None
    else Some Untaken)
    else Some NotHalted

-- all histories restart empty; the numbers of a halted end stay
abbrev pub cleared : EndState → EndState
cleared x = record {
  core = x.core;
  syn = x.syn;
  given = [];
  taken = [];
  sent = [];
  arrived = [];
  acknowledged = 0;
  starts = 0;
}

abbrev pub after_clear_by : Option StartRefusal → PairState → PairState
after_clear_by (Some refusal) p = p
after_clear_by None p = record { a = cleared p.a; b = cleared p.b; honest = true }

abbrev pub reply_to_clear : Option StartRefusal → Reply
reply_to_clear (Some refusal) = reply.ClearRefused refusal
reply_to_clear None = reply.Cleared

-- ---- an event, and a run of events

-- the end where an event happens; Clear concerns both
abbrev pub end_of : Event → Option End
end_of (event.Start e) = Some e
end_of (event.Halt e) = Some e
end_of (event.Send e message) = Some e
end_of (event.Poll e) = Some e
end_of (event.Arrive e bytes) = Some e
end_of (event.Expire e) = Some e
end_of (event.Take e) = Some e
end_of event.Clear = None

abbrev pub after_event_at : Option End → Event → PairState → PairState
after_event_at (Some A) e p = record {
  a = after_event_here e p.a;
  b = p.b;
  honest = is_honest_here e p.a p.b.sent && p.honest;
}
after_event_at (Some B) e p = record {
  a = p.a;
  b = after_event_here e p.b;
  honest = is_honest_here e p.b p.a.sent && p.honest;
}
after_event_at None e p = after_clear_by (clear_refusal p) p

-- a pair after an event
unfoldable pub after_event : Event → PairState → PairState
after_event e p = after_event_at (end_of e) e p

abbrev pub reply_at : Option End → Event → PairState → Reply
reply_at (Some A) e p = reply_here e p.a
reply_at (Some B) e p = reply_here e p.b
reply_at None e p = reply_to_clear (clear_refusal p)

-- the reply to an event
unfoldable pub reply_to : Event → PairState → Reply
reply_to e p = reply_at (end_of e) e p

-- a run: one event after another
unfoldable pub run : List Event → PairState → PairState
run [] p = p
run (e ∷ rest) p = run rest (after_event e p)

-- ---- the beginning, and clean runs

abbrev pub new_end : Config → EndState
new_end config = record {
  core = core_made config;
  syn = config.syn;
  given = [];
  taken = [];
  sent = [];
  arrived = [];
  acknowledged = 0;
  starts = 0;
}

abbrev pub new_pair : Config → Config → PairState
new_pair first second = record { a = new_end first; b = new_end second; honest = true }

-- A run is clean if, since the line was cleared, neither end started twice; a restart counts as a
-- start.
abbrev pub is_clean : PairState → Bool
is_clean p = nat_le p.a.starts 1 && nat_le p.b.starts 1

-- ---- which events allocate: those that record or return something

abbrev pub asks_here : Event → EndState → Bool
asks_here (event.Send e message) x = may_send x.core.limits x.core.station message
asks_here (event.Poll e) x = is_some (next_frame (next x.core.station))
asks_here (event.Arrive e bytes) x = nat_lt 0 (length bytes)
asks_here (event.Take e) x = nat_lt 0 (length x.core.station.inbox)
asks_here _ x = false

abbrev pub asks_at : Option End → Event → PairState → Bool
asks_at (Some A) e p = asks_here e p.a
asks_at (Some B) e p = asks_here e p.b
asks_at None e p = false

unfoldable pub asks_memory : Event → PairState → Bool
asks_memory e p = asks_at (end_of e) e p
