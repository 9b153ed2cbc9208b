-- The state of a session, and what each call does to it.
use Rattle.std.specs.Prelude.{◌≡◌, ◌⊎◌, ℕ, zero, suc, ◌+◌, ◌-◌, ◌*◌, ◌<◌, Bool, true, false}
use Rattle.std.specs.Prelude.{◌&&◌, ◌||◌, not, ◌==◌, drop}
use Rattle.std.specs.Prelude.{nat_le, nat_lt}
use Rattle.std.specs.Prelude.{if◌then◌else◌, List, [], ◌∷◌, length, Some, None, is_some, is_ok}
use Rattle.std.specs.Prelude.{Option}
use Rattle.std.specs.Prelude.{option_to_list}
use Rattle.ddcmp_core.specs.Choosing.{after_choose}
use Rattle.ddcmp_core.specs.Table.{after_halt, answer_to_start, is_maintenance, is_running}
use Rattle.ddcmp_core.specs.declared.notice.Notice.{Notice}
use Rattle.ddcmp_input.specs.declared.entry.Entry.{Entry}
use Rattle.ddcmp_input.specs.declared.entry.Entry.TheVariants.{Message, NotHexadecimal}
use Rattle.ddcmp_input.specs.declared.entry.Entry.TheVariants as entry
use Rattle.ddcmp_frame.specs.Reader.{ReaderView}
use Rattle.ddcmp_station.specs.Driving.{expires_at}
use Rattle.ddcmp_window.specs.Store.{first_message}
use Rattle.ddcmp_station.specs.Linking.{LinkView, link_made, takes_message, after_offered, anew}
use Rattle.ddcmp_station.specs.Linking.{after_taking, with_state}
use Rattle.ddcmp_station.specs.Linking.{delivered, puts_frame, carries_message, after_wake}
use Rattle.ddcmp_station.specs.Linking.{anew_for_maintenance, after_offered_maintenance, state_of}
use Rattle.ddcmp_station.specs.Linking.{carries_refusal, owes_ack, totals_after_feed, wants_bytes}
use Rattle.ddcmp_station.specs.declared.link.Totals.{Totals}
use Rattle.ddcmp_session.specs.declared.course.Course.{Course}
use Rattle.ddcmp_session.specs.declared.course.start.Unstarted.{Unstarted}
use Rattle.ddcmp_session.specs.declared.course.Wrong.{Wrong}
use Rattle.ddcmp_session.specs.declared.course.Wrong.TheVariants.{Damaged, TooLong}
use Rattle.ddcmp_streams.specs.declared.messages.MessageForm.{MessageForm}
use Rattle.ddcmp_streams.specs.declared.messages.MessageForm.TheVariants as form
use Rattle.ddcmp_streams.specs.declared.messages.Messages.{Messages}
use Rattle.ddcmp_streams.specs.declared.messages.Messages.TheVariants.{Digits, Binary, Events}
use Rattle.ddcmp_streams.specs.declared.messages.Messages.TheVariants.{EventLines}
use Rattle.ddcmp_io.specs.LineKinds.{is_connection}
use Rattle.ddcmp_io.specs.declared.line_kind.LineKind.{LineKind}
use Rattle.ddcmp_io.specs.declared.line_kind.LineKind.TheVariants.{Device}
use Rattle.ddcmp_streams.specs.declared.options.Options.{Options}
use Rattle.ddcmp_streams.specs.Options.{report_ms, speed_of, takes_at_once}
use Rattle.ddcmp_session.specs.declared.text.TheConstants.{LINE_ROOM, LOST_ROOM, NOTICES_ROOM}
use Rattle.ddcmp_session.specs.Course.{course_begun, after_connecting, after_moment, after_pauses}
use Rattle.ddcmp_session.specs.Course.{after_entering, lost_more, one_ready}
use Rattle.ddcmp_session.specs.Course.{after_awaited, after_looked, after_notices, after_unheard}
use Rattle.ddcmp_session.specs.Course.{after_unstarted, after_writing, expiry_counted, has_asked}
use Rattle.ddcmp_session.specs.Course.{after_refusals_told, heard_here, start_counted, unstarted}
use Rattle.ddcmp_core.specs.declared.counters.NakCounts.{NakCounts}
use Rattle.ddcmp_streams.specs.Messages.{has_events, messages_begun, message_in, after_input}
use Rattle.ddcmp_streams.specs.Messages.{entries_of_input, after_last, entry_of_last}
use Rattle.ddcmp_streams.specs.Messages.{is_message_unfinished, is_question, count_of}
use Rattle.ddcmp_streams.specs.Messages.{command_in, has_last_line, messages_among}
use Rattle.ddcmp_streams.specs.declared.messages.Command.{Command}
use Rattle.ddcmp_streams.specs.declared.messages.Command.TheVariants.{Ready, Restart, Report, Quit}
use Rattle.ddcmp_streams.specs.declared.messages.Command.TheVariants.{Halt, Start, Unknown}
use Rattle.ddcmp_session.specs.declared.session.TheConstants.{OUTPUT_ROOM}
use Rattle.ddcmp_io.specs.Queue.{QueueView, after_taken as output_taken, no_bytes}

-- The options and the kind of line; the link, whether it has a line, and how the run proceeds; what
-- was read of the input so far, whether all of it was, and whether a part of it was refused; the
-- bytes queued for standard output; and how many received messages, from the first on, have their
-- text among these or written, and aren't taken from the link.
pub record SessionView : Type 0 where
  pub options : Options
  pub kind : LineKind
  pub link : LinkView
  pub has_line : Bool
  pub course : Course
  pub messages : Messages
  pub is_read : Bool
  pub was_refused : Bool
  pub output : QueueView
  pub unwritten : ℕ

abbrev pub form_of : Messages → MessageForm
form_of (Digits v) = form.Digits
form_of (Binary v) = form.Binary
form_of (Events v) = form.Events
form_of (EventLines v) = form.EventLines

-- A new link acknowledges messages when they are taken, unless each is taken at once.
abbrev pub link_begun : Options → ReaderView → LinkView
link_begun options line =
    let made = link_made options.config options.timer_ms line in
    with_state (after_choose (not (takes_at_once options)) (state_of made)) made

-- a new session, whose line has received no bytes
abbrev pub session_made : Options → LineKind → ReaderView → SessionView
session_made options kind line = record {
  options = options;
  kind = kind;
  link = link_begun options line;
  has_line = false;
  course = course_begun (report_ms options);
  messages = messages_begun options.form options.config.max;
  is_read = false;
  was_refused = false;
  output = no_bytes (OUTPUT_ROOM + NOTICES_ROOM + 2 * (2 * options.config.max + LINE_ROOM));
  unwritten = 0;
}

-- ---- data messages, numbered and acknowledged, or maintenance messages, neither

-- all accepted messages were written to the line
abbrev pub has_gone : LinkView → Bool
has_gone d = length d.station.core.station.out == 0 && length d.outbox.waiting == 0

-- A maintenance message is accepted once all before it were written to the line.
abbrev pub takes_in : Bool → LinkView → Bool
takes_in maintenance d =
    if maintenance then is_maintenance (state_of d).state && has_gone d else takes_message d

abbrev pub after_offered_in : Bool → List ℕ → LinkView → LinkView
after_offered_in maintenance message d =
    if maintenance then after_offered_maintenance message d else after_offered message d

abbrev pub anew_in : Bool → ReaderView → LinkView → LinkView
anew_in maintenance line d =
    if maintenance then anew_for_maintenance line d else anew line d

abbrev pub after_connecting_in : Bool → Bool → Course → Course
after_connecting_in maintenance starts c =
    if maintenance then after_entering starts c else after_connecting c

-- how many messages are lost with a line: those that aren't acknowledged, or the maintenance
-- message that isn't written yet
abbrev pub lost_in : Bool → LinkView → ℕ
lost_in maintenance d =
    if maintenance then (if has_gone d then 0 else 1) else length d.station.core.station.out

-- ---- the input

-- No messages can be sent, since the station doesn't run.
abbrev pub is_idle : SessionView → Bool
is_idle s = not s.options.maintenance && not (is_running (state_of s.link).state)

abbrev pub has_commands : Messages → Bool
has_commands m = has_events (form_of m)

-- Once it has run, commands are read meanwhile, up to the one that acknowledges the next event.
abbrev pub reads_commands : SessionView → Bool
reads_commands s =
    has_commands s.messages && (is_idle s && (s.course.has_run && not s.course.ready_ahead))

abbrev pub wants_input : SessionView → Bool
wants_input s =
    not s.is_read && (takes_in s.options.maintenance s.link || reads_commands s)

-- Its end is accepted if a message is, and once the station has run also if there is no last line.
abbrev pub takes_end : SessionView → Bool
takes_end s =
    not s.is_read
    && (takes_in s.options.maintenance s.link
    || (s.course.has_run && not (has_last_line s.messages)))

-- With events in the output, messages are refused until each event that begins an incarnation is
-- acknowledged, once the line is to be left, and while the station doesn't run.
abbrev pub is_barred : Messages → Course → Bool
is_barred (Digits v) c = false
is_barred (Binary v) c = false
is_barred (Events v) c = c.leaves || nat_lt 0 c.unready
is_barred (EventLines v) c = c.leaves || nat_lt 0 c.unready

abbrev pub is_held : SessionView → Bool
is_held s = is_barred s.messages s.course || (has_commands s.messages && is_idle s)

abbrev pub after_message : Bool → SessionView → SessionView
after_message true s = record s { course = lost_more 1 s.course }
after_message false s = record s {
  link = after_offered_in s.options.maintenance (message_in s.messages) s.link;
}

-- A command that is no known one is refused.
abbrev pub after_command : Command → SessionView → SessionView
after_command Ready s = record s { course = one_ready (is_idle s) s.course }
after_command Restart s = record s { course = record s.course { leaves = true } }
after_command Halt s = record s { course = record s.course { leaves = true; halted = true } }
after_command Start s = record s { course = record s.course { halted = false } }
after_command Report s = s
after_command Quit s = record s { is_read = true; course = record s.course { quits = true } }
after_command Unknown s = record s { was_refused = true }

-- A message is sent, or lost if it is refused so, and a line `?` asks for a report; a command is
-- obeyed; any other part is refused.
abbrev pub after_entry : Entry → SessionView → SessionView
after_entry Message s = after_message (is_held s) s
after_entry entry.Command s = after_command (command_in s.messages) s
after_entry NotHexadecimal s =
    record s { was_refused = if is_question s.messages then s.was_refused else true }
after_entry _ s = record s { was_refused = true }

abbrev pub after_entries : List Entry → SessionView → SessionView
after_entries [] s = s
after_entries (entry ∷ rest) s = after_entry entry s

-- bytes of the input, up to the first that completes something
abbrev pub after_input_read : List ℕ → SessionView → SessionView
after_input_read bytes s = after_entries (entries_of_input bytes s.messages)
    (record s { messages = after_input bytes s.messages })

-- the end of the input: that of a last line, or within a message in binary, which is refused
abbrev pub after_unfinished : SessionView → SessionView
after_unfinished s =
    if is_message_unfinished s.messages then record s { was_refused = true } else s

abbrev pub after_last_line : SessionView → SessionView
after_last_line s = after_entries (option_to_list (entry_of_last s.messages))
    (record s { messages = after_last s.messages; is_read = true })

abbrev pub after_input_end : SessionView → SessionView
after_input_end s = if takes_end s then after_unfinished (after_last_line s) else s

-- ---- the line

-- there is a line that is to be read, and room for a notice and the lines with it
abbrev pub wants_line : SessionView → Bool
wants_line s =
    s.has_line
    && wants_bytes s.link.station.core.limits s.link.station.core.station
    && nat_le LINE_ROOM s.output.room

-- the room in which a message of any length is delivered; what it leaves is for notices
abbrev pub room_for_mail : SessionView → ℕ
room_for_mail s = 2 * s.link.station.core.limits.longest + LINE_ROOM + NOTICES_ROOM

-- The next frame carries a message, and messages are held back since the peer refuses them. One
-- that carries an ACK isn't, since no ACK goes before it. Or it is a NAK that is held back.
abbrev pub is_paused : SessionView → Bool
is_paused s =
    (is_some s.course.pause && carries_message s.link && not (owes_ack s.link))
    || (is_some s.course.nak_pause && carries_refusal s.link)

-- bytes are queued for the line, or there is no frame to send, or only one that is held back
abbrev pub IsFilled : SessionView → Type 0
IsFilled s =
    (0 < length s.link.outbox.waiting) ⊎ (puts_frame s.link ≡ false) ⊎ (is_paused s ≡ true)

-- how many accepted messages are lost if the line ends
abbrev pub lost_by_end : SessionView → ℕ
lost_by_end s = if s.has_line then lost_in s.options.maintenance s.link else 0

-- the output has room to report a loss
abbrev pub reports_loss : SessionView → Bool
reports_loss s = nat_le LOST_ROOM s.output.room

-- and how the line ended, if events are among the messages
abbrev pub reports_end : SessionView → Bool
reports_end s =
    nat_le (if has_events (form_of s.messages) then LINE_ROOM else LOST_ROOM) s.output.room

-- A telnet line begins with IAC WILL or IAC DO.
abbrev pub begins_telnet : List ℕ → Bool
begins_telnet (first ∷ second ∷ rest) = first == 255 && (second == 251 || second == 253)
begins_telnet _ = false

-- such bytes are the first of this line
abbrev pub is_telnet : List ℕ → SessionView → Bool
is_telnet bytes s = heard_here s.course == 0 && begins_telnet bytes

-- ---- received messages and the output

-- the first message whose text isn't queued yet
abbrev pub next_mail : SessionView → Option (List ℕ)
next_mail s = first_message (drop s.unwritten s.link.station.core.station.inbox)

-- this many messages are taken, one after another
unfoldable pub after_takes : ℕ → LinkView → LinkView
after_takes zero d = d
after_takes (suc n) d = after_taking (after_takes n d)

-- this many messages, whose text is queued, are taken
abbrev pub with_taken : ℕ → SessionView → SessionView
with_taken n s = record s { link = after_takes n s.link; unwritten = s.unwritten - n }

-- the text of one more message is queued
abbrev pub one_queued : SessionView → SessionView
one_queued s = record s { unwritten = s.unwritten + 1 }

-- how many messages are taken then
abbrev pub taken_at_once : SessionView → ℕ
taken_at_once s = if takes_at_once s.options then s.unwritten + 1 else 0

abbrev pub after_queued : SessionView → SessionView
after_queued s = with_taken (taken_at_once s) (one_queued s)

-- The output takes this many bytes. Once it has taken all of them, each message whose text is among
-- them is taken from the link.
abbrev pub taken_when_written : ℕ → SessionView → ℕ
taken_when_written n s = if nat_le (length s.output.waiting) n then s.unwritten else 0

abbrev pub after_output : ℕ → SessionView → SessionView
after_output n s =
    record (with_taken (taken_when_written n s) s) { output = output_taken n s.output }

-- all queued output was written, and the messages in it are taken
abbrev pub is_written : SessionView → Bool
is_written s = length s.output.waiting == 0 && s.unwritten == 0

-- Received messages aren't taken yet, and the peer waits until they are acknowledged.
abbrev pub is_awaited : SessionView → Bool
is_awaited s =
    not (takes_at_once s.options) && nat_lt 0 (length s.link.station.core.station.inbox)

-- ---- the line is opened and its timers are handled

-- A session that is connected starts if all received messages were delivered. If not, messages
-- unacknowledged on the line before are lost once it starts, or when this line ends.
abbrev pub starts : SessionView → Bool
starts s = is_ok (answer_to_start (after_halt s.link.station.core.station))

-- how many accepted messages are lost by a start: those of a line that hasn't ended
abbrev pub lost_by_start : SessionView → ℕ
lost_by_start s = if starts s then lost_by_end s else 0

abbrev pub after_connected : ReaderView → SessionView → SessionView
after_connected line s = record s {
  link = anew_in s.options.maintenance line s.link;
  has_line = starts s || s.has_line;
  course =
      after_connecting_in s.options.maintenance (starts s)
      (lost_more (lost_by_start s) s.course);
}

-- the reply timer expires
abbrev pub expires : ℕ → SessionView → Bool
expires now s =
    expires_at s.link.milliseconds now s.link.station.core.station.timer s.link.deadline

-- no peer has started yet: on a line that is no connection it may start at any time, unless a
-- number of tries is set
abbrev pub awaits_peer : SessionView → Bool
awaits_peer s =
    s.options.attempts == 4294967295
    && (not (is_connection s.kind) && not s.course.peer_has_started)

-- a moment passed without a line
abbrev pub after_time : ℕ → SessionView → SessionView
after_time now s = record s { course = after_moment (report_ms s.options) now s.course }

abbrev pub is_device : LineKind → Bool
is_device Device = true
is_device _ = false

-- A serial device has bytes of this end underway, or took some since the last expiry and is to take
-- more.
abbrev pub is_sending : SessionView → Bool
is_sending s =
    is_device s.kind
    && (nat_lt s.course.moment s.course.sends_until
    || (not (length s.link.outbox.waiting == 0)
    && not (s.course.written == s.course.written_then)))

-- A running station whose line isn't read doesn't hear its peer.
abbrev pub is_deaf : SessionView → Bool
is_deaf s = is_running s.link.station.core.station.state && not (wants_line s)

-- An expiry counts as a try if a peer is there, has all that was sent, and is heard.
unfoldable pub course_tried : SessionView → Course
course_tried s =
    if is_sending s || is_deaf s
    then s.course
    else expiry_counted (is_running s.link.station.core.station.state) s.is_read s.course

abbrev pub after_tried : Bool → SessionView → SessionView
after_tried has_expired s = record s {
  course =
      if has_expired && not (awaits_peer s)
      then record (course_tried s) { written_then = s.course.written }
      else s.course;
}

-- While the line isn't read the peer isn't heard. While it waits for an acknowledgement it isn't
-- quiet.
abbrev pub unless_read : SessionView → SessionView
unless_read s = record s {
  course = if wants_line s then after_awaited (is_awaited s) s.course else after_unheard s.course;
}

abbrev pub timed_out : ℕ → SessionView → SessionView
timed_out now s = after_tried (expires now s) (record s {
  link = after_wake now s.link;
  course =
      after_writing (speed_of s.options) s.link.totals.written
      (after_pauses (after_moment (report_ms s.options) now s.course));
})

-- What the peer sends wrong is reported once for each kind: its messages are too long, or for so
-- long that NAKs are held back for as long as the reply timer all that it sends is damaged.
abbrev pub has_too_long : SessionView → Bool
has_too_long s = nat_lt 0 s.link.station.core.counters.too_longs

abbrev pub has_damaged : SessionView → Bool
has_damaged s =
    not (has_too_long s)
    && (is_some s.course.nak_pause && nat_le s.options.timer_ms s.course.nak_pause_ms)

abbrev pub untold : SessionView → Option Wrong
untold s =
    if has_too_long s && not s.course.told_too_long then Some TooLong
    else if has_damaged s && not s.course.told_damaged then Some Damaged
    else None

abbrev pub after_telling : SessionView → SessionView
after_telling s = record s {
  course = record s.course {
    told_too_long = s.course.told_too_long || has_too_long s;
    told_damaged = s.course.told_damaged || has_damaged s;
  };
}

-- a STRT was sent, and has no reply when the timer expires
abbrev pub counts_start : Bool → SessionView → Bool
counts_start has_expired s = has_expired && has_asked (state_of s.link).state

abbrev pub course_at_start : Bool → SessionView → Course
course_at_start has_expired s = start_counted (counts_start has_expired s) s.course

-- what is reported then of a peer that doesn't start
abbrev pub unstarted_now : Bool → SessionView → Option Unstarted
unstarted_now has_expired s =
    if counts_start has_expired s then unstarted (course_at_start has_expired s) else None

abbrev pub after_start : Bool → SessionView → SessionView
after_start has_expired s = record s {
  course = after_unstarted (unstarted_now has_expired s) (course_at_start has_expired s);
}

-- the NAKs that were received
abbrev pub refusals_of : SessionView → NakCounts
refusals_of s = s.link.station.core.counters.nak_received

abbrev pub after_refusals : SessionView → SessionView
after_refusals s = record s { course = after_refusals_told (refusals_of s) s.course }

-- what is to be reported of the peer was reported
abbrev pub after_told : Bool → SessionView → SessionView
after_told has_expired s = after_refusals (after_telling (after_start has_expired s))

abbrev pub after_timeout : ℕ → SessionView → SessionView
after_timeout now s = unless_read (after_told (expires now s) (timed_out now s))

-- the course after bytes of the line were used, with the link after that and their notices
abbrev pub course_received : SessionView → LinkView → List Notice → Course
course_received s link notices =
    if wants_line s
    then after_notices notices
    (after_looked s.options.timer_ms s.link.station.core.counters.nak_received link s.course)
    else s.course

-- the totals after this number of bytes of the line was used, with their notices, of which there is
-- at most one
abbrev pub totals_received : ℕ → List Notice → Totals → Totals
totals_received used [] t = totals_after_feed used None t
totals_received used (notice ∷ rest) t = totals_after_feed used (Some notice) t

-- ---- the end

-- all of the input was read, and its messages are acknowledged, or written to the line if these are
-- maintenance messages
abbrev pub is_delivered : SessionView → Bool
is_delivered s = s.is_read && delivered s.link

-- how many messages are lost with bytes of the input that the session hasn't read when the run ends
abbrev pub lost_among : List ℕ → SessionView → ℕ
lost_among bytes s = messages_among (entries_of_input bytes s.messages)

-- and with its last line, if these are the last bytes
abbrev pub lost_with_last : Bool → Messages → ℕ
lost_with_last is_at_end m =
    if is_at_end then count_of (entry_of_last m) else 0

abbrev pub lost_at_end : List ℕ → Bool → SessionView → ℕ
lost_at_end bytes is_at_end s =
    if s.is_read then 0 else lost_with_last is_at_end (after_input bytes s.messages)
