-- The calls of a session: what each does by its contract, and the history of a session.
use Rattle.std.specs.Prelude.{◌≡◌, ◌||◌, ℕ, Bool, true, false, if◌then◌else◌, List, [], ◌∷◌, ◌++◌}
use Rattle.std.specs.Prelude.{map, take, Some, option_to_list}
use Rattle.ddcmp_core.specs.Table.{after_halt}
use Rattle.ddcmp_core.specs.declared.notice.Notice.{Notice}
use Rattle.ddcmp_frame.specs.Reader.{ReaderView}
use Rattle.ddcmp_proto.specs.Bytes.{notices_of_piece, after_piece}
use Rattle.ddcmp_station.specs.Linking.{after_frames, after_sent}
use Rattle.ddcmp_station.specs.Linking.{with_state}
use Rattle.ddcmp_streams.specs.declared.messages.MessageForm.{MessageForm}
use Rattle.ddcmp_streams.specs.declared.messages.MessageForm.TheVariants.{Digits, Binary, Events}
use Rattle.ddcmp_streams.specs.declared.messages.MessageForm.TheVariants.{EventLines}
use Rattle.ddcmp_streams.specs.declared.messages.Messages.{Messages}
use Rattle.ddcmp_streams.specs.Messages.{entries_of_input}
use Rattle.ddcmp_session.specs.Session.{SessionView, session_made, form_of, takes_end, wants_input}
use Rattle.ddcmp_session.specs.Session.{after_output, after_queued, next_mail, wants_line}
use Rattle.ddcmp_session.specs.Session.{after_input_read, after_input_end, lost_by_end, IsFilled}
use Rattle.ddcmp_session.specs.Course.{lost_more}
use Rattle.ddcmp_session.specs.declared.line_end.LineEnd.{LineEnd}
use Rattle.ddcmp_session.specs.Session.{after_connected, after_timeout, course_received}
use Rattle.ddcmp_session.specs.Session.{lost_among, lost_at_end}
use Rattle.ddcmp_io.specs.declared.line_kind.LineKind.{LineKind}
use Rattle.ddcmp_streams.specs.declared.options.Options.{Options}
use Rattle.ddcmp_session.specs.Text.{Wrote, mail_text, notices_text, reported_end, reported_lost}
use Rattle.ddcmp_session.specs.Timing.{PassesTime}

-- A call of a session, by its name. Its fields are the bytes of the input or of the line that it
-- used, how many frames it put, how many bytes a device took, the moment that it was passed,
-- whether it delivered a message, or the rest of the input, and whether that rest ends it.
-- `TimePassed` is any call made while there is no line. Of the other calls `write_end` appends the
-- last lines of a run to an output of lines; they change nothing else of a session's state.
pub data SessionCall : Type 0 where
  InputRead : (used : List ℕ) → SessionCall
  InputEnded : SessionCall
  Connected : SessionCall
  LineEnded : (how : LineEnd) (is_reported : Bool) → SessionCall
  Received : (used : List ℕ) → SessionCall
  Filled : (frames : ℕ) → SessionCall
  LineTook : (n : ℕ) → SessionCall
  TimedOut : (now : ℕ) → SessionCall
  TimePassed : SessionCall
  Delivered : (has_mail : Bool) → SessionCall
  OutputTook : (n : ℕ) → SessionCall
  Closed : (left : List ℕ) (is_at_end is_reported : Bool) → SessionCall

-- ---- what each call does by its contract

-- bytes of the input, of which only the last may complete something
abbrev pub CompletesLast : List ℕ → Messages → Type 0
CompletesLast used m = (front : List ℕ) (byte : ℕ) → used ≡ front ++ byte ∷ []
    → entries_of_input front m ≡ []

pub record HasReadInput (used : List ℕ) (old new : SessionView) : Type 0 where
  pub state : new ≡ after_input_read used old
  pub wanted : wants_input old ≡ false → used ≡ []
  pub part : CompletesLast used old.messages

-- A text was written, and nothing else changed.
pub record HasWritten (text : List ℕ) (old new : SessionView) : Type 0 where
  pub wrote : Wrote text old.output new.output
  pub stays : new ≡ record old { output = new.output }

-- Bytes of the line were used after this text, and their notices were written.
pub record HasReceived (text used : List ℕ) (old new : SessionView) : Type 0 where
  pub core : new.link.station.core ≡ after_piece text used old.link.station.core
  pub syn : new.link.station.syn ≡ old.link.station.syn
  pub link : new.link
      ≡ record old.link { station = new.link.station; totals = new.link.totals }
  pub wanted : wants_line old ≡ false → used ≡ []
  pub wrote : Wrote (notices_text (form_of old.messages)
      (notices_of_piece text used old.link.station.core)) old.output new.output
  pub course : new.course ≡ course_received old new.link
      (notices_of_piece text used old.link.station.core)
  pub stays : new
      ≡ record old { link = new.link; course = new.course; output = new.output }

-- The text of the next received message was queued, and the message was taken if that is done at
-- once.
pub record HasDelivered (old new : SessionView) : Type 0 where
  pub wrote : (message : List ℕ) × (next_mail old ≡ Some message)
      × Wrote (mail_text (form_of old.messages) message) old.output new.output
  pub stays : new ≡ record (after_queued old) { output = new.output }

-- The line ended so and the station was halted. That, if events are among the messages, and the
-- number of messages lost by it were reported if there was room.
pub record HasLeft (how : LineEnd) (is_reported : Bool) (old new : SessionView) : Type 0 where
  pub link : new.link ≡ with_state (after_halt old.link.station.core.station) old.link
  pub wrote : Wrote (reported_end is_reported (form_of old.messages) how (lost_by_end old))
      old.output new.output
  pub stays : new ≡ record old {
    link = new.link;
    has_line = false;
    course = lost_more (lost_by_end old) old.course;
    output = new.output;
  }

-- The station was halted, and the number of messages lost by that was reported if there was room.
-- The rest of the input was dropped: its messages are lost.
pub record HasClosed (left : List ℕ) (is_at_end is_reported : Bool) (old new : SessionView)
    : Type 0 where
  pub link : new.link ≡ with_state (after_halt old.link.station.core.station) old.link
  pub wrote : Wrote (reported_lost is_reported (form_of old.messages) (lost_by_end old)) old.output
      new.output
  pub form : form_of new.messages ≡ form_of old.messages
  pub course : new.course ≡ lost_more (lost_by_end old)
      (lost_more (lost_at_end left is_at_end old) (lost_more (lost_among left old) old.course))
  pub stays : new ≡ record old {
    link = new.link;
    has_line = false;
    course = new.course;
    messages = new.messages;
    is_read = true;
    was_refused = new.was_refused;
    output = new.output;
  }

-- `connected` clears the line; here it must be clear already.
abbrev pub SessionDoes : SessionCall → List ℕ → SessionView → SessionView → Type 0
SessionDoes (InputRead used) text old new = HasReadInput used old new
SessionDoes InputEnded text old new = new ≡ after_input_end old
SessionDoes Connected text old new =
    (new ≡ after_connected new.link.station.line old)
    × (text ≡ [])
    × (old.link.outbox.waiting ≡ [])
SessionDoes (LineEnded how is_reported) text old new = HasLeft how is_reported old new
SessionDoes (Received used) text old new = HasReceived text used old new
SessionDoes (Filled frames) text old new =
    (new ≡ record old { link = after_frames frames old.link }) × IsFilled new
SessionDoes (LineTook n) text old new = new ≡ record old { link = after_sent n old.link }
SessionDoes (TimedOut now) text old new = new ≡ after_timeout now old
SessionDoes TimePassed text old new = PassesTime old new
SessionDoes (Delivered true) text old new = HasDelivered old new
SessionDoes (Delivered false) text old new = HasWritten [] old new
SessionDoes (OutputTook n) text old new = new ≡ after_output n old
SessionDoes (Closed left is_at_end is_reported) text old new =
    HasClosed left is_at_end is_reported old new

-- ---- the history of a session

-- what a session writes to standard output: a received message, a notice, how a line ended, or how
-- many accepted messages were left unacknowledged when a line or the run ended
pub data Shown : Type 0 where
  Mail : (message : List ℕ) → Shown
  Reports : (notice : Notice) → Shown
  Leaves : (how : LineEnd) → Shown
  Loses : (count : ℕ) → Shown

-- A session, and what happened since it was made: the bytes that it used from its line, the bytes
-- that were written to the line, the bytes that it used from its input, whether it was told that
-- the input has ended, the bytes that were written to its output, and what it delivered and
-- reported.
pub record SessionHistory : Type 0 where
  pub session : SessionView
  pub used : List ℕ
  pub gone : List ℕ
  pub input : List ℕ
  pub is_told : Bool
  pub written : List ℕ
  pub shown : List Shown

abbrev pub new_session : Options → LineKind → ReaderView → SessionHistory
new_session options kind line = record {
  session = session_made options kind line;
  used = [];
  gone = [];
  input = [];
  is_told = false;
  written = [];
  shown = [];
}

-- a call, and the session after it
pub record SessionStep : Type 0 where
  pub call : SessionCall
  pub session : SessionView

abbrev pub used_in : SessionCall → List ℕ
used_in (Received used) = used
used_in _ = []

abbrev pub gone_in : SessionCall → SessionView → List ℕ
gone_in (LineTook n) s = take n s.link.outbox.waiting
gone_in _ s = []

-- the end of an input of lines ends its last line
abbrev pub end_in : MessageForm → List ℕ
end_in Digits = 10 ∷ []
end_in Binary = []
end_in Events = []
end_in EventLines = 10 ∷ []

abbrev pub input_in : SessionCall → SessionView → List ℕ
input_in (InputRead used) s = used
input_in InputEnded s = if takes_end s then end_in (form_of s.messages) else []
input_in _ s = []

abbrev pub is_told_in : SessionCall → SessionView → Bool
is_told_in InputEnded s = takes_end s
is_told_in _ s = false

abbrev pub written_in : SessionCall → SessionView → List ℕ
written_in (OutputTook n) s = take n s.output.waiting
written_in _ s = []

-- what is lost, if there was room to report that
abbrev pub losses : Bool → SessionView → List Shown
losses is_reported s =
    if is_reported then Loses (lost_by_end s) ∷ [] else []

-- how the line ended before that
abbrev pub ends : LineEnd → Bool → SessionView → List Shown
ends how is_reported s =
    if is_reported then Leaves how ∷ Loses (lost_by_end s) ∷ [] else []

abbrev pub shown_in : SessionCall → List ℕ → SessionView → List Shown
shown_in (LineEnded how is_reported) text s = ends how is_reported s
shown_in (Closed left is_at_end is_reported) text s = losses is_reported s
shown_in (Received used) text s =
    map Reports (notices_of_piece text used s.link.station.core)
shown_in (Delivered true) text s =
    map Mail (option_to_list (next_mail s))
shown_in _ text s = []

abbrev pub after_session_step : SessionStep → SessionHistory → SessionHistory
after_session_step step h = record {
  session = step.session;
  used = h.used ++ used_in step.call;
  gone = h.gone ++ gone_in step.call h.session;
  input = h.input ++ input_in step.call h.session;
  is_told = is_told_in step.call h.session || h.is_told;
  written = h.written ++ written_in step.call h.session;
  shown = h.shown ++ shown_in step.call h.used h.session;
}

-- Each step is a call that does what its contract states.
abbrev pub IsSessionHistory : List SessionStep → SessionHistory → Type 0
IsSessionHistory [] h = Unit {0}
IsSessionHistory (step ∷ rest) h =
    SessionDoes step.call h.used h.session step.session
    × IsSessionHistory rest (after_session_step step h)

unfoldable pub after_session_steps : List SessionStep → SessionHistory → SessionHistory
after_session_steps [] h = h
after_session_steps (step ∷ rest) h = after_session_steps rest (after_session_step step h)
