-- One run of two sessions, written out: both are connected, and one message is transferred.
use Rattle.std.specs.Prelude.{◌≡◌, refl, ℕ, true, false, None, List, [], ◌∷◌, ◌++◌}
use Rattle.ddcmp_frame.specs.Reader.{ReaderView}
use Rattle.ddcmp_input.specs.InBinary.{behind_length}
use Rattle.ddcmp_core.specs.Table.{after_halt}
use Rattle.ddcmp_proto.specs.Bytes.{after_piece, notices_of_piece}
use Rattle.ddcmp_station.specs.Linking.{LinkView, with_state, after_frames, after_sent}
use Rattle.ddcmp_io.specs.declared.carrier.End.{End}
use Rattle.ddcmp_io.specs.declared.carrier.End.TheVariants.{A, B}
use Rattle.ddcmp_streams.specs.declared.messages.MessageForm.TheVariants as form
use Rattle.ddcmp_io.specs.declared.line_kind.LineKind.TheVariants.{Connect}
use Rattle.ddcmp_streams.specs.declared.options.Options.{Options}
use Rattle.ddcmp_io.specs.Queue.{after_pushed}
use Rattle.ddcmp_session.specs.Session.{SessionView, form_of, after_input_read, after_input_end}
use Rattle.ddcmp_session.specs.Session.{after_output, after_queued, is_delivered, after_connected}
use Rattle.ddcmp_session.specs.Session.{after_timeout}
use Rattle.ddcmp_session.specs.Session.{course_received, lost_among, lost_at_end, lost_by_end}
use Rattle.ddcmp_session.specs.Course.{lost_more}
use Rattle.ddcmp_laws.specs.Story.{strt_bytes, stack_bytes, first_bytes, ack_1_bytes}
use Rattle.ddcmp_laws.specs.Vectors.{abc, small}
use Rattle.ddcmp_session.specs.Calls.{SessionCall, InputRead, InputEnded, Connected, LineEnded}
use Rattle.ddcmp_session.specs.Calls.{Received, Filled, LineTook, TimedOut, TimePassed, Delivered}
use Rattle.ddcmp_session.specs.Calls.{OutputTook}
use Rattle.ddcmp_session.specs.Calls.{Closed, SessionHistory, SessionStep}
use Rattle.ddcmp_session.specs.Calls.{shown_in}
use Rattle.ddcmp_laws.specs.Sessions.{IsPlain, texts_of}
use Rattle.ddcmp_laws.specs.Pipe.{Made, Sessions, new_sessions, session_at, after_session_at}

-- what is written of a call
abbrev pub after_shown : SessionCall → SessionHistory → SessionView → SessionView
after_shown call h s = record s {
  output = after_pushed (texts_of (form_of h.session.messages) (shown_in call h.used h.session))
      s.output;
}

-- its link after bytes of the line
abbrev pub link_fed : List ℕ → SessionHistory → LinkView
link_fed used h = record h.session.link {
  station = record h.session.link.station {
    core = after_piece h.used used h.session.link.station.core;
  };
}

-- a session after a call, whose text has room
abbrev pub session_after : SessionCall → SessionHistory → SessionView
session_after (InputRead used) h = after_input_read used h.session
session_after InputEnded h = after_input_end h.session
session_after Connected h = after_connected h.session.link.station.line h.session
session_after (LineEnded how r) h = after_shown (LineEnded how r) h
    (record h.session {
      link = with_state (after_halt h.session.link.station.core.station) h.session.link;
      has_line = false;
      course = lost_more (lost_by_end h.session) h.session.course;
    })
session_after (Received used) h = after_shown (Received used) h
    (record h.session {
      link = link_fed used h;
      course = course_received h.session (link_fed used h)
          (notices_of_piece h.used used h.session.link.station.core);
    })
session_after (Filled frames) h =
    record h.session { link = after_frames frames h.session.link }
session_after (LineTook n) h = record h.session { link = after_sent n h.session.link }
session_after (TimedOut now) h = after_timeout now h.session
session_after TimePassed h = h.session
session_after (Delivered true) h =
    after_shown (Delivered true) h (after_queued h.session)
session_after (Delivered false) h = h.session
session_after (OutputTook n) h = after_output n h.session
session_after (Closed left over r) h = after_shown (Closed left over r) h
    (record h.session {
      link = with_state (after_halt h.session.link.station.core.station) h.session.link;
      has_line = false;
      course =
          lost_more (lost_by_end h.session)
          (lost_more (lost_at_end left over h.session)
          (lost_more (lost_among left h.session) h.session.course));
      is_read = true;
    })

abbrev pub step_by : SessionCall → SessionHistory → SessionStep
step_by call h = record { call = call; session = session_after call h }

unfoldable pub steps_by : List (End × SessionCall) → Sessions → List (End × SessionStep)
steps_by [] p = []
steps_by (one ∷ rest) p =
    (one.0, step_by one.1 (session_at one.0 p))
    ∷ steps_by rest (after_session_at one.0 (step_by one.1 (session_at one.0 p)) p)

-- ---- the story

-- messages in binary, of at most 5 bytes, one at a time
abbrev pub small_options : Options
small_options = record {
  config = small;
  timer_ms = 1000;
  attempts = 0;
  linger_ms = 0;
  baud = 0;
  seconds = 10;
  report = 0;
  form = form.Binary;
  maintenance = false;
  acknowledge_early = false;
  stay = false;
  awaits_end = true;
  again = false;
  counters = false;
  trace = None;
  clock = false;
  json = false;
}

abbrev pub small_plain : IsPlain small_options
small_plain = record { of_data = refl; no_events = refl }

abbrev pub small_made : ReaderView → Made
small_made line =
    record { options = small_options; plain = small_plain; kind = Connect; line = line }

abbrev pub small_sessions : ReaderView → ReaderView → Sessions
small_sessions line other_line = new_sessions (small_made line) (small_made other_line)

-- A frame is queued, the line takes it, and the other session receives it.
abbrev pub carried_from_a : ℕ → List ℕ → List (End × SessionCall)
carried_from_a n bytes = (A, Filled 1) ∷ (A, LineTook n) ∷ (B, Received bytes) ∷ []

abbrev pub carried_from_b : ℕ → List ℕ → List (End × SessionCall)
carried_from_b n bytes = (B, Filled 1) ∷ (B, LineTook n) ∷ (A, Received bytes) ∷ []

-- A has one message in its input, which B receives, and A receives the acknowledgement.
abbrev pub pipe_calls : List (End × SessionCall)
pipe_calls =
    (A, Connected) ∷ (B, Connected) ∷ []
    ++ carried_from_a 8 strt_bytes
    ++ carried_from_b 8 stack_bytes
    ++ (A, InputRead (behind_length abc)) ∷ []
    ++ carried_from_a 13 first_bytes
    ++ (B, Delivered true) ∷ (B, OutputTook 5) ∷ []
    ++ carried_from_b 8 ack_1_bytes
    ++ (A, InputEnded) ∷ []

abbrev pub pipe_steps : ReaderView → ReaderView → List (End × SessionStep)
pipe_steps line other_line = steps_by pipe_calls (small_sessions line other_line)

-- How it ends: all of A's input was read, the same bytes were written to B's output, and
-- `is_delivered` holds for A.
pub record HasComeThrough (p : Sessions) : Type 0 where
  pub input : p.a.input ≡ behind_length abc
  pub written : p.b.written ≡ behind_length abc
  pub over : is_delivered p.a.session ≡ true
