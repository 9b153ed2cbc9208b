-- A session with its standard error, and what each call writes there.
use Rattle.std.specs.Prelude.{◌≡◌, ℕ, ◌+◌, ◌*◌, ◌==◌, ◌&&◌, not, Bool, true, false, MatchBool}
use Rattle.std.specs.Prelude.{◌⊎◌, ◌≢◌, MatchOption}
use Rattle.std.specs.Prelude.{if◌then◌else◌, Option, None, Some, List, [], ◌∷◌, option_to_list}
use Rattle.ddcmp_core.specs.declared.notice.Notice.{Notice}
use Rattle.ddcmp_input.specs.declared.entry.Entry.{Entry}
use Rattle.ddcmp_input.specs.declared.entry.Entry.TheVariants.{NotHexadecimal}
use Rattle.ddcmp_input.specs.declared.entry.Entry.TheVariants as entry
use Rattle.ddcmp_streams.specs.declared.messages.Command.{Command}
use Rattle.ddcmp_streams.specs.declared.messages.Command.TheVariants.{Ready, Restart, Report}
use Rattle.ddcmp_streams.specs.declared.messages.Command.TheVariants.{Halt, Quit, Start}
use Rattle.ddcmp_streams.specs.declared.messages.Command.TheVariants.{Unknown}
use Rattle.ddcmp_station.specs.CountersText.{counters_line}
use Rattle.ddcmp_station.specs.Linking.{LinkView, total_plus}
use Rattle.ddcmp_station.specs.StationText.{notice_line}
use Rattle.ddcmp_io.specs.declared.transfer.Down.{Down}
use Rattle.ddcmp_streams.specs.declared.errors.TheConstants.{LAST_ROOM, SHORT_LINE}
use Rattle.ddcmp_streams.specs.declared.messages.MessageForm.{MessageForm}
use Rattle.ddcmp_streams.specs.declared.messages.MessageForm.TheVariants as form
use Rattle.ddcmp_streams.specs.declared.messages.Messages.{Messages}
use Rattle.ddcmp_session.specs.declared.text.TheConstants.{END_ROOM}
use Rattle.ddcmp_session.specs.Course.{reports_at}
use Rattle.ddcmp_session.specs.EndText.{echo_text, end_line, line_down_text}
use Rattle.ddcmp_streams.specs.Echo.{EchoView, IsEcho, after_more}
use Rattle.ddcmp_streams.specs.Errors.{ErrorsView, HasLine, HasObject}
use Rattle.ddcmp_session.specs.Reports.{given_up_text, report_members, report_text, silence_text}
use Rattle.ddcmp_session.specs.Reports.{no_buffer_text, telnet_text, unstarted_text, wrong_text}
use Rattle.ddcmp_frame.specs.declared.nak.Nak.TheVariants as nak
use Rattle.ddcmp_core.specs.declared.counters.NakCounts.{NakCounts}
use Rattle.ddcmp_session.specs.declared.course.Course.{Course}
use Rattle.ddcmp_session.specs.Course.{tells_no_buffer, tells_refused_long}
use Rattle.ddcmp_session.specs.Session.{is_telnet, refusals_of}
use Rattle.ddcmp_streams.specs.Messages.{after_last, entry_of_last, is_message_unfinished}
use Rattle.ddcmp_streams.specs.Messages.{command_in, is_question}
use Rattle.ddcmp_session.specs.Session.{SessionView, after_start, course_at_start, expires}
use Rattle.ddcmp_session.specs.Session.{is_delivered, timed_out, unstarted_now, untold}
use Rattle.ddcmp_streams.specs.Options.{report_ms}
use Rattle.ddcmp_session.specs.Text.{dropped_by, lost_line}
use Rattle.ddcmp_session.specs.Timing.{is_first_silence, is_given_up, stays}
use Rattle.ddcmp_streams.specs.Trace.{TraceView, HasLines, timer_lines}

-- The queued lines, the trace of the line if there is one, what came over the line beside what was
-- sent, and how many messages of the input were read.
pub record LogView : Type 0 where
  pub errors : ErrorsView
  pub trace : Option TraceView
  pub echo : EchoView
  pub read : ℕ

pub record LoggedSession : Type 0 where
  pub state : SessionView
  pub log : LogView

-- ---- how many messages were read

-- a known command
abbrev pub is_known : Command → Bool
is_known Ready = true
is_known Restart = true
is_known Halt = true
is_known Start = true
is_known Report = true
is_known Quit = true
is_known Unknown = false

abbrev pub read_by_command : Command → ℕ → ℕ
read_by_command command n = if is_known command then n else total_plus n 1

-- after a part of the input, which counts unless it is a question or a known command
abbrev pub read_with : Entry → Messages → ℕ → ℕ
read_with entry.Command m n = read_by_command (command_in m) n
read_with NotHexadecimal m n = if is_question m then n else total_plus n 1
read_with _ m n = total_plus n 1

-- after the parts that bytes complete, of which there is at most one
abbrev pub read_after : List Entry → Messages → ℕ → ℕ
read_after [] m n = n
read_after (entry ∷ rest) m n = read_with entry m n

-- A message whose end is missing counts, too.
abbrev pub read_unfinished : Messages → ℕ → ℕ
read_unfinished m n = if is_message_unfinished m then total_plus n 1 else n

-- after the end of the input
abbrev pub read_at_end : Messages → ℕ → ℕ
read_at_end m n = read_unfinished (after_last m)
    (read_after (option_to_list (entry_of_last m)) (after_last m) n)

-- ---- what is written to standard error

-- The trace was continued so, and wrote its lines; nothing changed if there is no trace.
abbrev pub Traces : (TraceView → TraceView → ErrorsView → ErrorsView → Type 0) → Option TraceView
    → LogView → LogView → Type 0
Traces goes None old new = new ≡ old
Traces goes (Some before) old new =
    (after : TraceView) × goes before after old.errors new.errors
    × (new ≡ record old { errors = new.errors; trace = Some after })

-- The trace notes the moment, and writes a line if the timer has expired.
abbrev pub Wakes : ℕ → Bool → TraceView → TraceView → ErrorsView → ErrorsView → Type 0
Wakes now has_expired before after old new =
    (after ≡ record before { now = now })
    × HasLines before.notation before.spared (timer_lines before.notation now has_expired) old new

-- all counters of a link, as a line or as a JSON object
abbrev pub HasReport : Bool → ℕ → LinkView → ErrorsView → ErrorsView → Type 0
HasReport false lost d old new = HasLine (END_ROOM + LAST_ROOM) (report_text lost d) old new
HasReport true lost d old new =
    HasObject (2 * END_ROOM + LAST_ROOM) (report_members lost d) old new

-- how many accepted messages were dropped, if any, with messages in binary; otherwise this goes to
-- standard output, as events do
abbrev pub HasLost : MessageForm → ℕ → ErrorsView → ErrorsView → Type 0
HasLost form.Digits count old new = new ≡ old
HasLost form.Binary count old new =
    MatchBool (count == 0) (new ≡ old) (HasLine SHORT_LINE (lost_line count) old new)
HasLost form.Events count old new = new ≡ old
HasLost form.EventLines count old new = new ≡ old

-- a notice, and how many messages it drops
abbrev pub HasNotice : MessageForm → Notice → ErrorsView → ErrorsView → Type 0
HasNotice form.Digits notice old new = new ≡ old
HasNotice form.Binary notice old new =
    (mid : ErrorsView) × HasLine SHORT_LINE (notice_line [] notice) old mid
    × HasLost form.Binary (dropped_by notice) mid new
HasNotice form.Events notice old new = new ≡ old
HasNotice form.EventLines notice old new = new ≡ old

abbrev pub HasNotices : MessageForm → List Notice → ErrorsView → ErrorsView → Type 0
HasNotices by [] old new = new ≡ old
HasNotices by (notice ∷ later) old new =
    (mid : ErrorsView) × HasNotice by notice old mid × HasNotices by later mid new

-- the last lines of a run, with messages in binary
abbrev pub HasCounters : Bool → LinkView → ErrorsView → ErrorsView → Type 0
HasCounters counted d old new =
    MatchBool counted (HasLine END_ROOM (counters_line [] d.station.core.counters) old new)
    (new ≡ old)

abbrev pub HasEnd : Bool → LinkView → ErrorsView → ErrorsView → Type 0
HasEnd counted d old new =
    (mid : ErrorsView) × HasCounters counted d old mid × HasLine END_ROOM (end_line d) mid new

-- The moment is noted, and a report of the counters is written, if one is due.
abbrev pub at_moment : ℕ → ErrorsView → ErrorsView
at_moment now e = record e { now = now }

abbrev pub PassesMoment : ℕ → SessionView → LogView → ErrorsView → Type 0
PassesMoment now s old new =
    MatchBool (reports_at (report_ms s.options) now s.course)
    (HasReport s.options.json s.course.lost s.link (at_moment now old.errors) new)
    (new ≡ at_moment now old.errors)

-- why the line is left, if the peer doesn't reply or refuses messages
abbrev pub ReportsGivenUp : SessionView → ErrorsView → ErrorsView → Type 0
ReportsGivenUp s old new =
    MatchBool (is_given_up s) (HasLine SHORT_LINE (given_up_text s.course.refusal) old new)
    (new ≡ old)

-- The peer is silent, and the tries go on.
abbrev pub ReportsSilence : Bool → SessionView → ErrorsView → ErrorsView → Type 0
ReportsSilence has_expired s old new =
    MatchBool (is_first_silence has_expired s) (HasLine SHORT_LINE silence_text old new)
    (new ≡ old)

-- why the line is down, unless all is delivered and the session ends with that
abbrev pub ReportsDown : Down → SessionView → ErrorsView → ErrorsView → Type 0
ReportsDown why s old new =
    MatchBool (is_delivered s && not (stays s)) (new ≡ old)
    (HasLine SHORT_LINE (line_down_text why) old new)

-- What the peer sends wrong is reported, if it wasn't before.
abbrev pub ReportsWrong : SessionView → ErrorsView → ErrorsView → Type 0
ReportsWrong s old new =
    MatchOption (untold s) (new ≡ old)
    (λ wrong.
    HasLine SHORT_LINE (wrong_text s.link.station.core.limits.longest wrong) old new)

-- What is received of a peer that doesn't start is reported.
abbrev pub ReportsUnstarted : Bool → SessionView → ErrorsView → ErrorsView → Type 0
ReportsUnstarted has_expired s old new =
    MatchOption (unstarted_now has_expired s) (new ≡ old)
    (λ it. HasLine SHORT_LINE (unstarted_text (course_at_start has_expired s) it) old new)

-- The peer has refused a message as too long, or has had no buffer.
pub record ReportsRefusals (n : NakCounts) (c : Course) (old new : ErrorsView) : Type 0 where
  pub told : ErrorsView
  pub too_long : MatchBool (tells_refused_long n c)
      (HasLine SHORT_LINE (given_up_text (Some nak.TooLong)) old told) (told ≡ old)
  pub no_buffer : MatchBool (tells_no_buffer c)
      (HasLine SHORT_LINE no_buffer_text told new) (new ≡ told)

-- The first bytes of a line are those of telnet.
abbrev pub ReportsTelnet : List ℕ → SessionView → ErrorsView → ErrorsView → Type 0
ReportsTelnet bytes s old new =
    MatchBool (is_telnet bytes s) (HasLine SHORT_LINE telnet_text old new) (new ≡ old)

-- bytes were sent over the line, or received from it
abbrev pub echo_sent : List ℕ → LogView → LogView
echo_sent bytes l = record l {
  echo = record l.echo { sent = after_more bytes l.echo.sent };
}

abbrev pub echo_came : List ℕ → LogView → LogView
echo_came bytes l = record l {
  echo = record l.echo { came = after_more bytes l.echo.came };
}

-- how many messages of this end the peer confirmed; in maintenance mode, in which nothing is
-- acknowledged, how many were sent
abbrev pub confirmed : SessionView → ℕ
confirmed s =
    if s.options.maintenance then s.link.totals.sent else s.link.totals.acknowledged

-- All that came is what was sent, messages among it: two ends that exchange none send the same
-- bytes, too.
abbrev pub SeemsToEcho : SessionView → EchoView → Type 0
SeemsToEcho s e = (confirmed s ≢ 0) × IsEcho e

-- If so, that is reported.
abbrev pub ReportsEcho : SessionView → EchoView → ErrorsView → ErrorsView → Type 0
ReportsEcho s e old new =
    (SeemsToEcho s e × HasLine SHORT_LINE echo_text old new)
    ⊎ ((SeemsToEcho s e → ⊥) × (new ≡ old))

-- What is to be reported of the peer was reported, when the timer had expired or not.
pub record TellsPeer (has_expired : Bool) (s : SessionView) (old new : ErrorsView) : Type 0 where
  pub left : ErrorsView
  pub given_up : ReportsGivenUp s old left
  pub goes_on : ErrorsView
  pub silence : ReportsSilence has_expired s left goes_on
  pub asks : ErrorsView
  pub unstarted : ReportsUnstarted has_expired s goes_on asks
  pub told : ErrorsView
  pub wrong : ReportsWrong (after_start has_expired s) asks told
  pub refusals : ReportsRefusals (refusals_of s) (after_start has_expired s).course told new

-- All timers were handled at this moment.
pub record HandlesTimeout (now : ℕ) (s : SessionView) (old new : LogView) : Type 0 where
  pub passed : ErrorsView
  pub moment : PassesMoment now s old passed
  pub told : ErrorsView
  pub tells : TellsPeer (expires now s) (timed_out now s) passed told
  pub traced : Traces (Wakes now (expires now s)) old.trace (record old { errors = told }) new
