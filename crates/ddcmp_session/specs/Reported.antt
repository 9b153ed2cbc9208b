-- The log of a new session, and what it writes to standard error about its input.
use Rattle.std.specs.Prelude.{◌≡◌, ℕ, ◌+◌, ◌*◌, Bool, true, false, MatchBool, if◌then◌else◌}
use Rattle.std.specs.Prelude.{Option, None, Some, is_some, List, [], ◌∷◌, codes, max, min}
use Rattle.std.specs.Prelude.{option_to_list}
use Rattle.ddcmp_input.specs.declared.entry.Entry.{Entry}
use Rattle.ddcmp_input.specs.declared.entry.Entry.TheVariants.{Message, NotHexadecimal}
use Rattle.ddcmp_input.specs.declared.entry.Entry.TheVariants.{TooLong, Empty}
use Rattle.ddcmp_input.specs.declared.entry.Entry.TheVariants as entry
use Rattle.ddcmp_streams.specs.declared.messages.Command.{Command}
use Rattle.ddcmp_streams.specs.declared.messages.Command.TheVariants.{Ready, Restart, Report}
use Rattle.ddcmp_streams.specs.declared.messages.Command.TheVariants.{Halt, Quit, Start}
use Rattle.ddcmp_streams.specs.declared.messages.Command.TheVariants.{Unknown}
use Rattle.ddcmp_station.specs.Linking.{total_plus}
use Rattle.ddcmp_streams.specs.declared.errors.TheConstants.{SHORT_LINE}
use Rattle.ddcmp_streams.specs.declared.messages.Messages.{Messages}
use Rattle.ddcmp_streams.specs.declared.messages.Messages.TheVariants.{Digits, Binary, Events}
use Rattle.ddcmp_streams.specs.declared.messages.Messages.TheVariants.{EventLines}
use Rattle.ddcmp_streams.specs.declared.options.Options.{Options}
use Rattle.ddcmp_session.specs.declared.session.TheConstants.{ERRORS_ROOM}
use Rattle.ddcmp_session.specs.declared.text.TheConstants.{LINE_ROOM}
use Rattle.ddcmp_streams.specs.Echo.{none_echoed}
use Rattle.ddcmp_streams.specs.Errors.{ErrorsView, HasLine, no_lines, refused_text}
use Rattle.ddcmp_session.specs.Logged.{LogView, LoggedSession, HasLost, HasReport, read_after}
use Rattle.ddcmp_session.specs.Logged.{is_known, read_at_end, read_unfinished}
use Rattle.ddcmp_streams.specs.Messages.{after_input, after_last, entries_of_input}
use Rattle.ddcmp_streams.specs.Messages.{entry_of_last}
use Rattle.ddcmp_streams.specs.Messages.{command_in, is_message_unfinished, is_question}
use Rattle.ddcmp_session.specs.Session.{form_of, lost_by_end}
use Rattle.ddcmp_streams.specs.Trace.{TraceView, IsNew}

-- ---- a new session

-- how many bytes of lines are queued at most
abbrev pub errors_room : Options → ℕ
errors_room o = if is_some o.trace then 8 * ERRORS_ROOM else ERRORS_ROOM

abbrev pub log_made : Options → Option TraceView → LogView
log_made o trace = record {
  errors = no_lines (errors_room o);
  trace = trace;
  echo = none_echoed;
  read = 0;
}

-- the longest message that a trace shows; a length has 14 bits
abbrev pub traced_length : Options → ℕ
traced_length o = min (max o.config.max 1) 16383

-- Nothing is traced yet; room is left for a received message and a report of what is lost.
pub record IsNewTrace (o : Options) (t : TraceView) : Type 0 where
  pub sent : IsNew (traced_length o) t.sent
  pub came : IsNew (traced_length o) t.came
  pub spared : t.spared ≡ 2 * o.config.max + LINE_ROOM
  pub now : t.now ≡ 0

-- There is a trace if one is asked for, in that notation.
abbrev pub TracesIfAsked : Options → Option TraceView → Type 0
TracesIfAsked o None = o.trace ≡ None
TracesIfAsked o (Some t) = (o.trace ≡ Some t.notation) × IsNewTrace o t

-- ---- a part of the input that is no message

-- the name and the number of such a part, after `read` messages were read
abbrev pub part_name : Messages → List ℕ
part_name (Digits v) = codes "line "
part_name (Binary v) = codes "message "
part_name (Events v) = codes "message "
part_name (EventLines v) = codes "line "

abbrev pub part_number : Messages → ℕ → ℕ
part_number (Digits v) read = v.number
part_number (Binary v) read = read
part_number (Events v) read = read
part_number (EventLines v) read = v.lines.number

-- what is wrong with it
abbrev pub reason_text : Entry → List ℕ
reason_text Message = codes "message"
reason_text NotHexadecimal = codes "not hexadecimal"
reason_text TooLong = codes "too long"
reason_text Empty = codes "empty"
reason_text entry.Command = codes "unknown command"

-- The part that was read last is reported, with this reason.
abbrev pub HasRefused : List ℕ → Messages → ℕ → ErrorsView → ErrorsView → Type 0
HasRefused why m read old new =
    HasLine SHORT_LINE (refused_text (part_name m) (part_number m read) why) old new

-- Such a part counts as a message that was read.
abbrev pub RefusesEntry : Entry → Messages → ℕ → ErrorsView → ErrorsView → Type 0
RefusesEntry entry m read old new = HasRefused (reason_text entry) m (total_plus read 1) old new

-- the reason for a part whose end is missing
abbrev pub unfinished_text : List ℕ
unfinished_text = codes "unfinished"

-- A message in binary whose end is missing is reported, and counts as read.
abbrev pub RefusesUnfinished : Messages → ℕ → ErrorsView → ErrorsView → Type 0
RefusesUnfinished m read old new =
    MatchBool (is_message_unfinished m)
    (HasRefused unfinished_text m (total_plus read 1) old new) (new ≡ old)

-- ---- while the session runs

-- What is reported for a command: the counters, or that it isn't known.
abbrev pub ReportsCommand : Command → LoggedSession → ErrorsView → Type 0
ReportsCommand Ready s new = new ≡ s.log.errors
ReportsCommand Restart s new = new ≡ s.log.errors
ReportsCommand Halt s new = new ≡ s.log.errors
ReportsCommand Start s new = new ≡ s.log.errors
ReportsCommand Report s new =
    HasReport s.state.options.json s.state.course.lost s.state.link s.log.errors new
ReportsCommand Quit s new = new ≡ s.log.errors
ReportsCommand Unknown s new =
    RefusesEntry entry.Command s.state.messages s.log.read s.log.errors new

-- For a message nothing is reported; for a question the counters are.
abbrev pub ReportsEntry : Entry → LoggedSession → ErrorsView → Type 0
ReportsEntry Message s new = new ≡ s.log.errors
ReportsEntry entry.Command s new = ReportsCommand (command_in s.state.messages) s new
ReportsEntry NotHexadecimal s new = MatchBool (is_question s.state.messages)
    (HasReport s.state.options.json s.state.course.lost s.state.link s.log.errors new)
    (RefusesEntry NotHexadecimal s.state.messages s.log.read s.log.errors new)
ReportsEntry entry s new = RefusesEntry entry s.state.messages s.log.read s.log.errors new

-- what bytes complete, which is one part at most
abbrev pub ReportsEach : List Entry → LoggedSession → ErrorsView → Type 0
ReportsEach [] s new = new ≡ s.log.errors
ReportsEach (entry ∷ rest) s new = ReportsEntry entry s new

-- the session after its reader read input, or the end of the input
abbrev pub with_messages : Messages → LoggedSession → LoggedSession
with_messages m s = record s { state = record s.state { messages = m } }

abbrev pub with_input : List ℕ → LoggedSession → LoggedSession
with_input bytes s = with_messages (after_input bytes s.state.messages) s

-- bytes of the input, up to the first that completes something
abbrev pub ReportsInput : List ℕ → LoggedSession → ErrorsView → Type 0
ReportsInput bytes s new =
    ReportsEach (entries_of_input bytes s.state.messages) (with_input bytes s) new

-- what the last line is, and then a message in binary whose end is missing
abbrev pub ReportsLast : LoggedSession → ErrorsView → Type 0
ReportsLast s new =
    (mid : ErrorsView)
    × ReportsEach (option_to_list (entry_of_last s.state.messages))
    (with_messages (after_last s.state.messages) s) mid
    × RefusesUnfinished (after_last s.state.messages)
    (read_after (option_to_list (entry_of_last s.state.messages)) (after_last s.state.messages)
    s.log.read) mid new

-- ---- after the run

-- Of dropped input neither messages nor questions nor known commands are reported.
abbrev pub DropsEntry : Entry → Messages → ℕ → ErrorsView → ErrorsView → Type 0
DropsEntry Message m read old new = new ≡ old
DropsEntry entry.Command m read old new =
    MatchBool (is_known (command_in m)) (new ≡ old) (RefusesEntry entry.Command m read old new)
DropsEntry NotHexadecimal m read old new =
    MatchBool (is_question m) (new ≡ old) (RefusesEntry NotHexadecimal m read old new)
DropsEntry entry m read old new = RefusesEntry entry m read old new

abbrev pub DropsEach : List Entry → Messages → ℕ → ErrorsView → ErrorsView → Type 0
DropsEach [] m read old new = new ≡ old
DropsEach (entry ∷ rest) m read old new = DropsEntry entry m read old new

-- A last line whose end is missing is reported.
abbrev pub CutsEach : List Entry → Messages → ℕ → ErrorsView → ErrorsView → Type 0
CutsEach [] m read old new = new ≡ old
CutsEach (entry ∷ rest) m read old new = HasRefused unfinished_text m read old new

-- whether a part of the input was refused, after this one
abbrev pub refused_with : Entry → Messages → Bool → Bool
refused_with Message m was = was
refused_with entry.Command m was = if is_known (command_in m) then was else true
refused_with NotHexadecimal m was = if is_question m then was else true
refused_with entry m was = true

abbrev pub refused_after : List Entry → Messages → Bool → Bool
refused_after [] m was = was
refused_after (entry ∷ rest) m was = refused_with entry m was

-- the log, and whether a part of the input was refused
pub record Dropping : Type 0 where
  pub log : LogView
  pub was_refused : Bool

abbrev pub dropping : LoggedSession → Dropping
dropping s = record { log = s.log; was_refused = s.state.was_refused }

-- what bytes complete, which is one part at most
pub record Drops (entries : List Entry) (m : Messages) (old new : Dropping) : Type 0 where
  pub errors : DropsEach entries m old.log.read old.log.errors new.log.errors
  pub log : new.log
      ≡ record old.log { errors = new.log.errors; read = read_after entries m old.log.read }
  pub refused : new.was_refused ≡ refused_after entries m old.was_refused

-- bytes, one after another
unfoldable pub DropsBytes : List ℕ → Messages → Dropping → Dropping → Type 0
DropsBytes [] m old new = new ≡ old
DropsBytes (byte ∷ rest) m old new =
    (mid : Dropping)
    × Drops (entries_of_input (byte ∷ []) m) (after_input (byte ∷ []) m) old mid
    × DropsBytes rest (after_input (byte ∷ []) m) mid new

-- the last line, which is whole if the input is at its end, and a message whose end is missing
abbrev pub DropsLast : Bool → Messages → ℕ → ErrorsView → ErrorsView → Type 0
DropsLast true m read old new =
    (mid : ErrorsView)
    × DropsEach (option_to_list (entry_of_last m)) (after_last m) read old mid
    × RefusesUnfinished (after_last m)
    (read_after (option_to_list (entry_of_last m)) (after_last m) read) mid new
DropsLast false m read old new =
    (mid : ErrorsView)
    × CutsEach (option_to_list (entry_of_last m)) (after_last m) read old mid
    × RefusesUnfinished (after_last m) read mid new

-- how many were read by then
abbrev pub read_at_last : Bool → Messages → ℕ → ℕ
read_at_last is_at_end m n =
    if is_at_end then read_at_end m n else read_unfinished (after_last m) n

-- whether a part was refused by then
abbrev pub refused_cut : Option Entry → Bool → Bool
refused_cut None was = was
refused_cut (Some entry) was = true

abbrev pub refused_unfinished : Messages → Bool → Bool
refused_unfinished m was = if is_message_unfinished m then true else was

abbrev pub refused_at_last : Bool → Messages → Bool → Bool
refused_at_last true m was = refused_unfinished (after_last m)
    (refused_after (option_to_list (entry_of_last m)) (after_last m) was)
refused_at_last false m was =
    refused_unfinished (after_last m) (refused_cut (entry_of_last m) was)

-- the end of the input, unless it was read before
abbrev pub DropsEnd : Bool → Bool → Messages → Dropping → Dropping → Type 0
DropsEnd true is_at_end m old new = new ≡ old
DropsEnd false is_at_end m old new =
    DropsLast is_at_end m old.log.read old.log.errors new.log.errors
    × (new.log ≡ record old.log {
      errors = new.log.errors;
      read = read_at_last is_at_end m old.log.read;
    })
    × (new.was_refused ≡ refused_at_last is_at_end m old.was_refused)

-- all of the input that is left
abbrev pub DropsInput : List ℕ → Bool → LoggedSession → Dropping → Type 0
DropsInput bytes is_at_end s new =
    (mid : Dropping)
    × DropsBytes bytes s.state.messages (dropping s) mid
    × DropsEnd s.state.is_read is_at_end (after_input bytes s.state.messages) mid new

-- Then the session was closed: its accepted messages that aren't acknowledged are lost, too.
pub record ClosesLog (left : List ℕ) (is_at_end : Bool) (old new : LoggedSession) : Type 0 where
  pub dropped : Dropping
  pub drops : DropsInput left is_at_end old dropped
  pub refused : new.state.was_refused ≡ dropped.was_refused
  pub loses : HasLost (form_of old.state.messages) (lost_by_end old.state) dropped.log.errors
      new.log.errors
  pub log : new.log ≡ record dropped.log { errors = new.log.errors }
