-- The messages of an input, in any form.
use Rattle.std.specs.Prelude.{ℕ, ◌+◌, Bool, true, false, List, [], ◌∷◌, Option, Some, None, is_some}
use Rattle.std.specs.Prelude.{codes, if◌then◌else◌}
use Rattle.std.specs.Str.{bytes_eq}
use Rattle.ddcmp_input.specs.declared.entry.Entry.{Entry}
use Rattle.ddcmp_input.specs.declared.entry.Entry.TheVariants.{Message}
use Rattle.ddcmp_input.specs.CommandLines as command_lines
use Rattle.ddcmp_input.specs.HexLines as lines
use Rattle.ddcmp_input.specs.Lengths as lengths
use Rattle.ddcmp_input.specs.Records as records
use Rattle.ddcmp_streams.specs.declared.messages.Command.{Command}
use Rattle.ddcmp_streams.specs.declared.messages.Command.TheVariants.{Ready, Restart, Report}
use Rattle.ddcmp_streams.specs.declared.messages.Command.TheVariants.{Halt, Start, Quit, Unknown}
use Rattle.ddcmp_streams.specs.declared.messages.MessageForm.{MessageForm}
use Rattle.ddcmp_streams.specs.declared.messages.MessageForm.TheVariants as form
use Rattle.ddcmp_streams.specs.declared.messages.Messages.{Messages}
use Rattle.ddcmp_streams.specs.declared.messages.Messages.TheVariants.{Digits, Binary, Events}
use Rattle.ddcmp_streams.specs.declared.messages.Messages.TheVariants.{EventLines}

-- a line of hexadecimal digits for each message, and lines for what is written beside them
abbrev pub is_in_lines : MessageForm → Bool
is_in_lines form.Digits = true
is_in_lines form.Binary = false
is_in_lines form.Events = false
is_in_lines form.EventLines = true

-- commands are read among the messages
abbrev pub has_events : MessageForm → Bool
has_events form.Digits = false
has_events form.Binary = false
has_events form.Events = true
has_events form.EventLines = true

-- before any input
abbrev pub messages_begun : MessageForm → ℕ → Messages
messages_begun form.Digits max = Digits (lines.begun max)
messages_begun form.Binary max = Binary (lengths.begun max)
messages_begun form.Events max = Events (records.begun max)
messages_begun form.EventLines max = EventLines (command_lines.begun max)

-- the message that the last byte completed, if it did
abbrev pub message_in : Messages → List ℕ
message_in (Digits v) = v.message
message_in (Binary v) = v.message
message_in (Events v) = v.lengths.message
message_in (EventLines v) = v.lines.message

-- the reader after bytes of the input, and the parts that they complete
abbrev pub after_input : List ℕ → Messages → Messages
after_input bytes (Digits v) = Digits (lines.after_bytes bytes v)
after_input bytes (Binary v) = Binary (lengths.after_bytes bytes v)
after_input bytes (Events v) = Events (records.after_bytes bytes v)
after_input bytes (EventLines v) = EventLines (command_lines.after_bytes bytes v)

abbrev pub entries_of_input : List ℕ → Messages → List Entry
entries_of_input bytes (Digits v) = lines.entries_of_bytes bytes v
entries_of_input bytes (Binary v) = lengths.entries_of_bytes bytes v
entries_of_input bytes (Events v) = records.entries_of_bytes bytes v
entries_of_input bytes (EventLines v) = command_lines.entries_of_bytes bytes v

-- The end of the input ends a last line, and completes nothing in binary.
abbrev pub after_last : Messages → Messages
after_last (Digits v) = Digits (lines.after_byte 10 v)
after_last (Binary v) = Binary v
after_last (Events v) = Events v
after_last (EventLines v) = EventLines (command_lines.after_byte 10 v)

abbrev pub entry_of_last : Messages → Option Entry
entry_of_last (Digits v) = lines.entry_of_byte 10 v
entry_of_last (Binary v) = None
entry_of_last (Events v) = None
entry_of_last (EventLines v) = command_lines.entry_of_byte 10 v

-- The input, if it ends here, has a last line without LF that isn't empty.
abbrev pub has_last_line : Messages → Bool
has_last_line m = is_some (entry_of_last m)

-- how many of them are messages
abbrev pub count_message : Entry → ℕ
count_message Message = 1
count_message _ = 0

abbrev pub count_of : Option Entry → ℕ
count_of None = 0
count_of (Some entry) = count_message entry

unfoldable pub messages_among : List Entry → ℕ
messages_among [] = 0
messages_among (entry ∷ rest) = count_message entry + messages_among rest

-- a message in binary has begun, and its end wasn't read yet
abbrev pub is_message_unfinished : Messages → Bool
is_message_unfinished (Digits v) = false
is_message_unfinished (Binary v) = lengths.is_unfinished v.place
is_message_unfinished (Events v) = records.is_unfinished v
is_message_unfinished (EventLines v) = false

-- the line of the input that was read last is `?`, which asks for a report
abbrev pub is_question : Messages → Bool
is_question (Digits v) = lines.is_question v
is_question (Binary v) = false
is_question (Events v) = false
is_question (EventLines v) = lines.is_question v.lines

-- what a command of a text asks for
abbrev pub command_of : List ℕ → Command
command_of text =
    if bytes_eq text (codes "ready") then Ready
    else if bytes_eq text (codes "restart") then Restart
    else if bytes_eq text (codes "halt") then Halt
    else if bytes_eq text (codes "start") then Start
    else if bytes_eq text (codes "report") then Report
    else if bytes_eq text (codes "quit") then Quit
    else Unknown

-- what the last command asks for, if the last byte completed it
abbrev pub command_in : Messages → Command
command_in (Digits v) = Unknown
command_in (Binary v) = Unknown
command_in (Events v) = command_of v.command
command_in (EventLines v) = command_of v.command

-- the number of the line that is read; a message in binary has none
abbrev pub line_number : Messages → Option ℕ
line_number (Digits v) = Some v.number
line_number (Binary v) = None
line_number (Events v) = None
line_number (EventLines v) = Some v.lines.number
