-- Messages in hexadecimal, one a line, with commands among them: lines that begin with `?`.
use Rattle.std.specs.Prelude.{ℕ, ◌==◌, nat_lt, if◌then◌else◌, List, [], ◌∷◌, ◌++◌, length}
use Rattle.std.specs.Prelude.{Option, Some, None, option_to_list}
use Rattle.ddcmp_input.specs.declared.command_lines.CommandPlace.{CommandPlace}
use Rattle.ddcmp_input.specs.declared.command_lines.CommandPlace.TheVariants.{Message, Command}
use Rattle.ddcmp_input.specs.declared.command_lines.CommandPlace.TheVariants.{TooLong}
use Rattle.ddcmp_input.specs.declared.entry.Entry.{Entry}
use Rattle.ddcmp_input.specs.declared.entry.Entry.TheVariants as entry
use Rattle.ddcmp_input.specs.declared.records.TheConstants.{COMMAND_ROOM}
use Rattle.ddcmp_input.specs.HexLines.{HexView, is_before_line}
use Rattle.ddcmp_input.specs.HexLines as lines

-- the lines, each command among them read as digits; what the line that is read is; and what
-- follows the `?` of the command so far
pub record CommandsView : Type 0 where
  pub lines : HexView
  pub place : CommandPlace
  pub command : List ℕ

abbrev pub begun : ℕ → CommandsView
begun max = record { lines = lines.begun max; place = Message; command = [] }

-- the first byte of a line
abbrev pub after_first : ℕ → CommandsView → CommandsView
after_first byte v =
    record v { place = if byte == 63 then Command else Message; command = [] }

-- one more character of a command, which may have 16
abbrev pub after_char_at : CommandPlace → ℕ → CommandsView → CommandsView
after_char_at Message byte v = v
after_char_at Command byte v =
    if nat_lt (length v.command) COMMAND_ROOM
    then record v { command = v.command ++ byte ∷ [] }
    else record v { place = TooLong }
after_char_at TooLong byte v = v

abbrev pub after_char : ℕ → CommandsView → CommandsView
after_char byte v = after_char_at v.place byte v

-- A CR that isn't followed by LF is a character of its line.
abbrev pub return_taken : CommandsView → CommandsView
return_taken v = if v.lines.returned then after_char 13 v else v

abbrev pub after_next : ℕ → CommandsView → CommandsView
after_next byte v =
    if byte == 10 then v
    else if byte == 13 then return_taken v
    else after_char byte (return_taken v)

-- a byte of a line, before the lines take it
abbrev pub in_line : ℕ → CommandsView → CommandsView
in_line byte v = if is_before_line v.lines then after_first byte v else after_next byte v

abbrev pub after_byte : ℕ → CommandsView → CommandsView
after_byte byte v = record (in_line byte v) { lines = lines.after_byte byte v.lines }

-- What a line completes: a command isn't read as digits. A lone `?` is.
abbrev pub entry_of_command : List ℕ → Entry → Entry
entry_of_command [] refused = refused
entry_of_command (byte ∷ rest) refused = entry.Command

abbrev pub entry_at : CommandPlace → List ℕ → Entry → Entry
entry_at Message command refused = refused
entry_at Command command refused = entry_of_command command refused
entry_at TooLong command refused = entry.TooLong

abbrev pub entry_in : CommandPlace → List ℕ → Option Entry → Option Entry
entry_in place command None = None
entry_in place command (Some refused) = Some (entry_at place command refused)

-- what a byte completes
abbrev pub entry_of_byte : ℕ → CommandsView → Option Entry
entry_of_byte byte v =
    let w = in_line byte v in
    entry_in w.place w.command (lines.entry_of_byte byte v.lines)

-- bytes one after another
unfoldable pub after_bytes : List ℕ → CommandsView → CommandsView
after_bytes [] v = v
after_bytes (byte ∷ rest) v = after_bytes rest (after_byte byte v)

unfoldable pub entries_of_bytes : List ℕ → CommandsView → List Entry
entries_of_bytes [] v = []
entries_of_bytes (byte ∷ rest) v =
    option_to_list (entry_of_byte byte v) ++ entries_of_bytes rest (after_byte byte v)
