-- The syntax of scripts: which command each line is.
use Rattle.std.specs.Prelude.{ℕ, ◌+◌, ◌-◌, ◌*◌, Bool, ◌&&◌, ◌||◌, nat_le, nat_lt, ◌==◌}
use Rattle.std.specs.Prelude.{if◌then◌else◌, List, [], ◌∷◌, length, take, codes, slice_index_or}
use Rattle.std.specs.Prelude.{Option, Some, None, Result, Ok, Err}
use Rattle.std.specs.List.{slice_split}
use Rattle.hex.specs.Hex.{decode_of, decode_sized}
use Rattle.hex.specs.declared.error.FromHexError.{FromHexError}
use Rattle.ddcmp_io.specs.declared.carrier.End.{End}
use Rattle.ddcmp_io.specs.declared.carrier.End.TheVariants.{A, B}
use Rattle.ddcmp_pair.specs.declared.event.Event.TheVariants as event
use Rattle.ddcmp_line.specs.declared.command.ScriptCommand.{ScriptCommand}
use Rattle.ddcmp_line.specs.declared.command.ScriptCommand.TheVariants.{Happens, Carry, Lose}
use Rattle.ddcmp_line.specs.declared.command.ScriptCommand.TheVariants.{Damage, Raw, Settle}
use Rattle.ddcmp_line.specs.declared.command.ScriptCommand.TheVariants.{Recover, State}
use Rattle.ddcmp_line.specs.declared.command.ParsedLine.{ParsedLine}
use Rattle.ddcmp_line.specs.declared.command.ParsedLine.TheVariants.{Skipped, Asks}
use Rattle.ddcmp_line.specs.declared.command.ParsedLine.TheVariants.{NoCommand, NotHex}
use Rattle.ddcmp_pair.specs.Place.{same_bytes}

-- ---- words

-- the parts of a line between blanks
unfoldable pub words : List ℕ → List (List ℕ)
words line = slice_split (λ c. c == 32) line

abbrev pub is_word : List ℕ → List ℕ → Bool
is_word word name = same_bytes word name

unfoldable pub end_named : List ℕ → Option End
end_named word =
    if is_word word (codes "A") then Some A else if is_word word (codes "B") then Some B else None

-- ---- numbers, of one to five decimal digits

abbrev pub is_digit : ℕ → Bool
is_digit c = nat_le 48 c && nat_le c 57

-- the number of some digits, which follow those of `before`
abbrev pub number_behind : ℕ → List ℕ → Option ℕ
number_behind before [] = Some before
number_behind before (c ∷ rest) =
    if is_digit c then number_behind (before * 10 + (c - 48)) rest else None

unfoldable pub number_in : List ℕ → Option ℕ
number_in word =
    if length word == 0 || nat_lt 5 (length word) then None else number_behind 0 word

-- ---- bytes, in hexadecimal digits of either case

-- Exactly two digits make a byte.
abbrev pub first_of_ok : Result (List ℕ) FromHexError → Option ℕ
first_of_ok (Ok bytes) = Some (slice_index_or bytes 0 0)
first_of_ok (Err e) = None

unfoldable pub byte_in : List ℕ → Option ℕ
byte_in word = first_of_ok (decode_sized word 1)

abbrev pub bytes_of_ok : Result (List ℕ) FromHexError → Option (List ℕ)
bytes_of_ok (Ok bytes) = Some bytes
bytes_of_ok (Err e) = None

-- a whole number of bytes, two digits each
unfoldable pub bytes_of_digits : List ℕ → Option (List ℕ)
bytes_of_digits word = bytes_of_ok (decode_of word)

-- ---- lines of one, two, three and four words

abbrev pub asked_or_none : Option ScriptCommand → ParsedLine
asked_or_none (Some command) = Asks command
asked_or_none None = NoCommand

unfoldable pub alone : List ℕ → ParsedLine
alone verb =
    if is_word verb (codes "clear") then Asks (Happens event.Clear)
    else if is_word verb (codes "settle") then Asks Settle
    else if is_word verb (codes "recover") then Asks Recover
    else NoCommand

unfoldable pub command_at : List ℕ → End → Option ScriptCommand
command_at verb e =
    if is_word verb (codes "start") then Some (Happens (event.Start e))
    else if is_word verb (codes "halt") then Some (Happens (event.Halt e))
    else if is_word verb (codes "poll") then Some (Happens (event.Poll e))
    else if is_word verb (codes "pass") then Some (Carry e None)
    else if is_word verb (codes "lose") then Some (Lose e)
    else if is_word verb (codes "expire") then Some (Happens (event.Expire e))
    else if is_word verb (codes "take") then Some (Happens (event.Take e))
    else if is_word verb (codes "state") then Some (State e)
    else None

-- `send` without a word sends the empty message.
unfoldable pub asked_at : List ℕ → End → ParsedLine
asked_at verb e =
    if is_word verb (codes "send") then Asks (Happens (event.Send e []))
    else asked_or_none (command_at verb e)

-- A frame is cut after at least one byte.
abbrev pub cut_of : End → Option ℕ → ParsedLine
cut_of e None = NoCommand
cut_of e (Some n) = if nat_lt 0 n then Asks (Carry e (Some n)) else NoCommand

abbrev pub sent_of : End → Option (List ℕ) → ParsedLine
sent_of e (Some bytes) = Asks (Happens (event.Send e bytes))
sent_of e None = NotHex

abbrev pub raw_of : End → Option (List ℕ) → ParsedLine
raw_of e (Some bytes) = Asks (Raw e bytes)
raw_of e None = NotHex

unfoldable pub asked_with : List ℕ → End → List ℕ → ParsedLine
asked_with verb e word =
    if length word == 0 then NoCommand
    else if is_word verb (codes "cut") then cut_of e (number_in word)
    else if is_word verb (codes "send") then sent_of e (bytes_of_digits word)
    else if is_word verb (codes "raw") then raw_of e (bytes_of_digits word)
    else NoCommand

abbrev pub damage_by : End → ℕ → Option ℕ → ParsedLine
damage_by e at (Some byte) = Asks (Damage e at byte)
damage_by e at None = NotHex

-- first the number, then the byte
abbrev pub damage_of : End → Option ℕ → Option ℕ → ParsedLine
damage_of e None byte = NoCommand
damage_of e (Some at) byte = damage_by e at byte

unfoldable pub asked_damage : List ℕ → End → List ℕ → List ℕ → ParsedLine
asked_damage verb e number byte =
    if is_word verb (codes "damage") && nat_lt 0 (length byte)
    then damage_of e (number_in number) (byte_in byte)
    else NoCommand

-- by the words after the name of the end
unfoldable pub asked_by : List ℕ → End → List (List ℕ) → ParsedLine
asked_by verb e [] = asked_at verb e
asked_by verb e (word ∷ []) = asked_with verb e word
asked_by verb e (number ∷ byte ∷ []) = asked_damage verb e number byte
asked_by verb e (word ∷ second ∷ third ∷ more) = NoCommand

abbrev pub asked_of_end : List ℕ → Option End → List (List ℕ) → ParsedLine
asked_of_end verb None more = NoCommand
asked_of_end verb (Some e) more = asked_by verb e more

-- The first word is the command, and the second the end.
unfoldable pub asked_in : List (List ℕ) → ParsedLine
asked_in [] = NoCommand
asked_in (verb ∷ []) = alone verb
asked_in (verb ∷ word ∷ more) = asked_of_end verb (end_named word) more

-- an empty line, or one that begins with `#`
abbrev pub is_skipped : List ℕ → Bool
is_skipped line = length line == 0 || slice_index_or line 0 0 == 35

unfoldable pub reading_of : List ℕ → ParsedLine
reading_of line = if is_skipped line then Skipped else asked_in (words line)

-- ---- lines of a text

-- A CR before the LF that ends a line isn't part of the line.
unfoldable pub without_cr : List ℕ → List ℕ
without_cr line =
    if slice_index_or line (length line - 1) 0 == 13 then take (length line - 1) line else line

-- the parts of a text between LFs; the last one isn't ended by an LF
unfoldable pub between_lf : List ℕ → List (List ℕ)
between_lf text = slice_split (λ c. c == 10) text

-- the lines that end with LF, without their CR, and after them the last one if it isn't empty
abbrev pub lines_between : List (List ℕ) → List (List ℕ)
lines_between [] = []
lines_between (last ∷ []) = if length last == 0 then [] else last ∷ []
lines_between (line ∷ next ∷ more) = without_cr line ∷ lines_between (next ∷ more)

unfoldable pub lines_of : List ℕ → List (List ℕ)
lines_of text = lines_between (between_lf text)
