-- Messages in hexadecimal, one a line.
use Rattle.std.specs.Prelude.{ℕ, ◌+◌, Bool, true, false, ◌==◌, ◌&&◌, nat_le, min, if◌then◌else◌}
use Rattle.std.specs.Prelude.{List, [], ◌||◌, not}
use Rattle.std.specs.Prelude.{◌∷◌, ◌++◌, length, Option, Some, None, option_to_list, Result, Ok}
use Rattle.std.specs.Prelude.{Err}
use Rattle.hex.specs.Hex.{decode_sized}
use Rattle.hex.specs.declared.FromHexError.{FromHexError}
use Rattle.ddcmp_input.specs.declared.entry.Entry.{Entry}
use Rattle.ddcmp_input.specs.declared.entry.Entry.TheVariants.{Message, NotHexadecimal, TooLong}

-- The maximum length of a message; the line number, from 1; a first digit without its second; why
-- the line is refused, if it is; whether it has ended; whether the last byte was a CR, which
-- belongs to the line's end if LF follows; and the bytes decoded so far.
pub record HexView : Type 0 where
  pub max : ℕ
  pub number : ℕ
  pub high : Option ℕ
  pub refused : Option Entry
  pub ended : Bool
  pub returned : Bool
  pub message : List ℕ

abbrev pub begun : ℕ → HexView
begun max = record {
  max = max;
  number = 1;
  high = None;
  refused = None;
  ended = false;
  returned = false;
  message = [];
}

abbrev pub line_begun : HexView → HexView
line_begun v = record {
  max = v.max;
  number = min (v.number + 1) 18446744073709551615;
  high = None;
  refused = None;
  ended = false;
  returned = false;
  message = [];
}

-- the byte that two digits encode
abbrev pub first_byte : List ℕ → Option ℕ
first_byte [] = None
first_byte (byte ∷ rest) = Some byte

abbrev pub first_of_ok : Result (List ℕ) FromHexError → Option ℕ
first_of_ok (Ok bytes) = first_byte bytes
first_of_ok (Err e) = None

unfoldable pub byte_of_digits : ℕ → ℕ → Option ℕ
byte_of_digits high low = first_of_ok (decode_sized (high ∷ low ∷ []) 1)

-- one more byte of a line
abbrev pub after_spelled : Option ℕ → HexView → HexView
after_spelled None v = record v { high = None; refused = Some NotHexadecimal }
after_spelled (Some byte) v =
    if nat_le v.max (length v.message)
    then record v { high = None; refused = Some TooLong }
    else record v { high = None; message = v.message ++ byte ∷ [] }

abbrev pub after_second : Option ℕ → ℕ → HexView → HexView
after_second None digit v = record v { high = Some digit }
after_second (Some high) digit v = after_spelled (byte_of_digits high digit) v

-- A character of a line. Once the line is refused, the rest of it is ignored.
abbrev pub after_digit_in : Option Entry → ℕ → HexView → HexView
after_digit_in None digit v = after_second v.high digit v
after_digit_in (Some why) digit v = v

abbrev pub after_digit : ℕ → HexView → HexView
after_digit digit v = after_digit_in v.refused digit v

-- the end of a line
abbrev pub line_ended : HexView → HexView
line_ended v = record v { ended = true }

abbrev pub entry_of_digits : Option ℕ → List ℕ → Option Entry
entry_of_digits None [] = None
entry_of_digits None (byte ∷ rest) = Some Message
entry_of_digits (Some digit) message = Some NotHexadecimal

abbrev pub entry_of_line_in : Option Entry → HexView → Option Entry
entry_of_line_in None v = entry_of_digits v.high v.message
entry_of_line_in (Some why) v = Some why

abbrev pub entry_of_line : HexView → Option Entry
entry_of_line v = entry_of_line_in v.refused v

-- the line consists of `?` only
abbrev pub is_mark : Option ℕ → Bool
is_mark None = false
is_mark (Some digit) = digit == 63

abbrev pub is_question : HexView → Bool
is_question v = is_mark v.high && (length v.message == 0)

-- the state for a byte, which begins the next line if this one has ended
abbrev pub in_line : HexView → HexView
in_line v = if v.ended then line_begun v else v

-- the next byte is the first of a line
abbrev pub is_nothing : Option ℕ → Option Entry → List ℕ → Bool
is_nothing None None [] = true
is_nothing high refused message = false

abbrev pub is_before_line : HexView → Bool
is_before_line v = v.ended || (is_nothing v.high v.refused v.message && not v.returned)

-- A CR that isn't followed by LF is a character of its line.
abbrev pub return_taken : HexView → HexView
return_taken v = if v.returned then after_digit 13 (record v { returned = false }) else v

abbrev pub after_byte : ℕ → HexView → HexView
after_byte byte v =
    if byte == 10 then line_ended (in_line v)
    else if byte == 13 then record (return_taken (in_line v)) { returned = true }
    else after_digit byte (return_taken (in_line v))

abbrev pub entry_of_byte : ℕ → HexView → Option Entry
entry_of_byte byte v = if byte == 10 then entry_of_line (in_line v) else None

-- bytes one after another
unfoldable pub after_bytes : List ℕ → HexView → HexView
after_bytes [] v = v
after_bytes (byte ∷ rest) v = after_bytes rest (after_byte byte v)

unfoldable pub entries_of_bytes : List ℕ → HexView → List Entry
entries_of_bytes [] v = []
entries_of_bytes (byte ∷ rest) v =
    option_to_list (entry_of_byte byte v) ++ entries_of_bytes rest (after_byte byte v)
