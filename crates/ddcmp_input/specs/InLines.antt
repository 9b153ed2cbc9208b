-- The meaning of an input in hexadecimal: one message a line.
use Rattle.std.specs.Prelude.{◌≡◌, ℕ, ◌+◌, ◌≤◌, Bool, if◌then◌else◌, min, List, [], ◌∷◌, ◌++◌}
use Rattle.std.specs.Prelude.{length, map, option_to_list, Some}
use Rattle.ddcmp_input.specs.HexLines.{HexView, begun, byte_of_digits, after_byte, entry_of_byte}
use Rattle.ddcmp_input.specs.InBinary.{Fits}
use Rattle.ddcmp_input.specs.Told.{Told, Got, told_of}

-- what a byte completes, with the number of its line, and what bytes complete, one after another
abbrev pub told_by_byte : ℕ → HexView → List (ℕ × Told)
told_by_byte byte v =
    map (λ e. ((after_byte byte v).number, told_of e (after_byte byte v).message))
    (option_to_list (entry_of_byte byte v))

unfoldable pub told_in : List ℕ → HexView → List (ℕ × Told)
told_in [] v = []
told_in (byte ∷ rest) v = told_by_byte byte v ++ told_in rest (after_byte byte v)

-- the state at the beginning of the line of this number
abbrev pub line_at : ℕ → ℕ → HexView
line_at max number = record (begun max) { number = number }

-- the number of the next line
abbrev pub next_number : ℕ → ℕ
next_number number = min (number + 1) 18446744073709551615

-- the end of a line: LF, or CR LF
abbrev pub carriage : Bool → List ℕ
carriage returns = if returns then 13 ∷ [] else []

abbrev pub line_end : Bool → List ℕ
line_end returns = carriage returns ++ 10 ∷ []

-- these digits, of either case, encode these bytes, two digits a byte
abbrev pub Spells : List ℕ → List ℕ → Type 0
Spells [] [] = Unit {0}
Spells [] (byte ∷ message) = ⊥
Spells (digit ∷ []) message = ⊥
Spells (high ∷ low ∷ digits) [] = ⊥
Spells (high ∷ low ∷ digits) (byte ∷ message) =
    (byte_of_digits high low ≡ Some byte) × Spells digits message

-- Neither this line nor, if it ends with CR, the line without that encodes at most `max` bytes.
abbrev pub IsNone : ℕ → List ℕ → Type 0
IsNone max line = (digits message : List ℕ) (returns : Bool) → line ≡ digits ++ carriage returns
    → Spells digits message → length message ≤ max → ⊥

-- digits, and the message that they encode, which may be empty
pub record Line : Type 0 where
  pub digits : List ℕ
  pub message : List ℕ

pub record IsLine (max : ℕ) (line : Line) : Type 0 where
  pub spells : Spells line.digits line.message
  pub fits : Fits max line.message

-- lines, one after another; and what is reported of them, the first having this number
unfoldable pub in_lines : Bool → List Line → List ℕ
in_lines returns [] = []
in_lines returns (line ∷ rest) = line.digits ++ (line_end returns ++ in_lines returns rest)

unfoldable pub messages_of : ℕ → List Line → List (ℕ × Told)
messages_of number [] = []
messages_of number (line ∷ rest) =
    (number, Got line.message) ∷ messages_of (next_number number) rest
