-- The meaning of an input in binary: its messages, each after its length.
use Rattle.std.specs.Prelude.{ℕ, ◌≤◌, ◌/◌, ◌%◌, List, [], ◌∷◌, ◌++◌, length, map, option_to_list}
use Rattle.ddcmp_input.specs.Lengths.{LengthsView, after_byte, entry_of_byte}
use Rattle.ddcmp_input.specs.Told.{Told, told_of}

-- what a byte completes, and what bytes complete, one after another
abbrev pub told_by_byte : ℕ → LengthsView → List Told
told_by_byte byte v =
    map (λ e. told_of e (after_byte byte v).message) (option_to_list (entry_of_byte byte v))

unfoldable pub told_in : List ℕ → LengthsView → List Told
told_in [] v = []
told_in (byte ∷ rest) v = told_by_byte byte v ++ told_in rest (after_byte byte v)

-- a message after its length as two bytes
abbrev pub behind_length : List ℕ → List ℕ
behind_length message = length message / 256 ∷ length message % 256 ∷ message

-- messages, one after another
unfoldable pub in_binary : List (List ℕ) → List ℕ
in_binary [] = []
in_binary (message ∷ rest) = behind_length message ++ in_binary rest

-- a message has 1 to `max` bytes
abbrev pub Fits : ℕ → List ℕ → Type 0
Fits max message = (1 ≤ length message) × (length message ≤ max)
