-- The CRC, by division of polynomials over bits.
use Rattle.std.specs.Prelude.{ℕ, zero, suc, ◌+◌, ◌*◌, ◌/◌, ◌%◌, ◌==◌, Bool, true, false, List, []}
use Rattle.std.specs.Prelude.{◌∷◌, ◌++◌, length, replicate, if◌then◌else◌}
use Rattle.std.proofs.Math.Bool.{xor}

-- A polynomial is the list of its coefficients, that of the highest power first.

-- the k low bits of a number, the lowest first
unfoldable pub low_bits : ℕ → ℕ → List Bool
low_bits zero n = []
low_bits (suc k) n = (n % 2 == 1) ∷ low_bits k (n / 2)

-- the bits of a text, low bit of each byte first
unfoldable pub bits : List ℕ → List Bool
bits [] = []
bits (b ∷ bs) = low_bits 8 b ++ bits bs

-- the sum of two polynomials whose highest powers are one
unfoldable pub add : List Bool → List Bool → List Bool
add [] q = q
add (a ∷ p) [] = a ∷ p
add (a ∷ p) (b ∷ q) = xor a b ∷ add p q

-- x^16 + x^15 + x^2 + 1 without its highest term
unfoldable pub divisor_rest : List Bool
divisor_rest = true ∷ replicate 12 false ++ true ∷ false ∷ true ∷ []

-- the rest of a dividend after k steps of long division by x^16 + x^15 + x^2 + 1
unfoldable pub remainder : ℕ → List Bool → List Bool
remainder zero p = p
remainder (suc k) [] = []
remainder (suc k) (false ∷ p) = remainder k p
remainder (suc k) (true ∷ p) = remainder k (add divisor_rest p)

-- the number with these bits, the lowest first
unfoldable pub number : List Bool → ℕ
number [] = 0
number (b ∷ bs) = (if b then 1 else 0) + 2 * number bs

-- The CRC of a text: the remainder of its polynomial times x^16.
unfoldable pub check_of : List ℕ → ℕ
check_of text = number (remainder (length (bits text)) (bits text ++ replicate 16 false))

-- a CRC as it is written to the line: the low byte, then the high byte
abbrev pub check_pair : ℕ → List ℕ
check_pair check = check % 256 ∷ check / 256 ∷ []
