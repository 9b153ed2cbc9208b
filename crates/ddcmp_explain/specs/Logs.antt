-- The text of a log and the bytes that it encodes, as a grammar, independent of the parser.
use Rattle.std.specs.Prelude.{◌≡◌, ◌≢◌, ℕ, ◌+◌, ◌*◌, true, List, [], ◌∷◌, ◌++◌, Some}
use Rattle.std.specs.List.{All}
use Rattle.ddcmp_explain.specs.Digits.{hex_value, is_between, is_x}

-- Two digits a byte, optionally after `0x`. Between bytes there may be blanks, colons, hyphens and
-- commas, and comments from a `#` to the end of the line.
pub data Log : List ℕ → List ℕ → Type 0 where
  Nothing : Log [] []
  Gap : (c : ℕ) {text bytes : List ℕ} → is_between c ≡ true → Log text bytes → Log (c ∷ text) bytes
  Byte : (a b high low : ℕ) {text bytes : List ℕ} → hex_value a ≡ Some high
      → hex_value b ≡ Some low → Log text bytes
      → Log (a ∷ b ∷ text) ((high * 16 + low) ∷ bytes)
  Prefixed : (x a b high low : ℕ) {text bytes : List ℕ} → is_x x ≡ true → hex_value a ≡ Some high
      → hex_value b ≡ Some low → Log text bytes
      → Log (48 ∷ x ∷ a ∷ b ∷ text) ((high * 16 + low) ∷ bytes)
  Comment : (comment : List ℕ) {text bytes : List ℕ} → All (λ c. c ≢ 10) comment → Log text bytes
      → Log (35 ∷ comment ++ (10 ∷ text)) bytes
  LastComment : (comment : List ℕ) → All (λ c. c ≢ 10) comment → Log (35 ∷ comment) []
