-- The digits that bytes are written in spell them.
use Rattle.std.proofs.Common.{ℕ, zero, suc, List, [], ◌∷◌, ◌∙◌, ap, arith}
use Rattle.hex.specs.Hex.{encode_with, encode_lower, encode_upper, lower_digits, upper_digits}
use Rattle.hex.specs.Hex.{IsBytes}
use Rattle.hex.proofs.HexLemmas.{decode_of-encode_lower, decode_of-encode_upper, decode_sized-twice}
use Rattle.hex.proofs.HexLemmas.{length-encode_with}
use Rattle.ddcmp_input.specs.HexLines.{first_of_ok, byte_of_digits}
use Rattle.ddcmp_input.specs.InLines.{Spells}

one_byte : (byte : ℕ) (message : List ℕ) → IsBytes (byte ∷ message) → IsBytes (byte ∷ [])
one_byte byte message b zero = b zero
one_byte byte message b (suc i) = omega arith

more_bytes : (byte : ℕ) (message : List ℕ) → IsBytes (byte ∷ message) → IsBytes message
more_bytes byte message b i = b (suc i)

pub spells_lower : (message : List ℕ) → IsBytes message → Spells (encode_lower message) message
unfolding encode_with byte_of_digits
spells_lower [] b = tt
spells_lower (byte ∷ message) b =
    let s = encode_lower (byte ∷ []) in (
      ap first_of_ok
          (decode_sized-twice s 1 (length-encode_with lower_digits (byte ∷ []))
          ∙ decode_of-encode_lower (byte ∷ []) (one_byte byte message b)),
      spells_lower message (more_bytes byte message b),
    )

pub spells_upper : (message : List ℕ) → IsBytes message → Spells (encode_upper message) message
unfolding encode_with byte_of_digits
spells_upper [] b = tt
spells_upper (byte ∷ message) b =
    let s = encode_upper (byte ∷ []) in (
      ap first_of_ok
          (decode_sized-twice s 1 (length-encode_with upper_digits (byte ∷ []))
          ∙ decode_of-encode_upper (byte ∷ []) (one_byte byte message b)),
      spells_upper message (more_bytes byte message b),
    )
