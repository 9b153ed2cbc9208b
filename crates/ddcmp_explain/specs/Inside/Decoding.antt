-- What decoding a chunk of an input yields.
use Rattle.std.specs.Prelude.{◌≡◌, ℕ, ◌+◌, ◌≤◌, List, ◌++◌, length, map, slice_index, take}
use Rattle.std.specs.Prelude.{option_to_list, Option, Some, None}
use Rattle.std.specs.Simd.Lanes.{Each1, chunk}
use Rattle.std.specs.Option.{option_map}
use Rattle.ddcmp_explain.specs.declared.form.Form.{Form}
use Rattle.ddcmp_explain.specs.declared.form.Form.TheVariants.{Hex, Text, Raw, Dump}
use Rattle.ddcmp_explain.specs.declared.decoder.Decoded.{Decoded}
use Rattle.ddcmp_explain.specs.declared.hex_digits.TheConstants.{HEX_VALUES}
use Rattle.ddcmp_explain.specs.Digits.{bytes_of, hex_value, left_in, pairs, unexpected_in}

-- where a chunk is read to: raw bytes need no decoding
abbrev pub chunk_in : Form → List ℕ → List ℕ → List ℕ
chunk_in Raw piece bytes = bytes
chunk_in Hex piece bytes = piece
chunk_in Text piece bytes = piece
chunk_in Dump piece bytes = piece

-- A chunk was decoded after `seen`: how many bytes it adds, its first unexpected byte, and if there
-- is none, the digit that is left over.
pub record Decodes (form : Form) (seen piece : List ℕ) (decoded : Decoded) (bytes : List ℕ)
    (high : Option ℕ) : Type 0 where
  pub whole : bytes_of form (seen ++ piece) ≡ bytes_of form seen ++ take decoded.count bytes
  pub unexpected : unexpected_in form (seen ++ piece)
      ≡ option_map (λ i. length seen + i) decoded.unexpected
  pub left : decoded.unexpected ≡ None → left_in form (seen ++ piece) ≡ option_to_list high

-- Sixteen digits from `i` on were decoded into eight bytes, which were put after `count` others.
pub record PutsEight (piece : List ℕ) (i : ℕ) (old : List ℕ) (count : ℕ) (new : List ℕ)
    : Type 0 where
  pub inside : i + 16 ≤ length piece
  pub digits : Each1 (λ c. hex_value c ≡ Some (slice_index HEX_VALUES c)) (chunk i 16 piece)
  pub put : take (count + 8) new
      ≡ take count old ++ pairs (map (λ c. slice_index HEX_VALUES c) (chunk i 16 piece))
