-- Short texts, for labels and notes.
use Rattle.std.specs.Prelude.{ℕ, Bool, ◌+◌, ◌==◌, if◌then◌else◌, nat_lt, List, [], ◌∷◌, ◌++◌}
use Rattle.std.specs.Prelude.{length, take, min, slice_set, codes, decimal, replicate}
use Rattle.hex.specs.Hex.{encode_lower}
use Rattle.ddcmp_picture.specs.declared.short_text.ShortText.{ShortText}

-- no text
abbrev pub no_text : ShortText
no_text = record { bytes = replicate 96 32; len = 0 }

abbrev pub is_blank : ShortText → Bool
is_blank t = t.len == 0

-- the bytes of the text
abbrev pub text_in : ShortText → List ℕ
text_in t = take (min t.len 96) t.bytes

-- a byte is appended, if there is room for it
abbrev pub with_byte : ShortText → ℕ → ShortText
with_byte t byte =
    if nat_lt t.len 96 then record { bytes = slice_set t.bytes t.len byte; len = t.len + 1 } else t

-- the same for the bytes of a text, one after another
unfoldable pub with_text : ShortText → List ℕ → ShortText
with_text t [] = t
with_text t (byte ∷ rest) = with_text (with_byte t byte) rest

-- Up to ten bytes are shown as digits; of more, the first six, and how many there are.
abbrev pub bytes_shown : List ℕ → List ℕ
bytes_shown bytes =
    if nat_lt 10 (length bytes)
    then encode_lower (take 6 bytes) ++ codes ".. (" ++ decimal (length bytes) ++ codes " bytes)"
    else encode_lower bytes
