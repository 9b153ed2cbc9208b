-- What a chunk of an input adds to what was read before.
use Rattle.std.specs.Prelude.{◌≡◌, ℕ, ◌+◌, List, ◌++◌, length, None}
use Rattle.std.specs.Option.{option_map}
use Rattle.ddcmp_explain.specs.declared.decoder.Decoded.{Decoded}
use Rattle.ddcmp_explain.specs.declared.form.Form.{Form}
use Rattle.ddcmp_explain.specs.declared.input_bytes.InputBytes.{InputBytes}
use Rattle.ddcmp_explain.specs.Digits.{bytes_of, unexpected_in}
use Rattle.ddcmp_explain.specs.Reads.{IsDecoded, IsRead, dump_in}

-- A chunk was decoded after `seen`: what bytes it adds, and its first unexpected byte.
pub record DecodesIn (form : Form) (seen piece : List ℕ) (decoded : Decoded) (bytes : List ℕ)
    (at : InputBytes) : Type 0 where
  pub whole : bytes_of form (seen ++ piece) ≡ bytes_of form seen ++ bytes
  pub unexpected : unexpected_in form (seen ++ piece)
      ≡ option_map (λ i. length seen + i) decoded.unexpected
  pub dump : dump_in form (seen ++ piece) ≡ at.dump
  pub decoded_is : decoded.unexpected ≡ None → IsDecoded form (seen ++ piece) at.decoder

-- A chunk was read after `seen`, and these bytes were decoded.
pub record AddsBytes (form : Form) (seen piece : List ℕ) (at : InputBytes) (bytes : List ℕ)
    : Type 0 where
  pub read : IsRead form (seen ++ piece) at
  pub whole : bytes_of form (seen ++ piece) ≡ bytes_of form seen ++ bytes
