-- Hexadecimal digits of bytes, one part after another, and a text under another name.
use Rattle.std.proofs.Common.{◌≡◌, ℕ, ◌+◌, List, [], ◌∷◌, ◌++◌, take, refl, sym, ◌∙◌, ap, subst}
use Rattle.std.specs.Prelude.{slice_index, ◌/◌, ◌%◌, drop}
use Rattle.std.proofs.lemmas.List.{append-nil}
use Rattle.std.proofs.Math.Seq.{take-add}
use Rattle.hex.specs.Hex.{encode_lower, encode_with, lower_digits}
use Rattle.ddcmp_io.specs.Written.{Output, Holds, HandsOver}

pub sends-as : {a b : Output} {s t : List ℕ} → s ≡ t → HandsOver a b s → HandsOver a b t
sends-as {a} {b} e p = subst (λ t. HandsOver a b t) e p

pub sends-nothing : (a : Output) → HandsOver a a []
sends-nothing a =
    record { holds = λ start before h. subst (λ t. Holds start t a) (sym (append-nil before)) h }

encode-append : (t x y : List ℕ) → encode_with t (x ++ y) ≡ encode_with t x ++ encode_with t y
unfolding encode_with
encode-append t [] y = refl
encode-append t (b ∷ x) y =
    ap (λ r. slice_index t (b / 16) ∷ slice_index t (b % 16) ∷ r) (encode-append t x y)

pub hex-nothing : encode_lower [] ≡ []
unfolding encode_with
hex-nothing = refl

-- the next part of some bytes
pub hex-more : (bytes : List ℕ) (i n : ℕ)
    → encode_lower (take i bytes) ++ encode_lower (take n (drop i bytes))
    ≡ encode_lower (take (i + n) bytes)
hex-more bytes i n =
    sym (encode-append lower_digits (take i bytes) (take n (drop i bytes)))
    ∙ ap encode_lower (sym (take-add i n bytes))
