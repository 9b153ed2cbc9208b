-- The table of the texts of numbers of one byte.
use Rattle.std.proofs.Common.{◌≡◌, ℕ, ◌+◌, ◌/◌, ◌%◌, ◌<◌, ◌≤◌, Bool, true, false, List, [], ◌∷◌}
use Rattle.std.proofs.Common.{take, map, get_or, refl, sym, ◌∙◌, ap, subst, arith}
use Rattle.std.specs.Prelude.{nat_lt}
use Rattle.std.specs.Fmt.{decimal}
use Rattle.std.specs.List.{range_with_len}
use Rattle.std.proofs.lemmas.List.FromFn.{get_or-map-range_with_len}
use Rattle.std.proofs.lemmas.Fmt.{decimal_digit}
use Rattle.ddcmp_frame.proofs.Tests.{ltb-less, ltb-not}
use Rattle.ddcmp_explain.specs.declared.byte_texts.TheConstants.{BYTE_TEXTS}
use Rattle.ddcmp_explain.proofs.PuttingLaws.{decimal-two, decimal-three}

-- the digits, blanks up to three bytes, and how many digits there are
text_by : Bool → Bool → ℕ → List ℕ
text_by true b n = (48 + n) ∷ 32 ∷ 32 ∷ 1 ∷ []
text_by false true n = (48 + n / 10) ∷ (48 + n % 10) ∷ 32 ∷ 2 ∷ []
text_by false false n = (48 + n / 10 / 10) ∷ (48 + n / 10 % 10) ∷ (48 + n % 10) ∷ 3 ∷ []

entry : ℕ → List ℕ
entry n = text_by (nat_lt n 10) (nat_lt n 100) n

entries-computed : BYTE_TEXTS ≡ map entry (range_with_len 0 256)
unfolding entry text_by
entries-computed = refl

entry-of : (n : ℕ) → n < 256 → get_or BYTE_TEXTS n [] ≡ entry n
entry-of n h =
    ap (λ t. get_or t n []) entries-computed
    ∙ get_or-map-range_with_len entry 0 256 n n [] h (omega arith)

abbrev pub IsText : ℕ → List ℕ → Type 0
IsText n text =
    (take (get_or text 3 0) (get_or text 0 0 ∷ get_or text 1 0 ∷ get_or text 2 0 ∷ []) ≡ decimal n)
    × (get_or text 3 0 ≤ 3)

pub is-text : (n : ℕ) → n < 256 → IsText n (get_or BYTE_TEXTS n [])
unfolding entry text_by
is-text n h = subst (IsText n) (sym (entry-of n h)) (by (nat_lt n 10) (nat_lt n 100) refl refl)
  where
    by : (small middle : Bool) → nat_lt n 10 ≡ small → nat_lt n 100 ≡ middle
        → IsText n (text_by small middle n)
    by true middle l m = (sym (decimal_digit n (ltb-less n 10 l)), omega arith)
    by false true l m = (decimal-two n (ltb-not n 10 l) (ltb-less n 100 m), omega arith)
    by false false l m = (decimal-three n (ltb-not n 100 m) (omega arith), omega arith)
