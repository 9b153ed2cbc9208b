-- The table of the values of digits.
use Rattle.std.proofs.Common.{◌≡◌, ℕ, ◌<◌, ◌≤◌, Bool, true, false, Option, Some, None, map, get_or}
use Rattle.std.proofs.Common.{refl, ◌∙◌, ap, arith}
use Rattle.std.specs.Prelude.{nat_lt, if◌then◌else◌}
use Rattle.std.specs.Char.{digit_value}
use Rattle.std.specs.List.{range_with_len}
use Rattle.std.proofs.lemmas.List.FromFn.{get_or-map-range_with_len}
use Rattle.ddcmp_explain.specs.declared.hex_digits.TheConstants.{HEX_VALUES}
use Rattle.ddcmp_frame.proofs.Tests.{ltb-less}
use Rattle.ddcmp_explain.specs.Digits.{hex_value}

-- the value of a digit, and 255 where it is none
entry : ℕ → ℕ
entry c = if nat_lt (digit_value c) 16 then digit_value c else 255

entries-computed : HEX_VALUES ≡ map entry (range_with_len 0 256)
unfolding entry
entries-computed = refl

entry-of : (c : ℕ) → c < 256 → get_or HEX_VALUES c 0 ≡ entry c
entry-of c h =
    ap (λ t. get_or t c 0) entries-computed
    ∙ get_or-map-range_with_len entry 0 256 c c 0 h (omega arith)

pub value-of-digit : (c v : ℕ) → c < 256 → v ≡ get_or HEX_VALUES c 0 → v < 16 → Some v ≡ hex_value c
unfolding entry
value-of-digit c v h is small = by (nat_lt (digit_value c) 16) (is ∙ entry-of c h)
  where
    by : (b : Bool) → v ≡ (if b then digit_value c else 255)
        → ◌≡◌ {A = Option ℕ} (Some v) (if b then Some (digit_value c) else None)
    by true e = ap (λ n. Some n) e
    by false e = absurd (omega arith)

pub no-digit : (c v : ℕ) → c < 256 → v ≡ get_or HEX_VALUES c 0 → 16 ≤ v → None ≡ hex_value c
unfolding entry
no-digit c v h is large = by (digit_value c) (nat_lt (digit_value c) 16) refl (is ∙ entry-of c h)
  where
    by : (d : ℕ) (b : Bool) → nat_lt d 16 ≡ b → v ≡ (if b then d else 255)
        → ◌≡◌ {A = Option ℕ} None (if b then Some d else None)
    by d true less e = let l = ltb-less d 16 less in absurd (omega arith)
    by d false less e = refl
