-- The digits of sixteen bytes, lane by lane.
use Rattle.std.proofs.Common.{◌≡◌, ℕ, ◌+◌, ◌*◌, ◌/◌, ◌%◌, ◌^◌, ◌<◌, ◌≤◌, List, [], ◌∷◌, ◌++◌, map}
use Rattle.std.proofs.Common.{length, take, get_or, replicate, bit_and, refl, sym, ◌∙◌, ap, arith}
use Rattle.std.proofs.Common.{append_assoc, w8, Fits}
use Rattle.std.proofs.lemmas.List.{ext_get_or, get_or-map, length-map}
use Rattle.std.proofs.lemmas.Simd.{zip2_splat, take_more_put_chunk, Each1-all, Each1-get_or, swz_l}
use Rattle.std.proofs.lemmas.Simd.{SwzOk, SwzOk-from_below, length-swz_l, get_or-swz_l_below}
use Rattle.std.proofs.lemmas.Simd.{Each1-weaker, Each1-zip2, Each2-splat, below_from_Fits, map-map}
use Rattle.std.proofs.lemmas.Nat.{and_le_r, and_mask}
use lib.Lanes.{zip2, put_chunk, pick_l, Each1}
use Rattle.hex.specs.Hex.{encode_lower, encode_with, lower_digits}

-- ---- the digits of values

pub digits-ok : (v : List ℕ) → length v ≡ 16 → Each1 (λ d. d < 16) v → SwzOk w8 16 16 0 v
digits-ok v long small = SwzOk-from_below w8 16 1 16 0 v refl (omega (arith, long)) small

pub digits-are : (v : List ℕ) → length v ≡ 16 → Each1 (λ d. d < 16) v
    → swz_l w8 16 lower_digits 0 v ≡ map (λ d. get_or lower_digits d 0) v
digits-are v long small =
    let same = length-swz_l w8 16 lower_digits 0 v in
    ext_get_or 0 (swz_l w8 16 lower_digits 0 v) (map (λ d. get_or lower_digits d 0) v)
    (same ∙ sym (length-map v (λ d. get_or lower_digits d 0)))
    (λ i inside.
    let there : i < length v = omega (arith, same) in
    let first : 16 * ((0 + i) / 16) + get_or v i 0 ≡ get_or v i 0 = omega (arith, long) in
    get_or-swz_l_below w8 16 lower_digits 0 v i there (Each1-get_or (λ d. d < 16) v i 0 there small)
    ∙ ap (λ k. get_or lower_digits k 0) first
    ∙ sym (get_or-map (λ d. get_or lower_digits d 0) v i 0 0 there))

-- ---- the halves of a byte

abbrev pub down : ℕ → ℕ → ℕ
down a b = a / 2 ^ b

pub high-small : (v : List ℕ) → Each1 (Fits w8) v
    → Each1 (λ h. h < 16) (zip2 down v (replicate 16 4))
high-small v fits =
    let small =
    Each1-weaker (λ a. a < 256) (λ a. a / 16 < 16) (λ a h. omega arith) v
    (below_from_Fits w8 v fits) in
    Each1-zip2 down (λ j. j < 16) v (replicate 16 4)
    (Each2-splat (λ a b. down a b < 16) v 16 4 small)

pub low-small : (v : List ℕ) → Each1 (λ h. h < 16) (zip2 bit_and v (replicate 16 15))
low-small v =
    let small = Each1-all (λ a. bit_and a 15 < 16) (λ a. omega (arith, and_le_r a 15)) v in
    Each1-zip2 bit_and (λ j. j < 16) v (replicate 16 15)
    (Each2-splat (λ a b. bit_and a b < 16) v 16 15 small)

pub high-are : (v : List ℕ) → length v ≡ 16
    → map (λ d. get_or lower_digits d 0) (zip2 down v (replicate 16 4))
    ≡ map (λ b. get_or lower_digits (b / 16) 0) v
high-are v long =
    ap (map (λ d. get_or lower_digits d 0)) (zip2_splat down v 16 4 long)
    ∙ map-map (λ d. get_or lower_digits d 0) (λ b. b / 16) v

map-same : (f g : ℕ → ℕ) → ((x : ℕ) → f x ≡ g x) → (xs : List ℕ) → map f xs ≡ map g xs
map-same f g e [] = refl
map-same f g e (x ∷ xs) = ap (λ y. y ∷ map f xs) (e x) ∙ ap (λ t. g x ∷ t) (map-same f g e xs)

pub low-are : (v : List ℕ) → length v ≡ 16
    → map (λ d. get_or lower_digits d 0) (zip2 bit_and v (replicate 16 15))
    ≡ map (λ b. get_or lower_digits (b % 16) 0) v
low-are v long =
    ap (map (λ d. get_or lower_digits d 0)) (zip2_splat bit_and v 16 15 long)
    ∙ map-map (λ d. get_or lower_digits d 0) (λ b. bit_and b 15) v
    ∙ map-same _ _ (λ b. ap (λ d. get_or lower_digits d 0) (and_mask b 4)) v

-- ---- the digits in turn

abbrev firsts : List ℕ → List ℕ
firsts both =
    pick_l 0 both (0 ∷ 16 ∷ 1 ∷ 17 ∷ 2 ∷ 18 ∷ 3 ∷ 19 ∷ 4 ∷ 20 ∷ 5 ∷ 21 ∷ 6 ∷ 22 ∷ 7 ∷ 23 ∷ [])

abbrev seconds : List ℕ → List ℕ
seconds both =
    pick_l 0 both (8 ∷ 24 ∷ 9 ∷ 25 ∷ 10 ∷ 26 ∷ 11 ∷ 27 ∷ 12 ∷ 28 ∷ 13 ∷ 29 ∷ 14 ∷ 30 ∷ 15 ∷ 31 ∷ [])

pub sixteen : (P : List ℕ → Type 0)
    → ((a b c d e f g h i j k l m n o p : ℕ)
    → P (a ∷ b ∷ c ∷ d ∷ e ∷ f ∷ g ∷ h ∷ i ∷ j ∷ k ∷ l ∷ m ∷ n ∷ o ∷ p ∷ []))
    → (xs : List ℕ) → length xs ≡ 16 → P xs
sixteen P given (a ∷ b ∷ c ∷ d ∷ e ∷ f ∷ g ∷ h ∷ i ∷ j ∷ k ∷ l ∷ m ∷ n ∷ o ∷ p ∷ []) long =
    given a b c d e f g h i j k l m n o p
sixteen P given _ long = absurd (omega arith)

in-turn : (bytes : List ℕ) → length bytes ≡ 16
    → firsts (map (λ b. get_or lower_digits (b / 16) 0) bytes
    ++ map (λ b. get_or lower_digits (b % 16) 0) bytes)
    ++ seconds (map (λ b. get_or lower_digits (b / 16) 0) bytes
    ++ map (λ b. get_or lower_digits (b % 16) 0) bytes)
    ≡ encode_lower bytes
unfolding encode_with
in-turn bytes long =
    sixteen (λ bytes. firsts
    (map (λ b. get_or lower_digits (b / 16) 0) bytes
    ++ map (λ b. get_or lower_digits (b % 16) 0) bytes)
    ++ seconds (map (λ b. get_or lower_digits (b / 16) 0) bytes
    ++ map (λ b. get_or lower_digits (b % 16) 0) bytes)
    ≡ encode_lower bytes)
    (λ a b c d e f g h i j k l m n o p. refl) bytes long

pub sixteen-put : (digits high low bytes : List ℕ) (at : ℕ) → 2 * (at + 16) ≤ length digits
    → length bytes ≡ 16 → high ≡ map (λ b. get_or lower_digits (b / 16) 0) bytes
    → low ≡ map (λ b. get_or lower_digits (b % 16) 0) bytes
    → length (put_chunk (2 * at) digits (firsts (high ++ low))) ≡ length digits
    → take (2 * (at + 16))
    (put_chunk (2 * at + 16) (put_chunk (2 * at) digits (firsts (high ++ low)))
    (seconds (high ++ low)))
    ≡ take (2 * at) digits ++ encode_lower bytes
sixteen-put digits high low bytes at room long h l same =
    take_more_put_chunk (2 * at + 16) (put_chunk (2 * at) digits (firsts (high ++ low)))
    (seconds (high ++ low)) (2 * (at + 16)) (omega arith) (omega (arith, same))
    ∙ ap (λ t. t ++ seconds (high ++ low))
    (take_more_put_chunk (2 * at) digits (firsts (high ++ low)) (2 * at + 16) (omega arith)
    (omega arith))
    ∙ append_assoc (take (2 * at) digits) (firsts (high ++ low)) (seconds (high ++ low))
    ∙ ap (λ t. take (2 * at) digits ++ t)
    (ap (λ x. firsts (x ++ low) ++ seconds (x ++ low)) h
    ∙ ap (λ x. firsts (map (λ b. get_or lower_digits (b / 16) 0) bytes ++ x)
    ++ seconds (map (λ b. get_or lower_digits (b / 16) 0) bytes ++ x))
    l
    ∙ in-turn bytes long)
