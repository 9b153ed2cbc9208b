-- The bytes that sixteen digits spell, lane by lane.
use Rattle.std.proofs.Common.{◌≡◌, ℕ, suc, ◌+◌, ◌-◌, ◌*◌, ◌%◌, ◌^◌, ◌<◌, Bool, true, false, cond}
use Rattle.std.proofs.Common.{ltb, List, [], ◌∷◌, ◌++◌, map, length, get_or, replicate, bit_or}
use Rattle.std.proofs.Common.{refl, sym, ◌∙◌, ap, subst, arith, ltb-true, w8, Fits, Some}
use Rattle.std.specs.List.{range_with_len}
use Rattle.std.proofs.lemmas.List.FromFn.{get_or-map-range_with_len}
use Rattle.std.proofs.lemmas.Simd.{bitmask_splat, Each1-weaker, below_from_Fits}
use lib.Lanes.{zip2, sel_l, mask_l, top, pick_l, Each1}
use Rattle.ddcmp_explain.specs.declared.hex_digits.TheConstants.{HEX_VALUES}
use Rattle.ddcmp_explain.specs.Digits.{hex_value, pairs}
use Rattle.ddcmp_explain.proofs.HexValues.{value-of-digit}
use Rattle.ddcmp_io.proofs.VectorLaws.{sixteen}

-- ---- the value of a digit

abbrev add : ℕ → ℕ → ℕ
add a b = (a + b) % 2 ^ 8

abbrev pub less : ℕ → ℕ → ℕ
less a b = (a + (2 ^ 8 - b)) % 2 ^ 8

abbrev pub under : ℕ → ℕ → ℕ
under a b = cond (ltb a b) 255 0

abbrev valued : ℕ → ℕ
valued c =
    cond (top 7 (under (less c 48) 10)) (less c 48)
    (cond (top 7 (under (less (bit_or c 32) 97) 6)) (add (less (bit_or c 32) 97) 10) 255)

values-computed : HEX_VALUES ≡ map valued (range_with_len 0 256)
values-computed = refl

valued-is : (c : ℕ) → c < 256 → valued c ≡ get_or HEX_VALUES c 0
valued-is c h =
    sym (ap (λ t. get_or t c 0) values-computed
    ∙ get_or-map-range_with_len valued 0 256 c c 0 h (omega arith))

abbrev pub lanes_of : ℕ → List ℕ → List ℕ
lanes_of n xs =
    sel_l (map (top 7) (zip2 under (zip2 less xs (replicate n 48)) (replicate n 10)))
    (zip2 less xs (replicate n 48))
    (sel_l (map (top 7)
    (zip2 under (zip2 less (zip2 bit_or xs (replicate n 32)) (replicate n 97)) (replicate n 6)))
    (zip2 add (zip2 less (zip2 bit_or xs (replicate n 32)) (replicate n 97)) (replicate n 10))
    (replicate n 255))

lanes-are : (xs : List ℕ) → Each1 (λ c. c < 256) xs
    → lanes_of (length xs) xs ≡ map (λ c. get_or HEX_VALUES c 0) xs
lanes-are [] h = refl
lanes-are (x ∷ xs) h =
    ap (λ v. v ∷ lanes_of (length xs) xs) (valued-is x h.0)
    ∙ ap (λ t. get_or HEX_VALUES x 0 ∷ t) (lanes-are xs h.1)

pub values-are : (xs : List ℕ) → length xs ≡ 16 → Each1 (Fits w8) xs
    → lanes_of 16 xs ≡ map (λ c. get_or HEX_VALUES c 0) xs
values-are xs long fits =
    subst (λ n. lanes_of n xs ≡ map (λ c. get_or HEX_VALUES c 0) xs) long
    (lanes-are xs (below_from_Fits w8 xs fits))

-- ---- two values a byte

abbrev pub times : ℕ → ℕ → ℕ
times a b = (a * b) % 2 ^ 8

joined : (a b : ℕ) → a < 16 → b < 16 → add (times a 16) b ≡ a * 16 + b
joined a b h l = omega arith

cons2 : {x y : ℕ} {s t : List ℕ} → x ≡ y → s ≡ t → x ∷ s ≡ y ∷ t
cons2 {x} {y} {s} {t} e f = ap (λ z. z ∷ s) e ∙ ap (λ z. y ∷ z) f

abbrev pub joined_of : List ℕ → List ℕ
joined_of xs =
    zip2 add
    (zip2 times (pick_l 0 (xs ++ xs) (0 ∷ 2 ∷ 4 ∷ 6 ∷ 8 ∷ 10 ∷ 12 ∷ 14 ∷ [])) (replicate 8 16))
    (pick_l 0 (xs ++ xs) (1 ∷ 3 ∷ 5 ∷ 7 ∷ 9 ∷ 11 ∷ 13 ∷ 15 ∷ []))

pub pairs-are : (xs : List ℕ) → length xs ≡ 16 → Each1 (λ v. v < 16) xs → joined_of xs ≡ pairs xs
pairs-are xs long small =
    sixteen (λ xs. Each1 (λ v. v < 16) xs → joined_of xs ≡ pairs xs)
    (λ a b c d e f g h i j k l m n o p. λ small.
    (cons2 (joined a b small.0 small.1.0)
    (cons2 (joined c d small.1.1.0 small.1.1.1.0)
    (cons2 (joined e f small.1.1.1.1.0 small.1.1.1.1.1.0)
    (cons2 (joined g h small.1.1.1.1.1.1.0 small.1.1.1.1.1.1.1.0)
    (cons2 (joined i j small.1.1.1.1.1.1.1.1.0 small.1.1.1.1.1.1.1.1.1.0)
    (cons2
    (joined k l small.1.1.1.1.1.1.1.1.1.1.0
    small.1.1.1.1.1.1.1.1.1.1.1.0)
    (cons2
    (joined m n small.1.1.1.1.1.1.1.1.1.1.1.1.0
    small.1.1.1.1.1.1.1.1.1.1.1.1.1.0)
    (cons2
    (joined o p small.1.1.1.1.1.1.1.1.1.1.1.1.1.1.0
    small.1.1.1.1.1.1.1.1.1.1.1.1.1.1.1.0)
    refl)))))))))
    xs long small

pub eight-long : (f : ℕ → ℕ) (t : List ℕ) → length t ≡ 16 → length (pairs (map f t)) ≡ 8
eight-long f t long =
    sixteen (λ t. length (pairs (map f t)) ≡ 8) (λ a b c d e f g h i j k l m n o p. refl) t long

-- ---- where all are digits

bit-set : (b : Bool) (m k : ℕ) → cond b 1 0 + 2 * m + 1 ≡ 2 ^ suc k → (b ≡ true) × (m + 1 ≡ 2 ^ k)
bit-set true m k e = (refl, omega arith)
bit-set false m k e = absurd (omega arith)

all-set : (p : ℕ → Bool) (xs : List ℕ) → mask_l (map p xs) + 1 ≡ 2 ^ length xs
    → Each1 (λ x. p x ≡ true) xs
all-set p [] e = tt
all-set p (x ∷ xs) e = let both = bit-set (p x) (mask_l (map p xs)) (length xs) e in
    (both.0, all-set p xs both.1)

pub all-small : (xs : List ℕ) → length xs ≡ 16
    → mask_l (map (top 7) (zip2 under xs (replicate 16 16))) % 2 ^ 64 ≡ 65535
    → Each1 (λ v. v < 16) xs
all-small xs long set =
    let bits : mask_l (map (λ x. ltb x 16) xs) ≡ 65535 =
    sym (bitmask_splat w8 ltb xs 16 16 long (omega arith)) ∙ set in
    let whole : mask_l (map (λ x. ltb x 16) xs) + 1 ≡ 2 ^ length xs =
    ap (λ m. m + 1) bits ∙ ap (λ n. 2 ^ n) (sym long) in
    Each1-weaker (λ x. ltb x 16 ≡ true) (λ v. v < 16) (λ v e. ltb-true v 16 e) xs
    (all-set (λ x. ltb x 16) xs whole)

pub all-digits : (xs : List ℕ) → Each1 (λ c. c < 256) xs
    → Each1 (λ v. v < 16) (map (λ c. get_or HEX_VALUES c 0) xs)
    → Each1 (λ c. hex_value c ≡ Some (get_or HEX_VALUES c 0)) xs
all-digits [] b s = tt
all-digits (x ∷ xs) b s =
    (sym (value-of-digit x (get_or HEX_VALUES x 0) b.0 refl s.0), all-digits xs b.1 s.1)
