-- What is kept, as more is kept.
use Rattle.std.proofs.Common.{◌≡◌, ℕ, zero, suc, ◌+◌, ◌-◌, ◌<◌, ◌≤◌, List, [], ◌∷◌, ◌++◌, length}
use Rattle.std.proofs.Common.{take, drop, get_or, refl, ◌∙◌, ap, arith}
use Rattle.std.specs.Prelude.{zip}
use Rattle.std.proofs.lemmas.List.{take-append-le, drop-append-le, take_all, length-drop}
use Rattle.std.proofs.Math.Seq.{drop-length}
use Rattle.ddcmp_pair.specs.Inside.Kept.{cut_from, AreEnds}

-- ---- where messages end

pub ends-within : (at : ℕ) (ends : List ℕ) (size : ℕ) → AreEnds at ends size → at ≤ size
unfolding AreEnds
ends-within at [] size e = let same : at ≡ size = e in omega (arith, same)
ends-within at (end ∷ ends) size h =
    let first = h.0 in
    let rest = ends-within end ends size h.1 in
    omega (arith, first, rest)

pub no-ends : AreEnds 0 [] 0
unfolding AreEnds
no-ends = refl

pub ends-more : (at : ℕ) (ends : List ℕ) (size more : ℕ) → AreEnds at ends size
    → AreEnds at (ends ++ (size + more) ∷ []) (size + more)
unfolding AreEnds
ends-more at [] size more e = (let same : at ≡ size = e in omega (arith, same), refl)
ends-more at (end ∷ ends) size more h = (h.0, ends-more end ends size more h.1)

pub in-order : (at : ℕ) (ends : List ℕ) (size i d : ℕ) → AreEnds at ends size → i < length ends
    → (get_or (at ∷ ends) i 0 ≤ get_or ends i d) × (get_or ends i d ≤ size)
unfolding AreEnds
in-order at [] size i d h below = absurd (omega (arith, below))
in-order at (end ∷ ends) size zero d h below = (h.0, ends-within end ends size h.1)
in-order at (end ∷ ends) size (suc i) d h below =
    in-order end ends size i d h.1 (omega (arith, below))

-- ---- bytes cut into messages

piece-stays : (at end : ℕ) (bytes more : List ℕ) → at ≤ end → end ≤ length bytes
    → take (end - at) (drop at (bytes ++ more)) ≡ take (end - at) (drop at bytes)
piece-stays at end bytes more a b =
    ap (take (end - at)) (drop-append-le at bytes more (omega (arith, a, b)))
    ∙ take-append-le (end - at) (drop at bytes) more
    (let left = length-drop at bytes in omega (arith, a, b, left))

last-piece : (bytes more : List ℕ)
    → take (length bytes + length more - length bytes) (drop (length bytes) (bytes ++ more)) ≡ more
last-piece bytes more =
    ap (take (length bytes + length more - length bytes))
    (drop-append-le (length bytes) bytes more (omega arith)
    ∙ ap (λ t. t ++ more) (drop-length bytes))
    ∙ take_all (length bytes + length more - length bytes) more (omega arith)

pub cut-more : (at : ℕ) (ends bytes more : List ℕ) → AreEnds at ends (length bytes)
    → cut_from at (ends ++ (length bytes + length more) ∷ []) (bytes ++ more)
    ≡ cut_from at ends bytes ++ more ∷ []
unfolding cut_from AreEnds
cut-more at [] bytes more e =
    let same : at ≡ length bytes = e in
    ap (λ n. take (length bytes + length more - n) (drop n (bytes ++ more)) ∷ []) same
    ∙ ap (λ p. p ∷ []) (last-piece bytes more)
cut-more at (end ∷ ends) bytes more h =
    ap (λ p. p ∷ cut_from end (ends ++ (length bytes + length more) ∷ []) (bytes ++ more))
    (piece-stays at end bytes more h.0 (ends-within end ends (length bytes) h.1))
    ∙ ap (λ r. take (end - at) (drop at bytes) ∷ r) (cut-more end ends bytes more h.1)

pub cut-length : (at : ℕ) (ends bytes : List ℕ) → length (cut_from at ends bytes) ≡ length ends
unfolding cut_from
cut-length at [] bytes = refl
cut-length at (end ∷ ends) bytes = ap suc (cut-length end ends bytes)

pub cut-nothing : (bytes : List ℕ) → cut_from 0 [] bytes ≡ []
unfolding cut_from
cut-nothing bytes = refl

pub cut-at : (at : ℕ) (ends bytes : List ℕ) (i e : ℕ) (d : List ℕ) → i < length ends
    → get_or (cut_from at ends bytes) i d
    ≡ take (get_or ends i e - get_or (at ∷ ends) i 0) (drop (get_or (at ∷ ends) i 0) bytes)
unfolding cut_from
cut-at at [] bytes i e d below = absurd (omega (arith, below))
cut-at at (end ∷ ends) bytes zero e d below = refl
cut-at at (end ∷ ends) bytes (suc i) e d below = cut-at end ends bytes i e d (omega (arith, below))

-- ---- headers and their data

pub zip-more : {X Y : Type 0} (xs : List X) (ys : List Y) (x : X) (y : Y) → length xs ≡ length ys
    → zip (xs ++ x ∷ []) (ys ++ y ∷ []) ≡ zip xs ys ++ (x, y) ∷ []
zip-more [] [] x y e = refl
zip-more [] (b ∷ ys) x y e = absurd (omega (arith, e))
zip-more (a ∷ xs) [] x y e = absurd (omega (arith, e))
zip-more (a ∷ xs) (b ∷ ys) x y e = ap (λ r. (a, b) ∷ r) (zip-more xs ys x y (omega (arith, e)))

pub zip-length : {X Y : Type 0} (xs : List X) (ys : List Y) → length xs ≡ length ys
    → length (zip xs ys) ≡ length xs
zip-length [] ys e = refl
zip-length (a ∷ xs) [] e = absurd (omega (arith, e))
zip-length (a ∷ xs) (b ∷ ys) e = ap suc (zip-length xs ys (omega (arith, e)))

pub zip-at : {X Y : Type 0} (xs : List X) (ys : List Y) (i : ℕ) (d : X × Y) (x : X) (y : Y)
    → length xs ≡ length ys → i < length xs
    → get_or (zip xs ys) i d ≡ (get_or xs i x, get_or ys i y)
zip-at [] ys i d x y e below = absurd (omega (arith, below))
zip-at (a ∷ xs) [] i d x y e below = absurd (omega (arith, e))
zip-at (a ∷ xs) (b ∷ ys) zero d x y e below = refl
zip-at (a ∷ xs) (b ∷ ys) (suc i) d x y e below =
    zip-at xs ys i d x y (omega (arith, e)) (omega (arith, below))
