-- The first elements of a list, each mapped by a function: lemmas that the impl of `Store` cites
-- for what holds for every store, and may take only from specs/.
use Rattle.std.proofs.Common.{◌≡◌, ℕ, zero, suc, ◌<◌, ◌≤◌, List, [], ◌∷◌, length, take, map, get_or}
use Rattle.std.proofs.Common.{arith}
use Rattle.std.proofs.lemmas.List.{length-map, length-take-le}

pub length-front : {A B : Type 0} (f : A → B) (n : ℕ) (xs : List A) → n ≤ length xs
    → length (map f (take n xs)) ≡ n
length-front f n xs h = simp (length-map, length-take-le n xs h)

-- what holds for each mapped one of the first elements holds for each of the result
pub each-front : {A B : Type 0} (f : A → B) (P : B → Type 0) (n : ℕ) (xs : List A) (i : ℕ) (d : B)
    → ((k : ℕ) (x : A) → k < n → P (f (get_or xs k x))) → i < n → i < length xs
    → P (get_or (map f (take n xs)) i d)
each-front f P n [] i d holds below inside = absurd (omega arith)
each-front f P zero (x ∷ xs) i d holds below inside = absurd (omega arith)
each-front f P (suc n) (x ∷ xs) zero d holds below inside = holds zero x (omega arith)
each-front f P (suc n) (x ∷ xs) (suc i) d holds below inside =
    each-front f P n xs i d (λ k y l. holds (suc k) y (omega arith)) (omega arith) (omega arith)
