-- The first elements of a list, each seen by a function, as they change.
use Rattle.std.proofs.Common.{◌≡◌, ℕ, ◌+◌, ◌≤◌, List, ◌++◌, length, take, drop, map, refl, arith}
use Rattle.std.proofs.lemmas.List.{length-drop, take-append-le, drop-take, drop-map}

-- the first n elements leave, and stand after the others
pub front-rotated : {A B : Type 0} (f : A → B) (n m k : ℕ) (xs : List A) → n + m ≡ k → k ≤ length xs
    → map f (take m (drop n xs ++ take n xs)) ≡ drop n (map f (take k xs))
front-rotated f n m k xs total inside =
    let short : m ≤ length (drop n xs) = omega (arith, length-drop n xs) in
    rw (drop-map f n (take k xs), ← total)
    (rw (take-append-le m (drop n xs) (take n xs) short, drop-take n m xs) refl)
