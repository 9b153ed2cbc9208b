-- Messages that are stored one after another, cut from their bytes by their lengths. The impl of
-- `Store` cites the lemmas for what holds for every store, and may take them only from specs/.
use Rattle.std.proofs.Common.{◌≡◌, ℕ, zero, suc, ◌<◌, ◌≤◌, sum, sum_by, All, refl, arith}
use Rattle.std.proofs.Common.{List, [], ◌∷◌, length, take, drop, get_or}
use Rattle.std.proofs.lemmas.List.{length-take-le, length-drop, drop-drop}
use Rattle.std.proofs.lemmas.List.Sums.{sum_by-cons, sum_by_more_le}

-- the messages of these lengths, the first of them at the front of the bytes
abbrev pub cut : List ℕ → List ℕ → List (List ℕ)
cut [] bytes = []
cut (n ∷ lengths) bytes = take n bytes ∷ cut lengths (drop n bytes)

pub length-cut : (lengths bytes : List ℕ) → length (cut lengths bytes) ≡ length lengths
length-cut [] bytes = refl
length-cut (n ∷ lengths) bytes = rw (length-cut lengths (drop n bytes)) refl

pub sum_by-cut : (lengths bytes : List ℕ) → sum lengths ≤ length bytes
    → sum_by length (cut lengths bytes) ≡ sum lengths
sum_by-cut [] bytes inside = refl
sum_by-cut (n ∷ lengths) bytes inside =
    let rest = drop n bytes in
    let whole = sum_by-cons (λ (k : ℕ). k) n lengths in
    let first = length-take-le n bytes (omega arith) in
    let others = sum_by-cut lengths rest (omega (arith, length-drop n bytes)) in
    omega (arith, sum_by-cons length (take n bytes) (cut lengths rest))

-- the bytes of a message follow those of the messages before it
pub get_or-cut : (lengths bytes : List ℕ) (i : ℕ) (d : List ℕ) → i < length lengths
    → get_or (cut lengths bytes) i d ≡ take (get_or lengths i 0) (drop (sum (take i lengths)) bytes)
get_or-cut [] bytes i d below = absurd (omega arith)
get_or-cut (n ∷ lengths) bytes zero d below = refl
get_or-cut (n ∷ lengths) bytes (suc i) d below =
    let others = get_or-cut lengths (drop n bytes) i d (omega arith) in
    let after = drop-drop (sum (take i lengths)) n bytes in
    rw (others, after, ← sum_by-cons (λ (k : ℕ). k) n (take i lengths)) refl

pub length-get_or-cut : (lengths bytes : List ℕ) (i : ℕ) (d : List ℕ) → i < length lengths
    → sum lengths ≤ length bytes → length (get_or (cut lengths bytes) i d) ≡ get_or lengths i 0
length-get_or-cut lengths bytes i d below inside =
    let rest = drop (sum (take i lengths)) bytes in
    let end = sum_by_more_le (λ (k : ℕ). k) lengths i 0 below in
    let after = length-drop (sum (take i lengths)) bytes in
    rw (get_or-cut lengths bytes i d below) (length-take-le (get_or lengths i 0) rest (omega arith))

-- lengths in a range are those of messages in that range
pub range-cut : (lengths bytes : List ℕ) (longest : ℕ) → All (λ n. (1 ≤ n) × (n ≤ longest)) lengths
    → sum lengths ≡ length bytes → (i : ℕ) → i < length (cut lengths bytes)
    → (1 ≤ length (get_or (cut lengths bytes) i []))
    × (length (get_or (cut lengths bytes) i []) ≤ longest)
range-cut lengths bytes longest range whole i below =
    let there : i < length lengths = omega (arith, length-cut lengths bytes) in
    rw (length-get_or-cut lengths bytes i [] there (omega arith)) (range i 0 there)
