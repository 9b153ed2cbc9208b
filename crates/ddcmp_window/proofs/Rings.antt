-- A ring that has room, and its items as the last of them stay.
use Rattle.std.proofs.Common.{◌≡◌, ℕ, ◌+◌, ◌-◌, ◌*◌, ◌<◌, ◌≤◌, List, [], ◌∷◌, ◌++◌, length, sum}
use Rattle.std.proofs.Common.{All, refl, arith}
use Rattle.std.proofs.Math.Nat.{add-mul}
use Rattle.std.proofs.lemmas.List.{length-append, length_push}
use Rattle.std.proofs.lemmas.List.Elements.{All-weaker}
use Rattle.std.proofs.lemmas.List.Sums.{sum_by-le}
use Rattle.std.proofs.lemmas.Nat.{mul-le}
use Rattle.circular_buffer.specs.Buffer.{keep_last}

pub keep_last-all : {A : Type 0} (n : ℕ) (xs : List A) → length xs ≤ n → keep_last n xs ≡ xs
keep_last-all n xs inside =
    let none : length xs - n ≡ 0 = omega arith in
    rw none refl

-- one more item, where the ring isn't full
pub keep_last-push : {A : Type 0} (capacity limit : ℕ) (xs : List A) (x : A) → capacity ≡ limit
    → length xs < limit
    → keep_last capacity (xs ++ x ∷ []) ≡ xs ++ x ∷ []
keep_last-push capacity limit xs x same room =
    keep_last-all capacity (xs ++ x ∷ []) (omega (arith, length_push xs x))

-- one more message, where a ring with room for `limit` of them holds fewer
pub keep_last-message : (capacity limit longest : ℕ) (lengths bytes message : List ℕ)
    → capacity ≡ limit * longest
    → sum lengths ≡ length bytes → All (λ n. (1 ≤ n) × (n ≤ longest)) lengths
    → length lengths < limit → length message ≤ longest
    → keep_last capacity (bytes ++ message) ≡ bytes ++ message
keep_last-message capacity limit longest lengths bytes message same whole range room short =
    let each =
    All-weaker (λ (n : ℕ). (1 ≤ n) × (n ≤ longest)) (λ (n : ℕ). n ≤ longest)
    (λ n within. within.1) lengths range in
    let taken : sum lengths ≤ length lengths * longest =
    sum_by-le (λ (n : ℕ). n) longest lengths each in
    let shares : (length lengths + 1) * longest ≤ limit * longest =
    mul-le (length lengths + 1) longest limit longest (omega arith) (omega arith) in
    let fits : length bytes + length message ≤ capacity =
    omega (arith, add-mul (length lengths) 1 longest) in
    keep_last-all capacity (bytes ++ message) (omega (arith, length-append bytes message))
