-- The length of all messages of a list.
use Rattle.std.proofs.Common.{◌≡◌, ℕ, suc, ◌+◌, ◌*◌, ◌<◌, ◌≤◌, List, [], ◌∷◌, length, arith, rules}
use Rattle.std.proofs.Common.{subst}
use Rattle.std.specs.Prelude.{slice_index_or}
use Rattle.std.specs.List.{sum_by}
use Rattle.std.proofs.Math.Nat.{mul-le-mul}
use Rattle.std.proofs.lemmas.List.Sums.{sum_by-cons}
use Rattle.ddcmp_window.specs.Store.{IsStored}

sum_by-within : (most : ℕ) (xs : List (List ℕ))
    → ((i : ℕ) → i < length xs → length (slice_index_or xs i []) ≤ most)
    → sum_by length xs ≤ length xs * most
sum_by-within most [] each = search rules
sum_by-within most (x ∷ xs) each =
    let first : length x ≤ most = each 0 (omega arith) in
    let rest = sum_by-within most xs (λ i below. each (suc i) (omega arith)) in
    omega (arith, first, rest, sum_by-cons length x xs)

-- a store's messages have at most as many bytes as its limits allow
pub total_within : (limit longest : ℕ) (xs : List (List ℕ)) → IsStored limit longest xs
    → sum_by length xs ≤ limit * longest
total_within limit longest xs h =
    let all = sum_by-within longest xs (λ i below. (h.lengths i below).1) in
    omega (
      arith,
      all,
      mul-le-mul {n₁ = length xs} {m₁ = longest} {n₂ = limit} {m₂ = longest} h.count
          (omega arith),
    )

-- which is at most 255 * 16383
pub limits_within : (limit longest : ℕ) (xs : List (List ℕ)) → IsStored limit longest xs
    → limit * longest ≤ 4177665
limits_within limit longest xs h =
    mul-le-mul {n₁ = limit} {m₁ = longest} {n₂ = 255} {m₂ = 16383} h.limit_max h.longest_max

-- by a limit that is the store's
pub total_by : (limit longest most : ℕ) (xs : List (List ℕ)) → most ≡ longest
    → IsStored limit most xs → sum_by length xs ≤ limit * longest
total_by limit longest most xs e h =
    subst (λ n. sum_by length xs ≤ limit * n) e (total_within limit most xs h)

-- of two stores with one limit on the length
pub two_within : (window room longest most : ℕ) (out inbox : List (List ℕ)) → most ≡ longest
    → IsStored window longest out → IsStored room most inbox
    → sum_by length out + sum_by length inbox ≤ (window + room) * longest
two_within window room longest most out inbox e h k =
    omega (arith, total_within window longest out h, total_by room longest most inbox e k)
