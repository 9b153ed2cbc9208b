-- How much of a source was read.
use Rattle.std.proofs.Common.{◌≡◌, ℕ, ◌+◌, ◌-◌, ◌≤◌, ◌^◌, List, ◌++◌, length, take, ap, subst, ◌∙◌}
use Rattle.std.proofs.Common.{arith, Option, Some, None, length-append, length-take-le}
use Rattle.std.specs.Io.KnownBytes.{Consumes}
use Rattle.std.proofs.KnownBytes.{Consumes-trans}
use Rattle.ddcmp_io.specs.Input.{GaveMost}

-- so many bytes were read
abbrev pub Read : ℕ → Option (List ℕ) → Option (List ℕ) → Type 0
Read k before left = (seen : List ℕ) × (length seen ≡ k) × Consumes before left seen

pub read-more : (k n m : ℕ) (before left after : Option (List ℕ)) (buf : List ℕ)
    → Read k before left → n ≤ length buf → Consumes left after (take n buf) → m ≡ k + n
    → Read m before after
read-more k n m before left after buf r within more total = (
  r.0 ++ take n buf,
  length-append r.0 (take n buf) ∙ omega (arith, r.1, length-take-le n buf within, total),
  Consumes-trans before left after r.0 (take n buf) r.2 more,
)

seen-length : (seen input rest : List ℕ) → input ≡ seen ++ rest
    → length input ≡ length seen + length rest
seen-length seen input rest e = ap length e ∙ length-append seen rest

pub gave-most : (k : ℕ) (before left : Option (List ℕ)) → Read k before left → k ≡ 2 ^ 64 - 1
    → GaveMost before left
gave-most k None left r m = tt
gave-most k (Some input) None r m = tt
gave-most k (Some input) (Some rest) r m = seen-length r.0 input rest r.2 ∙ omega (arith, r.1, m)

pub read-all : (k : ℕ) (before left : Option (List ℕ)) → Read k before left → (input rest : List ℕ)
    → before ≡ Some input → left ≡ Some rest → length input ≡ length rest + (2 ^ 64 - 1)
    → k ≡ 2 ^ 64 - 1
read-all k before left r input rest b l m =
    let all : input ≡ r.0 ++ rest =
    subst (λ x. Consumes (Some input) x r.0) l (subst (λ x. Consumes x left r.0) b r.2) in
    omega (arith, r.1, seen-length r.0 input rest all, m)
