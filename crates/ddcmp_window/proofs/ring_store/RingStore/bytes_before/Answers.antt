use Rattle.std.proofs.Common.{◌≡◌, ◌-◌, ℕ, length, min, take, sum, ap, ◌∙◌, arith}
use Rattle.std.proofs.lemmas.List.{take_min}
use Rattle.std.proofs.lemmas.List.Sums.{sum_by-append}
use Rattle.ddcmp_window.proofs.Across.{take-append}
use Rattle.ddcmp_window.proofs.ring_store.RingStore.bytes_before.Goals as goal

pub returns : goal.returns
returns c =
    let front = c.as_slices.result.0.now in
    let back = c.as_slices.result.1.now in
    let n = c.args.n in
    let k = c.min-in_front.result in
    let here : k ≡ min n (length front) = omega (arith, c.min-in_front.ensures) in
    let left : n - k ≡ n - length front = omega (arith, here) in
    omega (
      arith,
      c.sum_of.ensures.value,
      c.sum_of-2.ensures.value,
      ap (λ i. sum (take i front)) here ∙ ap sum (take_min n front),
      ap (λ i. sum (take i back)) left,
      ap (λ t. sum (take n t)) c.as_slices.ensures,
      ap sum (take-append n front back),
      sum_by-append (λ (i : ℕ). i) (take n front) (take (n - length front) back),
    )
