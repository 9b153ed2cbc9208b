-- Messages cut from their bytes, as one is added or the first ones leave.
use Rattle.std.proofs.Common.{◌≡◌, ℕ, zero, suc, ◌≤◌, List, [], ◌∷◌, ◌++◌, length, take, drop, sum}
use Rattle.std.proofs.Common.{refl, arith}
use Rattle.std.proofs.lemmas.List.{length-drop, take_all, nil_from_length, take-append-le}
use Rattle.std.proofs.lemmas.List.{drop-append-le, drop-drop}
use Rattle.std.proofs.lemmas.List.Sums.{sum_by-cons}
use Rattle.ddcmp_window.specs.Inside.Cuts.{cut}

pub cut-push : (lengths bytes message : List ℕ) → sum lengths ≡ length bytes
    → cut (lengths ++ length message ∷ []) (bytes ++ message) ≡ cut lengths bytes ++ message ∷ []
cut-push [] bytes message whole =
    let none : bytes ≡ [] = nil_from_length bytes (omega arith) in
    rw (none, take_all (length message) message (omega arith)) refl
cut-push (n ∷ lengths) bytes message whole =
    let split = sum_by-cons (λ (k : ℕ). k) n lengths in
    let head : n ≤ length bytes = omega arith in
    let tail : sum lengths ≡ length (drop n bytes) = omega (arith, length-drop n bytes) in
    rw (
      take-append-le n bytes message head,
      drop-append-le n bytes message head,
      cut-push lengths (drop n bytes) message tail,
    ) refl

pub drop-cut : (n : ℕ) (lengths bytes : List ℕ)
    → drop n (cut lengths bytes) ≡ cut (drop n lengths) (drop (sum (take n lengths)) bytes)
drop-cut zero lengths bytes = refl
drop-cut (suc n) [] bytes = refl
drop-cut (suc n) (k ∷ lengths) bytes =
    rw (
      drop-cut n lengths (drop k bytes),
      drop-drop (sum (take n lengths)) k bytes,
      ← sum_by-cons (λ (k : ℕ). k) k (take n lengths),
    ) refl
