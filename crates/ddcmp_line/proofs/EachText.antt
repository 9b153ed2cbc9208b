-- The texts of some items, one after another.
use Rattle.std.proofs.Common.{◌≡◌, ℕ, ◌+◌, ◌<◌, ◌≤◌, List, [], ◌∷◌, ◌++◌, length, get_or, take}
use Rattle.std.proofs.Common.{sym, ap, ◌∙◌, arith}
use Rattle.std.specs.List.{flat_map}
use Rattle.std.proofs.Math.Seq.{take-length}
use Rattle.std.proofs.lemmas.List.{append-nil, take_more}
use Rattle.std.proofs.lemmas.Grind.{flat_map-append}

module _ {X : Type 0} (f : X → List ℕ) (xs : List X) (i : ℕ) where
  pub one-more : (d : X) → i < length xs
      → flat_map f (take i xs) ++ f (get_or xs i d) ≡ flat_map f (take (i + 1) xs)
  one-more d below =
      ap (λ t. flat_map f (take i xs) ++ t) (sym (append-nil (f (get_or xs i d))))
      ∙ sym (flat_map-append f (take i xs) (get_or xs i d ∷ []))
      ∙ ap (flat_map f) (sym (take_more xs i d below))

  pub all-there : i ≤ length xs → length xs ≤ i → flat_map f (take i xs) ≡ flat_map f xs
  all-there within end =
      let e : i ≡ length xs = omega arith in
      ap (λ n. flat_map f (take n xs)) e ∙ ap (flat_map f) (take-length xs)
