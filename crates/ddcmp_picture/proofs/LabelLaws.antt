-- The fill before a frame, and its header.
use Rattle.std.proofs.Common.{◌≡◌, ◌<◌, ◌≤◌, ◌+◌, ℕ, Bool, true, false, List, ◌∷◌, sym, ◌∙◌, ap}
use Rattle.std.proofs.Common.{drop, length, slice_index, add-one, drop-cons, nat_eq, if◌then◌else◌}
use Rattle.std.proofs.lemmas.List.{drop_all}
use Rattle.ddcmp_picture.specs.Labels.{after_fill}

drop-one : (xs : List ℕ) (i : ℕ) → i < length xs → drop i xs ≡ slice_index xs i ∷ drop (i + 1) xs
drop-one xs i h = rw (add-one, drop-cons xs i 0)

-- a byte of fill
pub fill_step : (bytes : List ℕ) (i : ℕ) → i < length bytes
    → nat_eq (slice_index bytes i) 150 ≡ true
    → after_fill (drop (i + 1) bytes) ≡ after_fill (drop i bytes)
unfolding after_fill
fill_step bytes i k is =
    sym (ap after_fill (drop-one bytes i k)
    ∙ ap (λ (b : Bool). if b then after_fill (drop (i + 1) bytes)
    else slice_index bytes i ∷ drop (i + 1) bytes) is)

-- the first byte that is none
pub fill_ends : (bytes : List ℕ) (i : ℕ) → i < length bytes
    → nat_eq (slice_index bytes i) 150 ≡ false
    → after_fill (drop i bytes) ≡ drop i bytes
unfolding after_fill
fill_ends bytes i k is =
    ap after_fill (drop-one bytes i k)
    ∙ ap (λ (b : Bool). if b then after_fill (drop (i + 1) bytes)
    else slice_index bytes i ∷ drop (i + 1) bytes) is
    ∙ sym (drop-one bytes i k)

-- all was fill
pub fill_all : (bytes : List ℕ) (i : ℕ) → length bytes ≤ i
    → after_fill (drop i bytes) ≡ drop i bytes
unfolding after_fill
fill_all bytes i k = ap after_fill (drop_all i bytes k) ∙ sym (drop_all i bytes k)
