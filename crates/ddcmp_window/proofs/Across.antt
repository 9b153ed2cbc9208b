-- Two lists of which one follows the other: a part that reaches across, and how it is written.
use Rattle.std.proofs.Common.{◌≡◌, ℕ, zero, suc, ◌+◌, ◌-◌, min, List, [], ◌∷◌, ◌++◌, length, take}
use Rattle.std.proofs.Common.{drop, refl, arith}
use Rattle.std.proofs.Math.Seq.{take-append_seam, drop-append_seam}
use Rattle.std.proofs.lemmas.List.{append-nil, length-append, length-drop, take_min, drop_min}
use Rattle.std.proofs.lemmas.List.{drop_all}
use borrow.Rule.Slice.PartMut.{put_mid}

no-sub : (n : ℕ) → 0 - n ≡ 0
no-sub n = omega arith

sub-none : (n : ℕ) → n - 0 ≡ n
sub-none n = omega arith

suc-sub-suc : (n m : ℕ) → suc n - suc m ≡ n - m
suc-sub-suc n m = omega arith

pub take-append : {A : Type 0} (n : ℕ) (xs ys : List A)
    → take n (xs ++ ys) ≡ take n xs ++ take (n - length xs) ys
take-append zero xs ys = rw (no-sub (length xs)) refl
take-append (suc n) [] ys = rw (sub-none (suc n)) refl
take-append (suc n) (x ∷ xs) ys = rw (suc-sub-suc n (length xs), take-append n xs ys) refl

pub drop-append : {A : Type 0} (n : ℕ) (xs ys : List A)
    → drop n (xs ++ ys) ≡ drop n xs ++ drop (n - length xs) ys
drop-append zero xs ys = rw (no-sub (length xs)) refl
drop-append (suc n) [] ys = rw (sub-none (suc n)) refl
drop-append (suc n) (x ∷ xs) ys = rw (suc-sub-suc n (length xs), drop-append n xs ys) refl

-- n elements from the index start on: those of the first list, and after them those of the second
pub part-append : {A : Type 0} (start n : ℕ) (xs ys : List A)
    → take n (drop start (xs ++ ys))
    ≡ take (min (start + n) (length xs) - min start (length xs)) (drop (min start (length xs)) xs)
    ++ take ((start + n - length xs) - (start - length xs)) (drop (start - length xs) ys)
part-append start n xs ys =
    let first : min (start + n) (length xs) - min start (length xs)
    ≡ min n (length (drop start xs)) = omega (arith, length-drop start xs) in
    let second : (start + n - length xs) - (start - length xs) ≡ n - length (drop start xs) =
    omega (arith, length-drop start xs) in
    rw (
      drop-append start xs ys,
      take-append n (drop start xs) (drop (start - length xs) ys),
      first,
      second,
      drop_min start xs,
      take_min n (drop start xs),
    ) refl

-- ys are written over what stands after xs
pub put_mid-behind : {A : Type 0} (xs rest ys : List A)
    → put_mid (length xs) (length (xs ++ rest) - length xs) (xs ++ rest) ys ≡ xs ++ ys
put_mid-behind xs rest ys =
    let none : drop (length (xs ++ rest) - length xs) rest ≡ [] =
    drop_all (length (xs ++ rest) - length xs) rest (omega (arith, length-append xs rest)) in
    rw (take-append_seam xs rest, drop-append_seam xs rest, none, append-nil ys) refl
