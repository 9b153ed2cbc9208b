-- What an input is by its first bytes.
use Rattle.std.proofs.Common.{◌≡◌, ◌≢◌, ℕ, ◌<◌, ◌≤◌, ◌+◌, ◌-◌, List, ◌∷◌, ◌++◌, length, take, drop}
use Rattle.std.proofs.Common.{get_or, sym, ◌∙◌, ap, subst, arith, Option, Some, None, inl, inr}
use Rattle.std.proofs.Common.{add-one, drop-cons, length-append, length-drop, length-take-le}
use Rattle.std.specs.Prelude.{◌⊎◌}
use Rattle.std.specs.Io.KnownBytes.{Consumes, IsAtEnd}
use Rattle.std.proofs.lemmas.List.{append-nil, drop_all, take_all, take-append-le}
use Rattle.std.proofs.Math.Seq.{take-append-add}
use borrow.Rule.Slice.PartMut.{put_mid, post_of}
use Rattle.ddcmp_io.specs.Device.{worse}
use Rattle.ddcmp_io.specs.declared.device.Got.{Got}
use Rattle.ddcmp_io.specs.declared.device.Got.TheVariants as got
use Rattle.ddcmp_io.specs.declared.device.Worst.{Worst}
use Rattle.ddcmp_io.specs.declared.device.Worst.TheVariants as worst
use Rattle.ddcmp_explain.specs.Detection.{detected, detected_first, sight_after, sight_from}
use Rattle.ddcmp_explain.specs.declared.detection.Sight.{Sight}

-- a byte more
pub sight-step : (whole p q : Sight) (xs : List ℕ) (i : ℕ) → i < length xs
    → q ≡ sight_after p (get_or xs i 0) → whole ≡ sight_from p (drop i xs)
    → whole ≡ sight_from q (drop (i + 1) xs)
unfolding sight_from
sight-step whole p q xs i h is e =
    let one : drop i xs ≡ get_or xs i 0 ∷ drop (i + 1) xs = rw (add-one, drop-cons xs i 0) in
    e ∙ ap (sight_from p) one ∙ ap (λ s. sight_from s (drop (i + 1) xs)) (sym is)

pub sight-end : (whole p : Sight) (xs : List ℕ) (i : ℕ) → length xs ≤ i
    → whole ≡ sight_from p (drop i xs) → whole ≡ p
unfolding sight_from
sight-end whole p xs i h e = e ∙ ap (sight_from p) (drop_all i xs h)

-- ---- the first bytes of an input

pub take-front : (n : ℕ) (xs ys : List ℕ) → length xs ≡ n → take n (xs ++ ys) ≡ xs
take-front n xs ys e =
    take-append-le n xs ys (omega (arith, e)) ∙ take_all n xs (omega (arith, e))

pub first-is
    : (before opened : Option (List ℕ)) (first input : List ℕ) → before ≡ Some input
    → Consumes before opened first
    → (length first ≡ 64) ⊎ ((length first < 64) × IsAtEnd opened)
    → detected input ≡ detected_first first
first-is before None first input e c long = absurd (subst (λ b. Consumes b None first) e c)
first-is before (Some rest) first input e c long =
    let parts : input ≡ first ++ rest = subst (λ b. Consumes b (Some rest) first) e c in
    ap detected_first (elim long [
      | inl whole ↦ ap (take 64) parts ∙ take-front 64 first rest whole
      | inr ended ↦ ap (take 64) (parts ∙ ap (λ r. first ++ r) ended.1 ∙ append-nil first)
          ∙ take_all 64 first (omega (arith, ended.0))
    ])

-- ---- reading the first bytes

-- some were read behind others
pub take-read : (at room n : ℕ) (xs ys : List ℕ) → at ≤ length xs → n ≤ length ys
    → take (at + n) (put_mid at room xs ys) ≡ take at xs ++ take n ys
take-read at room n xs ys within fits =
    let here : length (take at xs) ≡ at = length-take-le at xs within in
    ap (λ k. take (k + n) (put_mid at room xs ys)) (sym here)
    ∙ take-append-add (take at xs) (ys ++ post_of at room xs) n
    ∙ ap (λ t. take at xs ++ t) (take-append-le n ys (post_of at room xs) fits)

pub read-long : (at : ℕ) (xs ys : List ℕ) → at ≤ 64 → length xs ≡ 64 → length ys ≡ 64 - at
    → length (put_mid at (64 - at) xs ys) ≡ 64
read-long at xs ys within whole long =
    length-append (take at xs) (ys ++ post_of at (64 - at) xs)
    ∙ omega (
      arith,
      length-take-le at xs (omega (arith, within, whole)),
      length-append ys (post_of at (64 - at) xs),
      length-drop at xs,
      length-drop (64 - at) (drop at xs),
      within,
      whole,
      long,
    )

pub not-fine : (old new : Worst) (answer : Got) → old ≡ worst.Fine
    → (answer ≡ got.Idle) ⊎ (answer ≡ got.Failed) → new ≡ worse old answer → new ≢ worst.Fine
not-fine old new answer fine is e f = elim is [
  | inl idle ↦ let bad : worst.Fine ≡ worst.Idle =
      sym f ∙ e ∙ ap (λ o. worse o answer) fine ∙ ap (worse worst.Fine) idle in
      cc
  | inr failed ↦ let bad : worst.Fine ≡ worst.Failed =
      sym f ∙ e ∙ ap (λ o. worse o answer) fine ∙ ap (worse worst.Fine) failed in
      cc
]
