-- Bytes of a dump, one after another.
use Rattle.std.proofs.Common.{◌≡◌, ◌<◌, ◌≤◌, ℕ, ◌+◌, List, [], ◌∷◌, ◌++◌, length, get_or, take}
use Rattle.std.proofs.Common.{drop, refl, sym, ◌∙◌, ap, append_assoc, add-one, arith, drop-cons}
use Rattle.std.proofs.Math.ListN.{set}
use Rattle.std.proofs.Math.Seq.{take-suc-set}
use Rattle.std.proofs.lemmas.List.{drop-set-lt, append-nil, take_all, drop_all}
use Rattle.ddcmp_input.specs.declared.place.Place.{Place}
use Rattle.ddcmp_input.specs.Dump.{place_after, shown_at, shown_from, place_from, line_at}
use Rattle.ddcmp_input.specs.Dump.{line_from}

pub shown-more : (place : Place) (xs ys : List ℕ)
    → shown_from place (xs ++ ys) ≡ shown_from place xs ++ shown_from (place_from place xs) ys
unfolding shown_from place_from
shown-more place [] ys = refl
shown-more place (x ∷ xs) ys =
    ap (λ rest. shown_at (place_after place x) x ∷ rest) (shown-more (place_after place x) xs ys)

pub place-more : (place : Place) (xs ys : List ℕ)
    → place_from place (xs ++ ys) ≡ place_from (place_from place xs) ys
unfolding place_from
place-more place [] ys = refl
place-more place (x ∷ xs) ys = place-more (place_after place x) xs ys

pub line-more : (place : Place) (line : ℕ) (xs ys : List ℕ)
    → line_from place line (xs ++ ys) ≡ line_from (place_from place xs) (line_from place line xs) ys
unfolding place_from line_from
line-more place line [] ys = refl
line-more place line (x ∷ xs) ys =
    line-more (place_after place x) (line_at (place_after place x) line) xs ys

drop-one : (xs : List ℕ) (i : ℕ) → i < length xs → drop i xs ≡ get_or xs i 0 ∷ drop (i + 1) xs
drop-one xs i h = rw (add-one, drop-cons xs i 0)

take-one : (xs : List ℕ) (i v : ℕ) → i < length xs
    → take (i + 1) (set xs i v) ≡ take i xs ++ (v ∷ [])
take-one xs i v h = rw add-one (take-suc-set xs i v h)

drop-behind : (xs : List ℕ) (i v : ℕ) → drop (i + 1) (set xs i v) ≡ drop (i + 1) xs
drop-behind xs i v = drop-set-lt (i + 1) xs i v (omega arith)

-- a byte more is blanked
pub shown-step : (whole xs : List ℕ) (i v : ℕ) (p q : Place) → i < length xs
    → q ≡ place_after p (get_or xs i 0) → v ≡ shown_at q (get_or xs i 0)
    → whole ≡ take i xs ++ shown_from p (drop i xs)
    → whole ≡ take (i + 1) (set xs i v) ++ shown_from q (drop (i + 1) (set xs i v))
unfolding shown_from
shown-step whole xs i v p q h is made e =
    let x = get_or xs i 0 in
    let r = drop (i + 1) xs in
    let here : shown_from p (drop i xs) ≡ v ∷ shown_from q r =
    ap (shown_from p) (drop-one xs i h)
    ∙ ap (λ s. shown_at s x ∷ shown_from s r) (sym is)
    ∙ ap (λ b. b ∷ shown_from q r) (sym made) in
    e ∙ ap (λ s. take i xs ++ s) here ∙ sym (append_assoc (take i xs) (v ∷ []) (shown_from q r))
    ∙ ap (λ t. t ++ shown_from q r) (sym (take-one xs i v h))
    ∙ ap (λ d. take (i + 1) (set xs i v) ++ shown_from q d) (sym (drop-behind xs i v))

pub place-step : (whole : Place) (xs : List ℕ) (i v : ℕ) (p q : Place) → i < length xs
    → q ≡ place_after p (get_or xs i 0) → whole ≡ place_from p (drop i xs)
    → whole ≡ place_from q (drop (i + 1) (set xs i v))
unfolding place_from
place-step whole xs i v p q h is e =
    let r = drop (i + 1) xs in
    e ∙ ap (place_from p) (drop-one xs i h) ∙ ap (λ s. place_from s r) (sym is)
    ∙ ap (place_from q) (sym (drop-behind xs i v))

pub line-step : (whole : ℕ) (xs : List ℕ) (i v : ℕ) (p q : Place) (line next : ℕ) → i < length xs
    → q ≡ place_after p (get_or xs i 0) → next ≡ line_at q line
    → whole ≡ line_from p line (drop i xs) → whole ≡ line_from q next (drop (i + 1) (set xs i v))
unfolding line_from
line-step whole xs i v p q line next h is made e =
    let r = drop (i + 1) xs in
    e ∙ ap (line_from p line) (drop-one xs i h) ∙ ap (λ s. line_from s (line_at s line) r) (sym is)
    ∙ ap (λ n. line_from q n r) (sym made)
    ∙ ap (line_from q next) (sym (drop-behind xs i v))

-- all was blanked
pub shown-end : (whole xs : List ℕ) (i : ℕ) (p : Place) → length xs ≤ i
    → whole ≡ take i xs ++ shown_from p (drop i xs) → whole ≡ xs
unfolding shown_from
shown-end whole xs i p h e =
    e ∙ ap (λ d. take i xs ++ shown_from p d) (drop_all i xs h) ∙ append-nil (take i xs)
    ∙ take_all i xs h

pub place-end : (whole : Place) (xs : List ℕ) (i : ℕ) (p : Place) → length xs ≤ i
    → whole ≡ place_from p (drop i xs) → whole ≡ p
unfolding place_from
place-end whole xs i p h e = e ∙ ap (place_from p) (drop_all i xs h)

pub line-end : (whole : ℕ) (xs : List ℕ) (i : ℕ) (p : Place) (line : ℕ) → length xs ≤ i
    → whole ≡ line_from p line (drop i xs) → whole ≡ line
unfolding line_from
line-end whole xs i p line h e = e ∙ ap (line_from p line) (drop_all i xs h)
