-- The place as more is sent and more arrives.
use Rattle.std.proofs.Common.{◌≡◌, ℕ, suc, ◌+◌, ◌<◌, ◌≤◌, Bool, true, false, List, [], ◌∷◌, ◌++◌}
use Rattle.std.proofs.Common.{length, drop, get_or, refl, sym, ◌∙◌, ap, arith, add-one}
use Rattle.std.proofs.Common.{append_assoc, ◌⊎◌, inl, inr, Option, Some, None, if◌then◌else◌}
use Rattle.std.specs.Prelude.{option_map, option_and_then}
use Rattle.std.proofs.Math.Seq.{drop-cons, drop-length}
use Rattle.ddcmp_frame.specs.Reading.{ReadItem, good_frames_in, good_frame_of}
use Rattle.std.proofs.lemmas.Bool.{cases_lt}
use Rattle.std.proofs.lemmas.List.{drop-append-le, drop_all}
use Rattle.ddcmp_pair.specs.Place.{WholeFrame, same_frame, first_index, place_after, place_from}
use Rattle.ddcmp_pair.specs.Place.{place_of}

-- one more frame that arrived
pub place_from-last : (place : Option ℕ) (fs sent : List WholeFrame) (f : WholeFrame)
    → place_from place (fs ++ f ∷ []) sent
    ≡ option_and_then (place_after f sent) (place_from place fs sent)
unfolding place_from
place_from-last place [] sent f = refl
place_from-last place (g ∷ fs) sent f =
    place_from-last (option_and_then (place_after g sent) place) fs sent f

-- more frames that arrived
pub place_from-append : (place : Option ℕ) (fs gs sent : List WholeFrame)
    → place_from place (fs ++ gs) sent ≡ place_from (place_from place fs sent) gs sent
unfolding place_from
place_from-append place [] gs sent = refl
place_from-append place (f ∷ fs) gs sent =
    place_from-append (option_and_then (place_after f sent) place) fs gs sent

pub place_of-none : (sent : List WholeFrame) → place_of [] sent ≡ Some 0
unfolding place_from
place_of-none sent = refl

-- ---- looking for a frame

chosen-true : {A : Type 0} (b : Bool) (x y : A) → b ≡ true → (if b then x else y) ≡ x
chosen-true true x y e = refl
chosen-true false x y e = absurd (cc)

chosen-false : {A : Type 0} (b : Bool) (x y : A) → b ≡ false → (if b then x else y) ≡ y
chosen-false false x y e = refl
chosen-false true x y e = absurd (cc)

further : (place : ℕ) (r : Option ℕ)
    → option_map (λ i. place + i + 1) (option_map (λ i. i + 1) r)
    ≡ option_map (λ i. place + 1 + i + 1) r
further place None = refl
further place (Some i) = ap Some (omega arith)

first_index-hit : (f g : WholeFrame) (rest : List WholeFrame) → same_frame f g ≡ true
    → first_index f (g ∷ rest) ≡ Some 0
unfolding first_index
first_index-hit f g rest e = chosen-true (same_frame f g) _ _ e

first_index-miss : (f g : WholeFrame) (rest : List WholeFrame) → same_frame f g ≡ false
    → first_index f (g ∷ rest) ≡ option_map (λ i. i + 1) (first_index f rest)
unfolding first_index
first_index-miss f g rest e = chosen-false (same_frame f g) _ _ e

pub place_after-hit : (f : WholeFrame) (sent : List WholeFrame) (place : ℕ) (d : WholeFrame)
    → place < length sent
    → same_frame f (get_or sent place d) ≡ true → place_after f sent place ≡ Some (place + 1)
place_after-hit f sent place d below e =
    ap (λ t. option_map (λ i. place + i + 1) (first_index f t)) (drop-cons sent place d below)
    ∙ ap (option_map (λ i. place + i + 1)) (first_index-hit f _ _ e) ∙ ap Some (omega arith)

pub place_after-miss : (f : WholeFrame) (sent : List WholeFrame) (place : ℕ) (d : WholeFrame)
    → place < length sent
    → same_frame f (get_or sent place d) ≡ false
    → place_after f sent place ≡ place_after f sent (place + 1)
place_after-miss f sent place d below e =
    ap (λ t. option_map (λ i. place + i + 1) (first_index f t)) (drop-cons sent place d below)
    ∙ ap (option_map (λ i. place + i + 1)) (first_index-miss f _ _ e)
    ∙ further place (first_index f (drop (suc place) sent))
    ∙ ap (λ n. option_map (λ i. place + 1 + i + 1) (first_index f (drop n sent)))
    (sym (add-one place))

pub place_after-end : (f : WholeFrame) (sent : List WholeFrame)
    → place_after f sent (length sent) ≡ None
unfolding first_index
place_after-end f sent =
    ap (λ t. option_map (λ i. length sent + i + 1) (first_index f t)) (drop-length sent)

-- ---- more frames that arrived

pub good_frames_in-append : (x y : List ReadItem)
    → good_frames_in (x ++ y) ≡ good_frames_in x ++ good_frames_in y
unfolding good_frames_in
good_frames_in-append [] y = refl
good_frames_in-append (g ∷ x) y =
    ap (λ t. good_frame_of g ++ t) (good_frames_in-append x y)
    ∙ sym (append_assoc (good_frame_of g) _ _)

-- ---- more is sent

first-stays : (f : WholeFrame) (xs ys : List WholeFrame) (i : ℕ) → first_index f xs ≡ Some i
    → first_index f (xs ++ ys) ≡ Some i
unfolding first_index
first-stays f [] ys i e = absurd (cc)
first-stays f (g ∷ xs) ys i e =
    by (λ n h. first-stays f xs ys n h) (same_frame f g) (first_index f xs) refl e
  where
    by : ((n : ℕ) → first_index f xs ≡ Some n → first_index f (xs ++ ys) ≡ Some n)
        → (b : Bool) (r : Option ℕ) → first_index f xs ≡ r
        → (if b then Some 0 else option_map (λ n. n + 1) r) ≡ Some i
        → (if b then Some 0 else option_map (λ n. n + 1) (first_index f (xs ++ ys))) ≡ Some i
    by rest true r h p = p
    by rest false None h p = absurd (cc)
    by rest false (Some n) h p = ap (option_map (λ n. n + 1)) (rest n h) ∙ p

after-stays : (f : WholeFrame) (sent more : List WholeFrame) (place n : ℕ)
    → place_after f sent place ≡ Some n → place_after f (sent ++ more) place ≡ Some n
unfolding first_index
after-stays f sent more place n e = by (first_index f (drop place sent)) refl e
  where
    inside : (i : ℕ) → first_index f (drop place sent) ≡ Some i
        → drop place (sent ++ more) ≡ drop place sent ++ more
    inside i h = by_order (cases_lt (length sent) place)
      where
        by_order : (length sent < place) ⊎ (place ≤ length sent)
            → drop place (sent ++ more) ≡ drop place sent ++ more
        by_order (inr below) = drop-append-le place sent more below
        by_order (inl above) =
            (let none = drop_all place sent (omega arith) in
            absurd (let z = sym (ap (first_index f) none) ∙ h in cc))

    by : (r : Option ℕ) → first_index f (drop place sent) ≡ r
        → option_map (λ i. place + i + 1) r ≡ Some n → place_after f (sent ++ more) place ≡ Some n
    by None h p = absurd (cc)
    by (Some i) h p = ap (λ t. option_map (λ j. place + j + 1) (first_index f t)) (inside i h)
        ∙ ap (option_map (λ j. place + j + 1)) (first-stays f (drop place sent) more i h) ∙ p

pub place_from-none : (fs sent : List WholeFrame) → place_from None fs sent ≡ None
unfolding place_from
place_from-none [] sent = refl
place_from-none (f ∷ fs) sent = place_from-none fs sent

pub place-stays : (fs sent more : List WholeFrame) (place : Option ℕ) (n : ℕ)
    → place_from place fs sent ≡ Some n → place_from place fs (sent ++ more) ≡ Some n
unfolding place_from
place-stays [] sent more place n e = e
place-stays (f ∷ fs) sent more None n e = absurd (let z = sym (place_from-none fs sent) ∙ e in cc)
place-stays (f ∷ fs) sent more (Some p) n e =
    by (λ m q. place-stays fs sent more (Some m) n q) (place_after f sent p) refl e
  where
    by
        : ((m : ℕ) → place_from (Some m) fs sent ≡ Some n
        → place_from (Some m) fs (sent ++ more) ≡ Some n)
        → (r : Option ℕ) → place_after f sent p ≡ r → place_from r fs sent ≡ Some n
        → place_from (place_after f (sent ++ more) p) fs (sent ++ more) ≡ Some n
    by rest None h q = absurd (let z = sym (place_from-none fs sent) ∙ q in cc)
    by rest (Some m) h q =
        ap (λ r. place_from r fs (sent ++ more)) (after-stays f sent more p m h) ∙ rest m q
