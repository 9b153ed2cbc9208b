-- Frames have a place among those that were sent exactly where they are a subsequence of them.
use Rattle.std.proofs.Common.{◌≡◌, ◌↔◌, ◌⊎◌, inl, inr, ℕ, ◌+◌, Bool, true, false, IsTrue, List, []}
use Rattle.std.proofs.Common.{◌∷◌, drop, refl, sym, ◌∙◌, ap, subst, arith, add-one, Option, Some}
use Rattle.std.proofs.Common.{None, if◌then◌else◌}
use Rattle.std.specs.Prelude.{option_map, is_some}
use Rattle.std.proofs.lemmas.List.{drop-drop}
use Rattle.ddcmp_pair.proofs.FrameLists.{same-equal, same-refl}
use Rattle.ddcmp_pair.proofs.Places.{place_from-none}
use Rattle.ddcmp_pair.specs.Place.{WholeFrame, same_frame, first_index, place_from, place_of}
use Rattle.ddcmp_pair.specs.Place.{IsSubsequence}

-- one frame more to choose from
one-more : (fs sent : List WholeFrame) (g : WholeFrame) → IsSubsequence fs sent
    → IsSubsequence fs (g ∷ sent)
one-more [] sent g s = tt
one-more (f ∷ fs) sent g s = inr s

-- one frame less to look for
one-less : (f : WholeFrame) (fs sent : List WholeFrame) → IsSubsequence (f ∷ fs) sent
    → IsSubsequence fs sent
one-less f fs [] s = absurd s
one-less f fs (g ∷ sent) (inl s) = one-more fs sent g s.1
one-less f fs (g ∷ sent) (inr s) = one-more fs sent g (one-less f fs sent s)

-- what is left after the first frame that is this one
after-first : WholeFrame → List WholeFrame → Option (List WholeFrame)
after-first f [] = None
after-first f (g ∷ sent) = if same_frame f g then Some sent else after-first f sent

abbrev IsLeft : List WholeFrame → Option (List WholeFrame) → Type 0
IsLeft fs None = ⊥
IsLeft fs (Some rest) = IsSubsequence fs rest

first-is-left : (f : WholeFrame) (fs sent : List WholeFrame) → IsSubsequence (f ∷ fs) sent
    → IsLeft fs (after-first f sent)
unfolding after-first
first-is-left f fs [] s = absurd s
first-is-left f fs (g ∷ sent) s = by (λ r. first-is-left f fs sent r) (same_frame f g) refl s
  where
    by : (IsSubsequence (f ∷ fs) sent → IsLeft fs (after-first f sent)) → (b : Bool)
        → same_frame f g ≡ b
        → ((f ≡ g) × IsSubsequence fs sent) ⊎ IsSubsequence (f ∷ fs) sent
        → IsLeft fs (if b then Some sent else after-first f sent)
    by more true e (inl s) = s.1
    by more true e (inr s) = one-less f fs sent s
    by more false e (inl s) =
        absurd (let z = sym e ∙ subst (λ x. same_frame f x ≡ true) s.0 (same-refl f) in cc)
    by more false e (inr s) = more s

left-is-first : (f : WholeFrame) (fs sent : List WholeFrame) → IsLeft fs (after-first f sent)
    → IsSubsequence (f ∷ fs) sent
unfolding after-first
left-is-first f fs [] s = s
left-is-first f fs (g ∷ sent) s = by (λ r. left-is-first f fs sent r) (same_frame f g) refl s
  where
    by : (IsLeft fs (after-first f sent) → IsSubsequence (f ∷ fs) sent) → (b : Bool)
        → same_frame f g ≡ b
        → IsLeft fs (if b then Some sent else after-first f sent)
        → ((f ≡ g) × IsSubsequence fs sent) ⊎ IsSubsequence (f ∷ fs) sent
    by more true e s = inl (same-equal f g e, s)
    by more false e s = inr (more s)

-- the same by the first index
abbrev left-at : List WholeFrame → Option ℕ → Option (List WholeFrame)
left-at sent None = None
left-at sent (Some i) = Some (drop (i + 1) sent)

index-left : (f : WholeFrame) (sent : List WholeFrame)
    → after-first f sent ≡ left-at sent (first_index f sent)
unfolding first_index after-first
index-left f [] = refl
index-left f (g ∷ sent) = by (index-left f sent) (same_frame f g) (first_index f sent) refl
  where
    by : after-first f sent ≡ left-at sent (first_index f sent) → (b : Bool) (r : Option ℕ)
        → first_index f sent ≡ r
        → (if b then Some sent else after-first f sent)
        ≡ left-at (g ∷ sent) (if b then Some 0 else option_map (λ i. i + 1) r)
    by rest true r e = refl
    by rest false None e = rest ∙ ap (left-at sent) e
    by rest false (Some i) e =
        rest ∙ ap (left-at sent) e ∙ ap (λ n. Some (drop n (g ∷ sent))) (sym (add-one (i + 1)))

-- from a place on
placed : (fs sent : List WholeFrame) (p : ℕ) → IsSubsequence fs (drop p sent)
    → is_some (place_from (Some p) fs sent) ≡ true
unfolding place_from
placed [] sent p s = refl
placed (f ∷ fs) sent p s =
    by (λ q r. placed fs sent q r) (first_index f (drop p sent))
    (subst (IsLeft fs) (index-left f (drop p sent)) (first-is-left f fs (drop p sent) s))
  where
    by : ((q : ℕ) → IsSubsequence fs (drop q sent) → is_some (place_from (Some q) fs sent) ≡ true)
        → (r : Option ℕ) → IsLeft fs (left-at (drop p sent) r)
        → is_some (place_from (option_map (λ i. p + i + 1) r) fs sent) ≡ true
    by rest None l = absurd l
    by rest (Some i) l =
        rest (p + i + 1)
        (subst (IsSubsequence fs) (drop-drop (i + 1) p sent ∙ ap (λ n. drop n sent) (omega arith))
        l)

found : (fs sent : List WholeFrame) (p : ℕ) → is_some (place_from (Some p) fs sent) ≡ true
    → IsSubsequence fs (drop p sent)
unfolding place_from
found [] sent p e = tt
found (f ∷ fs) sent p e =
    left-is-first f fs (drop p sent)
    (subst (IsLeft fs) (sym (index-left f (drop p sent)))
    (by (λ q r. found fs sent q r) (first_index f (drop p sent)) e))
  where
    by : ((q : ℕ) → is_some (place_from (Some q) fs sent) ≡ true → IsSubsequence fs (drop q sent))
        → (r : Option ℕ) → is_some (place_from (option_map (λ i. p + i + 1) r) fs sent) ≡ true
        → IsLeft fs (left-at (drop p sent) r)
    by rest None e = absurd (let z = sym (ap is_some (place_from-none fs sent)) ∙ e in cc)
    by rest (Some i) e =
        subst (IsSubsequence fs)
        (sym (drop-drop (i + 1) p sent ∙ ap (λ n. drop n sent) (omega arith))) (rest (p + i + 1) e)

pub place-decides : (arrived sent : List WholeFrame) → IsTrue (is_some (place_of arrived sent))
    ↔ IsSubsequence arrived sent
place-decides arrived sent = (found arrived sent 0, placed arrived sent 0)
