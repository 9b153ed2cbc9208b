-- The first byte of a text that is no fill, and what is reported by it.
use Rattle.std.proofs.Common.{◌≡◌, ℕ, zero, suc, ◌+◌, ◌-◌, ◌<◌, ◌≤◌, Bool, true, false, List, []}
use Rattle.std.proofs.Common.{◌∷◌, ◌++◌, length, take, drop, refl, sym, ◌∙◌, ap, arith}
use Rattle.std.proofs.Common.{Option, Some, None, length-append, length-drop}
use Rattle.std.specs.Prelude.{nat_lt, not, if◌then◌else◌}
use Rattle.std.specs.List.{list_any, position_from}
use Rattle.std.proofs.lemmas.List.{drop-append-le}
use Rattle.ddcmp_frame.proofs.Tests.{ltb-is, ltb-isnt, ltb-less, ltb-not, none-some, some-inj}
use Rattle.ddcmp_explain.specs.declared.skipped.Skipped.{Skipped}
use Rattle.ddcmp_explain.specs.Discarded.{Part, Passed, passed, skipped_parts}
use Rattle.ddcmp_streams.specs.Trace.{is_fill, is_junk, first_junk, skipped_between}

-- whether a place is before an offset
abbrev is_before : Option ℕ → ℕ → Bool
is_before None to = false
is_before (Some j) to = nat_lt j to

-- the place that is found is at or after the first
found-after : (p : ℕ → Bool) (i j : ℕ) (t : List ℕ) → position_from p i t ≡ Some j → i ≤ j
found-after p i j [] e = cc
found-after p i j (x ∷ t) e = go (λ s. found-after p (i + 1) j t s) (p x) refl
  where
    first : Some i ≡ position_from p i (x ∷ t) → i ≤ j
    first s = let n : i ≡ j = some-inj (s ∙ e) in omega (arith, n)

    go : (position_from p (i + 1) t ≡ Some j → i + 1 ≤ j) → (b : Bool) → p x ≡ b → i ≤ j
    go rest true is = first (rw is refl)
    go rest false is =
        let s : position_from p (i + 1) t ≡ position_from p i (x ∷ t) = rw is refl in
        omega (arith, rest (s ∙ e))

-- a place of another byte
not-before : (p : ℕ → Bool) (i : ℕ) (t : List ℕ) → is_before (position_from p i t) i ≡ false
not-before p i t = go (position_from p i t) refl
  where
    go : (o : Option ℕ) → position_from p i t ≡ o → is_before o i ≡ false
    go None e = refl
    go (Some j) e = ltb-isnt j i (found-after p i j t e)

-- a byte of the first n passes if the first that passes is among them
any-taken : (p : ℕ → Bool) (i n : ℕ) (t : List ℕ)
    → list_any p (take n t) ≡ is_before (position_from p i t) (i + n)
any-taken p i zero [] = refl
any-taken p i (suc n) [] = refl
any-taken p i zero (x ∷ t) =
    sym (not-before p i (x ∷ t)) ∙ ap (is_before (position_from p i (x ∷ t))) (omega arith)
any-taken p i (suc n) (x ∷ t) = go (any-taken p (i + 1) n t) (p x) refl
  where
    go : list_any p (take n t) ≡ is_before (position_from p (i + 1) t) (i + 1 + n) → (b : Bool)
        → p x ≡ b → list_any p (x ∷ take n t) ≡ is_before (position_from p i (x ∷ t)) (i + suc n)
    go rest true is = rw is (sym (ltb-is i (i + suc n) (omega arith)))
    go rest false is =
        rw is (rest ∙ ap (is_before (position_from p (i + 1) t)) (omega arith))

-- the first of a longer text
abbrev or_at : Option ℕ → Bool → ℕ → Option ℕ
or_at (Some j) passes at = Some j
or_at None passes at = if passes then Some at else None

found-more : (p : ℕ → Bool) (i b : ℕ) (t : List ℕ)
    → position_from p i (t ++ b ∷ []) ≡ or_at (position_from p i t) (p b) (i + length t)
found-more p i b [] = ap (or_at None (p b)) (omega arith)
found-more p i b (x ∷ t) = go (found-more p (i + 1) b t) (p x) refl
  where
    go : position_from p (i + 1) (t ++ b ∷ [])
        ≡ or_at (position_from p (i + 1) t) (p b) (i + 1 + length t) → (c : Bool) → p x ≡ c
        → position_from p i (x ∷ t ++ b ∷ [])
        ≡ or_at (position_from p i (x ∷ t)) (p b) (i + length (x ∷ t))
    go rest true is = rw is refl
    go rest false is =
        rw is (rest ∙ ap (or_at (position_from p (i + 1) t) (p b)) (omega arith))

before-first : (text : List ℕ) (from to : ℕ) → to < from
    → is_before (first_junk text from) to ≡ false
before-first text from to l = go (first_junk text from) refl
  where
    go : (o : Option ℕ) → first_junk text from ≡ o → is_before o to ≡ false
    go None e = refl
    go (Some j) e =
        ltb-isnt j to (omega (arith, found-after is_junk from j (drop from text) e, l))

-- there is a byte that is no fill if the first one is before the end
any-skipped : (text : List ℕ) (from to : ℕ) → list_any is_junk (take (to - from) (drop from text))
    ≡ is_before (first_junk text from) to
any-skipped text from to =
    any-taken is_junk from (to - from) (drop from text) ∙ go (nat_lt to from) refl
  where
    go : (b : Bool) → nat_lt to from ≡ b
        → is_before (first_junk text from) (from + (to - from))
        ≡ is_before (first_junk text from) to
    go true l =
        ap (is_before (first_junk text from)) (omega (arith, ltb-less _ _ l))
        ∙ not-before is_junk from (drop from text)
        ∙ sym (before-first text from to (ltb-less _ _ l))
    go false l = ap (is_before (first_junk text from)) (omega (arith, ltb-not _ _ l))

skipped-by : (text : List ℕ) (from to : ℕ) (o : Option ℕ) → first_junk text from ≡ o
    → skipped_between text from to
    ≡ (if is_before o to then Some (record { from = from; count = to - from }) else None)
skipped-by text from to o e =
    ap (λ t. if t then Some (record { from = from; count = to - from }) else None)
    (any-skipped text from to ∙ ap (λ p. is_before p to) e)

pub none-skipped : (text : List ℕ) (from to : ℕ) → first_junk text from ≡ None
    → None ≡ skipped_between text from to
none-skipped text from to e = sym (skipped-by text from to None e)

pub not-yet : (text : List ℕ) (from to j : ℕ) → first_junk text from ≡ Some j → to ≤ j
    → None ≡ skipped_between text from to
not-yet text from to j e l = sym (skipped-by text from to (Some j) e ∙ rw (ltb-isnt j to l) refl)

-- ---- what comes after an item

no-part : {part : Part} → ◌≡◌ {A = List Part} [] (part ∷ []) → ⊥
no-part e = cc

passed-is : (from to : ℕ) → from < to → passed from to ≡ Passed from (to - from) ∷ []
passed-is from to l = rw (ltb-is from to l) refl

passed-isnt : (from to : ℕ) → to ≤ from → passed from to ≡ []
passed-isnt from to l = rw (ltb-isnt from to l) refl

passed-by : (from to : ℕ) (r : Option Skipped) → skipped_parts r ≡ passed from to → from < to
    → r ≡ Some (record { from = from; count = to - from })
passed-by from to None e l = absurd (no-part (e ∙ passed-is from to l))
passed-by from to (Some it) e l = one (e ∙ passed-is from to l)
  where
    one : skipped_parts (Some it) ≡ Passed from (to - from) ∷ []
        → Some it ≡ Some (record { from = from; count = to - from })
    one p =
        let a : it.from ≡ from = cc in let b : it.count ≡ to - from = cc in
        λ i. Some (record { from = a i; count = b i })

pub skipped-there : (text : List ℕ) (from to j : ℕ) (r : Option Skipped)
    → first_junk text from ≡ Some j
    → j < to → skipped_parts r ≡ passed from to → r ≡ skipped_between text from to
skipped-there text from to j r e l p =
    passed-by from to r p (omega (arith, found-after is_junk from j (drop from text) e, l))
    ∙ sym (skipped-by text from to (Some j) e ∙ rw (ltb-is j to l) refl)

pub passed-some : (from to : ℕ) (it : Skipped) → skipped_parts (Some it) ≡ passed from to
    → from < to
passed-some from to it e = go (nat_lt from to) refl
  where
    go : (b : Bool) → nat_lt from to ≡ b → from < to
    go true l = ltb-less _ _ l
    go false l = absurd (no-part (sym (e ∙ passed-isnt from to (ltb-not _ _ l))))

pub passed-none : (from to : ℕ) → skipped_parts None ≡ passed from to → to ≤ from
passed-none from to e = go (nat_lt from to) refl
  where
    go : (b : Bool) → nat_lt from to ≡ b → to ≤ from
    go true l = absurd (no-part (e ∙ passed-is from to (ltb-less _ _ l)))
    go false l = ltb-not _ _ l

-- ---- one more byte

pub junk-more : (text : List ℕ) (from b : ℕ) → from ≤ length text
    → first_junk (text ++ b ∷ []) from ≡ or_at (first_junk text from) (is_junk b) (length text)
junk-more text from b l =
    ap (position_from is_junk from) (drop-append-le from text (b ∷ []) l)
    ∙ found-more is_junk from b (drop from text)
    ∙ ap (or_at (first_junk text from) (is_junk b)) (omega (arith, length-drop from text, l))

drop-past : (n : ℕ) (t : List ℕ) → length t ≤ n → drop n t ≡ []
drop-past zero [] h = refl
drop-past zero (b ∷ t) h = absurd (omega arith)
drop-past (suc n) [] h = refl
drop-past (suc n) (b ∷ t) h = drop-past n t (omega arith)

-- past the end there is none
pub junk-past : (text : List ℕ) (from : ℕ) → length text ≤ from → first_junk text from ≡ None
junk-past text from l = ap (position_from is_junk from) (drop-past from text l)

-- the first one stays
pub junk-stays : (text : List ℕ) (from b j : ℕ) → first_junk text from ≡ Some j
    → Some j ≡ first_junk (text ++ b ∷ []) from
junk-stays text from b j e = go (nat_lt (length text) from) refl
  where
    go : (c : Bool) → nat_lt (length text) from ≡ c → Some j ≡ first_junk (text ++ b ∷ []) from
    go true l =
        absurd (none-some (sym (junk-past text from (omega (arith, ltb-less _ _ l))) ∙ e))
    go false l =
        sym (junk-more text from b (ltb-not _ _ l)
        ∙ ap (λ o. or_at o (is_junk b) (length text)) e)

-- fill is none
pub junk-fill : (text : List ℕ) (from b : ℕ) → first_junk text from ≡ None → is_fill b ≡ true
    → None ≡ first_junk (text ++ b ∷ []) from
junk-fill text from b e f = go (nat_lt (length text) from) refl
  where
    go : (c : Bool) → nat_lt (length text) from ≡ c → None ≡ first_junk (text ++ b ∷ []) from
    go true l =
        sym (junk-past (text ++ b ∷ []) from
        (omega (arith, ltb-less _ _ l, length-append text (b ∷ []))))
    go false l =
        sym (junk-more text from b (ltb-not _ _ l)
        ∙ ap (λ o. or_at o (is_junk b) (length text)) e
        ∙ ap (λ t. or_at None (not t) (length text)) f)

-- no fill is one, after the last item
pub junk-here : (text : List ℕ) (from b : ℕ) → first_junk text from ≡ None → is_fill b ≡ false
    → from ≤ length text → Some (length text) ≡ first_junk (text ++ b ∷ []) from
junk-here text from b e f l =
    sym (junk-more text from b l
    ∙ ap (λ o. or_at o (is_junk b) (length text)) e
    ∙ ap (λ t. or_at None (not t) (length text)) f)
