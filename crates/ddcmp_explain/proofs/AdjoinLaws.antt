-- Every byte is in one line.
use Rattle.std.proofs.Common.{◌≡◌, inl, inr, ℕ, ◌+◌, ◌<◌, ◌≤◌, Bool, true, false, List, [], ◌∷◌}
use Rattle.std.proofs.Common.{◌++◌, length, take, refl, sym, ◌∙◌, ap, subst, arith, Option, Some}
use Rattle.std.proofs.Common.{None, Ok, Err, Result, append_assoc, slice_index}
use Rattle.std.specs.Prelude.{nat_lt, if◌then◌else◌}
use Rattle.ddcmp_frame.specs.declared.header.Header.{Header}
use Rattle.ddcmp_frame.specs.declared.header.Header.TheVariants.{Data, Maint, Control}
use Rattle.ddcmp_frame.specs.declared.header.HeaderFault.{HeaderFault}
use Rattle.ddcmp_frame.specs.declared.header.HeaderFault.TheVariants.{NotAStart, Check, BadType}
use Rattle.ddcmp_frame.specs.declared.header.HeaderFault.TheVariants.{CountZero}
use Rattle.ddcmp_frame.specs.declared.item.Item.{Item}
use Rattle.ddcmp_frame.specs.declared.item.Item.TheVariants.{Good, HeaderCheck, DataCheck, TooLong}
use Rattle.ddcmp_frame.specs.declared.item.Item.TheVariants.{Format}
use Rattle.ddcmp_frame.specs.Reader.{frame_length}
use Rattle.ddcmp_frame.specs.Reading.{ReadItem, Place, place_after, row, weight, read, ending}
use Rattle.ddcmp_frame.specs.Reading.{items, beginning, by_length, by_count, by_verdict, by_front}
use Rattle.ddcmp_frame.specs.Reading.{is_start, count_of, is_data_right, data_after_header}
use Rattle.ddcmp_frame.specs.Rows.{RowResult, outcome_after, outcome_at_end, read_rows}
use Rattle.ddcmp_frame.specs.Spelling.{parsed}
use Rattle.ddcmp_frame.specs.Step.{item_offset}
use Rattle.ddcmp_frame.proofs.RowsLaws as rows
use Rattle.ddcmp_frame.proofs.ReadingLaws.{Row, row-falls, ending-offset}
use Rattle.ddcmp_frame.proofs.Tests.{chosen, ltb-is, ltb-isnt, ltb-not, ltb-less, some-inj}
use Rattle.ddcmp_frame.proofs.Tests.{none-some}
use Rattle.ddcmp_explain.specs.Discarded.{Part, Told, Adjoin, behind, count_in, count_in_all}
use Rattle.ddcmp_explain.specs.Discarded.{opened, parts, parts_from, passed, reached, taken_by}

-- ---- lines that adjoin

pub adjoin-append : (end a b c : ℕ) (xs ys : List Part) → Adjoin end a xs b → Adjoin end b ys c
    → Adjoin end a (xs ++ ys) c
adjoin-append end a b c [] ys h k = subst (λ n. Adjoin end n ys c) (sym h) k
adjoin-append end a b c (x ∷ xs) ys h k =
    (h.0, adjoin-append end (a + count_in end x) b c xs ys h.1 k)

-- their number of bytes is how far they reach
pub adjoin-counts : (end a b : ℕ) (xs : List Part) → Adjoin end a xs b → a + count_in_all end xs ≡ b
unfolding count_in_all
adjoin-counts end a b [] h = omega (arith, h)
adjoin-counts end a b (x ∷ xs) h = omega (arith, adjoin-counts end (a + count_in end x) b xs h.1)

adjoin-passed : (end a b : ℕ) → a ≤ b → Adjoin end a (passed a b) b
adjoin-passed end a b l = go (nat_lt a b) refl
  where
    go : (t : Bool) → nat_lt a b ≡ t → Adjoin end a (passed a b) b
    go true e = rw e (refl, omega (arith, ltb-less a b e))
    go false e = rw e (omega (arith, ltb-not a b e))

-- ---- a place in the reading

-- what is reported from an offset on, up to where the reading ends
abbrev told_from : ℕ → RowResult ReadItem Place → List Part
told_from at o = parts_from at o.items ++ passed (reached at o.items) o.place.offset

-- Up to this place all bytes are in a line: those before it if nothing was reported, and else those
-- before the frame that was reported to be too long, which is taken up to `at`.
abbrev Fits : ℕ → Place → ℕ → Type 0
Fits max p at =
    (p.told ≡ false → at ≤ p.offset)
    × (p.told ≡ true → (h : Header) × (n : ℕ) × (parsed (take 8 p.rest) ≡ Ok h)
    × (is_start (slice_index p.rest 0) ≡ true) × (count_of h ≡ Some n) × (max < n)
    × (at ≡ p.offset + (n + 10)))

-- where the next line begins
abbrev from_by : Bool → ℕ → ℕ → ℕ → ℕ
from_by told offset at end = if told then (if nat_lt end at then offset else at) else at

abbrev from : Place → ℕ → ℕ → ℕ
from p at end = from_by p.told p.offset at end

abbrev Covers : ℕ → Place → RowResult ReadItem Place → Type 0
Covers max p o =
    (p.offset ≤ o.place.offset) × ((at : ℕ) → Fits max p at
    → Adjoin o.place.offset (from p at o.place.offset) (told_from at o) o.place.offset)

bad : ◌≡◌ {A = Bool} false true → ⊥
bad e = cc

ok-err : {h : Header} {f : HeaderFault} → ◌≡◌ {A = Result Header HeaderFault} (Ok h) (Err f) → ⊥
ok-err e = cc

some-of-none : {n : ℕ} → ◌≡◌ {A = Option ℕ} None (Some n) → ⊥
some-of-none e = cc

ended : (max : ℕ) (p : Place) → Covers max p (outcome_at_end p)
unfolding parts_from reached
ended max p = (omega arith, λ at f. go p.told refl at f)
  where
    go : (t : Bool) → p.told ≡ t → (at : ℕ) → Fits max p at
        → Adjoin p.offset (from_by t p.offset at p.offset) (passed at p.offset) p.offset
    go false e at f = adjoin-passed p.offset at p.offset (f.0 e)
    go true e at f =
        let w = f.1 e in
        let less = ltb-is p.offset at (omega (arith, w.6)) in
        let not_less = ltb-isnt at p.offset (omega (arith, w.6)) in rw (less, not_less) refl

-- an item, and then what follows it
item-then : (a next : ℕ) (g : ReadItem) (o : RowResult ReadItem Place) → a ≤ item_offset g.0
    → item_offset g.0 + count_in o.place.offset (Told g) ≡ next
    → Adjoin o.place.offset next (told_from (behind g.0) o) o.place.offset
    → Adjoin o.place.offset a (told_from a (outcome_after (g ∷ []) o)) o.place.offset
unfolding parts_from reached
item-then a next g o l e h =
    let end = o.place.offset in
    let before = passed a (item_offset g.0) in
    subst (λ t. Adjoin end a t end)
    (sym (append_assoc before (Told g ∷ parts_from (behind g.0) o.items)
    (passed (reached (behind g.0) o.items) end)))
    (adjoin-append end a (item_offset g.0) end before (Told g ∷ told_from (behind g.0) o)
    (adjoin-passed end a (item_offset g.0) l)
    (refl, subst (λ n. Adjoin end n (told_from (behind g.0) o) end) (sym e) h))

whole : (end : ℕ) (g : ReadItem) → behind g.0 ≤ end
    → item_offset g.0 + count_in end (Told g) ≡ behind g.0
whole end g l = let t = ltb-isnt end (behind g.0) l in rw t refl

-- one row that goes on n bytes later, where nothing was reported
module _ (max : ℕ) (p : Place) (lost : Bool) (n : ℕ) (o : RowResult ReadItem Place)
    (h : Covers max (place_after n lost p) o) where
  later : p.offset ≤ o.place.offset
  later = omega (arith, h.0)

  goes_on : (at : ℕ) → at ≤ p.offset + n → Adjoin o.place.offset at (told_from at o) o.place.offset
  goes_on at l = h.1 at (λ t. l, λ t. absurd (bad t))

  -- without an item
  skips : ((at : ℕ) → Fits max p at → p.told ≡ true → ⊥) → Covers max p o
  skips never = (later, λ at f. go p.told refl at f)
    where
      go : (t : Bool) → p.told ≡ t → (at : ℕ) → Fits max p at
          → Adjoin o.place.offset (from_by t p.offset at o.place.offset) (told_from at o)
          o.place.offset
      go true e at f = absurd (never at f e)
      go false e at f = let l = f.0 e in goes_on at (omega (arith, l))

  -- with one
  gives : (g : ReadItem) → item_offset g.0 ≡ p.offset → taken_by g.0 ≤ n
      → ((at : ℕ) → Fits max p at → p.told ≡ true → ⊥) → Covers max p (outcome_after (g ∷ []) o)
  gives g here few never = (later, λ at f. go p.told refl at f)
    where
      go : (t : Bool) → p.told ≡ t → (at : ℕ) → Fits max p at
          → Adjoin o.place.offset (from_by t p.offset at o.place.offset)
          (told_from at (outcome_after (g ∷ []) o)) o.place.offset
      go true e at f = absurd (never at f e)
      go false e at f =
          let l = f.0 e in
          item-then at (behind g.0) g o (omega (arith, here))
          (whole o.place.offset g (omega (arith, here, few, h.0)))
          (goes_on (behind g.0) (omega (arith, here, few)))

-- a row and what follows it
abbrev Step : ℕ → Place → Row → Type 0
Step max p r =
    (o : RowResult ReadItem Place) → Covers max r.1 o → Covers max p (outcome_after r.0 o)

stepped : (max : ℕ) (p : Place) (r s : Row) → ◌≡◌ {A = Option Row} (Some r) (Some s) → Step max p r
    → Step max p s
stepped max p r s e h = subst (Step max p) (some-inj e) h

length-of : (h : Header) (n : ℕ) → count_of h ≡ Some n → frame_length h ≡ n + 10
length-of (Data h) n e = let k : h.count ≡ n = cc in omega (arith, k)
length-of (Maint h) n e = let k : h.count ≡ n = cc in omega (arith, k)
length-of (Control h) n e = absurd (some-of-none e)

same_count : (h k : Header) (m n : ℕ) → h ≡ k → count_of h ≡ Some m → count_of k ≡ Some n → m ≡ n
same_count h k m n e a b =
    let both : ◌≡◌ {A = Option ℕ} (Some m) (Some n) = sym a ∙ ap count_of e ∙ b in
    cc

module _ (max : ℕ) (p : Place) (h : Header) (n : ℕ) (start : is_start (slice_index p.rest 0) ≡ true)
    (is : parsed (take 8 p.rest) ≡ Ok h) (counted : count_of h ≡ Some n) where
  known : (at : ℕ) → Fits max p at → p.told ≡ true → (max < n) × (at ≡ p.offset + (n + 10))
  known at f t =
      let w = f.1 t in
      let same : ◌≡◌ {A = Result Header HeaderFault} (Ok h) (Ok w.0) = sym is ∙ w.2 in
      let header : h ≡ w.0 = cc in
      let number : n ≡ w.1 = same_count h w.0 n w.1 header counted w.4 in
      (omega (arith, w.5, number), omega (arith, w.6, number))

  -- it is reported to be too long
  tells : p.told ≡ false → max < n
      → Step max p ((TooLong p.offset h, []) ∷ [], record p { told = true })
  tells u above o k = (
    k.0,
    λ at f. subst
        (λ t. Adjoin o.place.offset (from_by t p.offset at o.place.offset)
        (told_from at (outcome_after (g ∷ []) o)) o.place.offset)
        (sym u)
        (item-then at (from_by true p.offset (behind g.0) o.place.offset) g o (f.0 u)
        (begins (nat_lt o.place.offset (behind g.0)) refl)
        (k.1 (behind g.0)
        (λ t. absurd (bad (sym t)), λ t. (h, n, is, start, counted, above, reach)))),
  )
    where
      g : ReadItem
      g = (TooLong p.offset h, [])

      reach : behind g.0 ≡ p.offset + (n + 10)
      reach = ap (λ m. p.offset + m) (length-of h n counted)

      begins : (t : Bool) → nat_lt o.place.offset (behind g.0) ≡ t
          → p.offset + count_in o.place.offset (Told g)
          ≡ from_by true p.offset (behind g.0) o.place.offset
      begins true e = rw e (omega arith)
      begins false e = rw e refl

  -- it has come to its end
  passes : p.told ≡ true → Step max p ([], place_after (n + 10) false p)
  passes t o k = (
    omega (arith, k.0),
    λ at f. subst
        (λ b. Adjoin o.place.offset (from_by b p.offset at o.place.offset) (told_from at o)
        o.place.offset)
        (sym t) (go at (known at f t).1),
  )
    where
      go : (at : ℕ) → at ≡ p.offset + (n + 10)
          → Adjoin o.place.offset (from_by true p.offset at o.place.offset) (told_from at o)
          o.place.offset
      go at e =
          let not_less = ltb-isnt o.place.offset at (omega (arith, e, k.0)) in
          rw not_less (k.1 at (λ t. omega (arith, e), λ t. absurd (bad t)))

  taken : (i : Item) → taken_by i ≡ frame_length h → item_offset i ≡ p.offset → n ≤ max
      → (lent : List ℕ) → Step max p ((i, lent) ∷ [], place_after (n + 10) false p)
  taken i len off few lent o k =
      gives max p false (n + 10) o k (i, lent) off (omega (arith, len, length-of h n counted))
      (λ at f t. let w = known at f t in omega (arith, w.0, few))

  by_lengths : (above told : Bool) → nat_lt max n ≡ above → p.told ≡ told → (r : Row)
      → by_length p h n above told ≡ Some r → Step max p r
  by_lengths true false a t r e = stepped max p _ r e (tells t (ltb-less max n a))
  by_lengths true true a t r e = elim (chosen (nat_lt (length p.rest) (n + 10)) _ _ _ e) [
    | inl short ↦ absurd (none-some short.1)
    | inr full ↦ stepped max p _ r full.1 (passes t)
  ]
  by_lengths false told a t r e = elim (chosen (nat_lt (length p.rest) (n + 10)) _ _ _ e) [
    | inl short ↦ absurd (none-some short.1)
    | inr full ↦ stepped max p _ r full.1 (right (is_data_right n p.rest))
  ]
    where
      right : (b : Bool)
          → Step max p (
            (if b then (Good p.offset h, data_after_header n p.rest)
                else (DataCheck p.offset h, []))
                ∷ [],
            place_after (n + 10) false p,
          )
      right true = taken (Good p.offset h) refl refl (ltb-not max n a) (data_after_header n p.rest)
      right false = taken (DataCheck p.offset h) refl refl (ltb-not max n a) []

module _ (max : ℕ) (p : Place) (start : is_start (slice_index p.rest 0) ≡ true) where
  faulty : (f : HeaderFault) → parsed (take 8 p.rest) ≡ Err f → (at : ℕ) → Fits max p at
      → p.told ≡ true → ⊥
  faulty f e at k t = let w = k.1 t in ok-err (sym w.2 ∙ e)

  by_verdicts : (v : Result Header HeaderFault) → parsed (take 8 p.rest) ≡ v → (r : Row)
      → by_verdict max p v ≡ Some r → Step max p r
  by_verdicts (Err NotAStart) is r e =
      stepped max p _ r e (λ o k. skips max p p.lost 1 o k (faulty NotAStart is))
  by_verdicts (Err Check) is r e = stepped max p _ r e (told p.lost)
    where
      told : (b : Bool)
          → Step max p ((if b then [] else (HeaderCheck p.offset, []) ∷ []), place_after 1 true p)
      told true = λ o k. skips max p true 1 o k (faulty Check is)
      told false =
          λ o k. gives max p true 1 o k (HeaderCheck p.offset, []) refl (omega arith)
          (faulty Check is)
  by_verdicts (Err (BadType c)) is r e =
      stepped max p _ r e
      (λ o k. gives max p false 8 o k (Format p.offset (BadType c), []) refl (omega arith)
      (faulty (BadType c) is))
  by_verdicts (Err CountZero) is r e =
      stepped max p _ r e
      (λ o k. gives max p false 8 o k (Format p.offset CountZero, []) refl (omega arith)
      (faulty CountZero is))
  by_verdicts (Ok h) is r e = go (count_of h) refl e
    where
      no_count : count_of h ≡ None → (at : ℕ) → Fits max p at → p.told ≡ true → ⊥
      no_count none at f t =
          let w = f.1 t in
          let same : ◌≡◌ {A = Result Header HeaderFault} (Ok h) (Ok w.0) = sym is ∙ w.2 in
          let header : h ≡ w.0 = cc in some-of-none (sym none ∙ ap count_of header ∙ w.4)

      eight : (k : Header) → count_of k ≡ None → frame_length k ≤ 8
      eight (Data k) e = let bad : ◌≡◌ {A = Option ℕ} (Some k.count) None = e in cc
      eight (Maint k) e = let bad : ◌≡◌ {A = Option ℕ} (Some k.count) None = e in cc
      eight (Control k) e = omega arith

      go : (c : Option ℕ) → count_of h ≡ c → by_count max p h c ≡ Some r → Step max p r
      go None cs e =
          stepped max p _ r e
          (λ o k. gives max p false 8 o k (Good p.offset h, []) refl (eight h cs) (no_count cs))
      go (Some n) cs e = by_lengths max p h n start is cs (nat_lt max n) p.told refl refl r e

by_row : (max : ℕ) (p : Place) (r : Row) → row max p ≡ Some r → Step max p r
unfolding row
by_row max p r e = front p.rest refl e
  where
    front : (t : List ℕ) → p.rest ≡ t → by_front max p t ≡ Some r → Step max p r
    front [] is e = absurd (none-some e)
    front (b ∷ t) is e = elim (chosen (is_start b) _ _ _ e) [
      | inl start ↦ elim (chosen (nat_lt (length (b ∷ t)) 8) _ _ _ start.1) [
        | inl short ↦ absurd (none-some short.1)
        | inr full
            ↦ by_verdicts max p (ap (λ x. is_start (slice_index x 0)) is ∙ start.0)
            (parsed (take 8 (b ∷ t))) (ap (λ x. parsed (take 8 x)) is) r full.1
      ]
      | inr other
          ↦ stepped max p _ r other.1
          (λ o k. skips max p p.lost 1 o k
          (λ at f t. let w = f.1 t in
          bad (sym other.0 ∙ ap (λ x. is_start (slice_index x 0)) (sym is) ∙ w.3)))
    ]

covers : (max : ℕ) (p : Place) → Covers max p (read max p)
unfolding read
covers max p =
    rows.by_rows (row max) weight (row-falls max) (Covers max) (λ q e. ended max q)
    (λ q r e h. by_row max q r e (read_rows (row max) weight r.1) h) p

-- ---- the law

adjoin-opened : (p : Place) → Adjoin p.offset p.offset (opened p) (p.offset + length p.rest)
adjoin-opened p = go (nat_lt 0 (length p.rest)) refl
  where
    go : (t : Bool) → nat_lt 0 (length p.rest) ≡ t
        → Adjoin p.offset p.offset (opened p) (p.offset + length p.rest)
    go true e = rw e (refl, refl)
    go false e = let none = ltb-not 0 (length p.rest) e in rw e (omega (arith, none))

pub adjoins : (max : ℕ) (bytes : List ℕ)
    → Adjoin (ending max bytes).offset 0 (parts max bytes) (length bytes)
unfolding items ending
adjoins max bytes =
    let p = ending max bytes in
    let told = (covers max (beginning bytes)).1 0 (λ t. omega arith, λ t. absurd (bad t)) in
    subst (λ n. Adjoin p.offset 0 (parts max bytes) n) (ending-offset max bytes)
    (subst (λ t. Adjoin p.offset 0 t (p.offset + length p.rest))
    (append_assoc (parts_from 0 (items max bytes))
    (passed (reached 0 (items max bytes)) p.offset) (opened p))
    (adjoin-append p.offset 0 p.offset (p.offset + length p.rest) _ (opened p) told
    (adjoin-opened p)))

pub counts : (max : ℕ) (bytes : List ℕ)
    → count_in_all (ending max bytes).offset (parts max bytes) ≡ length bytes
counts max bytes =
    omega (
      arith,
      adjoin-counts (ending max bytes).offset 0 (length bytes) (parts max bytes)
          (adjoins max bytes),
    )
