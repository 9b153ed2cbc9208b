-- Where the item ends that a byte completes.
use Rattle.std.proofs.Common.{◌≡◌, inl, inr, ℕ, ◌+◌, ◌<◌, ◌≤◌, Bool, true, false, List, []}
use Rattle.std.proofs.Common.{◌∷◌, ◌++◌, length, take, drop, slice_index, refl, sym, ◌∙◌, ap, subst}
use Rattle.std.proofs.Common.{arith, Option, Some, None, Result, Ok, Err, length-append}
use Rattle.std.proofs.Common.{length-drop}
use Rattle.std.specs.Prelude.{◌==◌, ◌≢◌, ◌-◌, nat_le, nat_lt, if◌then◌else◌}
use Rattle.std.specs.Bool.{then_some}
use Rattle.std.specs.List.{list_any, position_from}
use Rattle.std.proofs.lemmas.Bool.Decides.{nat_tests}
use Rattle.std.proofs.lemmas.List.{append-nil, get_or_append_left, take-append-le}
use Rattle.std.proofs.lemmas.List.{append_cancel_left, drop-append-le}
use Rattle.ddcmp_frame.specs.declared.header.Header.{Header}
use Rattle.ddcmp_frame.specs.declared.header.HeaderFault.{HeaderFault}
use Rattle.ddcmp_frame.specs.declared.header.HeaderFault.TheVariants.{NotAStart, Check, BadType}
use Rattle.ddcmp_frame.specs.declared.header.HeaderFault.TheVariants.{CountZero}
use Rattle.ddcmp_frame.specs.declared.header.Header.TheVariants.{Data, Maint, Control}
use Rattle.ddcmp_frame.specs.declared.item.Item.{Item}
use Rattle.ddcmp_frame.specs.declared.item.Item.TheVariants.{Good, HeaderCheck, DataCheck, TooLong}
use Rattle.ddcmp_frame.specs.declared.item.Item.TheVariants.{Format}
use Rattle.ddcmp_frame.specs.Reader.{frame_length, Pushes, StandsFor}
use Rattle.ddcmp_frame.specs.Reading.{ReadItem, Place, row, weight, read, with_more, ending}
use Rattle.ddcmp_frame.specs.Reading.{by_length, by_count, count_of, is_start, items}
use Rattle.ddcmp_frame.specs.Reading.{open_at_end}
use Rattle.ddcmp_frame.specs.Reading.{is_data_right, place_after, data_after_header}
use Rattle.ddcmp_frame.specs.Spelling.{parsed}
use Rattle.ddcmp_frame.specs.Step.{item_offset}
use Rattle.ddcmp_frame.proofs.RowsLaws as rows
use Rattle.ddcmp_frame.proofs.ReadingLaws.{Row, Counts, Waits, row-falls, row-by, row-stuck}
use Rattle.ddcmp_frame.proofs.ReadingLaws.{row-empty, row-skips, row-waits, read-none, read-some}
use Rattle.ddcmp_frame.proofs.ReadingLaws.{ending-stuck, ending-offset, ending-suffix, items-more}
use Rattle.ddcmp_frame.proofs.Tests.{some-inj, none-some, some-none, ltb-is}
use Rattle.ddcmp_frame.proofs.Tests.{ltb-less, ltb-not, eqb-true, eqb-false}
use Rattle.ddcmp_explain.specs.declared.skipped.Skipped.{Skipped}
use Rattle.ddcmp_explain.specs.Discarded.{behind, taken_by}
use Rattle.ddcmp_streams.specs.Trace.{WayReaderView, HasHeard, Hears, is_junk, first_junk, junk_of}
use Rattle.ddcmp_streams.specs.Trace.{Discards, from_discarded, skipped_at_least, skipped_between}
use Rattle.ddcmp_streams.proofs.JunkLaws.{junk-past}

-- An item that begins where this text does ends with it or later, but for a damaged header.
pub record Ends (q : Place) (item : Item) : Type 0 where
  pub at : item_offset item ≡ q.offset
  pub some : 0 < length q.rest
  pub start : is_start (slice_index q.rest 0) ≡ true
  pub whole : 0 < taken_by item → q.offset + length q.rest ≤ behind item

-- ---- fewer than eight bytes complete nothing

abbrev Nothing : Place → List ReadItem → Type 0
Nothing q given = length q.rest < 8 → given ≡ []

few-row : (max : ℕ) (q : Place) (r : Row) → row max q ≡ Some r → length q.rest < 8
    → (r.0 ≡ []) × (length r.1.rest < 8)
few-row max q r e l = go (nat_lt 0 (length q.rest)) refl
  where
    skipped : ◌≡◌ {A = Option Row} (Some ([], place_after 1 q.lost q)) (Some r)
        → (r.0 ≡ []) × (length r.1.rest < 8)
    skipped s =
        let is = some-inj s in (
          ap (λ (x : Row). x.0) (sym is),
          omega (arith, ap (λ (x : Row). length x.1.rest) is, length-drop 1 q.rest, l),
        )

    begins : 0 < length q.rest → (b : Bool) → is_start (slice_index q.rest 0) ≡ b
        → (r.0 ≡ []) × (length r.1.rest < 8)
    begins some true s = absurd (none-some (sym (row-waits max q s l) ∙ e))
    begins some false s = skipped (sym (row-skips max q some s) ∙ e)

    go : (b : Bool) → nat_lt 0 (length q.rest) ≡ b → (r.0 ≡ []) × (length r.1.rest < 8)
    go true some = begins (ltb-less _ _ some) (is_start (slice_index q.rest 0)) refl
    go false none =
        absurd (none-some (sym (row-empty max q (omega (arith, ltb-not _ _ none))) ∙ e))

few : (max : ℕ) (q : Place) → length q.rest < 8 → (read max q).items ≡ []
unfolding read
few max q =
    rows.by_rows (row max) weight (row-falls max) (λ p o. Nothing p o.items) (λ p e l. refl)
    (λ p r e h l. let f = few-row max p r e l in
    ap (λ t. t ++ (read max r.1).items) f.0 ∙ h f.1) q

-- ---- what a row gives alone

-- the rest after a row completes nothing
row-alone : (max : ℕ) (q : Place) (r : Row) → row max q ≡ Some r → (read max r.1).items ≡ []
    → (read max q).items ≡ r.0
row-alone max q r e none =
    ap (λ o. o.items) (read-some max q r e) ∙ ap (λ t. r.0 ++ t) none ∙ append-nil r.0

one : {given : List ReadItem} {a b : Item} {s t : List ℕ}
    → given ≡ (a, s) ∷ [] → given ≡ (b, t) ∷ [] → b ≡ a
one e f = let g = sym f ∙ e in ap (λ x. x.0) (cons-head g)
  where
    cons-head : {x y : ReadItem} → ◌≡◌ {A = List ReadItem} (x ∷ []) (y ∷ []) → x ≡ y
    cons-head e = cc

no-one : {given : List ReadItem} {b : Item} {t : List ℕ} → given ≡ [] → given ≡ (b, t) ∷ [] → ⊥
no-one e f = let g = sym f ∙ e in bad g
  where
    bad : {x : ReadItem} → ◌≡◌ {A = List ReadItem} (x ∷ []) [] → ⊥
    bad e = cc

-- ---- eight bytes that begin a candidate

ends : (q : Place) (item : Item) → item_offset item ≡ q.offset
    → is_start (slice_index q.rest 0) ≡ true → 0 < length q.rest
    → (0 < taken_by item → length q.rest ≤ taken_by item) → Ends q item
ends q item at start some whole = record {
  at = at;
  some = some;
  start = start;
  whole = λ t. omega (arith, whole t, at);
}

module _ (max : ℕ) (q : Place) (start : is_start (slice_index q.rest 0) ≡ true)
    (item : Item) (lent : List ℕ) (e : (read max q).items ≡ (item, lent) ∷ []) where
  -- a row gives an item, and what is left is too short for another
  gives : (r : Row) (b : Item) (t : List ℕ) → row max q ≡ Some r → r.0 ≡ (b, t) ∷ []
      → (read max r.1).items ≡ [] → item ≡ b
  gives r b t is g none = one (row-alone max q r is none ∙ g) e

  gives-none : (r : Row) → row max q ≡ Some r → r.0 ≡ [] → (read max r.1).items ≡ [] → ⊥
  gives-none r is g none = no-one (row-alone max q r is none ∙ g) e

  turns : (b : Item) → item ≡ b → Ends q b → Ends q item
  turns b is h = subst (Ends q) (sym is) h

  stuck-none : row max q ≡ None → ⊥
  stuck-none is = no-one (ap (λ o. o.items) (read-none max q is)) e

  -- what is left after some bytes is too short for an item
  rest-few : (n : ℕ) (lost : Bool) → length q.rest < n + 8
      → (read max (place_after n lost q)).items ≡ []
  rest-few n lost l = few max (place_after n lost q) (omega (arith, length-drop n q.rest, l))

  -- the frame is whole now, or was reported as too long
  too-long : (h : Header) (n : ℕ) → 0 < length q.rest → length q.rest < n + 10
      → frame_length h ≡ n + 10
      → row max q ≡ by_length q h n true false
      → row max (record q { told = true }) ≡ by_length (record q { told = true }) h n true true
      → Ends q item
  too-long h n some l size is twice =
      turns (TooLong q.offset h)
      (gives ((TooLong q.offset h, []) ∷ [], record q { told = true }) (TooLong q.offset h) [] is
      refl
      (ap (λ o. o.items)
      (read-none max (record q { told = true })
      (twice ∙ rw (ltb-is (length q.rest) (n + 10) l) refl))))
      (ends q (TooLong q.offset h) refl start some (λ t. omega (arith, size, l)))

  skipped-frame : (h : Header) (n : ℕ) → length q.rest ≤ n + 10
      → row max q ≡ by_length q h n true true → Ends q item
  skipped-frame h n l is = go (nat_lt (length q.rest) (n + 10)) refl
    where
      go : (t : Bool) → nat_lt (length q.rest) (n + 10) ≡ t → Ends q item
      go true t = absurd (stuck-none (is ∙ rw t refl))
      go false t =
          absurd (gives-none ([], place_after (n + 10) false q) (is ∙ rw t refl) refl
          (rest-few (n + 10) false (omega (arith, l))))

  with-data : (h : Header) (n : ℕ) (told : Bool) → 0 < length q.rest → length q.rest ≤ n + 10
      → frame_length h ≡ n + 10 → row max q ≡ by_length q h n false told → Ends q item
  with-data h n told some l size is = go (nat_lt (length q.rest) (n + 10)) refl
    where
      none : (read max (place_after (n + 10) false q)).items ≡ []
      none = rest-few (n + 10) false (omega (arith, l))

      right : (d : Bool) → is_data_right n q.rest ≡ d → nat_lt (length q.rest) (n + 10) ≡ false
          → Ends q item
      right true d t =
          turns (Good q.offset h)
          (gives ((Good q.offset h, data_after_header n q.rest) ∷ [], place_after (n + 10) false q)
          (Good q.offset h) (data_after_header n q.rest) (is ∙ rw (t, d) refl) refl none)
          (ends q (Good q.offset h) refl start some (λ t. omega (arith, size, l)))
      right false d t =
          turns (DataCheck q.offset h)
          (gives ((DataCheck q.offset h, []) ∷ [], place_after (n + 10) false q)
          (DataCheck q.offset h) [] (is ∙ rw (t, d) refl) refl none)
          (ends q (DataCheck q.offset h) refl start some (λ t. omega (arith, size, l)))

      go : (t : Bool) → nat_lt (length q.rest) (n + 10) ≡ t → Ends q item
      go true t = absurd (stuck-none (is ∙ rw t refl))
      go false t = right (is_data_right n q.rest) refl t

  by-length : (h : Header) (n : ℕ) (above told : Bool) → 0 < length q.rest
      → length q.rest ≤ n + 10 → frame_length h ≡ n + 10
      → (above ≡ true → told ≡ false → length q.rest < n + 10)
      → row max q ≡ by_length q h n above told
      → (above ≡ true → row max (record q { told = true })
      ≡ by_length (record q { told = true }) h n true true)
      → Ends q item
  by-length h n true false some l size short is twice =
      too-long h n some (short refl refl) size is (twice refl)
  by-length h n true true some l size short is twice = skipped-frame h n l is
  by-length h n false told some l size short is twice = with-data h n told some l size is

-- ---- by its header

counted-length : (h : Header) (n : ℕ) → count_of h ≡ Some n → frame_length h ≡ n + 10
counted-length (Data h) n e = omega (arith, some-inj e)
counted-length (Maint h) n e = omega (arith, some-inj e)
counted-length (Control h) n e = absurd (none-some e)

control-length : (h : Header) → count_of h ≡ None → frame_length h ≡ 8
control-length (Data h) e = absurd (some-none e)
control-length (Maint h) e = absurd (some-none e)
control-length (Control h) e = refl

row-counted : (max : ℕ) (p : Place) (h : Header) (n : ℕ) → is_start (slice_index p.rest 0) ≡ true
    → 8 ≤ length p.rest → parsed (take 8 p.rest) ≡ Ok h → count_of h ≡ Some n
    → row max p ≡ by_length p h n (nat_lt max n) p.told
row-counted max p h n start full is counted =
    row-by max p (Ok h) start full is ∙ ap (by_count max p h) counted

-- a right header with COUNT
of-counted : (max : ℕ) (q : Place) (start : is_start (slice_index q.rest 0) ≡ true) (item : Item)
    (lent : List ℕ) → (read max q).items ≡ (item, lent) ∷ [] → (h : Header) (n : ℕ)
    → 8 ≤ length q.rest → length q.rest ≤ n + 10 → parsed (take 8 q.rest) ≡ Ok h
    → count_of h ≡ Some n → (nat_lt max n ≡ true → q.told ≡ false → length q.rest < n + 10)
    → Ends q item
of-counted max q start item lent e h n full l is counted short =
    by-length max q start item lent e h n (nat_lt max n) q.told (omega (arith, full)) l
    (counted-length h n counted) short (row-counted max q h n start full is counted)
    (λ above. row-counted max (record q { told = true }) h n start full is counted
    ∙ ap (λ t. by_length (record q { told = true }) h n t true) above)

-- eight bytes
of-eight : (max : ℕ) (q : Place) (start : is_start (slice_index q.rest 0) ≡ true) (item : Item)
    (lent : List ℕ) → (read max q).items ≡ (item, lent) ∷ [] → length q.rest ≡ 8 → Ends q item
of-eight max q start item lent e eight = go (parsed (take 8 q.rest)) refl
  where
    some : 0 < length q.rest
    some = omega (arith, eight)

    full : 8 ≤ length q.rest
    full = omega (arith, eight)

    none : (n : ℕ) (lost : Bool) → 0 < n → (read max (place_after n lost q)).items ≡ []
    none n lost l = rest-few max q start item lent e n lost (omega (arith, eight, l))

    checked : (lost : Bool) → q.lost ≡ lost
        → row max q
        ≡ Some ((if q.lost then [] else (HeaderCheck q.offset, []) ∷ []), place_after 1 true q)
        → Ends q item
    checked true l is =
        absurd (gives-none max q start item lent e
        ((if q.lost then [] else (HeaderCheck q.offset, []) ∷ []), place_after 1 true q) is
        (rw l refl)
        (none 1 true (omega arith)))
    checked false l is =
        turns max q start item lent e (HeaderCheck q.offset)
        (gives max q start item lent e
        ((if q.lost then [] else (HeaderCheck q.offset, []) ∷ []), place_after 1 true q)
        (HeaderCheck q.offset) [] is (rw l refl) (none 1 true (omega arith)))
        (ends q (HeaderCheck q.offset) refl start some (λ t. omega (arith, t)))

    format : (f : HeaderFault)
        → row max q ≡ Some ((Format q.offset f, []) ∷ [], place_after 8 false q) → Ends q item
    format f is =
        turns max q start item lent e (Format q.offset f)
        (gives max q start item lent e ((Format q.offset f, []) ∷ [], place_after 8 false q)
        (Format q.offset f) [] is refl (none 8 false (omega arith)))
        (ends q (Format q.offset f) refl start some (λ t. omega (arith, eight)))

    counted : (h : Header) → parsed (take 8 q.rest) ≡ Ok h → (c : Option ℕ) → count_of h ≡ c
        → Ends q item
    counted h is None c =
        turns max q start item lent e (Good q.offset h)
        (gives max q start item lent e ((Good q.offset h, []) ∷ [], place_after 8 false q)
        (Good q.offset h) [] (row-by max q (Ok h) start full is ∙ ap (by_count max q h) c) refl
        (none 8 false (omega arith)))
        (ends q (Good q.offset h) refl start some (λ t. omega (arith, eight, control-length h c)))
    counted h is (Some n) c =
        of-counted max q start item lent e h n full (omega (arith, eight)) is c
        (λ a t. omega (arith, eight))

    go : (v : Result Header HeaderFault) → parsed (take 8 q.rest) ≡ v → Ends q item
    go (Err NotAStart) is =
        absurd (gives-none max q start item lent e ([], place_after 1 q.lost q)
        (row-by max q (Err NotAStart) start full is) refl (none 1 q.lost (omega arith)))
    go (Err Check) is = checked q.lost refl (row-by max q (Err Check) start full is)
    go (Err (BadType c)) is = format (BadType c) (row-by max q (Err (BadType c)) start full is)
    go (Err CountZero) is = format CountZero (row-by max q (Err CountZero) start full is)
    go (Ok h) is = counted h is (count_of h) refl

-- ---- one more byte

abbrev pub place_with : ℕ → List ℕ → ℕ → Place
place_with max text b = with_more (ending max text) (b ∷ [])

-- the item that a byte completes
pub completed : (max : ℕ) (text : List ℕ) (b : ℕ) (item : Item) (lent : List ℕ)
    → (read max (place_with max text b)).items ≡ (item, lent) ∷ []
    → Ends (place_with max text b) item
completed max text b item lent e = elim (row-stuck max p (ending-stuck max text)) [
  | inl none ↦ absurd (no-one (few max q (omega (arith, ap length none, long))) e)
  | inr (inl short) ↦ begun short.0 short.1 short.2 (nat_lt (length q.rest) 8) refl
  | inr (inr waits) ↦ waiting waits.0 waits.1
]
  where
    p : Place
    p = ending max text

    q : Place
    q = place_with max text b

    long : length q.rest ≡ length p.rest + 1
    long = length-append p.rest (b ∷ [])

    first : 0 < length p.rest → is_start (slice_index p.rest 0) ≡ true
        → is_start (slice_index q.rest 0) ≡ true
    first some s = ap is_start (get_or_append_left p.rest (b ∷ []) 0 _ some) ∙ s

    begun : is_start (slice_index p.rest 0) ≡ true → 0 < length p.rest → length p.rest < 8
        → (t : Bool) → nat_lt (length q.rest) 8 ≡ t → Ends q item
    begun s some short true t = absurd (no-one (few max q (ltb-less _ _ t)) e)
    begun s some short false t =
        of-eight max q (first some s) item lent e (omega (arith, ltb-not _ _ t, short, long))

    waiting : (k : Counts p.rest) → Waits max p k → Ends q item
    waiting k w =
        of-counted max q (first (omega (arith, k.full)) k.start) item lent e k.header k.count
        (omega (arith, k.full, long)) (omega (arith, w.short, long))
        (ap parsed (take-append-le 8 p.rest (b ∷ []) k.full) ∙ k.is) k.counted
        (λ a t. omega (arith, w.within t, ltb-less _ _ a))

-- ---- where what was discarded begins

fill-start : (b : ℕ) → is_start b ≡ true → is_junk b ≡ true
fill-start b s = grind (arith, nat_tests)

first-start : (i : ℕ) (t : List ℕ) → 0 < length t → is_start (slice_index t 0) ≡ true
    → position_from is_junk i t ≡ Some i
first-start i [] l s = absurd (omega arith)
first-start i (b ∷ t) l s = rw (fill-start b s) refl

-- the unfinished frame, if there is one
pub junk-open : (max : ℕ) (text : List ℕ)
    → first_junk text (ending max text).offset
    ≡ (if nat_lt 0 (open_at_end max text) then Some (ending max text).offset else None)
junk-open max text = elim (row-stuck max p (ending-stuck max text)) [
  | inl none ↦ here ∙ ap (position_from is_junk p.offset) none ∙ sym (rw none refl)
  | inr (inl short) ↦ begins short.1 short.0
  | inr (inr waits) ↦ begins (omega (arith, waits.0.full)) waits.0.start
]
  where
    p : Place
    p = ending max text

    here : first_junk text p.offset ≡ position_from is_junk p.offset p.rest
    here = ap (position_from is_junk p.offset) (sym (ending-suffix max text))

    begins : 0 < length p.rest → is_start (slice_index p.rest 0) ≡ true
        → first_junk text p.offset ≡ (if nat_lt 0 (length p.rest) then Some p.offset else None)
    begins some s =
        here ∙ first-start p.offset p.rest some s ∙ sym (rw (ltb-is 0 (length p.rest) some) refl)

-- after an item
pub junk-completed : (max : ℕ) (text : List ℕ) (b : ℕ) (item : Item)
    → Ends (place_with max text b) item
    → junk_of item ≡ first_junk (text ++ b ∷ []) (behind item)
junk-completed max text b item h = go (taken_by item == 0) refl
  where
    p : Place
    p = ending max text

    q : Place
    q = place_with max text b

    all : p.offset + length p.rest ≡ length text
    all = ending-offset max text

    suffix : q.rest ≡ drop q.offset (text ++ b ∷ [])
    suffix =
        ap (λ t. t ++ b ∷ []) (ending-suffix max text)
        ∙ sym (drop-append-le p.offset text (b ∷ []) (omega (arith, all)))

    total : q.offset + length q.rest ≡ length (text ++ b ∷ [])
    total = omega (arith, all, length-append p.rest (b ∷ []), length-append text (b ∷ []))

    go : (t : Bool) → (taken_by item == 0) ≡ t
        → junk_of item ≡ first_junk (text ++ b ∷ []) (behind item)
    go true t =
        let none : behind item ≡ q.offset = omega (arith, h.at, eqb-true _ _ t) in
        rw t (ap Some h.at ∙ sym (first-start q.offset q.rest h.some h.start)
        ∙ ap (position_from is_junk q.offset) suffix
        ∙ ap (first_junk (text ++ b ∷ [])) (sym none))
    go false t =
        rw t (sym (junk-past (text ++ b ∷ []) (behind item)
        (omega (arith, total, h.whole (positive (taken_by item) (eqb-false _ _ t))))))
      where
        positive : (n : ℕ) → n ≢ 0 → 0 < n
        positive n other = omega (arith, other)

-- ---- a byte is heard

given-is : (max : ℕ) (text : List ℕ) (b : ℕ) (given : List ReadItem)
    → items max (text ++ b ∷ []) ≡ items max text ++ given
    → (read max (place_with max text b)).items ≡ given
given-is max text b given e =
    append_cancel_left (items max text) _ _ (sym (items-more max text (b ∷ [])) ∙ e)

pub hears
    : (old noted pushed new : WayReaderView) (byte : ℕ) (item : Item) (discarded : Option Skipped)
    → noted.frames ≡ old.frames → noted.reached ≡ old.reached
    → ((text : List ℕ) (from : ℕ) → HasHeard text from old
    → noted.junk ≡ first_junk (text ++ byte ∷ []) from)
    → Pushes noted.frames byte (Some item) pushed.frames → pushed.reached ≡ noted.reached
    → pushed.junk ≡ noted.junk
    → new.frames ≡ pushed.frames → new.reached.offset + new.reached.taken ≡ behind item
    → new.junk ≡ junk_of item
    → ((text : List ℕ) (from : ℕ) → pushed.reached.offset + pushed.reached.taken ≡ from
    → pushed.junk ≡ first_junk text from
    → discarded ≡ skipped_between text from (item_offset item))
    → Hears old byte (Some (record { item = item; discarded = discarded })) new
hears old noted pushed new byte item discarded nf nr nj p pr pj ff fr fj skipped = record {
  max = ap (λ f. f.max) ff ∙ p.max ∙ ap (λ f. f.max) nf;
  counted = ap (λ f. f.offset) ff ∙ p.counted ∙ ap (λ f. f.offset + 1) nf;
  heard = λ text from h. record {
    stands =
        subst (λ f. StandsFor f (text ++ byte ∷ [])) (sym ff) (p.stands text (stood text from h));
    reached = fr;
    junk = fj ∙ junk-completed noted.frames.max text byte item (ended text from h);
  };
  item = λ text from h. given text from h;
  discarded = λ text from h.
      skipped (text ++ byte ∷ []) from
      (ap (λ r. r.offset + r.taken) (pr ∙ nr) ∙ h.reached) (pj ∙ nj text from h);
}
  where
    stood : (text : List ℕ) (from : ℕ) → HasHeard text from old → StandsFor noted.frames text
    stood text from h = subst (λ f. StandsFor f text) (sym nf) h.stands

    ended : (text : List ℕ) (from : ℕ) → HasHeard text from old
        → Ends (place_with noted.frames.max text byte) item
    ended text from h =
        completed noted.frames.max text byte item pushed.frames.lent
        (given-is noted.frames.max text byte ((item, pushed.frames.lent) ∷ [])
        (p.item text (stood text from h)))

    given : (text : List ℕ) (from : ℕ) → HasHeard text from old
        → items old.frames.max (text ++ byte ∷ [])
        ≡ items old.frames.max text ++ (item, new.frames.lent) ∷ []
    given text from h =
        subst (λ m. items m (text ++ byte ∷ []) ≡ items m text ++ (item, new.frames.lent) ∷ [])
        (ap (λ f. f.max) nf)
        (p.item text (stood text from h)
        ∙ ap (λ l. items noted.frames.max text ++ (item, l) ∷ []) (sym (ap (λ f. f.lent) ff)))

-- ---- what was discarded is reported without an item

then-is : (b : Bool) (n : ℕ) → then_some b n ≡ (if b then Some n else None)
then-is true n = refl
then-is false n = refl

leb-is : (a b : ℕ) → a ≤ b → nat_le a b ≡ true
leb-is a b h = grind (arith, nat_tests)

leb-isnt : (a b : ℕ) → b < a → nat_le a b ≡ false
leb-isnt a b h = grind (arith, nat_tests)

skipped-count : (text : List ℕ) (from to : ℕ) (it : Skipped)
    → Some it ≡ skipped_between text from to
    → it.count ≡ to - from
skipped-count text from to it e = go (list_any is_junk (take (to - from) (drop from text))) e
  where
    go : (t : Bool)
        → Some it ≡ (if t then Some (record { from = from; count = to - from }) else None)
        → it.count ≡ to - from
    go true e = ap (λ s. s.count) (some-inj e)
    go false e = absurd (some-none e)

least-none : (least : ℕ) (text : List ℕ) (from to : ℕ) → None ≡ skipped_between text from to
    → None ≡ skipped_at_least least text from to
least-none least text from to e = go (nat_le least (to - from))
  where
    go : (t : Bool) → None ≡ (if t then skipped_between text from to else None)
    go true = e
    go false = refl

least-short : (least : ℕ) (text : List ℕ) (from to : ℕ) (it : Skipped)
    → Some it ≡ skipped_between text from to → it.count < least
    → None ≡ skipped_at_least least text from to
least-short least text from to it e l =
    sym (rw (leb-isnt least (to - from) (omega (arith, skipped-count text from to it e, l))) refl)

least-some : (least : ℕ) (text : List ℕ) (from to : ℕ) (it : Skipped)
    → Some it ≡ skipped_between text from to → least ≤ it.count
    → Some it ≡ skipped_at_least least text from to
least-some least text from to it e l =
    e ∙ sym (rw (leb-is least (to - from) (omega (arith, skipped-count text from to it e, l))) refl)

module _ (old : WayReaderView) (least end unfinished : ℕ)
    (opens : (text : List ℕ) → StandsFor old.frames text
    → unfinished ≡ open_at_end old.frames.max text)
    (count : old.frames.offset - unfinished ≡ end)
  where
    ends-at : (text : List ℕ) → StandsFor old.frames text
        → end ≡ (ending old.frames.max text).offset
    ends-at text h =
        omega (arith, count, opens text h, h.offset, ending-offset old.frames.max text)

    nothing-is : (given : Option Skipped) → given ≡ None
        → ((text : List ℕ) (from : ℕ) → HasHeard text from old
        → None ≡ skipped_at_least least text from end) → Discards old least given old
    nothing-is given none is = record {
      frames = refl;
      is = λ text from h.
          none ∙ is text from h
          ∙ ap (skipped_at_least least text from) (ends-at text h.stands);
      heard = λ text from h.
          subst (λ g. HasHeard text (from_discarded from (ending old.frames.max text).offset g) old)
          (sym none) h;
    }

    pub discards-none : ((text : List ℕ) (from : ℕ) → HasHeard text from old
        → None ≡ skipped_between text from end) → Discards old least None old
    discards-none skipped =
        nothing-is None refl (λ text from h. least-none least text from end (skipped text from h))

    pub discards-few : (it : Skipped) → ((text : List ℕ) (from : ℕ) → HasHeard text from old
        → Some it ≡ skipped_between text from end) → it.count < least → Discards old least None old
    discards-few it skipped l =
        nothing-is None refl
        (λ text from h. least-short least text from end it (skipped text from h) l)

    pub discards-some : (it : Skipped) (new : WayReaderView)
        → ((text : List ℕ) (from : ℕ) → HasHeard text from old
        → Some it ≡ skipped_between text from end) → least ≤ it.count
        → new.frames ≡ old.frames → new.reached.offset + new.reached.taken ≡ end
        → new.junk ≡ then_some (nat_lt 0 unfinished) end → Discards old least (Some it) new
    discards-some it new skipped l nf nr nj = record {
      frames = nf;
      is = λ text from h.
          least-some least text from end it (skipped text from h) l
          ∙ ap (skipped_at_least least text from) (ends-at text h.stands);
      heard = λ text from h. record {
        stands = subst (λ f. StandsFor f text) (sym nf) h.stands;
        reached = nr ∙ ends-at text h.stands;
        junk =
            nj ∙ then-is (nat_lt 0 unfinished) end
            ∙ ap (λ n. if nat_lt 0 n then Some end else None) (opens text h.stands)
            ∙ ap (λ n. if nat_lt 0 (open_at_end old.frames.max text) then Some n else None)
            (ends-at text h.stands)
            ∙ sym (junk-open old.frames.max text);
      };
    }
