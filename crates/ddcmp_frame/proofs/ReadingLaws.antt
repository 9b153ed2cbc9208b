-- Laws of the reading of a text.
use Rattle.std.proofs.Common.{◌≡◌, ℕ, zero, suc, ◌+◌, ◌<◌, ◌≤◌, Bool, true, false, cond, List, []}
use Rattle.std.proofs.Common.{◌∷◌, ◌++◌, length, take, drop, slice_index, refl, sym, ◌∙◌, ap, subst}
use Rattle.std.proofs.Common.{arith, Ok, Err, Some, None, Option, Result, ◌⊎◌, inl, inr}
use Rattle.std.proofs.Common.{append_assoc, length-append, length-drop}
use Rattle.std.specs.Prelude.{nat_lt, if◌then◌else◌}
use Rattle.std.proofs.lemmas.List.{take-append-le, drop-append-le, get_or_append_left}
use Rattle.ddcmp_frame.specs.declared.header.Header.{Header}
use Rattle.ddcmp_frame.specs.declared.header.HeaderFault.{HeaderFault}
use Rattle.ddcmp_frame.specs.declared.header.HeaderFault.TheVariants.{NotAStart, Check, BadType}
use Rattle.ddcmp_frame.specs.declared.header.HeaderFault.TheVariants.{CountZero}
use Rattle.ddcmp_frame.specs.declared.item.Item.TheVariants.{Good, DataCheck}
use Rattle.ddcmp_frame.specs.Spelling.{parsed}
use Rattle.ddcmp_frame.specs.Rows.{outcome_after, outcome_at_end, Falls}
use Rattle.ddcmp_frame.specs.Reading.{ReadItem, Place, place_after, is_start, count_of}
use Rattle.ddcmp_frame.specs.Reading.{data_after_header, is_data_right, by_length, by_count}
use Rattle.ddcmp_frame.specs.Reading.{by_verdict, by_front, row, weight, read, beginning, items}
use Rattle.ddcmp_frame.specs.Reading.{ending, with_more, good_frame_of, good_frames_in, good_frames}
use Rattle.ddcmp_frame.proofs.RowsLaws as rows
use Rattle.ddcmp_frame.proofs.Tests.{chosen, some-inj, none-some, some-none, ltb-is, ltb-isnt}
use Rattle.ddcmp_frame.proofs.Tests.{ltb-less, ltb-not, false-true}

abbrev pub Row : Type 0
Row = List ReadItem × Place

drop-nil : (n : ℕ) → drop {A = ℕ} n [] ≡ []
drop-nil zero = refl
drop-nil (suc n) = refl

pub drop-drop : (m n : ℕ) (t : List ℕ) → drop n (drop m t) ≡ drop (m + n) t
drop-drop zero n t = ap (λ k. drop k t) (omega arith)
drop-drop (suc m) n [] = drop-nil n ∙ sym (drop-nil (suc m + n))
drop-drop (suc m) n (b ∷ t) =
    let e : suc m + n ≡ suc (m + n) = omega arith in
    drop-drop m n t ∙ ap (λ k. drop k (b ∷ t)) (sym e)

-- ---- one row

-- a decision at a place, made from its bytes so far
record Sound (p : Place) (v : Place → Option Row) (r : Row) : Type 0 where
  falls : weight r.1 < weight p
  counts : r.1.offset + length r.1.rest ≡ p.offset + length p.rest
  suffix : (text : List ℕ) → p.rest ≡ drop p.offset text → r.1.rest ≡ drop r.1.offset text
  stable : (u : List ℕ) → v (with_more p u) ≡ Some (r.0, with_more r.1 u)

past-sound : (p : Place) (v : Place → Option Row) (front : List ReadItem) (n : ℕ) (lost : Bool)
    → 0 < n → n ≤ length p.rest
    → ((u : List ℕ) → v (with_more p u) ≡ Some (front, place_after n lost (with_more p u)))
    → Sound p v (front, place_after n lost p)
past-sound p v front n lost pos enough e = record {
  falls = omega (arith, length-drop n p.rest);
  counts = omega (arith, length-drop n p.rest);
  suffix = λ text is. ap (drop n) is ∙ drop-drop p.offset n text;
  stable =
      λ u. e u
      ∙ ap
      (λ x. Some (front, record { offset = p.offset + n; lost = lost; told = false; rest = x }))
      (drop-append-le n p.rest u enough);
}

data_of-more : (n : ℕ) (t u : List ℕ) → n + 10 ≤ length t
    → data_after_header n (t ++ u) ≡ data_after_header n t
data_of-more n t u h =
    ap (take n) (drop-append-le 8 t u (omega arith))
    ∙ take-append-le n (drop 8 t) u (omega (arith, length-drop 8 t))

data_right-more : (n : ℕ) (t u : List ℕ) → n + 10 ≤ length t
    → is_data_right n (t ++ u) ≡ is_data_right n t
unfolding is_data_right
data_right-more n t u h =
    let d = data_of-more n t u h in
    let a : slice_index (t ++ u) (n + 8) ≡ slice_index t (n + 8) =
    get_or_append_left t u 0 (n + 8) (omega arith) in
    let b : slice_index (t ++ u) (n + 9) ≡ slice_index t (n + 9) =
    get_or_append_left t u 0 (n + 9) (omega arith) in
    rw (d, a, b) refl

abbrev pub whole_item : Place → Header → ℕ → ReadItem
whole_item p h n =
    if is_data_right n p.rest then (Good p.offset h, data_after_header n p.rest) else
    (DataCheck p.offset h, [])

length-sound : (p : Place) (h : Header) (n : ℕ) (above told : Bool) → p.told ≡ told → (r : Row)
    → by_length p h n above told ≡ Some r → Sound p (λ q. by_length q h n above told) r
length-sound p h n true false t r e =
    subst (Sound p (λ q. by_length q h n true false)) (some-inj e) (record {
      falls = rw t (omega arith);
      counts = refl;
      suffix = λ text is. is;
      stable = λ u. refl;
    })
length-sound p h n true true t r e =
    elim (chosen (nat_lt (length p.rest) (n + 10)) _ _ _ e) [
      | inl short ↦ absurd (none-some short.1)
      | inr full ↦
          let enough = ltb-not _ _ full.0 in
          subst (Sound p (λ q. by_length q h n true true)) (some-inj full.1)
          (past-sound p _ [] (n + 10) false (omega arith) enough
          (λ u. let k = ltb-isnt (length (p.rest ++ u)) (n + 10)
          (omega (arith, length-append p.rest u)) in rw k refl))
    ]
length-sound p h n false told t r e =
    elim (chosen (nat_lt (length p.rest) (n + 10)) _ _ _ e) [
      | inl short ↦ absurd (none-some short.1)
      | inr full ↦
          let enough = ltb-not _ _ full.0 in
          subst (Sound p (λ q. by_length q h n false told)) (some-inj full.1)
          (past-sound p _ (whole_item p h n ∷ []) (n + 10) false (omega arith) enough (λ u.
          let k =
          ltb-isnt (length (p.rest ++ u)) (n + 10) (omega (arith, length-append p.rest u)) in
          let d = data_of-more n p.rest u enough in
          let c = data_right-more n p.rest u enough in
          rw (k, c, d) refl))
    ]

count-sound : (max : ℕ) (p : Place) (h : Header) (c : Option ℕ) → 8 ≤ length p.rest → (r : Row)
    → by_count max p h c ≡ Some r → Sound p (λ q. by_count max q h c) r
count-sound max p h None l r e =
    subst (Sound p (λ q. by_count max q h None)) (some-inj e)
    (past-sound p _ _ 8 false (omega arith) l (λ u. refl))
count-sound max p h (Some n) l r e =
    let s = length-sound p h n (nat_lt max n) p.told refl r e in
    record { falls = s.falls; counts = s.counts; suffix = s.suffix; stable = λ u. s.stable u }

verdict-sound : (max : ℕ) (p : Place) (v : Result Header HeaderFault) → 8 ≤ length p.rest
    → (r : Row) → by_verdict max p v ≡ Some r → Sound p (λ q. by_verdict max q v) r
verdict-sound max p (Ok h) l r e = count-sound max p h (count_of h) l r e
verdict-sound max p (Err NotAStart) l r e =
    subst (Sound p (λ q. by_verdict max q (Err NotAStart))) (some-inj e)
    (past-sound p _ _ 1 p.lost (omega arith) (omega arith) (λ u. refl))
verdict-sound max p (Err Check) l r e =
    subst (Sound p (λ q. by_verdict max q (Err Check))) (some-inj e)
    (past-sound p _ _ 1 true (omega arith) (omega arith) (λ u. refl))
verdict-sound max p (Err (BadType c)) l r e =
    subst (Sound p (λ q. by_verdict max q (Err (BadType c)))) (some-inj e)
    (past-sound p _ _ 8 false (omega arith) l (λ u. refl))
verdict-sound max p (Err CountZero) l r e =
    subst (Sound p (λ q. by_verdict max q (Err CountZero))) (some-inj e)
    (past-sound p _ _ 8 false (omega arith) l (λ u. refl))

-- with eight bytes, what follows makes no difference
full-stable : (max : ℕ) (p : Place) (b : ℕ) (t : List ℕ) → p.rest ≡ b ∷ t → is_start b ≡ true
    → 8 ≤ length p.rest → (u : List ℕ)
    → row max (with_more p u) ≡ by_verdict max (with_more p u) (parsed (take 8 p.rest))
unfolding row
full-stable max p b t is e l u =
    ap (λ x. by_front max (with_more p u) (x ++ u)) is
    ∙ ap
    (λ x. cond x
    (if nat_lt (length (b ∷ (t ++ u))) 8 then None else by_verdict max (with_more p u)
    (parsed (take 8 (b ∷ (t ++ u))))) (Some ([], place_after 1 p.lost (with_more p u)))) e
    ∙ ap (λ x. cond x None (by_verdict max (with_more p u) (parsed (take 8 (b ∷ (t ++ u))))))
    (ltb-isnt (length (b ∷ (t ++ u))) 8 (omega (arith, length-append t u, ap length is)))
    ∙ ap (λ x. by_verdict max (with_more p u) (parsed x))
    (take-append-le 8 (b ∷ t) u (omega (arith, ap length is)) ∙ ap (take 8) (sym is))

row-sound-at : (max : ℕ) (o : ℕ) (lost told : Bool) (t : List ℕ) (r : Row)
    → row max (record { offset = o; lost = lost; told = told; rest = t }) ≡ Some r
    → Sound (record { offset = o; lost = lost; told = told; rest = t }) (row max) r
unfolding row
row-sound-at max o lost told [] r e = absurd (none-some e)
row-sound-at max o lost told (b ∷ t) r e =
    let p : Place = record { offset = o; lost = lost; told = told; rest = b ∷ t } in
    elim (chosen (is_start b) _ _ _ e) [
      | inl start ↦ elim (chosen (nat_lt (length (b ∷ t)) 8) _ _ _ start.1) [
        | inl short ↦ absurd (none-some short.1)
        | inr full ↦
            let enough = ltb-not _ _ full.0 in
            let s = verdict-sound max p (parsed (take 8 (b ∷ t))) enough r full.1 in
            record {
              falls = s.falls;
              counts = s.counts;
              suffix = s.suffix;
              stable = λ u. full-stable max p b t refl start.0 enough u ∙ s.stable u;
            }
      ]
      | inr other ↦ subst (Sound p (row max)) (some-inj other.1)
          (past-sound p (row max) [] 1 lost (omega arith) (omega arith)
          (λ u. ap
          (λ x. cond x
          (if nat_lt (length (b ∷ (t ++ u))) 8 then None else by_verdict max (with_more p u)
          (parsed (take 8 (b ∷ (t ++ u))))) (Some ([], place_after 1 lost (with_more p u))))
          other.0))
    ]

row-sound : (max : ℕ) (p : Place) (r : Row) → row max p ≡ Some r → Sound p (row max) r
row-sound max p r e = row-sound-at max p.offset p.lost p.told p.rest r e

pub row-falls : (max : ℕ) → Falls (row max) weight
row-falls max p r e = let s = row-sound max p r e in s.falls

pub row-stable : (max : ℕ) (p : Place) (r : Row) (u : List ℕ) → row max p ≡ Some r
    → row max (with_more p u) ≡ Some (r.0, with_more r.1 u)
row-stable max p r u e = let s = row-sound max p r e in s.stable u

-- ---- laws of whole readings

-- where no row fits, reading ends
pub read-none : (max : ℕ) (p : Place) → row max p ≡ None → read max p ≡ outcome_at_end p
unfolding read
read-none max p e = rows.read-none (row max) weight (row-falls max) p e

-- else it goes on after the row
pub read-some : (max : ℕ) (p : Place) (r : Row) → row max p ≡ Some r
    → read max p ≡ outcome_after r.0 (read max r.1)
unfolding read
read-some max p r e = rows.read-some (row max) weight (row-falls max) p r e

-- a text that goes on is read on from where its reading ended
pub read-more : (max : ℕ) (p : Place) (u : List ℕ)
    → read max (with_more p u)
    ≡ outcome_after (read max p).items (read max (with_more (read max p).place u))
unfolding read
read-more max p u = rows.read-more (row max) weight (row-falls max) with_more (row-stable max) p u

pub read-counts : (max : ℕ) (p : Place)
    → (read max p).place.offset + length (read max p).place.rest ≡ p.offset + length p.rest
unfolding read
read-counts max p =
    rows.by_rows (row max) weight (row-falls max)
    (λ q o. o.place.offset + length o.place.rest ≡ q.offset + length q.rest) (λ q e. refl)
    (λ q r e h. let s = row-sound max q r e in h ∙ s.counts) p

pub items-more : (max : ℕ) (text u : List ℕ)
    → items max (text ++ u) ≡ items max text ++ (read max (with_more (ending max text) u)).items
unfolding items ending
items-more max text u = ap (λ o. o.items) (read-more max (beginning text) u)

pub ending-more : (max : ℕ) (text u : List ℕ)
    → ending max (text ++ u) ≡ (read max (with_more (ending max text) u)).place
unfolding ending
ending-more max text u = ap (λ o. o.place) (read-more max (beginning text) u)

pub ending-stuck : (max : ℕ) (text : List ℕ) → row max (ending max text) ≡ None
unfolding ending read
ending-stuck max text = rows.ends_stuck (row max) weight (row-falls max) (beginning text)

pub ending-offset : (max : ℕ) (text : List ℕ)
    → (ending max text).offset + length (ending max text).rest ≡ length text
unfolding ending
ending-offset max text = read-counts max (beginning text) ∙ omega arith

-- what is unfinished is the end of the text
pub ending-suffix : (max : ℕ) (text : List ℕ)
    → (ending max text).rest ≡ drop (ending max text).offset text
unfolding ending read
ending-suffix max text =
    rows.by_rows (row max) weight (row-falls max)
    (λ q o. q.rest ≡ drop q.offset text → o.place.rest ≡ drop o.place.offset text)
    (λ q e is. is) (λ q r e h is. let s = row-sound max q r e in h (s.suffix text is))
    (beginning text) refl

pub row-nothing : (max : ℕ) (p : Place) → p.rest ≡ [] → row max p ≡ None
unfolding row
row-nothing max p e = ap (by_front max p) e

pub read-nothing : (max : ℕ) (p : Place) → p.rest ≡ [] → read max p ≡ outcome_at_end p
read-nothing max p e = read-none max p (row-nothing max p e)

pub items-nothing : (max : ℕ) → items max [] ≡ []
unfolding items
items-nothing max = ap (λ o. o.items) (read-nothing max (beginning []) refl)

pub ending-nothing : (max : ℕ) → ending max [] ≡ beginning []
unfolding ending
ending-nothing max = ap (λ o. o.place) (read-nothing max (beginning []) refl)

-- ---- the rows of the table, one by one

pub row-passes : (max : ℕ) (p : Place) (b : ℕ) (t : List ℕ) → p.rest ≡ b ∷ t → is_start b ≡ false
    → row max p ≡ Some ([], place_after 1 p.lost p)
unfolding row
row-passes max p b t e n = ap (by_front max p) e ∙ rw n refl

pub row-waits : (max : ℕ) (p : Place) → is_start (slice_index p.rest 0) ≡ true → length p.rest < 8
    → row max p ≡ None
unfolding row
row-waits max p start short = waiting p.rest start short
  where
    waiting : (t : List ℕ) → is_start (slice_index t 0) ≡ true → length t < 8
        → by_front max p t ≡ None
    waiting [] s l = refl
    waiting (b ∷ t) s l = rw s (rw (ltb-is (length (b ∷ t)) 8 l) refl)

pub row-full : (max : ℕ) (p : Place) → is_start (slice_index p.rest 0) ≡ true → 8 ≤ length p.rest
    → row max p ≡ by_verdict max p (parsed (take 8 p.rest))
unfolding row
row-full max p start full = filled p.rest start full
  where
    filled : (t : List ℕ) → is_start (slice_index t 0) ≡ true → 8 ≤ length t
        → by_front max p t ≡ by_verdict max p (parsed (take 8 t))
    filled [] s l = absurd (omega arith)
    filled (b ∷ t) s l = rw s (rw (ltb-isnt (length (b ∷ t)) 8 l) refl)

-- ---- places where reading ends

-- a right header with COUNT
pub record Counts (t : List ℕ) : Type 0 where
  pub full : 8 ≤ length t
  pub start : is_start (slice_index t 0) ≡ true
  pub header : Header
  pub count : ℕ
  pub is : parsed (take 8 t) ≡ Ok header
  pub counted : count_of header ≡ Some count

-- an unfinished frame after such a header
pub record Waits (max : ℕ) (p : Place) (k : Counts p.rest) : Type 0 where
  pub short : length p.rest < k.count + 10
  pub within : p.told ≡ false → k.count ≤ max

abbrev pub Stuck : ℕ → Place → Type 0
Stuck max p =
    (p.rest ≡ [])
    ⊎ (((is_start (slice_index p.rest 0) ≡ true) × (0 < length p.rest) × (length p.rest < 8))
    ⊎ ((k : Counts p.rest) × Waits max p k))

length-stuck : (p : Place) (h : Header) (n : ℕ) (above told : Bool)
    → by_length p h n above told ≡ None → (length p.rest < n + 10) × (told ≡ false → above ≡ false)
length-stuck p h n true false e = absurd (some-none e)
length-stuck p h n true true e =
    elim (chosen (nat_lt (length p.rest) (n + 10)) _ _ _ e) [
      | inl short ↦ (ltb-less _ _ short.0, λ f. f)
      | inr full ↦ absurd (some-none full.1)
    ]
length-stuck p h n false told e =
    elim (chosen (nat_lt (length p.rest) (n + 10)) _ _ _ e) [
      | inl short ↦ (ltb-less _ _ short.0, λ f. refl)
      | inr full ↦ absurd (some-none full.1)
    ]

full-stuck : (max : ℕ) (p : Place) (v : Result Header HeaderFault)
    → is_start (slice_index p.rest 0) ≡ true → 8 ≤ length p.rest → parsed (take 8 p.rest) ≡ v
    → by_verdict max p v ≡ None → (k : Counts p.rest) × Waits max p k
full-stuck max p (Err NotAStart) start full is e = cc
full-stuck max p (Err Check) start full is e = cc
full-stuck max p (Err (BadType c)) start full is e = cc
full-stuck max p (Err CountZero) start full is e = cc
full-stuck max p (Ok h) start full is e = go (count_of h) refl e
  where
    go : (c : Option ℕ) → count_of h ≡ c → by_count max p h c ≡ None
        → (k : Counts p.rest) × Waits max p k
    go None cs e = absurd (some-none e)
    go (Some n) cs e =
        let l = length-stuck p h n (nat_lt max n) p.told e in (
          record { full = full; start = start; header = h; count = n; is = is; counted = cs },
          record { short = l.0; within = λ t. ltb-not max n (l.1 t) },
        )

-- where no row fits, there is nothing, the beginning of a candidate or an unfinished frame
pub row-stuck : (max : ℕ) (p : Place) → row max p ≡ None → Stuck max p
unfolding row
row-stuck max p e = stuck p.rest refl e
  where
    stuck : (t : List ℕ) → p.rest ≡ t → by_front max p t ≡ None → Stuck max p
    stuck [] is e = inl is
    stuck (b ∷ t) is e =
        elim (chosen (is_start b) _ _ _ e) [
          | inl start ↦ elim (chosen (nat_lt (length (b ∷ t)) 8) _ _ _ start.1) [
            | inl short ↦ inr
                (inl (
                  ap (λ x. is_start (slice_index x 0)) is
                      ∙ start.0,
                  omega (arith, ap length is),
                  omega (arith, ap length is, ltb-less _ _ short.0),
                ))
            | inr full ↦ inr
                (inr
                (full-stuck max p (parsed (take 8 (b ∷ t)))
                (ap (λ x. is_start (slice_index x 0)) is ∙ start.0)
                (omega (arith, ap length is, ltb-not _ _ full.0)) (ap (λ x. parsed (take 8 x)) is)
                full.1))
          ]
          | inr other ↦ absurd (some-none other.1)
        ]

-- ---- a frame that was reported to be too long

pub record IsTooLong (max : ℕ) (t : List ℕ) : Type 0 where
  pub counts : Counts t
  pub above : max < counts.count

abbrev pub Told : ℕ → Place → Type 0
Told max p = p.told ≡ true → IsTooLong max p.rest

length-told : (max : ℕ) (p : Place) (k : Counts p.rest) (above told : Bool)
    → nat_lt max k.count ≡ above → (r : Row) → by_length p k.header k.count above told ≡ Some r
    → Told max r.1
length-told max p k true false n r e =
    subst (λ x. Told max x.1) (some-inj e) (λ t. record { counts = k; above = ltb-less _ _ n })
length-told max p k true true n r e =
    elim (chosen (nat_lt (length p.rest) (k.count + 10)) _ _ _ e) [
      | inl short ↦ absurd (none-some short.1)
      | inr full ↦ subst (λ x. Told max x.1) (some-inj full.1) (λ t. absurd (false-true t))
    ]
length-told max p k false told n r e =
    elim (chosen (nat_lt (length p.rest) (k.count + 10)) _ _ _ e) [
      | inl short ↦ absurd (none-some short.1)
      | inr full ↦ subst (λ x. Told max x.1) (some-inj full.1) (λ t. absurd (false-true t))
    ]

verdict-told : (max : ℕ) (p : Place) (v : Result Header HeaderFault)
    → is_start (slice_index p.rest 0) ≡ true → 8 ≤ length p.rest → parsed (take 8 p.rest) ≡ v
    → (r : Row) → by_verdict max p v ≡ Some r → Told max r.1
verdict-told max p (Err NotAStart) start full is r e =
    subst (λ x. Told max x.1) (some-inj e) (λ t. absurd (false-true t))
verdict-told max p (Err Check) start full is r e =
    subst (λ x. Told max x.1) (some-inj e) (λ t. absurd (false-true t))
verdict-told max p (Err (BadType c)) start full is r e =
    subst (λ x. Told max x.1) (some-inj e) (λ t. absurd (false-true t))
verdict-told max p (Err CountZero) start full is r e =
    subst (λ x. Told max x.1) (some-inj e) (λ t. absurd (false-true t))
verdict-told max p (Ok h) start full is r e = go (count_of h) refl e
  where
    go : (c : Option ℕ) → count_of h ≡ c → by_count max p h c ≡ Some r → Told max r.1
    go None cs e = subst (λ x. Told max x.1) (some-inj e) (λ t. absurd (false-true t))
    go (Some n) cs e =
        length-told max p
        (record { full = full; start = start; header = h; count = n; is = is; counted = cs })
        (nat_lt max n) p.told refl r e

row-told : (max : ℕ) (p : Place) (r : Row) → row max p ≡ Some r → Told max r.1
unfolding row
row-told max p r e = front p.rest refl e
  where
    front : (t : List ℕ) → p.rest ≡ t → by_front max p t ≡ Some r → Told max r.1
    front [] is e = absurd (none-some e)
    front (b ∷ t) is e =
        elim (chosen (is_start b) _ _ _ e) [
          | inl start ↦ elim (chosen (nat_lt (length (b ∷ t)) 8) _ _ _ start.1) [
            | inl short ↦ absurd (none-some short.1)
            | inr full ↦ verdict-told max p (parsed (take 8 (b ∷ t)))
                (ap (λ x. is_start (slice_index x 0)) is ∙ start.0)
                (omega (arith, ap length is, ltb-not _ _ full.0)) (ap (λ x. parsed (take 8 x)) is)
                r full.1
          ]
          | inr other ↦ subst (λ x. Told max x.1) (some-inj other.1) (λ t. absurd (false-true t))
        ]

pub ending-told : (max : ℕ) (text : List ℕ) → Told max (ending max text)
unfolding ending read
ending-told max text =
    rows.by_rows (row max) weight (row-falls max) (λ q o. Told max q → Told max o.place)
    (λ q e t. t) (λ q r e h t. h (row-told max q r e)) (beginning text)
    (λ t. absurd (false-true t))

-- ---- good frames

pub good_in-append : (s t : List ReadItem)
    → good_frames_in (s ++ t) ≡ good_frames_in s ++ good_frames_in t
unfolding good_frames_in
good_in-append [] t = refl
good_in-append (g ∷ s) t =
    ap (λ x. good_frame_of g ++ x) (good_in-append s t)
    ∙ sym (append_assoc (good_frame_of g) (good_frames_in s) (good_frames_in t))

pub good-more : (max : ℕ) (text u : List ℕ)
    → good_frames max (text ++ u)
    ≡ good_frames max text ++ good_frames_in (read max (with_more (ending max text) u)).items
good-more max text u = ap good_frames_in (items-more max text u) ∙ good_in-append (items max text) _

-- ---- rows by their verdict

pub row-empty : (max : ℕ) (p : Place) → length p.rest ≡ 0 → row max p ≡ None
row-empty max p l = row-nothing max p (nothing p.rest l)
  where
    nothing : (t : List ℕ) → length t ≡ 0 → t ≡ []
    nothing [] l = refl
    nothing (b ∷ t) l = absurd (omega arith)

pub row-skips : (max : ℕ) (p : Place) → 0 < length p.rest → is_start (slice_index p.rest 0) ≡ false
    → row max p ≡ Some ([], place_after 1 p.lost p)
row-skips max p some other = go p.rest refl some other
  where
    go : (t : List ℕ) → p.rest ≡ t → 0 < length t → is_start (slice_index t 0) ≡ false
        → row max p ≡ Some ([], place_after 1 p.lost p)
    go [] is l n = absurd (omega arith)
    go (b ∷ t) is l n = row-passes max p b t is n

pub row-by : (max : ℕ) (p : Place) (v : Result Header HeaderFault)
    → is_start (slice_index p.rest 0) ≡ true → 8 ≤ length p.rest → parsed (take 8 p.rest) ≡ v
    → row max p ≡ by_verdict max p v
row-by max p v start full is = row-full max p start full ∙ ap (by_verdict max p) is
