-- What one more byte does to what a reader holds.
use Rattle.std.proofs.Common.{◌≡◌, ℕ, zero, suc, ◌+◌, ◌-◌, ◌<◌, ◌≤◌, Bool, true, false, List, []}
use Rattle.std.proofs.Common.{◌∷◌, ◌++◌, length, take, drop, slice_index, refl, sym, ◌∙◌, ap, subst}
use Rattle.std.proofs.Common.{arith, Ok, Err, Some, None, Option, Result, ◌⊎◌, inl, inr}
use Rattle.std.proofs.Common.{length-append, length-drop}
use Rattle.std.specs.Prelude.{nat_lt, if◌then◌else◌}
use Rattle.std.proofs.lemmas.List.{take-append-le, drop-append-le, append-nil, take_all, drop_all}
use Rattle.ddcmp_frame.specs.declared.header.Header.{Header}
use Rattle.ddcmp_frame.specs.declared.header.HeaderFault.{HeaderFault}
use Rattle.ddcmp_frame.specs.declared.header.HeaderFault.TheVariants.{Check}
use Rattle.ddcmp_frame.specs.declared.item.Item.{Item}
use Rattle.ddcmp_frame.specs.declared.item.Item.TheVariants.{Good, HeaderCheck, DataCheck, TooLong}
use Rattle.ddcmp_frame.specs.declared.item.Item.TheVariants.{Format}
use Rattle.ddcmp_frame.specs.Spelling.{parsed}
use Rattle.ddcmp_frame.specs.Reading.{Place, place_after, is_start, count_of, data_after_header}
use Rattle.ddcmp_frame.specs.Reading.{by_length, by_count, by_verdict, row, read, items, ending}
use Rattle.ddcmp_frame.specs.Reading.{with_more}
use Rattle.ddcmp_frame.specs.Resume.{from_start}
use Rattle.ddcmp_frame.specs.Reader.{ReaderView, Summarises, StandsFor, Grows, EndsWith}
use Rattle.ddcmp_frame.specs.Reader.{items_given, frame_length, candidate_length, bytes_to_come}
use Rattle.ddcmp_frame.specs.declared.plain.Step.TheVariants.{Gives}
use Rattle.ddcmp_frame.specs.Step.{item_length, row_of_step, Found}
use Rattle.ddcmp_frame.proofs.WireLaws.{frame_length-counted}
use Rattle.ddcmp_frame.proofs.Tests.{ok-inj, some-inj, ltb-is, ltb-isnt, false-true}
use Rattle.ddcmp_frame.proofs.ReadingLaws.{read-none, read-some, read-nothing, items-more}
use Rattle.ddcmp_frame.proofs.ReadingLaws.{ending-more, ending-stuck, ending-offset, ending-suffix}
use Rattle.ddcmp_frame.proofs.ReadingLaws.{ending-told, ending-nothing, row-passes, row-waits}
use Rattle.ddcmp_frame.proofs.ReadingLaws.{row-full, Counts, Waits, Stuck, row-stuck}

-- the view of a reader's fields
abbrev pub held : ℕ → ℕ → Bool → Bool → List ℕ → ℕ → ℕ → ℕ → ReaderView
held max o lost finished buffer skipped left lent =
    record {
      max = max;
      offset = o;
      lost = lost;
      bytes = (if finished then [] else buffer);
      skipped = skipped;
      left = left;
      lent = take lent (drop 8 buffer);
    }

-- a reader that holds nothing stands for the empty text
pub stands_anew : (max : ℕ) (buffer : List ℕ) (lent : ℕ) → lent ≡ 0
    → StandsFor (held max 0 false true buffer 0 0 lent) []
stands_anew max buffer lent none =
    subst (λ p. (StandsFor (held max 0 false true buffer 0 0 lent) [])) none
    (record {
      offset = refl;
      place =
          subst (Summarises (held max 0 false true buffer 0 0 lent)) (sym (ending-nothing max))
          (record { lost = refl; bytes = refl; skipped = refl; left = refl });
    })

-- ---- a reading that goes on by one byte

-- the place from which the next byte is read
grown : (v w : ReaderView) (text : List ℕ) (b : ℕ) (given : Option Item) (q : Place)
    → StandsFor v text → with_more (ending v.max text) (b ∷ []) ≡ q → w.max ≡ v.max
    → w.offset ≡ v.offset + 1 → (read v.max q).items ≡ items_given given w.lent
    → Summarises w (read v.max q).place → EndsWith given w.lent (text ++ b ∷ [])
    → Grows v b given w text
grown v w text b given q s is same_max counted its place wired =
    let e : (read v.max q).place ≡ ending w.max (text ++ b ∷ []) =
    ap (λ x. (read v.max x).place) (sym is) ∙ sym (ending-more v.max text (b ∷ []))
    ∙ ap (λ m. ending m (text ++ b ∷ [])) (sym same_max) in
    record {
      stands = record {
        offset = omega (arith, length-append text (b ∷ []), s.offset);
        place = subst (Summarises w) e place;
      };
      items =
          items-more v.max text (b ∷ []) ∙ ap (λ x. items v.max text ++ (read v.max x).items) is
          ∙ ap (λ x. items v.max text ++ x) its;
      wire = wired;
    }

pub when : {A : Type 0} (b : Bool) (x y : A) → b ≡ true → (if b then x else y) ≡ x
when b x y e = rw e refl

pub unless : {A : Type 0} (b : Bool) (x y : A) → b ≡ false → (if b then x else y) ≡ y
unless b x y e = rw e refl

-- ---- a too long frame goes on

-- a header that is there stays when the text goes on
unfoldable pub counts-more : (t u : List ℕ) → Counts t → Counts (t ++ u)
counts-more t u k = record {
  full = omega (arith, length-append t u, k.full);
  start = ap is_start (first t k.full) ∙ k.start;
  header = k.header;
  count = k.count;
  is = ap parsed (take-append-le 8 t u k.full) ∙ k.is;
  counted = k.counted;
}
  where
    first : (t : List ℕ) → 8 ≤ length t → slice_index (t ++ u) 0 ≡ slice_index t 0
    first [] l = absurd (omega arith)
    first (b ∷ t) l = refl

pub row-counts : (max : ℕ) (q : Place) (k : Counts q.rest)
    → row max q ≡ by_length q k.header k.count (nat_lt max k.count) q.told
row-counts max q k =
    row-full max q k.start k.full ∙ ap (by_verdict max q) k.is
    ∙ ap (by_count max q k.header) k.counted

pub row-told : (max : ℕ) (q : Place) (k : Counts q.rest) → max < k.count → q.told ≡ true
    → row max q
    ≡ (if nat_lt (length q.rest) (k.count + 10) then None else Some
    ([], place_after (k.count + 10) false q))
row-told max q k above told =
    row-counts max q k
    ∙ ap (λ x. by_length q k.header k.count x q.told) (ltb-is max k.count above)
    ∙ ap (λ x. by_length q k.header k.count true x) told

pub length_by-counts : (t : List ℕ) (k : Counts t)
    → candidate_length (parsed (take 8 t)) ≡ k.count + 10
length_by-counts t k = ap candidate_length k.is ∙ frame_length-counted k.header k.count k.counted

-- a reader to which bytes of a too long frame are still to come
pub record Passing (v : ReaderView) (text : List ℕ) : Type 0 where
  pub counts : Counts (ending v.max text).rest
  pub above : v.max < counts.count
  pub told : (ending v.max text).told ≡ true
  pub left : v.left + length (ending v.max text).rest ≡ counts.count + 10
  pub skipped : v.skipped ≡ length (ending v.max text).rest
  pub bytes : v.bytes ≡ []

pub is_true : (b : Bool) → (b ≡ false → ⊥) → b ≡ true
is_true true h = refl
is_true false h = absurd (h refl)

unfoldable pub passing : (v : ReaderView) (text : List ℕ) → StandsFor v text → 0 < v.left
    → Passing v text
passing v text s some =
    let p = ending v.max text in
    let l = s.place.left in
    let told : p.told ≡ true =
    is_true p.told (λ f. absurd (omega (arith, l, unless p.told (bytes_to_come p.rest) 0 f))) in
    let long = ending-told v.max text told in
    let k = long.counts in
    record {
      counts = k;
      above = long.above;
      told = told;
      left = omega (arith, l, when p.told (bytes_to_come p.rest) 0 told, length_by-counts p.rest k);
      skipped = s.place.skipped ∙ when p.told (length p.rest) 0 told;
      bytes = s.place.bytes ∙ when p.told [] p.rest told;
    }

-- one byte more, and not the last
pub exit_passes : (max o : ℕ) (lost finished : Bool) (buffer : List ℕ) (skipped left lent b : ℕ)
    (text : List ℕ) → 1 < left → StandsFor (held max o lost finished buffer skipped left lent) text
    → Grows (held max o lost finished buffer skipped left lent) b None
    (held max (o + 1) lost finished buffer (skipped + 1) (left - 1) 0) text
unfolding counts-more passing
exit_passes max o lost finished buffer skipped left lent b text two s =
    let v = held max o lost finished buffer skipped left lent in
    let k = passing v text s (omega arith) in
    let p = ending max text in
    let q = with_more p (b ∷ []) in
    let kq = counts-more p.rest (b ∷ []) k.counts in
    let longer = length-append p.rest (b ∷ []) in
    let kl = k.left in
    let none : row max q ≡ None =
    row-told max q kq k.above k.told
    ∙ when (nat_lt (length q.rest) (k.counts.count + 10)) _ _ (ltb-is _ _ (omega arith)) in
    let e = read-none max q none in
    grown v (held max (o + 1) lost finished buffer (skipped + 1) (left - 1) 0)
    text b None q s refl refl refl (ap (λ x. x.items) e)
    (subst (Summarises (held max (o + 1) lost finished buffer (skipped + 1) (left - 1) 0))
    (sym (ap (λ x. x.place) e)) (record {
      lost = s.place.lost;
      bytes = k.bytes ∙ sym (when q.told [] q.rest k.told);
      skipped = omega (arith, k.skipped, when q.told (length q.rest) 0 k.told);
      left = omega (arith, length_by-counts q.rest kq, when q.told (bytes_to_come q.rest) 0 k.told);
    })) tt

-- the last one
pub exit_passed : (max o : ℕ) (lost finished : Bool) (buffer : List ℕ) (skipped left lent b : ℕ)
    (text : List ℕ) → left ≡ 1 → StandsFor (held max o lost finished buffer skipped left lent) text
    → Grows (held max o lost finished buffer skipped left lent) b None
    (held max (o + 1) false finished buffer 0 0 0) text
unfolding counts-more passing
exit_passed max o lost finished buffer skipped left lent b text one s =
    let v = held max o lost finished buffer skipped left lent in
    let k = passing v text s (omega arith) in
    let p = ending max text in
    let q = with_more p (b ∷ []) in
    let kq = counts-more p.rest (b ∷ []) k.counts in
    let longer = length-append p.rest (b ∷ []) in
    let kl = k.left in
    let all : row max q ≡ Some ([], place_after (k.counts.count + 10) false q) =
    row-told max q kq k.above k.told
    ∙ unless (nat_lt (length q.rest) (k.counts.count + 10)) _ _ (ltb-isnt _ _ (omega arith)) in
    let z : drop (k.counts.count + 10) q.rest ≡ [] =
    drop_all (k.counts.count + 10) q.rest (omega arith) in
    let e = read-some max q _ all in
    let n = read-nothing max (place_after (k.counts.count + 10) false q) z in
    grown v (held max (o + 1) false finished buffer 0 0 0) text b None q s refl refl refl
    (ap (λ x. x.items) e ∙ ap (λ x. x.items) n)
    (subst (Summarises (held max (o + 1) false finished buffer 0 0 0))
    (sym (ap (λ x. x.place) e ∙ ap (λ x. x.place) n)) (record {
      lost = refl;
      bytes = k.bytes ∙ sym z;
      skipped = refl;
      left = refl;
    })) tt

-- ---- the bytes held and one more

-- a reader to which no bytes of a too long frame are to come
pub record Holding (v : ReaderView) (text : List ℕ) (p : Place) : Type 0 where
  pub place : ending v.max text ≡ p
  pub stuck : Stuck v.max p
  pub skipped : v.skipped ≡ 0

abbrev pub place_of : ReaderView → Place
place_of v =
    record { offset = v.offset - length v.bytes; lost = v.lost; told = false; rest = v.bytes }

same_count : (t : List ℕ) (x y : Counts t) → x.count ≡ y.count
same_count t x y = let a = length_by-counts t x in let b = length_by-counts t y in omega arith

pub holding : (v : ReaderView) (text : List ℕ) → StandsFor v text → v.left ≡ 0
    → Holding v text (place_of v)
holding v text s none =
    let p = ending v.max text in
    let told : p.told ≡ false = not_told p.told refl in
    let bytes : v.bytes ≡ p.rest = s.place.bytes ∙ unless p.told [] p.rest told in
    let o = ending-offset v.max text in
    let so = s.offset in
    let l = ap length bytes in
    let at : p.offset ≡ v.offset - length v.bytes = omega arith in
    let lost = s.place.lost in
    let is : p ≡ place_of v =
    λ i. record { offset = at i; lost = (sym lost) i; told = told i; rest = (sym bytes) i } in
    record {
      place = is;
      stuck = subst (Stuck v.max) is (row-stuck v.max p (ending-stuck v.max text));
      skipped = s.place.skipped ∙ unless p.told (length p.rest) 0 told;
    }
  where
    not_told : (x : Bool) → (ending v.max text).told ≡ x → (ending v.max text).told ≡ false
    not_told false e = e
    not_told true e =
        let p = ending v.max text in
        let k = (ending-told v.max text e).counts in
        let stuck = row-stuck v.max p (ending-stuck v.max text) in
        elim stuck [
          | inl nothing ↦ absurd (omega (arith, k.full, ap length nothing))
          | inr some ↦ elim some [
            | inl few ↦ absurd (omega (arith, k.full))
            | inr waits ↦
                let w = waits.1 in
                let same : k.count ≡ waits.0.count = same_count p.rest k waits.0 in
                absurd
                (omega (
                  arith,
                  s.place.left,
                  when p.told (bytes_to_come p.rest) 0 e,
                  length_by-counts p.rest k,
                  w.short,
                ))
          ]
        ]

-- the byte was put after the bytes held
pub record Stored (v : ReaderView) (b : ℕ) (text u : List ℕ) (at : ℕ) : Type 0 where
  pub stands : StandsFor v text
  pub none : v.left ≡ 0
  pub bytes : u ≡ v.bytes ++ b ∷ []
  pub at_front : at ≡ v.offset + 1 - length u

abbrev pub next_place : ℕ → Bool → List ℕ → Place
next_place at lost u = record { offset = at; lost = lost; told = false; rest = u }

next-is : (v : ReaderView) (b : ℕ) (text u : List ℕ) (at : ℕ) → Stored v b text u at
    → with_more (ending v.max text) (b ∷ []) ≡ next_place at v.lost u
next-is v b text u at s =
    let h = holding v text s.stands s.none in
    let l = length-append v.bytes (b ∷ []) in
    let lu = ap length s.bytes in
    let e : v.offset - length v.bytes ≡ at = omega (arith, s.at_front) in
    ap (λ p. with_more p (b ∷ [])) h.place
    ∙ (λ i. record { offset = e i; lost = v.lost; told = false; rest = (sym s.bytes) i })

pub exit_unfinished : (max o : ℕ) (lost finished : Bool) (buffer : List ℕ) (skipped left lent b : ℕ)
    (text u : List ℕ) (at : ℕ)
    → Stored (held max o lost finished buffer skipped left lent) b text u at
    → row max (next_place at lost u) ≡ None
    → Grows (held max o lost finished buffer skipped left lent) b None
    (held max (o + 1) lost false u skipped left 0) text
exit_unfinished max o lost finished buffer skipped left lent b text u at s none =
    let v = held max o lost finished buffer skipped left lent in
    let w = held max (o + 1) lost false u skipped left 0 in
    let h = holding v text s.stands s.none in
    let e = read-none max (next_place at lost u) none in
    grown v w text b None (next_place at lost u) s.stands (next-is v b text u at s) refl refl
    (ap (λ x. x.items) e) (subst (Summarises w) (sym (ap (λ x. x.place) e)) (record {
      lost = refl;
      bytes = refl;
      skipped = h.skipped;
      left = s.none;
    })) tt

pub first-of : (t : List ℕ) (b : ℕ) → 0 < length t → slice_index (t ++ b ∷ []) 0 ≡ slice_index t 0
first-of [] b l = absurd (omega arith)
first-of (x ∷ t) b l = refl

-- what is held begins with a start byte
held-start : (v : ReaderView) → Stuck v.max (place_of v) → 0 < length v.bytes
    → is_start (slice_index v.bytes 0) ≡ true
held-start v stuck some =
    elim stuck [
      | inl nothing ↦ absurd (omega (arith, ap length nothing))
      | inr with_more ↦ elim with_more [ inl few ↦ few.0 | inr waits ↦ let k = waits.0 in k.start ]
    ]

pub exit_skips : (max o : ℕ) (lost finished : Bool) (buffer : List ℕ) (skipped left lent b : ℕ)
    (text u : List ℕ) (at : ℕ)
    → Stored (held max o lost finished buffer skipped left lent) b text u at
    → is_start (slice_index u 0) ≡ false
    → row max (next_place at lost u) ≡ Some ([], place_after 1 lost (next_place at lost u))
    → Grows (held max o lost finished buffer skipped left lent) b None
    (held max (o + 1) lost true u skipped left 0) text
exit_skips max o lost finished buffer skipped left lent b text u at s other skips =
    let v = held max o lost finished buffer skipped left lent in
    let w = held max (o + 1) lost true u skipped left 0 in
    let h = holding v text s.stands s.none in
    let q = next_place at lost u in
    let alone : length v.bytes ≡ 0 = none_held v h.stuck other s.bytes in
    let lu = ap length s.bytes in
    let z : drop 1 u ≡ [] = drop_all 1 u (omega (arith, length-append v.bytes (b ∷ []))) in
    let e = read-some max q _ skips in
    let n = read-nothing max (place_after 1 lost q) z in
    grown v w text b None q s.stands (next-is v b text u at s) refl refl
    (ap (λ x. x.items) e ∙ ap (λ x. x.items) n)
    (subst (Summarises w) (sym (ap (λ x. x.place) e ∙ ap (λ x. x.place) n)) (record {
      lost = refl;
      bytes = sym z;
      skipped = h.skipped;
      left = s.none;
    })) tt
  where
    none_held : (v : ReaderView) → Stuck v.max (place_of v) → is_start (slice_index u 0) ≡ false
        → u ≡ v.bytes ++ b ∷ [] → length v.bytes ≡ 0
    none_held v stuck other is = by_length (length v.bytes) refl
      where
        by_length : (n : ℕ) → length v.bytes ≡ n → length v.bytes ≡ 0
        by_length zero e = e
        by_length (suc n) e =
            let some : 0 < length v.bytes = omega arith in
            absurd
            (false-true
            (sym other ∙ ap (λ x. is_start (slice_index x 0)) is
            ∙ ap is_start (first-of v.bytes b some) ∙ held-start v stuck some))

-- Eight bytes that are the first candidate to be read: it begins with the start byte held.
record First (v : ReaderView) (u : List ℕ) : Type 0 where
  start : is_start (slice_index u 0) ≡ true
  eight : length u ≡ 8

candidate : (v : ReaderView) (b : ℕ) (u : List ℕ) → u ≡ v.bytes ++ b ∷ [] → Stuck v.max (place_of v)
    → 8 ≤ length u
    → ((k : Counts v.bytes) → Waits v.max (place_of v) k → parsed (take 8 u) ≡ Ok k.header → ⊥)
    → First v u
candidate v b u is stuck full other =
    let lu = ap length is in
    let la = length-append v.bytes (b ∷ []) in
    elim stuck [
      | inl nothing ↦ absurd (omega (arith, ap length nothing))
      | inr some ↦ elim some [
        | inl few ↦
            let small = few.2 in
            record {
              start =
                  ap (λ x. is_start (slice_index x 0)) is ∙ ap is_start (first-of v.bytes b few.1)
                  ∙ few.0;
              eight = omega arith;
            }
        | inr waits ↦
            let k = waits.0 in
            absurd
            (other k waits.1
            (ap (λ x. parsed (take 8 x)) is
            ∙ ap parsed (take-append-le 8 v.bytes (b ∷ []) k.full) ∙ k.is))
      ]
    ]

pub ok-err : {h : Header} {f : HeaderFault} → ◌≡◌ {A = Result Header HeaderFault} (Ok h) (Err f) → ⊥
ok-err e = cc

-- after a failed candidate there is no room for a whole one: reading passes on to the next start
-- byte
pub record Passed (max o : ℕ) (before : Bool) (t u : List ℕ) : Type 0 where
  pub items : (read max (next_place o before t)).items ≡ []
  pub lost : (read max (next_place o before t)).place.lost ≡ before
  pub told : (read max (next_place o before t)).place.told ≡ false
  pub rest : (read max (next_place o before t)).place.rest ≡ u

passed-at : (max o : ℕ) (lost : Bool) (b : ℕ) (t : List ℕ) (x : Bool) → is_start b ≡ x
    → length (b ∷ t) < 8 → Passed max (o + 1) lost t (from_start t)
    → Passed max o lost (b ∷ t) (if x then b ∷ t else from_start t)
passed-at max o lost b t true e l ih =
    let n = read-none max (next_place o lost (b ∷ t)) (row-waits max _ e l) in
    record {
      items = ap (λ r. r.items) n;
      lost = ap (λ r. r.place.lost) n;
      told = ap (λ r. r.place.told) n;
      rest = ap (λ r. r.place.rest) n;
    }
passed-at max o lost b t false e l ih =
    let s =
    read-some max (next_place o lost (b ∷ t)) ([], next_place (o + 1) lost t)
    (row-passes max _ b t refl e) in
    record {
      items = ap (λ r. r.items) s ∙ ih.items;
      lost = ap (λ r. r.place.lost) s ∙ ih.lost;
      told = ap (λ r. r.place.told) s ∙ ih.told;
      rest = ap (λ r. r.place.rest) s ∙ ih.rest;
    }

pub passed : (max o : ℕ) (lost : Bool) (t : List ℕ) → length t < 8
    → Passed max o lost t (from_start t)
passed max o lost [] l =
    let n = read-nothing max (next_place o lost []) refl in
    record {
      items = ap (λ r. r.items) n;
      lost = ap (λ r. r.place.lost) n;
      told = ap (λ r. r.place.told) n;
      rest = ap (λ r. r.place.rest) n;
    }
passed max o lost (b ∷ t) l =
    passed-at max o lost b t (is_start b) refl l (passed max (o + 1) lost t (omega arith))

-- the item of a failed candidate
abbrev pub LossTold : ℕ → Bool → Option Item → Type 0
LossTold at lost given =
    ((lost ≡ true) × (given ≡ None)) ⊎ ((lost ≡ false) × (given ≡ Some (HeaderCheck at)))

pub loss_told : (at : ℕ) (lost : Bool) (given : Option Item)
    → given ≡ (if lost then None else Some (HeaderCheck at)) → LossTold at lost given
loss_told at true given e = inl (refl, e)
loss_told at false given e = inr (refl, e)

pub exit_fails : (max o : ℕ) (lost finished : Bool) (buffer : List ℕ) (skipped left lent b : ℕ)
    (text u : List ℕ) (at : ℕ) (given : Option Item) (moved : List ℕ)
    → Stored (held max o lost finished buffer skipped left lent) b text u at → 8 ≤ length u
    → parsed (take 8 u) ≡ Err Check
    → row max (next_place at lost u)
    ≡ Some
    ((if lost then [] else (HeaderCheck at, []) ∷ []), place_after 1 true (next_place at lost u))
    → LossTold at lost given → moved ≡ from_start (drop 1 u)
    → Grows (held max o lost finished buffer skipped left lent) b given
    (held max (o + 1) true false moved skipped left 0) text
exit_fails max o lost finished buffer skipped left lent b text u at given moved s full wrong fails
    told is =
    let v = held max o lost finished buffer skipped left lent in
    let w = held max (o + 1) true false moved skipped left 0 in
    let h = holding v text s.stands s.none in
    let q = next_place at lost u in
    let f = candidate v b u s.bytes h.stuck full (λ k waits ok. ok-err (sym ok ∙ wrong)) in
    let e = read-some max q _ fails in
    let p = passed max (at + 1) true (drop 1 u) (omega (arith, f.eight, length-drop 1 u)) in
    grown v w text b given q s.stands (next-is v b text u at s) refl refl
    (ap (λ x. x.items) e
    ∙ ap (λ x. (if lost then [] else (HeaderCheck at, []) ∷ []) ++ x) p.items ∙ append-nil _
    ∙ sym (its lost told)) (record {
      lost = sym (ap (λ x. x.place.lost) e ∙ p.lost);
      bytes =
          is
          ∙ sym
          (unless (read max q).place.told [] (read max q).place.rest
          (ap (λ x. x.place.told) e ∙ p.told) ∙ ap (λ x. x.place.rest) e ∙ p.rest);
      skipped =
          h.skipped
          ∙ sym
          (unless (read max q).place.told (length (read max q).place.rest) 0
          (ap (λ x. x.place.told) e ∙ p.told));
      left =
          s.none
          ∙ sym
          (unless (read max q).place.told (bytes_to_come (read max q).place.rest) 0
          (ap (λ x. x.place.told) e ∙ p.told));
    }) (wired told)
  where
    its : (x : Bool) → LossTold at x given
        → items_given given [] ≡ (if x then [] else (HeaderCheck at, []) ∷ [])
    its true told =
        elim told [
          | inl yes_lost ↦ ap (λ g. items_given g []) yes_lost.1
          | inr not_lost ↦ absurd
              (false-true (sym not_lost.0))
        ]
    its false told =
        elim told [
          | inl yes_lost ↦ absurd (false-true yes_lost.0)
          | inr not_lost ↦ ap (λ g. items_given g [])
              not_lost.1
        ]

    wired : LossTold at lost given → EndsWith given [] (text ++ b ∷ [])
    wired told =
        elim told [
          | inl yes_lost ↦ subst (λ g. EndsWith g [] (text ++ b ∷ [])) (sym yes_lost.1)
              tt
          | inr not_lost ↦ subst (λ g. EndsWith g [] (text ++ b ∷ [])) (sym not_lost.1) tt
        ]

pub exit_announces : (max o : ℕ) (lost finished : Bool) (buffer : List ℕ) (skipped left lent b : ℕ)
    (text u : List ℕ) (at : ℕ) (h : Header) (n : ℕ)
    → Stored (held max o lost finished buffer skipped left lent) b text u at → 8 ≤ length u
    → parsed (take 8 u) ≡ Ok h → count_of h ≡ Some n → max < n
    → row max (next_place at lost u)
    ≡ Some ((TooLong at h, []) ∷ [], record (next_place at lost u) { told = true })
    → Grows (held max o lost finished buffer skipped left lent) b (Some (TooLong at h))
    (held max (o + 1) lost true u 8 (n + 2) 0) text
exit_announces max o lost finished buffer skipped left lent b text u at h n s full ok cs above
    announces =
    let v = held max o lost finished buffer skipped left lent in
    let w = held max (o + 1) lost true u 8 (n + 2) 0 in
    let g = holding v text s.stands s.none in
    let q = next_place at lost u in
    let f = candidate v b u s.bytes g.stuck full (λ k waits ok2.
    let kn : k.count ≡ n = some-inj (sym k.counted ∙ ap count_of (ok-inj (sym ok2 ∙ ok)) ∙ cs) in
    absurd (omega (arith, waits.within refl))) in
    let p : Place = record q { told = true } in
    let k : Counts u =
    record { full = full; start = f.start; header = h; count = n; is = ok; counted = cs } in
    let none : row max p ≡ None =
    row-told max p k above refl
    ∙ when (nat_lt (length u) (n + 10)) _ _ (ltb-is _ _ (omega (arith, f.eight))) in
    let e = read-some max q _ announces in
    let m = read-none max p none in
    let come = ap candidate_length ok ∙ frame_length-counted h n cs in
    grown v w text b (Some (TooLong at h)) q s.stands (next-is v b text u at s) refl refl
    (ap (λ x. x.items) e ∙ ap (λ x. (TooLong at h, []) ∷ x.items) m)
    (subst (Summarises w) (sym (ap (λ x. x.place) e ∙ ap (λ x. x.place) m)) (record {
      lost = refl;
      bytes = refl;
      skipped = sym f.eight;
      left = omega (arith, f.eight, come);
    })) tt

-- from the offset of the unfinished frame on the text is what is held
ends-so : (v : ReaderView) (b : ℕ) (text u : List ℕ) (at : ℕ) → Stored v b text u at
    → drop at (text ++ b ∷ []) ≡ u
ends-so v b text u at s =
    let is = next-is v b text u at s in
    let o : (ending v.max text).offset ≡ at = ap (λ x. x.offset) is in
    let within = ending-offset v.max text in
    drop-append-le at text (b ∷ []) (omega arith)
    ∙ ap (λ k. drop k text ++ b ∷ []) (sym o)
    ∙ ap (λ x. x ++ b ∷ []) (sym (ending-suffix v.max text))
    ∙ ap (λ x. x.rest) is

pub exit_gives : (max o : ℕ) (lost finished : Bool) (buffer : List ℕ) (skipped left lent b : ℕ)
    (text u : List ℕ) (at : ℕ) (item : Item) (n : ℕ)
    → Stored (held max o lost finished buffer skipped left lent) b text u at
    → Found max at u (Gives item n)
    → row max (next_place at lost u) ≡ row_of_step (Gives item n) (next_place at lost u)
    → Grows (held max o lost finished buffer skipped left lent) b (Some item)
    (held max (o + 1) false true u skipped left n) text
exit_gives max o lost finished buffer skipped left lent b text u at item n s found gives =
    let v = held max o lost finished buffer skipped left lent in
    let w = held max (o + 1) false true u skipped left n in
    let h = holding v text s.stands s.none in
    let q = next_place at lost u in
    let all : item_length item ≡ length u = whole h.stuck found s.bytes in
    let z : drop (item_length item) u ≡ [] = drop_all (item_length item) u (omega arith) in
    let e = read-some max q _ gives in
    let m = read-nothing max (place_after (item_length item) false q) z in
    grown v w text b (Some item) q s.stands (next-is v b text u at s) refl refl
    (ap (λ x. x.items) e ∙ ap (λ x. (item, data_after_header n u) ∷ x.items) m)
    (subst (Summarises w) (sym (ap (λ x. x.place) e ∙ ap (λ x. x.place) m)) (record {
      lost = refl;
      bytes = sym z;
      skipped = h.skipped;
      left = s.none;
    })) (wired item all found (ends-so v b text u at s))
  where
    whole : Stuck max (place_of (held max o lost finished buffer skipped left lent))
        → Found max at u (Gives item n) → u ≡ (if finished then [] else buffer) ++ b ∷ []
        → item_length item ≡ length u
    whole stuck found is =
        let lu = ap length is in
        let la = length-append (if finished then [] else buffer) (b ∷ []) in
        let low = found.0 in
        let high = found.1 in
        elim stuck [
          | inl nothing ↦ absurd (omega (arith, ap length nothing))
          | inr some ↦ elim some [
            | inl few ↦ let small = few.2 in omega arith
            | inr waits ↦
                let k = waits.0 in
                let short = (waits.1).short in
                let same : item_length item ≡ k.count + 10 =
                found.2 ∙ ap (λ x. candidate_length (parsed (take 8 x))) is
                ∙ ap (λ x. candidate_length (parsed x))
                (take-append-le 8 (if finished then [] else buffer) (b ∷ []) k.full)
                ∙ length_by-counts (if finished then [] else buffer) k in
                omega arith
          ]
        ]

    wired : (i : Item) → item_length i ≡ length u → Found max at u (Gives i n)
        → drop at (text ++ b ∷ []) ≡ u → EndsWith (Some i) (data_after_header n u) (text ++ b ∷ [])
    wired (Good p g) all found ends =
        ap (λ k. drop k (text ++ b ∷ [])) found.4 ∙ ends
        ∙ sym (take_all (frame_length g) u (omega arith)) ∙ (found.3).1
    wired (DataCheck p g) all found ends = tt
    wired (TooLong p g) all found ends = tt
    wired (HeaderCheck p) all found ends = tt
    wired (Format p g) all found ends = tt
