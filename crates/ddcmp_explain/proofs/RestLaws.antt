-- What one more byte leaves open at the end of a text.
use Rattle.std.proofs.Common.{◌≡◌, ◌⊎◌, inl, inr, ℕ, zero, suc, ◌+◌, ◌-◌, ◌*◌, ◌<◌, ◌≤◌, Bool, true}
use Rattle.std.proofs.Common.{false, List, [], ◌∷◌, ◌++◌, length, take, drop, refl, sym, ◌∙◌, ap}
use Rattle.std.proofs.Common.{arith, Option, Some, None, length-append, slice_index, Ok}
use Rattle.std.specs.Prelude.{nat_lt, if◌then◌else◌}
use Rattle.std.proofs.lemmas.List.{take-append-le, drop-append-le, get_or_append_left}
use Rattle.ddcmp_frame.specs.declared.header.Header.{Header}
use Rattle.ddcmp_frame.specs.Reading.{Place, row, weight, read, with_more, ending, by_length}
use Rattle.ddcmp_frame.specs.Reading.{by_count, is_start}
use Rattle.ddcmp_frame.specs.Spelling.{parsed}
use Rattle.ddcmp_frame.proofs.RowsLaws as rows
use Rattle.ddcmp_frame.proofs.ReadingLaws.{Row, Counts, Waits, drop-drop, row-falls, row-by}
use Rattle.ddcmp_frame.proofs.ReadingLaws.{row-stuck, read-none, read-some, read-nothing}
use Rattle.ddcmp_frame.proofs.ReadingLaws.{ending-more, ending-stuck, ending-offset, ending-suffix}
use Rattle.ddcmp_frame.proofs.Tests.{chosen, ltb-isnt, some-inj, none-some}
use Rattle.ddcmp_explain.specs.Inside.Heads.{Follows}

lighter : (a b : ℕ) (s t : Bool) → 2 * a + (if s then 0 else 1) < 2 * b + (if t then 0 else 1)
    → a ≤ b
lighter a b true true h = omega arith
lighter a b true false h = omega arith
lighter a b false true h = omega arith
lighter a b false false h = omega arith

-- reading on leaves no more than there was
shrinks : (max : ℕ) (p : Place) → length (read max p).place.rest ≤ length p.rest
unfolding read
shrinks max p =
    rows.by_rows (row max) weight (row-falls max) (λ q o. length o.place.rest ≤ length q.rest)
    (λ q e. omega arith)
    (λ q r e h. let l =
    lighter (length r.1.rest) (length q.rest) r.1.told q.told (row-falls max q r e) in
    omega arith)
    p

drop-all : (n : ℕ) (t : List ℕ) → length t ≤ n → drop n t ≡ []
drop-all zero [] h = refl
drop-all zero (b ∷ t) h = absurd (omega arith)
drop-all (suc n) [] h = refl
drop-all (suc n) (b ∷ t) h = drop-all n t (omega arith)

none-some-false : true ≡ false → ⊥
none-some-false e = cc

-- an unfinished frame to which its last byte comes is passed whole
passes : (q : Place) (h : Header) (n : ℕ) (above told : Bool) (r : Row)
    → by_length q h n above told ≡ Some r → (told ≡ false → above ≡ false) → length q.rest ≤ n + 10
    → r.1.rest ≡ []
passes q h n true false r e w l = absurd (none-some-false (w refl))
passes q h n true true r e w l =
    elim (chosen (nat_lt (length q.rest) (n + 10)) _ _ _ e) [
      | inl short ↦ absurd (none-some short.1)
      | inr full ↦ ap (λ (x : Row). x.1.rest) (sym (some-inj full.1)) ∙ drop-all (n + 10) q.rest l
    ]
passes q h n false told r e w l =
    elim (chosen (nat_lt (length q.rest) (n + 10)) _ _ _ e) [
      | inl short ↦ absurd (none-some short.1)
      | inr full ↦ ap (λ (x : Row). x.1.rest) (sym (some-inj full.1)) ∙ drop-all (n + 10) q.rest l
    ]

below : (max n : ℕ) → n ≤ max → nat_lt max n ≡ false
below max n h = ltb-isnt max n h

-- a frame whose header is whole stays open, or comes to its end
stays_or_ends : (max : ℕ) (p : Place) (b : ℕ) (k : Counts p.rest) → Waits max p k
    → (length (read max (with_more p (b ∷ []))).place.rest ≡ length p.rest + 1)
    ⊎ ((read max (with_more p (b ∷ []))).place.rest ≡ [])
stays_or_ends max p b k w = go (row max q) refl
  where
    q : Place
    q = with_more p (b ∷ [])

    start : is_start (slice_index q.rest 0) ≡ true
    start = ap is_start (get_or_append_left p.rest (b ∷ []) 0 _ (omega (arith, k.full))) ∙ k.start

    full : 8 ≤ length q.rest
    full = omega (arith, length-append p.rest (b ∷ []), k.full)

    is : parsed (take 8 q.rest) ≡ Ok k.header
    is = ap parsed (take-append-le 8 p.rest (b ∷ []) k.full) ∙ k.is

    counted : row max q ≡ by_length q k.header k.count (nat_lt max k.count) p.told
    counted = row-by max q (Ok k.header) start full is ∙ ap (by_count max q k.header) k.counted

    go : (o : Option Row) → row max q ≡ o
        → (length (read max q).place.rest ≡ length p.rest + 1) ⊎ ((read max q).place.rest ≡ [])
    go None e =
        inl (ap (λ o. length o.place.rest) (read-none max q e) ∙ length-append p.rest (b ∷ []))
    go (Some r) e =
        let none =
        passes q k.header k.count (nat_lt max k.count) p.told r (sym counted ∙ e)
        (λ t. below max k.count (w.within t))
        (omega (arith, length-append p.rest (b ∷ []), w.short)) in
        inr (ap (λ o. o.place.rest) (read-some max q r e)
        ∙ ap (λ o. o.place.rest) (read-nothing max r.1 none) ∙ none)

pub follows : (max : ℕ) (text : List ℕ) (b : ℕ)
    → Follows (ending max text).rest b (ending max (text ++ b ∷ [])).rest
follows max text b = record {
  within = within;
  suffix = ending-suffix max (text ++ b ∷ [])
      ∙ ap (λ n. drop n (text ++ b ∷ [])) further
      ∙ sym (drop-drop was.offset k (text ++ b ∷ []))
      ∙ ap (drop k)
      (drop-append-le was.offset text (b ∷ []) (omega (arith, counts))
      ∙ ap (λ t. t ++ b ∷ []) (sym (ending-suffix max text)));
  whole = λ full. elim (row-stuck max was (ending-stuck max text)) [
    | inl none ↦ absurd (omega (arith, ap length none))
    | inr (inl few) ↦ absurd (omega (arith, few.2))
    | inr (inr waits) ↦ elim (stays_or_ends max was b waits.0 waits.1) [
      | inl long ↦ inl (ap (λ p. length p.rest) more ∙ long)
      | inr none ↦ inr (ap (λ p. p.rest) more ∙ none)
    ]
  ];
}
  where
    was : Place
    was = ending max text

    now : Place
    now = ending max (text ++ b ∷ [])

    more : now ≡ (read max (with_more was (b ∷ []))).place
    more = ending-more max text (b ∷ [])

    within : length now.rest ≤ length was.rest + 1
    within =
        omega (
          arith,
          ap (λ p. length p.rest) more,
          shrinks max (with_more was (b ∷ [])),
          length-append was.rest (b ∷ []),
        )

    counts : was.offset + length was.rest ≡ length text
    counts = ending-offset max text

    k : ℕ
    k = length was.rest + 1 - length now.rest

    further : now.offset ≡ was.offset + k
    further =
        omega
        (arith, ending-offset max (text ++ b ∷ []), counts, within, length-append text (b ∷ []))
