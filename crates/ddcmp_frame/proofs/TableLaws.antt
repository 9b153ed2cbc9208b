-- The rows of the table of reading, as they stand in a text.
use Rattle.std.proofs.Common.{◌≡◌, ℕ, ◌+◌, ◌<◌, ◌≤◌, Bool, true, false, List, [], ◌∷◌, length, take}
use Rattle.std.proofs.Common.{drop, slice_index, refl, ◌∙◌, ap, Ok, Some, Result}
use Rattle.std.specs.Prelude.{nat_lt, if◌then◌else◌}
use Rattle.ddcmp_frame.specs.declared.header.Header.{Header}
use Rattle.ddcmp_frame.specs.declared.header.HeaderFault.{HeaderFault}
use Rattle.ddcmp_frame.specs.declared.item.Item.TheVariants.{Good, DataCheck, TooLong}
use Rattle.ddcmp_frame.specs.Spelling.{is_start, parsed}
use Rattle.ddcmp_frame.specs.Rows.{outcome_after, outcome_at_end}
use Rattle.ddcmp_frame.specs.Reading.{ReadItem, Place, place_after, count_of, data_after_header}
use Rattle.ddcmp_frame.specs.Reading.{is_data_right, by_length, by_count, by_verdict, row, read}
use Rattle.ddcmp_frame.specs.Step.{place_untold}
use Rattle.ddcmp_frame.proofs.ReadingLaws.{read-none, read-some, row-by}
use Rattle.ddcmp_frame.proofs.Tests.{ltb-is, ltb-isnt}

-- the verdict on the candidate decides
pub read-by : (max o : ℕ) (lost : Bool) (t : List ℕ) (v : Result Header HeaderFault)
    (r : List ReadItem × Place)
    → is_start (slice_index t 0) ≡ true → 8 ≤ length t → parsed (take 8 t) ≡ v
    → by_verdict max (place_untold o lost t) v ≡ Some r
    → read max (place_untold o lost t) ≡ outcome_after r.0 (read max r.1)
read-by max o lost t v r start full is e =
    read-some max (place_untold o lost t) r (row-by max (place_untold o lost t) v start full is ∙ e)

-- the row of a header with COUNT
counted : (max : ℕ) (p : Place) (h : Header) (n : ℕ) → is_start (slice_index p.rest 0) ≡ true
    → 8 ≤ length p.rest
    → parsed (take 8 p.rest) ≡ Ok h → count_of h ≡ Some n
    → row max p ≡ by_length p h n (nat_lt max n) p.told
counted max p h n start full is some =
    row-by max p (Ok h) start full is ∙ ap (by_count max p h) some

pub read-too-long : (max o n : ℕ) (lost : Bool) (t : List ℕ) (h : Header)
    → is_start (slice_index t 0) ≡ true → 8 ≤ length t
    → parsed (take 8 t) ≡ Ok h → count_of h ≡ Some n → max < n
    → read max (place_untold o lost t)
    ≡ outcome_after ((TooLong o h, []) ∷ [])
    (read max (record (place_untold o lost t) { told = true }))
read-too-long max o n lost t h start full is some above =
    let p = place_untold o lost t in
    read-some max p _
    (counted max p h n start full is some
    ∙ ap (λ x. by_length p h n x false) (ltb-is max n above))

pub read-passed : (max o n : ℕ) (lost : Bool) (t : List ℕ) (h : Header)
    → is_start (slice_index t 0) ≡ true → 8 ≤ length t
    → parsed (take 8 t) ≡ Ok h → count_of h ≡ Some n → max < n → n + 10 ≤ length t
    → read max (record (place_untold o lost t) { told = true })
    ≡ read max (place_untold (o + (n + 10)) false (drop (n + 10) t))
read-passed max o n lost t h start full is some above whole =
    let p : Place = record (place_untold o lost t) { told = true } in
    read-some max p ([], place_after (n + 10) false p)
    (counted max p h n start full is some ∙ ap (λ x. by_length p h n x true) (ltb-is max n above)
    ∙ rw (ltb-isnt (length t) (n + 10) whole) refl)

pub read-passing : (max o n : ℕ) (lost : Bool) (t : List ℕ) (h : Header)
    → is_start (slice_index t 0) ≡ true → 8 ≤ length t
    → parsed (take 8 t) ≡ Ok h → count_of h ≡ Some n → max < n → length t < n + 10
    → read max (record (place_untold o lost t) { told = true })
    ≡ outcome_at_end (record (place_untold o lost t) { told = true })
read-passing max o n lost t h start full is some above short =
    let p : Place = record (place_untold o lost t) { told = true } in
    read-none max p
    (counted max p h n start full is some
    ∙ ap (λ x. by_length p h n x true) (ltb-is max n above)
    ∙ rw (ltb-is (length t) (n + 10) short) refl)

pub read-unfinished : (max o n : ℕ) (lost : Bool) (t : List ℕ) (h : Header)
    → is_start (slice_index t 0) ≡ true → 8 ≤ length t
    → parsed (take 8 t) ≡ Ok h → count_of h ≡ Some n → n ≤ max → length t < n + 10
    → read max (place_untold o lost t) ≡ outcome_at_end (place_untold o lost t)
read-unfinished max o n lost t h start full is some below short =
    let p = place_untold o lost t in
    read-none max p
    (counted max p h n start full is some
    ∙ ap (λ x. by_length p h n x false) (ltb-isnt max n below)
    ∙ rw (ltb-is (length t) (n + 10) short) refl)

pub read-whole : (max o n : ℕ) (lost : Bool) (t : List ℕ) (h : Header) (right : Bool)
    → is_start (slice_index t 0) ≡ true → 8 ≤ length t
    → parsed (take 8 t) ≡ Ok h → count_of h ≡ Some n → n ≤ max → n + 10 ≤ length t
    → is_data_right n t ≡ right
    → read max (place_untold o lost t)
    ≡ outcome_after
    ((if right then (Good o h, data_after_header n t) else (DataCheck o h, [])) ∷ [])
    (read max (place_untold (o + (n + 10)) false (drop (n + 10) t)))
read-whole max o n lost t h right start full is some below whole check =
    let p = place_untold o lost t in
    read-some max p (
      (if right then (Good o h, data_after_header n t) else (DataCheck o h, []))
          ∷ [],
      place_after (n + 10) false p,
    )
    (counted max p h n start full is some ∙ ap (λ x. by_length p h n x false) (ltb-isnt max n below)
    ∙ rw (ltb-isnt (length t) (n + 10) whole, check) refl)
