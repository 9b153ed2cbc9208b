-- A frame that is too long or damaged, or has a header of no form, is reported and skipped.
use Rattle.std.proofs.Common.{◌≡◌, ℕ, zero, suc, ◌+◌, ◌%◌, ◌<◌, ◌≤◌, ◌⊎◌, inl, inr, Bool, true}
use Rattle.std.proofs.Common.{false}
use Rattle.std.proofs.Common.{cond, ◌&&◌, List, [], ◌∷◌, ◌++◌, length, take, drop, slice_index}
use Rattle.std.proofs.Common.{refl}
use Rattle.std.proofs.Common.{sym, ◌∙◌, ap, arith, Ok, Some, None, Option}
use Rattle.std.specs.Prelude.{◌*◌, ◌/◌, ◌==◌, replicate, Result, Err}
use Rattle.ddcmp_num.specs.Check.{check_of}
use Rattle.std.proofs.lemmas.List.{append-nil, drop_all}
use Rattle.ddcmp_frame.specs.declared.header.Header.{Header}
use Rattle.ddcmp_frame.specs.declared.header.Header.TheVariants.{Data, Maint, Control}
use Rattle.ddcmp_frame.specs.declared.item.Item.TheVariants.{TooLong, DataCheck, Format}
use Rattle.ddcmp_frame.specs.declared.header.HeaderFault.{HeaderFault}
use Rattle.ddcmp_frame.specs.declared.header.HeaderFault.TheVariants.{NotAStart, Check, CountZero}
use Rattle.ddcmp_frame.specs.Spelling.{IsInRange, is_start, parsed, is_check_right}
use Rattle.ddcmp_frame.specs.Spelling.{by_start, counted_or_none, counted_or_fault, counted_of}
use Rattle.ddcmp_frame.specs.Wire.{six_bytes, wire, IsFrame}
use Rattle.ddcmp_frame.specs.Rows.{RowResult, outcome_after}
use Rattle.ddcmp_frame.specs.Reading.{ReadItem, Place, count_of, read, items, ending}
use Rattle.ddcmp_frame.specs.Reading.{open_at_end, with_more, is_data_right}
use Rattle.ddcmp_frame.specs.Reader.{frame_length}
use Rattle.ddcmp_frame.proofs.PushLaws.{next_place}
use Rattle.ddcmp_frame.proofs.WireLaws.{length-wire, wire-front, eight-parsed, frame_length-counted}
use Rattle.ddcmp_frame.proofs.WireLaws.{counted-frame, control-frame}
use Rattle.ddcmp_frame.proofs.ReadingLaws.{read-some, read-nothing, items-more, ending-more}
use Rattle.ddcmp_frame.proofs.ReadingLaws.{ending-offset, ending-told, row-passes}
use Rattle.ddcmp_frame.proofs.TableLaws.{read-too-long, read-passed, read-whole, read-by}
use Rattle.ddcmp_laws.specs.Damage.{with_check}

wire_start : (h : Header) (d : List ℕ) → is_start (slice_index (wire h d) 0) ≡ true
unfolding wire six_bytes
wire_start (Data h) d = refl
wire_start (Maint h) d = refl
wire_start (Control h) d = refl

wire_parsed : (h : Header) (d : List ℕ) → IsInRange h → parsed (take 8 (wire h d)) ≡ Ok h
wire_parsed h d r =
    ap (λ x. parsed (take 8 x)) (sym (append-nil (wire h d))) ∙ ap parsed (wire-front h d [])
    ∙ eight-parsed h r

passed_read : (max o : ℕ) (lost : Bool) (h : Header) (d : List ℕ) → IsInRange h → IsFrame h d
    → max < length d
    → read max (next_place o lost (wire h d))
    ≡ record {
      items = (TooLong o h, []) ∷ [];
      place = next_place (o + frame_length h) false [];
    }
passed_read max o lost h d r f long = by (count_of h) refl
  where
    by : (c : Option ℕ) → count_of h ≡ c
        → read max (next_place o lost (wire h d))
        ≡ record {
          items = (TooLong o h, []) ∷ [];
          place = next_place (o + frame_length h) false [];
        }
    by None cs = let e = ap length (control-frame h d cs f) in absurd (omega (arith, e, long))
    by (Some n) cs =
        let l = length-wire h d f in
        let k = frame_length-counted h n cs in
        let c = counted-frame h n d cs f in
        let z : drop (n + 10) (wire h d) ≡ [] =
        drop_all (n + 10) (wire h d) (omega (arith, l, k)) in
        read-too-long max o n lost (wire h d) h (wire_start h d) (omega (arith, l, k))
        (wire_parsed h d r) cs (omega (arith, c, long))
        ∙ ap (outcome_after ((TooLong o h, []) ∷ []))
        (read-passed max o n lost (wire h d) h (wire_start h d) (omega (arith, l, k))
        (wire_parsed h d r) cs (omega (arith, c, long)) (omega (arith, l, k))
        ∙ read-nothing max (next_place (o + (n + 10)) false (drop (n + 10) (wire h d))) z
        ∙ (λ
        i. record {
          items = [];
          place = record { offset = o + (sym k) i; lost = false; told = false; rest = z i };
        }))

fill_read : (max n o : ℕ) (lost : Bool) (w : List ℕ)
    → read max (next_place o lost (replicate n 150 ++ w)) ≡ read max (next_place (o + n) lost w)
fill_read max zero o lost w = ap (λ k. read max (next_place k lost w)) (omega arith)
fill_read max (suc n) o lost w =
    read-some max (next_place o lost (150 ∷ (replicate n 150 ++ w)))
    ([], next_place (o + 1) lost (replicate n 150 ++ w))
    (row-passes max _ 150 (replicate n 150 ++ w) refl refl)
    ∙ fill_read max n (o + 1) lost w
    ∙ ap (λ k. read max (next_place k lost w)) (omega arith)

nothing_of : (t : List ℕ) → length t ≡ 0 → t ≡ []
nothing_of [] l = refl
nothing_of (b ∷ t) l = absurd (omega arith)

-- where nothing is open, the place is the end of the text
pub closed : (max : ℕ) (text : List ℕ) → open_at_end max text ≡ 0
    → ending max text ≡ next_place (length text) (ending max text).lost []
closed max text none =
    let p = ending max text in
    let z : p.rest ≡ [] = nothing_of p.rest none in
    let o = ending-offset max text in
    let at : p.offset ≡ length text = omega arith in
    let told : p.told ≡ false = not_told p.told refl in
    λ i. record { offset = at i; lost = p.lost; told = told i; rest = z i }
  where
    not_told : (x : Bool) → (ending max text).told ≡ x → (ending max text).told ≡ false
    not_told false e = e
    not_told true e = let k = (ending-told max text e).counts in absurd (omega (arith, k.full))

closed_read : (max fill : ℕ) (text d : List ℕ) (h : Header) → open_at_end max text ≡ 0 → IsInRange h
    → IsFrame h d → max < length d
    → read max (with_more (ending max text) (replicate fill 150 ++ wire h d))
    ≡ record {
      items = (TooLong (length text + fill) h, []) ∷ [];
      place = next_place (length text + fill + frame_length h) false [];
    }
closed_read max fill text d h none r f long =
    ap (λ p. read max (with_more p (replicate fill 150 ++ wire h d))) (closed max text none)
    ∙ fill_read max fill (length text) (ending max text).lost (wire h d)
    ∙ passed_read max (length text + fill) (ending max text).lost h d r f long

pub passed_items : (max fill : ℕ) (text d : List ℕ) (h : Header) → open_at_end max text ≡ 0
    → IsInRange h → IsFrame h d → max < length d
    → items max (text ++ (replicate fill 150 ++ wire h d))
    ≡ items max text ++ (TooLong (length text + fill) h, []) ∷ []
passed_items max fill text d h none r f long =
    items-more max text (replicate fill 150 ++ wire h d)
    ∙ ap (λ o. items max text ++ o.items) (closed_read max fill text d h none r f long)

pub passed_closed : (max fill : ℕ) (text d : List ℕ) (h : Header) → open_at_end max text ≡ 0
    → IsInRange h → IsFrame h d → max < length d
    → open_at_end max (text ++ (replicate fill 150 ++ wire h d)) ≡ 0
passed_closed max fill text d h none r f long =
    ap (λ (p : Place). length p.rest) (ending-more max text (replicate fill 150 ++ wire h d))
    ∙ ap (λ o. length o.place.rest) (closed_read max fill text d h none r f long)

-- ---- damaged data, and a header with COUNT 0

-- whatever is read after a text in which nothing is open, and after fill
fill_closed : (max fill : ℕ) (text bytes : List ℕ) (it : RowResult ReadItem Place)
    → open_at_end max text ≡ 0
    → read max (next_place (length text + fill) (ending max text).lost bytes) ≡ it
    → read max (with_more (ending max text) (replicate fill 150 ++ bytes)) ≡ it
fill_closed max fill text bytes it none e =
    ap (λ p. read max (with_more p (replicate fill 150 ++ bytes))) (closed max text none)
    ∙ fill_read max fill (length text) (ending max text).lost bytes
    ∙ e

items_behind : (max fill : ℕ) (text bytes : List ℕ) (it : RowResult ReadItem Place)
    → open_at_end max text ≡ 0
    → read max (next_place (length text + fill) (ending max text).lost bytes) ≡ it
    → items max (text ++ (replicate fill 150 ++ bytes)) ≡ items max text ++ it.items
items_behind max fill text bytes it none e =
    items-more max text (replicate fill 150 ++ bytes)
    ∙ ap (λ o. items max text ++ o.items) (fill_closed max fill text bytes it none e)

open_behind : (max fill : ℕ) (text bytes : List ℕ) (it : RowResult ReadItem Place)
    → open_at_end max text ≡ 0
    → read max (next_place (length text + fill) (ending max text).lost bytes) ≡ it
    → open_at_end max (text ++ (replicate fill 150 ++ bytes)) ≡ length it.place.rest
open_behind max fill text bytes it none e =
    ap (λ (p : Place). length p.rest) (ending-more max text (replicate fill 150 ++ bytes))
    ∙ ap (λ o. length o.place.rest) (fill_closed max fill text bytes it none e)

-- a header begins with a start byte
header_start : (t : List ℕ) (h : Header) → 1 ≤ length t → parsed (take 8 t) ≡ Ok h
    → is_start (slice_index t 0) ≡ true
unfolding parsed
header_start [] h some e = absurd (omega (arith, some))
header_start (b ∷ t) h some e = by (is_start b) _ e
  where
    by : (c : Bool) (v : Result Header HeaderFault) → cond c v (Err NotAStart) ≡ Ok h → c ≡ true
    by true v e = refl
    by false v e = absurd (cc e)

-- one item, and nothing is open
abbrev one_item : ReadItem → ℕ → RowResult ReadItem Place
one_item one o = record { items = one ∷ []; place = next_place o false [] }

damaged_read : (max o n : ℕ) (lost : Bool) (bytes : List ℕ) (h : Header) → length bytes ≡ n + 10
    → parsed (take 8 bytes) ≡ Ok h → count_of h ≡ Some n → n ≤ max → is_data_right n bytes ≡ false
    → read max (next_place o lost bytes) ≡ one_item (DataCheck o h, []) (o + (n + 10))
damaged_read max o n lost bytes h l is some below wrong =
    let z : drop (n + 10) bytes ≡ [] = drop_all (n + 10) bytes (omega (arith, l)) in
    read-whole max o n lost bytes h false (header_start bytes h (omega (arith, l)) is)
    (omega (arith, l)) is some below (omega (arith, l)) wrong
    ∙ ap (outcome_after ((DataCheck o h, []) ∷ []))
    (ap (λ t. read max (next_place (o + (n + 10)) false t)) z
    ∙ read-nothing max (next_place (o + (n + 10)) false []) refl)

pub damaged_items : (max fill n : ℕ) (text bytes : List ℕ) (h : Header) → open_at_end max text ≡ 0
    → length bytes ≡ n + 10 → parsed (take 8 bytes) ≡ Ok h → count_of h ≡ Some n → n ≤ max
    → is_data_right n bytes ≡ false
    → items max (text ++ (replicate fill 150 ++ bytes))
    ≡ items max text ++ (DataCheck (length text + fill) h, []) ∷ []
damaged_items max fill n text bytes h none l is some below wrong =
    items_behind max fill text bytes _ none
    (damaged_read max (length text + fill) n (ending max text).lost bytes h l is some below wrong)

pub damaged_closed : (max fill n : ℕ) (text bytes : List ℕ) (h : Header) → open_at_end max text ≡ 0
    → length bytes ≡ n + 10 → parsed (take 8 bytes) ≡ Ok h → count_of h ≡ Some n → n ≤ max
    → is_data_right n bytes ≡ false
    → open_at_end max (text ++ (replicate fill 150 ++ bytes)) ≡ 0
damaged_closed max fill n text bytes h none l is some below wrong =
    open_behind max fill text bytes _ none
    (damaged_read max (length text + fill) n (ending max text).lost bytes h l is some below wrong)

same : (x : ℕ) → (x == x) ≡ true
same x = grind (arith)

no_count : (hi : ℕ) → hi % 64 ≡ 0 → (0 + 256 * (hi % 64) == 0) ≡ true
no_count hi e = grind (arith)

-- the check of a header with COUNT 0 is right, and COUNT is 0
no_data_parsed : (first flags resp num addr : ℕ) → (first ≡ 129) ⊎ (first ≡ 144) → flags % 64 ≡ 0
    → parsed (with_check (first ∷ 0 ∷ flags ∷ resp ∷ num ∷ addr ∷ [])) ≡ Err CountZero
unfolding parsed is_check_right
no_data_parsed first flags resp num addr either e = by either
  where
    at : ℕ → List ℕ
    at b = b ∷ 0 ∷ flags ∷ resp ∷ num ∷ addr ∷ []

    right : (b : ℕ) → is_check_right (with_check (at b)) ≡ true
    right b =
        ap (λ x. x && (check_of (at b) / 256 == check_of (at b) / 256))
        (same (check_of (at b) % 256))
        ∙ same (check_of (at b) / 256)

    zero_count : (b : ℕ) → counted_or_none (with_check (at b)) ≡ None
    zero_count b = ap (λ x. cond x None (Some (counted_of (with_check (at b))))) (no_count flags e)

    by : (first ≡ 129) ⊎ (first ≡ 144) → parsed (with_check (at first)) ≡ Err CountZero
    by (inl f) =
        ap (λ b. parsed (with_check (at b))) f
        ∙ ap (λ x. cond x (by_start (with_check (at 129))) (Err Check)) (right 129)
        ∙ ap (counted_or_fault 129) (zero_count 129)
    by (inr f) =
        ap (λ b. parsed (with_check (at b))) f
        ∙ ap (λ x. cond x (by_start (with_check (at 144))) (Err Check)) (right 144)
        ∙ ap (counted_or_fault 144) (zero_count 144)

first_start : (first : ℕ) → (first ≡ 129) ⊎ (first ≡ 144) → is_start first ≡ true
first_start first (inl e) = ap is_start e
first_start first (inr e) = ap is_start e

no_data_read : (max o : ℕ) (lost : Bool) (first flags resp num addr : ℕ)
    → (first ≡ 129) ⊎ (first ≡ 144) → flags % 64 ≡ 0
    → read max (next_place o lost (with_check (first ∷ 0 ∷ flags ∷ resp ∷ num ∷ addr ∷ [])))
    ≡ one_item (Format o CountZero, []) (o + 8)
no_data_read max o lost first flags resp num addr either e =
    let t = with_check (first ∷ 0 ∷ flags ∷ resp ∷ num ∷ addr ∷ []) in
    read-by max o lost t (Err CountZero)
    ((Format o CountZero, []) ∷ [], next_place (o + 8) false [])
    (first_start first either) (omega arith)
    (no_data_parsed first flags resp num addr either e) refl
    ∙ ap (outcome_after ((Format o CountZero, []) ∷ []))
    (read-nothing max (next_place (o + 8) false []) refl)

pub no_data_items : (max fill first flags resp num addr : ℕ) (text : List ℕ)
    → open_at_end max text ≡ 0 → (first ≡ 129) ⊎ (first ≡ 144) → flags % 64 ≡ 0
    → items max
    (text ++ (replicate fill 150 ++ with_check (first ∷ 0 ∷ flags ∷ resp ∷ num ∷ addr ∷ [])))
    ≡ items max text ++ (Format (length text + fill) CountZero, []) ∷ []
no_data_items max fill first flags resp num addr text none either e =
    items_behind max fill text (with_check (first ∷ 0 ∷ flags ∷ resp ∷ num ∷ addr ∷ [])) _ none
    (no_data_read max (length text + fill) (ending max text).lost first flags resp num addr either
    e)

pub no_data_closed : (max fill first flags resp num addr : ℕ) (text : List ℕ)
    → open_at_end max text ≡ 0 → (first ≡ 129) ⊎ (first ≡ 144) → flags % 64 ≡ 0
    → open_at_end max
    (text ++ (replicate fill 150 ++ with_check (first ∷ 0 ∷ flags ∷ resp ∷ num ∷ addr ∷ [])))
    ≡ 0
no_data_closed max fill first flags resp num addr text none either e =
    open_behind max fill text (with_check (first ∷ 0 ∷ flags ∷ resp ∷ num ∷ addr ∷ [])) _ none
    (no_data_read max (length text + fill) (ending max text).lost first flags resp num addr either
    e)
