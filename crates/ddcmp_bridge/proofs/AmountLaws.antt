-- The good frames of a text have no more bytes than it.
use Rattle.std.proofs.Common.{◌≡◌, ◌∙◌, inl, inr, ℕ, ◌+◌, ◌≤◌, Bool, true, false, List, [], ◌∷◌}
use Rattle.std.proofs.Common.{◌++◌, length, take, drop, refl, sym, ap, subst, arith, Option, Some}
use Rattle.std.proofs.Common.{None, Ok, Err, Result, length-append, length-drop}
use Rattle.std.specs.Prelude.{nat_lt, if◌then◌else◌}
use Rattle.std.proofs.lemmas.List.{length-take-le}
use Rattle.ddcmp_frame.specs.declared.header.Header.{Header}
use Rattle.ddcmp_frame.specs.declared.header.Header.TheVariants.{Data, Maint, Control}
use Rattle.ddcmp_frame.specs.declared.header.HeaderFault.{HeaderFault}
use Rattle.ddcmp_frame.specs.declared.header.HeaderFault.TheVariants.{NotAStart, Check, BadType}
use Rattle.ddcmp_frame.specs.declared.header.HeaderFault.TheVariants.{CountZero}
use Rattle.ddcmp_frame.specs.declared.item.Item.TheVariants.{Good, HeaderCheck, DataCheck, TooLong}
use Rattle.ddcmp_frame.specs.declared.item.Item.TheVariants.{Format}
use Rattle.ddcmp_frame.specs.Reading.{ReadItem, Place, place_after, row, weight, read, ending}
use Rattle.ddcmp_frame.specs.Reading.{items, beginning, by_length, by_count, by_verdict, by_front}
use Rattle.ddcmp_frame.specs.Reading.{is_start, count_of, is_data_right, data_after_header}
use Rattle.ddcmp_frame.specs.Reading.{good_frame_of, good_frames, good_frames_in}
use Rattle.ddcmp_frame.specs.Rows.{read_rows}
use Rattle.ddcmp_frame.specs.Spelling.{parsed}
use Rattle.ddcmp_frame.specs.Wire.{wire}
use Rattle.ddcmp_frame.proofs.RowsLaws as rows
use Rattle.ddcmp_frame.proofs.ReadingLaws.{Row, row-falls, ending-offset}
use Rattle.ddcmp_frame.proofs.Tests.{chosen, ltb-not, some-inj, none-some}
use Rattle.ddcmp_frame.proofs.WireLaws.{length-wire}
use Rattle.ddcmp_bridge.specs.Relaying.{wires}
use Rattle.ddcmp_bridge.proofs.RelayLaws.{good-append, no-frames, no-wires, one-item, one-wire}
use Rattle.ddcmp_bridge.proofs.RelayLaws.{wires-append}

-- how many bytes the good frames among some items have
abbrev total : List ReadItem → ℕ
total given = length (wires (good_frames_in given))

total-nothing : total [] ≡ 0
total-nothing = ap length (ap wires no-frames ∙ no-wires)

total-bad : (g : ReadItem) → good_frame_of g ≡ [] → total (g ∷ []) ≡ 0
total-bad g e = ap length (ap wires (one-item g ∙ e) ∙ no-wires)

total-good : (o : ℕ) (h : Header) (d : List ℕ) → total ((Good o h, d) ∷ []) ≡ length (wire h d)
total-good o h d = ap length (ap wires (one-item (Good o h, d)) ∙ one-wire h d)

total-append : (xs ys : List ReadItem) → total (xs ++ ys) ≡ total xs + total ys
total-append xs ys =
    ap length (ap wires (good-append xs ys) ∙ wires-append (good_frames_in xs) (good_frames_in ys))
    ∙ length-append (wires (good_frames_in xs)) (wires (good_frames_in ys))

-- ---- what a row gives is within the bytes that it takes

abbrev Within : Place → Row → Type 0
Within p r = total r.0 + p.offset ≤ r.1.offset

same : (p : Place) (r s : Row) → ◌≡◌ {A = Option Row} (Some r) (Some s) → Within p r → Within p s
same p r s e h = subst (Within p) (some-inj e) h

length-data : (n : ℕ) (t : List ℕ) → n + 10 ≤ length t → length (data_after_header n t) ≡ n
length-data n t l = length-take-le n (drop 8 t) (omega (arith, l, length-drop 8 t))

wire-counted : (h : Header) (n : ℕ) (t : List ℕ) → count_of h ≡ Some n → n + 10 ≤ length t
    → length (wire h (data_after_header n t)) ≡ n + 10
wire-counted (Data h) n t c l =
    let k : h.count ≡ n = cc in
    let w = length-wire (Data h) (data_after_header n t) (k ∙ sym (length-data n t l)) in
    omega (arith, w, k)
wire-counted (Maint h) n t c l =
    let k : h.count ≡ n = cc in
    let w = length-wire (Maint h) (data_after_header n t) (k ∙ sym (length-data n t l)) in
    omega (arith, w, k)
wire-counted (Control h) n t c l = absurd (none-some c)

wire-control : (h : Header) → count_of h ≡ None → length (wire h []) ≡ 8
wire-control (Data h) c = absurd (none-some (sym c))
wire-control (Maint h) c = absurd (none-some (sym c))
wire-control (Control h) c = length-wire (Control h) [] refl

module _ (max : ℕ) (p : Place) where
  by_lengths : (h : Header) (n : ℕ) → count_of h ≡ Some n → (above told : Bool) (r : Row)
      → by_length p h n above told ≡ Some r → Within p r
  by_lengths h n c true false r e =
      same p _ r e (omega (arith, total-bad (TooLong p.offset h, []) refl))
  by_lengths h n c true true r e = elim (chosen (nat_lt (length p.rest) (n + 10)) _ _ _ e) [
    | inl short ↦ absurd (none-some short.1)
    | inr full ↦ same p _ r full.1 (omega (arith, total-nothing))
  ]
  by_lengths h n c false told r e = elim (chosen (nat_lt (length p.rest) (n + 10)) _ _ _ e) [
    | inl short ↦ absurd (none-some short.1)
    | inr full
        ↦ same p _ r full.1
        (right (ltb-not (length p.rest) (n + 10) full.0) (is_data_right n p.rest))
  ]
    where
      right : n + 10 ≤ length p.rest → (b : Bool)
          → Within p (
            (if b then (Good p.offset h, data_after_header n p.rest)
                else (DataCheck p.offset h, []))
                ∷ [],
            place_after (n + 10) false p,
          )
      right l true =
          omega (
            arith,
            total-good p.offset h (data_after_header n p.rest),
            wire-counted h n p.rest c l,
          )
      right l false = omega (arith, total-bad (DataCheck p.offset h, []) refl)

  by_verdicts : (v : Result Header HeaderFault) (r : Row) → by_verdict max p v ≡ Some r
      → Within p r
  by_verdicts (Err NotAStart) r e = same p _ r e (omega (arith, total-nothing))
  by_verdicts (Err Check) r e = same p _ r e (told p.lost)
    where
      told : (b : Bool)
          → Within p ((if b then [] else (HeaderCheck p.offset, []) ∷ []), place_after 1 true p)
      told true = omega (arith, total-nothing)
      told false = omega (arith, total-bad (HeaderCheck p.offset, []) refl)
  by_verdicts (Err (BadType c)) r e =
      same p _ r e (omega (arith, total-bad (Format p.offset (BadType c), []) refl))
  by_verdicts (Err CountZero) r e =
      same p _ r e (omega (arith, total-bad (Format p.offset CountZero, []) refl))
  by_verdicts (Ok h) r e = go (count_of h) refl e
    where
      go : (c : Option ℕ) → count_of h ≡ c → by_count max p h c ≡ Some r → Within p r
      go None c e = same p _ r e (omega (arith, total-good p.offset h [], wire-control h c))
      go (Some n) c e = by_lengths h n c (nat_lt max n) p.told r e

  by_row : (r : Row) → row max p ≡ Some r → Within p r
  unfolding row
  by_row r e = front p.rest e
    where
      front : (t : List ℕ) → by_front max p t ≡ Some r → Within p r
      front [] e = absurd (none-some e)
      front (b ∷ t) e = elim (chosen (is_start b) _ _ _ e) [
        | inl start ↦ elim (chosen (nat_lt (length (b ∷ t)) 8) _ _ _ start.1) [
          | inl short ↦ absurd (none-some short.1)
          | inr full ↦ by_verdicts (parsed (take 8 (b ∷ t))) r full.1
        ]
        | inr other ↦ same p _ r other.1 (omega (arith, total-nothing))
      ]

within : (max : ℕ) (p : Place) → total (read max p).items + p.offset ≤ (read max p).place.offset
unfolding read
within max p =
    rows.by_rows (row max) weight (row-falls max)
    (λ q o. total o.items + q.offset ≤ o.place.offset) (λ q e. omega (arith, total-nothing))
    (λ q r e h. omega (
      arith,
      h,
      by_row max q r e,
      total-append r.0 (read_rows (row max) weight r.1).items,
    )) p

pub good-within : (max : ℕ) (text : List ℕ) → length (wires (good_frames max text)) ≤ length text
unfolding items ending
good-within max text = omega (arith, within max (beginning text), ending-offset max text)
