-- Messages of an input in lines.
use Rattle.std.proofs.Common.{◌≡◌, ◌≢◌, ℕ, ◌+◌, ◌*◌, ◌≤◌, ◌<◌, Bool, true, false, cond, List, []}
use Rattle.std.proofs.Common.{◌∷◌, ◌++◌, length, map, refl, sym, ◌∙◌, ap, subst, arith}
use Rattle.std.proofs.Common.{length-append, append_assoc, append-nil, Option, Some, None}
use Rattle.std.proofs.Common.{option_to_list, Ok}
use Rattle.std.specs.Prelude.{◌==◌, nat_le}
use Rattle.std.specs.List.{All}
use Rattle.std.proofs.lemmas.List.Elements.{All-head, All-tail}
use Rattle.hex.specs.Hex.{hex_digit_value, digit_or_error, value_at, ◌>>=◌, decode_pairs}
use Rattle.ddcmp_input.specs.declared.entry.Entry.{Entry}
use Rattle.ddcmp_input.specs.declared.entry.Entry.TheVariants.{Message, NotHexadecimal, TooLong}
use Rattle.ddcmp_input.specs.declared.entry.Entry.TheVariants.{Command, Empty}
use Rattle.ddcmp_input.specs.HexLines.{HexView, first_of_ok, byte_of_digits, after_spelled}
use Rattle.ddcmp_input.specs.HexLines.{after_digit, line_ended, entry_of_line, in_line}
use Rattle.ddcmp_input.specs.HexLines.{return_taken, after_byte, entry_of_byte, after_bytes}
use Rattle.ddcmp_input.specs.HexLines.{entries_of_bytes}
use Rattle.ddcmp_input.specs.Told.{Told, Got, Refused, told_of}
use Rattle.ddcmp_input.specs.InBinary.{Fits}
use Rattle.ddcmp_input.specs.InLines.{told_by_byte, told_in, line_at, next_number, carriage}
use Rattle.ddcmp_input.specs.InLines.{line_end, Spells, IsNone, Line, IsLine, in_lines}
use Rattle.ddcmp_input.specs.InLines.{messages_of}
use Rattle.ddcmp_input.proofs.HexLinesLaws.{after_last}

-- ---- pieces

pub told_more : (u w : List ℕ) (v : HexView)
    → told_in (u ++ w) v ≡ told_in u v ++ told_in w (after_bytes u v)
unfolding told_in after_bytes
told_more [] w v = refl
told_more (b ∷ u) w v =
    ap (λ ts. told_by_byte b v ++ ts) (told_more u w (after_byte b v))
    ∙ sym (append_assoc (told_by_byte b v) (told_in u (after_byte b v))
    (told_in w (after_bytes u (after_byte b v))))

pub told_nothing : (u : List ℕ) (v : HexView) → entries_of_bytes u v ≡ [] → told_in u v ≡ []
unfolding told_in entries_of_bytes
told_nothing [] v e = refl
told_nothing (b ∷ u) v e = by (entry_of_byte b v) (told_nothing u (after_byte b v)) e
  where
    by : (entry : Option Entry)
        → (entries_of_bytes u (after_byte b v) ≡ [] → told_in u (after_byte b v) ≡ [])
        → option_to_list entry ++ entries_of_bytes u (after_byte b v) ≡ []
        → map {B = ℕ × Told} (λ x. ((after_byte b v).number, told_of x (after_byte b v).message))
        (option_to_list entry)
        ++ told_in u (after_byte b v)
        ≡ []
    by None more f = more f
    by (Some x) more f = cc

pub told_last : (u : List ℕ) (byte : ℕ) (v : HexView) → entries_of_bytes u v ≡ []
    → told_in (u ++ byte ∷ []) v ≡ told_by_byte byte (after_bytes u v)
unfolding told_in
told_last u byte v e =
    told_more u (byte ∷ []) v
    ∙ ap (λ ts. ts ++ (told_by_byte byte (after_bytes u v) ++ [])) (told_nothing u v e)
    ∙ append-nil (told_by_byte byte (after_bytes u v))

-- a text of which nothing was reported begins a line if its next byte does
abbrev if_line : ℕ → HexView → HexView
if_line byte u =
    cond (byte == 10) (line_ended u)
    (cond (byte == 13) (record (return_taken u) { returned = true })
    (after_digit byte (return_taken u)))

abbrev told_from : ℕ → List ℕ → HexView → List (ℕ × Told)
told_from byte more u =
    map {B = ℕ × Told} (λ x. ((if_line byte u).number, told_of x (if_line byte u).message))
    (option_to_list (cond (byte == 10) (entry_of_line u) None))
    ++ told_in more (if_line byte u)

told_anew : (rest : List ℕ) (v w : HexView) → in_line v ≡ w → in_line w ≡ w
    → told_in rest v ≡ told_in rest w
unfolding told_in
told_anew [] v w e f = refl
told_anew (b ∷ rest) v w e f = ap (told_from b rest) (e ∙ sym f)

-- ---- a place in a line

abbrev held : ℕ → ℕ → Bool → Option ℕ → Option Entry → List ℕ → HexView
held max number returned high refused message = record {
  max = max;
  number = number;
  high = high;
  refused = refused;
  ended = false;
  returned = returned;
  message = message;
}

-- the end of the line, and the place before the next one
abbrev over : ℕ → ℕ → Bool → Option ℕ → Option Entry → List ℕ → HexView
over max number returned high refused message =
    line_ended (held max number returned high refused message)

told_over
    : (rest : List ℕ) (max number : ℕ) (returned : Bool) (high : Option ℕ) (refused : Option Entry)
    (message : List ℕ)
    → told_in rest (over max number returned high refused message)
    ≡ told_in rest (line_at max (next_number number))
told_over rest max number returned high refused message =
    told_anew rest (over max number returned high refused message)
    (line_at max (next_number number)) refl refl

-- ---- which bytes digits are

bad_first : (low : ℕ) → (byte_of_digits 10 low ≡ None) × (byte_of_digits 13 low ≡ None)
unfolding byte_of_digits decode_pairs
bad_first low = (refl, refl)

bad_second : (high : ℕ) → (byte_of_digits high 10 ≡ None) × (byte_of_digits high 13 ≡ None)
unfolding byte_of_digits decode_pairs
bad_second high = (by (hex_digit_value high), by_other (hex_digit_value high))
  where
    by : (o : Option ℕ)
        → first_of_ok ((digit_or_error high 0 o >>= (λ h. value_at 10 1 >>= (λ l. Ok (h * 16 + l))))
        >>= (λ byte. decode_pairs 2 [] >>= (λ bytes. Ok (byte ∷ bytes))))
        ≡ None
    by None = refl
    by (Some x) = refl

    by_other : (o : Option ℕ)
        → first_of_ok ((digit_or_error high 0 o >>= (λ h. value_at 13 1 >>= (λ l. Ok (h * 16 + l))))
        >>= (λ byte. decode_pairs 2 [] >>= (λ bytes. Ok (byte ∷ bytes))))
        ≡ None
    by_other None = refl
    by_other (Some x) = refl

equal_is : (a b : ℕ) → (a == b) ≡ true → a ≡ b
equal_is a b e = grind (arith, e)

unequal_is : (a b : ℕ) → a ≢ b → (a == b) ≡ false
unequal_is a b n = grind (arith, n)

-- a byte that isn't 10, since something holds of it that doesn't of 10
not_so : (P : ℕ → Type 0) (a b : ℕ) → P b → (P a → ⊥) → (b == a) ≡ false
not_so P a b p n = unequal_is b a (λ e. n (subst P e p))

some_not_none : {X : Type 0} (x : X) (o : Option X) → o ≡ None → o ≡ Some x → ⊥
some_not_none x o e f = cc

record IsPlain (byte : ℕ) : Type 0 where
  feed : (byte == 10) ≡ false
  carriage : (byte == 13) ≡ false

plain_high : (high low byte : ℕ) → byte_of_digits high low ≡ Some byte → IsPlain high
plain_high high low byte e = record {
  feed =
      not_so (λ h. byte_of_digits h low ≡ Some byte) 10 high e
      (some_not_none byte (byte_of_digits 10 low) (bad_first low).0);
  carriage =
      not_so (λ h. byte_of_digits h low ≡ Some byte) 13 high e
      (some_not_none byte (byte_of_digits 13 low) (bad_first low).1);
}

plain_low : (high low byte : ℕ) → byte_of_digits high low ≡ Some byte → IsPlain low
plain_low high low byte e = record {
  feed =
      not_so (λ l. byte_of_digits high l ≡ Some byte) 10 low e
      (some_not_none byte (byte_of_digits high 10) (bad_second high).0);
  carriage =
      not_so (λ l. byte_of_digits high l ≡ Some byte) 13 low e
      (some_not_none byte (byte_of_digits high 13) (bad_second high).1);
}

-- a byte of a line, which is neither
plain_byte : (byte : ℕ) (v : HexView) → IsPlain byte
    → (after_byte byte v ≡ after_digit byte (return_taken (in_line v))) × (told_by_byte byte v ≡ [])
plain_byte byte v p = by (byte == 10) p.feed (byte == 13) p.carriage
  where
    by : (feed : Bool) → feed ≡ false → (return : Bool) → return ≡ false
        → (cond feed (line_ended (in_line v))
        (cond return (record (return_taken (in_line v)) { returned = true })
        (after_digit byte (return_taken (in_line v))))
        ≡ after_digit byte (return_taken (in_line v)))
        × (map {B = ℕ × Told}
        (λ x. ((after_byte byte v).number, told_of x (after_byte byte v).message))
        (option_to_list (cond feed (entry_of_line (in_line v)) None))
        ≡ [])
    by true e return f = cc
    by false e true f = cc
    by false e false f = (refl, refl)

-- ---- digits spell a message

abbrev even_at : ℕ → ℕ → List ℕ → HexView
even_at max number message = held max number false None None message

has_room : (max n : ℕ) → n < max → nat_le max n ≡ false
has_room max n h = grind (arith, h)

kept : (max number : ℕ) (high : ℕ) (byte : ℕ) (before : List ℕ) → length before < max
    → after_spelled (Some byte) (held max number false (Some high) None before)
    ≡ even_at max number (before ++ byte ∷ [])
kept max number high byte before h =
    by (nat_le max (length before)) (has_room max (length before) h)
  where
    by : (full : Bool) → full ≡ false
        → cond full (held max number false None (Some TooLong) before)
        (even_at max number (before ++ byte ∷ []))
        ≡ even_at max number (before ++ byte ∷ [])
    by true e = cc
    by false e = refl

pair_after : (max number high low byte : ℕ) (before : List ℕ) → byte_of_digits high low ≡ Some byte
    → length before < max
    → (after_byte low (after_byte high (even_at max number before))
    ≡ even_at max number (before ++ byte ∷ []))
    × ((told_by_byte high (even_at max number before) ≡ [])
    × (told_by_byte low (after_byte high (even_at max number before)) ≡ []))
pair_after max number high low byte before e h =
    let v = even_at max number before in
    let w = held max number false (Some high) None before in
    let p = plain_byte high v (plain_high high low byte e) in
    let q = plain_byte low w (plain_low high low byte e) in (
      ap (after_byte low) p.0 ∙ q.0 ∙ ap (λ o. after_spelled o w) e
          ∙ kept max number high byte before h,
      (p.1, ap (told_by_byte low) p.0 ∙ q.1),
    )

spelled : (digits message : List ℕ) (max number : ℕ) (before : List ℕ) → Spells digits message
    → length before + length message ≤ max
    → (after_bytes digits (even_at max number before) ≡ even_at max number (before ++ message))
    × (told_in digits (even_at max number before) ≡ [])
unfolding after_bytes told_in
spelled [] [] max number before s h = (ap (even_at max number) (sym (append-nil before)), refl)
spelled [] (byte ∷ message) max number before s h = absurd s
spelled (digit ∷ []) message max number before s h = absurd s
spelled (high ∷ low ∷ digits) [] max number before s h = absurd s
spelled (high ∷ low ∷ digits) (byte ∷ message) max number before s h =
    let v = even_at max number before in
    let p = pair_after max number high low byte before s.0 (omega (arith, h)) in
    let r =
    spelled digits message max number (before ++ byte ∷ []) s.1
    (omega (arith, h, length-append before (byte ∷ []))) in (
      ap (after_bytes digits) p.0 ∙ r.0
          ∙ ap (even_at max number) (append_assoc before (byte ∷ []) message),
      ap (λ ts. ts
          ++ (told_by_byte low (after_byte high v)
          ++ told_in digits (after_byte low (after_byte high v))))
          p.1.0
          ∙ ap (λ ts. ts ++ told_in digits (after_byte low (after_byte high v))) p.1.1
          ∙ ap (told_in digits) p.0 ∙ r.1,
    )

-- ---- the end of a line

end_after : (returns : Bool) (max number : ℕ) (message : List ℕ)
    → after_bytes (line_end returns) (even_at max number message)
    ≡ over max number returns None None message
unfolding after_bytes
end_after true max number message = refl
end_after false max number message = refl

end_told : (returns : Bool) (max number byte : ℕ) (message : List ℕ)
    → told_in (line_end returns) (even_at max number (byte ∷ message))
    ≡ (number, Got (byte ∷ message)) ∷ []
unfolding told_in
end_told true max number byte message = refl
end_told false max number byte message = refl

end_empty : (returns : Bool) (max number : ℕ)
    → told_in (line_end returns) (even_at max number []) ≡ []
unfolding told_in
end_empty true max number = refl
end_empty false max number = refl

-- after the end of a line
behind
    : (rest : List ℕ) (returns : Bool) (max number : ℕ) (message : List ℕ) (told : List (ℕ × Told))
    → told_in (line_end returns) (even_at max number message) ≡ told
    → told_in (line_end returns ++ rest) (even_at max number message)
    ≡ told ++ told_in rest (line_at max (next_number number))
behind rest returns max number message told e =
    told_more (line_end returns) rest (even_at max number message)
    ∙ ap (λ ts. ts ++ told_in rest (after_bytes (line_end returns) (even_at max number message))) e
    ∙ ap (λ v. told ++ told_in rest v) (end_after returns max number message)
    ∙ ap (λ ts. told ++ ts) (told_over rest max number returns None None message)

pub empty_line : (rest : List ℕ) (returns : Bool) (max number : ℕ)
    → told_in (line_end returns ++ rest) (line_at max number)
    ≡ told_in rest (line_at max (next_number number))
empty_line rest returns max number =
    behind rest returns max number [] [] (end_empty returns max number)

told_end : (returns : Bool) (max number : ℕ) (message : List ℕ) → 1 ≤ length message
    → told_in (line_end returns) (even_at max number message) ≡ (number, Got message) ∷ []
told_end returns max number [] h = absurd (omega (arith, h))
told_end returns max number (byte ∷ message) h = end_told returns max number byte message

pub one_line : (digits message rest : List ℕ) (returns : Bool) (max number : ℕ)
    → Spells digits message → Fits max message
    → told_in (digits ++ (line_end returns ++ rest)) (line_at max number)
    ≡ (number, Got message) ∷ told_in rest (line_at max (next_number number))
one_line digits message rest returns max number s f =
    let v = line_at max number in
    let r = spelled digits message max number [] s (omega (arith, f.1)) in
    told_more digits (line_end returns ++ rest) v
    ∙ ap (λ ts. ts ++ told_in (line_end returns ++ rest) (after_bytes digits v)) r.1
    ∙ ap (told_in (line_end returns ++ rest)) r.0
    ∙ behind rest returns max number message ((number, Got message) ∷ [])
    (told_end returns max number message f.0)

pub all_lines : (lines : List Line) (returns : Bool) (max number : ℕ) → All (IsLine max) lines
    → told_in (in_lines returns lines) (line_at max number) ≡ messages_of number lines
unfolding in_lines told_in messages_of
all_lines [] returns max number f = refl
all_lines (line ∷ rest) returns max number f =
    let is = All-head (IsLine max) line rest f in
    one_line line.digits line.message (in_lines returns rest) returns max number is.spells is.fits
    ∙ ap (λ ts. (number, Got line.message) ∷ ts)
    (all_lines rest returns max (next_number number) (All-tail (IsLine max) line rest f))

-- ---- a line so far

differs : NotHexadecimal ≢ Message
differs e = cc

long_differs : TooLong ≢ Message
long_differs e = cc

-- digits that spell bytes, or such digits and one more, each perhaps with a CR behind; or no
-- message
data So (max number : ℕ) (done : List ℕ) (v : HexView) : Type 0 where
  even : (digits message : List ℕ) (returns : Bool) → v ≡ held max number returns None None message
      → done ≡ digits ++ carriage returns → Spells digits message → length message ≤ max
      → So max number done v
  half : (digits message : List ℕ) (high : ℕ) → v ≡ held max number false (Some high) None message
      → done ≡ digits ++ high ∷ [] → Spells digits message → length message ≤ max
      → So max number done v
  odd : (message : List ℕ) (high : ℕ) → v ≡ held max number true (Some high) None message
      → So max number done v
  bad : (returns : Bool) (high : Option ℕ) (message : List ℕ) (why : Entry)
      → v ≡ held max number returns high (Some why) message → why ≢ Message → So max number done v

spells_more : (digits message : List ℕ) (high low byte : ℕ) → Spells digits message
    → byte_of_digits high low ≡ Some byte
    → Spells (digits ++ high ∷ low ∷ []) (message ++ byte ∷ [])
spells_more [] [] high low byte s e = (e, tt)
spells_more [] (b ∷ message) high low byte s e = absurd s
spells_more (d ∷ []) message high low byte s e = absurd s
spells_more (h ∷ l ∷ digits) [] high low byte s e = absurd s
spells_more (h ∷ l ∷ digits) (b ∷ message) high low byte s e =
    (s.0, spells_more digits message high low byte s.1 e)

one_return : (max number : ℕ) (done : List ℕ) (v : HexView) → So max number done v
    → So max number (done ++ 13 ∷ []) (after_byte 13 v)
one_return max number done v (even digits message false e d s h) =
    even digits message true (ap (after_byte 13) e)
    (ap (λ ys. ys ++ 13 ∷ []) (d ∙ append-nil digits)) s h
one_return max number done v (even digits message true e d s h) =
    odd message 13 (ap (after_byte 13) e)
one_return max number done v (half digits message high e d s h) =
    odd message high (ap (after_byte 13) e)
one_return max number done v (odd message high e) =
    bad true None message NotHexadecimal
    (ap (after_byte 13) e
    ∙ ap (λ o. record (after_spelled o (held max number false (Some high) None message))
    { returned = true })
    (bad_second high).1)
    differs
one_return max number done v (bad true high message why e n) =
    bad true high message why (ap (after_byte 13) e) n
one_return max number done v (bad false high message why e n) =
    bad true high message why (ap (after_byte 13) e) n

-- a second digit
second : (max number : ℕ) (done digits message : List ℕ) (high low : ℕ) (w : HexView)
    → w ≡ after_spelled (byte_of_digits high low) (held max number false (Some high) None message)
    → done ≡ digits ++ high ∷ low ∷ [] → Spells digits message → length message ≤ max
    → So max number done w
second max number done digits message high low w e d s h = by (byte_of_digits high low) refl
  where
    room : (full : Bool) (byte : ℕ) → nat_le max (length message) ≡ full
        → byte_of_digits high low ≡ Some byte
        → w
        ≡ cond full (held max number false None (Some TooLong) message)
        (even_at max number (message ++ byte ∷ []))
        → So max number done w
    room true byte f g i = bad false None message TooLong i long_differs
    room false byte f g i =
        even (digits ++ high ∷ low ∷ []) (message ++ byte ∷ []) false i
        (d ∙ sym (append-nil (digits ++ high ∷ low ∷ [])))
        (spells_more digits message high low byte s g)
        (omega (arith, h, below f, length-append message (byte ∷ [])))
      where
        below : nat_le max (length message) ≡ false → length message < max
        below b = grind (arith, b)

    by : (o : Option ℕ) → byte_of_digits high low ≡ o → So max number done w
    by None g =
        bad false None message NotHexadecimal
        (e ∙ ap (λ o. after_spelled o (held max number false (Some high) None message)) g)
        differs
    by (Some byte) g =
        room (nat_le max (length message)) byte refl g
        (e ∙ ap (λ o. after_spelled o (held max number false (Some high) None message)) g)

one_plain : (max number byte : ℕ) (done : List ℕ) (v : HexView) → IsPlain byte
    → So max number done v → So max number (done ++ byte ∷ []) (after_byte byte v)
one_plain max number byte done v p (even digits message false e d s h) =
    half digits message byte
    (ap (after_byte byte) e ∙ (plain_byte byte (held max number false None None message) p).0)
    (ap (λ ys. ys ++ byte ∷ []) (d ∙ append-nil digits)) s h
one_plain max number byte done v p (even digits message true e d s h) =
    bad false None message NotHexadecimal
    (ap (after_byte byte) e ∙ (plain_byte byte (held max number true None None message) p).0
    ∙ ap (λ o. after_spelled o (held max number false (Some 13) None message))
    (bad_first byte).1)
    differs
one_plain max number byte done v p (half digits message high e d s h) =
    second max number (done ++ byte ∷ []) digits message high byte (after_byte byte v)
    (ap (after_byte byte) e
    ∙ (plain_byte byte (held max number false (Some high) None message) p).0)
    (ap (λ ys. ys ++ byte ∷ []) d ∙ append_assoc digits (high ∷ []) (byte ∷ [])) s h
one_plain max number byte done v p (odd message high e) =
    bad false None message NotHexadecimal
    (ap (after_byte byte) e ∙ (plain_byte byte (held max number true (Some high) None message) p).0
    ∙ ap (λ o. after_digit byte (after_spelled o (held max number false (Some high) None message)))
    (bad_second high).1) differs
one_plain max number byte done v p (bad true high message why e n) =
    bad false high message why
    (ap (after_byte byte) e
    ∙ (plain_byte byte (held max number true high (Some why) message) p).0)
    n
one_plain max number byte done v p (bad false high message why e n) =
    bad false high message why
    (ap (after_byte byte) e
    ∙ (plain_byte byte (held max number false high (Some why) message) p).0)
    n

one_more : (max number byte : ℕ) (done : List ℕ) (v : HexView) → byte ≢ 10 → So max number done v
    → So max number (done ++ byte ∷ []) (after_byte byte v)
one_more max number byte done v n s = by (byte == 13) refl
  where
    by : (return : Bool) → (byte == 13) ≡ return
        → So max number (done ++ byte ∷ []) (after_byte byte v)
    by true e =
        subst (λ b. So max number (done ++ b ∷ []) (after_byte b v)) (sym (equal_is byte 13 e))
        (one_return max number done v s)
    by false e =
        one_plain max number byte done v (record { feed = unequal_is byte 10 n; carriage = e }) s

line_more : (line done : List ℕ) (max number : ℕ) (v : HexView) → All (λ byte. byte ≢ 10) line
    → So max number done v → So max number (done ++ line) (after_bytes line v)
unfolding after_bytes
line_more [] done max number v f s = subst (λ ys. So max number ys v) (sym (append-nil done)) s
line_more (byte ∷ line) done max number v f s =
    subst (λ ys. So max number ys (after_bytes line (after_byte byte v)))
    (append_assoc done (byte ∷ []) line)
    (line_more line (done ++ byte ∷ []) max number (after_byte byte v)
    (All-tail (λ b. b ≢ 10) byte line f)
    (one_more max number byte done v (All-head (λ b. b ≢ 10) byte line f) s))

so_far : (line : List ℕ) (max number : ℕ) → All (λ byte. byte ≢ 10) line
    → So max number line (after_bytes line (line_at max number))
so_far line max number f =
    line_more line [] max number (line_at max number) f
    (even [] [] false refl refl tt (omega arith))

-- within a line nothing is reported
quiet : (line : List ℕ) (v : HexView) → All (λ byte. byte ≢ 10) line → told_in line v ≡ []
unfolding told_in
quiet [] v f = refl
quiet (byte ∷ line) v f =
    by (byte == 10) (unequal_is byte 10 (All-head (λ b. b ≢ 10) byte line f))
    (quiet line (after_byte byte v) (All-tail (λ b. b ≢ 10) byte line f))
  where
    by : (feed : Bool) → feed ≡ false → told_in line (after_byte byte v) ≡ []
        → map {B = ℕ × Told}
        (λ x. ((after_byte byte v).number, told_of x (after_byte byte v).message))
        (option_to_list (cond feed (entry_of_line (in_line v)) None))
        ++ told_in line (after_byte byte v)
        ≡ []
    by true e g = cc
    by false e g = g

refused_is : (why : Entry) (message : List ℕ) → why ≢ Message → told_of why message ≡ Refused why
refused_is Message message n = absurd (n refl)
refused_is NotHexadecimal message n = refl
refused_is TooLong message n = refl
refused_is Empty message n = refl
refused_is Command message n = refl

ended : (rest line : List ℕ) (max number : ℕ) (v : HexView) → So max number line v → IsNone max line
    → (why : Entry) × (why ≢ Message)
    × (told_in (10 ∷ rest) v
    ≡ (number, Refused why) ∷ told_in rest (line_at max (next_number number)))
unfolding told_in
ended rest line max number v (even digits message returns e d s h) none =
    absurd (none digits message returns d s h)
ended rest line max number v (half digits message high e d s h) none = (
  NotHexadecimal,
  differs,
  ap (told_in (10 ∷ rest)) e
      ∙ ap (λ ts. (number, Refused NotHexadecimal) ∷ ts)
      (told_over rest max number false (Some high) None message),
)
ended rest line max number v (odd message high e) none = (
  NotHexadecimal,
  differs,
  ap (told_in (10 ∷ rest)) e
      ∙ ap (λ ts. (number, Refused NotHexadecimal) ∷ ts)
      (told_over rest max number true (Some high) None message),
)
ended rest line max number v (bad returns high message why e n) none = (
  why,
  n,
  ap (told_in (10 ∷ rest)) e
      ∙ ap (λ t. (number, t) ∷ told_in rest (over max number returns high (Some why) message))
      (refused_is why message n)
      ∙ ap (λ ts. (number, Refused why) ∷ ts)
      (told_over rest max number returns high (Some why) message),
)

pub no_line : (line rest : List ℕ) (max number : ℕ) → All (λ byte. byte ≢ 10) line → IsNone max line
    → (why : Entry) × (why ≢ Message)
    × (told_in (line ++ 10 ∷ rest) (line_at max number)
    ≡ (number, Refused why) ∷ told_in rest (line_at max (next_number number)))
no_line line rest max number f none =
    let v = line_at max number in
    let r = ended rest line max number (after_bytes line v) (so_far line max number f) none in (
      r.0,
      r.1,
      told_more line (10 ∷ rest) v
          ∙ ap (λ ts. ts ++ told_in (10 ∷ rest) (after_bytes line v)) (quiet line v f) ∙ r.2,
    )

ended_at : (line : List ℕ) (max number : ℕ) (v : HexView) → So max number line v
    → in_line (after_byte 10 v) ≡ line_at max (next_number number)
ended_at line max number v (even digits message returns e d s h) =
    ap (λ (w : HexView). in_line (after_byte 10 w)) e
ended_at line max number v (half digits message high e d s h) =
    ap (λ (w : HexView). in_line (after_byte 10 w)) e
ended_at line max number v (odd message high e) = ap (λ (w : HexView). in_line (after_byte 10 w)) e
ended_at line max number v (bad returns high message why e n) =
    ap (λ (w : HexView). in_line (after_byte 10 w)) e

pub at_rest : (line : List ℕ) (max number : ℕ) → All (λ byte. byte ≢ 10) line
    → in_line (after_bytes (line ++ 10 ∷ []) (line_at max number))
    ≡ line_at max (next_number number)
at_rest line max number f =
    ap in_line (after_last line 10 (line_at max number))
    ∙ ended_at line max number (after_bytes line (line_at max number))
    (so_far line max number f)
