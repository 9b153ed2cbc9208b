-- The messages of an input: what some bytes of it complete, and that these are never too long.
use Rattle.std.proofs.Common.{◌≡◌, ℕ, ◌+◌, ◌-◌, ◌*◌, ◌≤◌, Bool, true, false, cond, List, [], ◌∷◌}
use Rattle.std.proofs.Common.{◌++◌, ◌⊎◌, inl, inr, length, map, refl, sym, ◌∙◌, ap, subst, arith}
use Rattle.std.proofs.Common.{append_assoc, length-append, Option, Some, None}
use Rattle.std.proofs.Common.{option_to_list}
use Rattle.std.specs.Prelude.{◌==◌, nat_le}
use Rattle.ddcmp_input.specs.declared.entry.Entry.{Entry}
use Rattle.ddcmp_input.specs.declared.entry.Entry.TheVariants.{Message, NotHexadecimal, TooLong}
use Rattle.ddcmp_input.specs.declared.entry.Entry.TheVariants.{Command, Empty}
use Rattle.ddcmp_input.specs.declared.lengths.LengthPlace.{LengthPlace}
use Rattle.ddcmp_input.specs.declared.lengths.LengthPlace.TheVariants.{Start, Half, Inside}
use Rattle.ddcmp_input.specs.declared.lengths.LengthPlace.TheVariants.{Skipping}
use Rattle.ddcmp_input.specs.HexLines.{HexView, byte_of_digits, after_spelled, after_second}
use Rattle.ddcmp_input.specs.HexLines.{after_digit_in, after_digit, entry_of_digits}
use Rattle.ddcmp_input.specs.HexLines.{entry_of_line_in}
use Rattle.ddcmp_input.specs.HexLines.{entry_of_line, line_begun, line_ended, in_line, return_taken}
use Rattle.ddcmp_input.specs.CommandLines as command_lines
use Rattle.ddcmp_input.specs.HexLines as hex
use Rattle.ddcmp_input.specs.InBinary as binary
use Rattle.ddcmp_input.specs.InBinary.{Fits}
use Rattle.ddcmp_input.specs.InLines as lines
use Rattle.ddcmp_input.specs.Lengths.{LengthsView, is_refused, place_before, is_last}
use Rattle.ddcmp_input.specs.Lengths.{entry_of_length}
use Rattle.ddcmp_input.specs.Lengths as lengths
use Rattle.ddcmp_input.specs.Records as records
use Rattle.ddcmp_input.specs.Told.{Told, told_of}
use Rattle.ddcmp_input.proofs.BinaryLaws as in_binary
use Rattle.ddcmp_input.proofs.LineLaws as in_lines
use Rattle.ddcmp_input.proofs.LengthsLaws as length_laws
use Rattle.ddcmp_input.proofs.RecordsLaws as record_laws
use Rattle.ddcmp_input.proofs.CommandLinesLaws as command_laws
use Rattle.ddcmp_input.proofs.HexLinesLaws as hex_laws
use Rattle.ddcmp_streams.specs.declared.messages.MessageForm.{MessageForm}
use Rattle.ddcmp_streams.specs.declared.messages.MessageForm.TheVariants as form
use Rattle.ddcmp_streams.specs.declared.messages.Messages.{Messages}
use Rattle.ddcmp_streams.specs.declared.messages.Messages.TheVariants.{Digits, Binary, Events}
use Rattle.ddcmp_streams.specs.declared.messages.Messages.TheVariants.{EventLines}
use Rattle.ddcmp_streams.specs.Messages.{messages_begun, message_in, after_input, entries_of_input}
use Rattle.ddcmp_streams.specs.Messages.{has_events}
use Rattle.ddcmp_session.specs.Calls.{CompletesLast}
use Rattle.ddcmp_laws.specs.Sessions.{got, got_in, messages_of}

-- the message of what was completed, if it is one
abbrev pub read_by : List Entry → List ℕ → List (List ℕ)
read_by (Message ∷ rest) message = message ∷ []
read_by _ message = []

pub got_more : (xs ys : List Told) → got_in (xs ++ ys) ≡ got_in xs ++ got_in ys
unfolding got_in
got_more [] ys = refl
got_more (x ∷ xs) ys =
    ap (λ ms. got x ++ ms) (got_more xs ys) ∙ sym (append_assoc (got x) (got_in xs) (got_in ys))

pub map_more : {A B : Type 0} (f : A → B) (xs ys : List A) → map f (xs ++ ys) ≡ map f xs ++ map f ys
map_more f [] ys = refl
map_more f (x ∷ xs) ys = ap (λ zs. f x ∷ zs) (map_more f xs ys)

-- a text is empty or has a last byte
abbrev Last : List ℕ → Type 0
Last xs = (xs ≡ []) ⊎ ((front : List ℕ) × (byte : ℕ) × (xs ≡ front ++ byte ∷ []))

last : (xs : List ℕ) → Last xs
last [] = inl refl
last (x ∷ xs) = by (last xs)
  where
    by : Last xs → Last (x ∷ xs)
    by (inl e) = inr ([], x, ap (λ ys. x ∷ ys) e)
    by (inr r) = inr (x ∷ r.0, r.1, ap (λ ys. x ∷ ys) r.2)

-- ---- in binary

pub got_told : (e : Option Entry) (message : List ℕ)
    → got_in (map (λ x. told_of x message) (option_to_list e)) ≡ read_by (option_to_list e) message
unfolding got_in
got_told None message = refl
got_told (Some Message) message = refl
got_told (Some NotHexadecimal) message = refl
got_told (Some TooLong) message = refl
got_told (Some Empty) message = refl
got_told (Some Command) message = refl

abbrev ReadsBinary : List ℕ → LengthsView → Type 0
ReadsBinary used v =
    got_in (binary.told_in used v)
    ≡ read_by (lengths.entries_of_bytes used v) (lengths.after_bytes used v).message

read_binary : (used : List ℕ) (v : LengthsView) → CompletesLast used (Binary v) → ReadsBinary used v
unfolding got_in binary.told_in lengths.entries_of_bytes lengths.after_bytes
read_binary used v part = by (last used)
  where
    one : (front : List ℕ) (byte : ℕ) → lengths.entries_of_bytes front v ≡ []
        → ReadsBinary (front ++ byte ∷ []) v
    one front byte none =
        let w = lengths.after_bytes front v in
        let e = lengths.entry_of_byte byte w in
        let entries : lengths.entries_of_bytes (front ++ byte ∷ []) v ≡ option_to_list e =
        length_laws.entries_of_last front byte v ∙ ap (λ es. es ++ option_to_list e) none in
        ap got_in (in_binary.told_last front byte v none)
        ∙ got_told e (lengths.after_byte byte w).message
        ∙ ap (λ es. read_by es (lengths.after_byte byte w).message) (sym entries)
        ∙ ap
        (λ (x : LengthsView). read_by (lengths.entries_of_bytes (front ++ byte ∷ []) v) x.message)
        (sym (length_laws.after_last front byte v))

    by : Last used → ReadsBinary used v
    by (inl e) = subst (λ u. ReadsBinary u v) (sym e) refl
    by (inr r) = subst (λ u. ReadsBinary u v) (sym r.2) (one r.0 r.1 (part r.0 r.1 r.2))

-- ---- in lines

abbrev pub second : ℕ × Told → Told
second told = told.1

pub got_told_lines : (e : Option Entry) (number : ℕ) (message : List ℕ)
    → got_in (map second (map {B = ℕ × Told} (λ x. (number, told_of x message)) (option_to_list e)))
    ≡ read_by (option_to_list e) message
unfolding got_in
got_told_lines None number message = refl
got_told_lines (Some Message) number message = refl
got_told_lines (Some NotHexadecimal) number message = refl
got_told_lines (Some TooLong) number message = refl
got_told_lines (Some Empty) number message = refl
got_told_lines (Some Command) number message = refl

abbrev ReadsLines : List ℕ → HexView → Type 0
ReadsLines used v =
    got_in (map second (lines.told_in used v))
    ≡ read_by (hex.entries_of_bytes used v) (hex.after_bytes used v).message

read_lines : (used : List ℕ) (v : HexView) → CompletesLast used (Digits v) → ReadsLines used v
unfolding got_in lines.told_in hex.entries_of_bytes hex.after_bytes
read_lines used v part = by (last used)
  where
    one : (front : List ℕ) (byte : ℕ) → hex.entries_of_bytes front v ≡ []
        → ReadsLines (front ++ byte ∷ []) v
    one front byte none =
        let w = hex.after_bytes front v in
        let e = hex.entry_of_byte byte w in
        let entries : hex.entries_of_bytes (front ++ byte ∷ []) v ≡ option_to_list e =
        hex_laws.entries_of_last front byte v ∙ ap (λ es. es ++ option_to_list e) none in
        ap (λ ts. got_in (map second ts)) (in_lines.told_last front byte v none)
        ∙ got_told_lines e (hex.after_byte byte w).number (hex.after_byte byte w).message
        ∙ ap (λ es. read_by es (hex.after_byte byte w).message) (sym entries)
        ∙ ap (λ (x : HexView). read_by (hex.entries_of_bytes (front ++ byte ∷ []) v) x.message)
        (sym (hex_laws.after_last front byte v))

    by : Last used → ReadsLines used v
    by (inl e) = subst (λ u. ReadsLines u v) (sym e) refl
    by (inr r) = subst (λ u. ReadsLines u v) (sym r.2) (one r.0 r.1 (part r.0 r.1 r.2))

-- ---- what is read, and then more

pub no-false : true ≡ false → ⊥
no-false e = cc

abbrev ReadsMore : MessageForm → ℕ → List ℕ → List ℕ → Messages → Type 0
ReadsMore f max input used m =
    messages_of f max (input ++ used)
    ≡ messages_of f max input ++ read_by (entries_of_input used m) (message_in (after_input used m))

pub read_more : (f : MessageForm) (max : ℕ) (input used : List ℕ) (m : Messages)
    → has_events f ≡ false → m ≡ after_input input (messages_begun f max) → CompletesLast used m
    → ReadsMore f max input used m
read_more form.Digits max input used m plain is part =
    subst (ReadsMore form.Digits max input used) (sym is) (
    ap (λ ts. got_in (map second ts)) (in_lines.told_more input used (hex.begun max))
    ∙ ap got_in (map_more second (lines.told_in input (hex.begun max)) (lines.told_in used v))
    ∙ got_more (map second (lines.told_in input (hex.begun max)))
    (map second (lines.told_in used v))
    ∙ ap (λ ms. messages_of form.Digits max input ++ ms)
    (read_lines used v (subst (CompletesLast used) is part))
    )
  where
    v : HexView
    v = hex.after_bytes input (hex.begun max)
read_more form.Binary max input used m plain is part =
    subst (ReadsMore form.Binary max input used) (sym is) (
    ap got_in (in_binary.told_more input used (lengths.begun max))
    ∙ got_more (binary.told_in input (lengths.begun max)) (binary.told_in used v)
    ∙ ap (λ ms. messages_of form.Binary max input ++ ms)
    (read_binary used v (subst (CompletesLast used) is part))
    )
  where
    v : LengthsView
    v = lengths.after_bytes input (lengths.begun max)
read_more form.Events max input used m plain is part = absurd (no-false plain)
read_more form.EventLines max input used m plain is part = absurd (no-false plain)

pub after_more : (f : MessageForm) (max : ℕ) (input used : List ℕ) (m : Messages)
    → m ≡ after_input input (messages_begun f max)
    → after_input used m ≡ after_input (input ++ used) (messages_begun f max)
after_more form.Digits max input used m is =
    ap (after_input used) is ∙ ap Digits (sym (hex_laws.after_more input used (hex.begun max)))
after_more form.Binary max input used m is =
    ap (after_input used) is
    ∙ ap Binary (sym (length_laws.after_more input used (lengths.begun max)))
after_more form.Events max input used m is =
    ap (after_input used) is
    ∙ ap Events (sym (record_laws.after_more input used (records.begun max)))
after_more form.EventLines max input used m is =
    ap (after_input used) is
    ∙ ap EventLines (sym (command_laws.after_more input used (command_lines.begun max)))

-- ---- no message is too long: in binary

abbrev PlaceFits : LengthPlace → ℕ → ℕ → Type 0
PlaceFits (Inside left) held max = (1 ≤ left) × (held + left ≤ max)
PlaceFits _ held max = Unit {0}

abbrev FitsBinary : ℕ → LengthsView → Type 0
FitsBinary max v = (v.max ≡ max) × PlaceFits v.place (length v.message) max

-- if a message was completed
abbrev pub IfMessage : List Entry → Type 0 → Type 0
IfMessage (Message ∷ rest) P = P
IfMessage _ P = Unit {0}

one_longer : (message : List ℕ) (byte : ℕ) → length (message ++ byte ∷ []) ≡ length message + 1
one_longer message byte = length-append message (byte ∷ [])

abbrev binary_at : ℕ → LengthPlace → List ℕ → LengthsView
binary_at max place message = record { max = max; place = place; message = message }

abbrev StaysBinary : ℕ → ℕ → LengthsView → Type 0
StaysBinary max byte v =
    FitsBinary max (lengths.after_byte byte v)
    × IfMessage (option_to_list (lengths.entry_of_byte byte v))
    (Fits max (lengths.after_byte byte v).message)

stays_at : (max byte mx : ℕ) (p : LengthPlace) (message : List ℕ) → mx ≡ max
    → PlaceFits p (length message) max → StaysBinary max byte (binary_at mx p message)
stays_at max byte mx Start message e fit = ((e, tt), tt)
stays_at max byte mx (Half high) message e fit =
    by (is_refused mx (high * 256 + byte)) refl (high * 256 + byte == 0)
  where
    n : ℕ
    n = high * 256 + byte

    by : (refused : Bool) → is_refused mx n ≡ refused → (none : Bool)
        → FitsBinary max
        (cond refused (binary_at mx (cond none Start (Skipping n)) message) (binary_at mx (Inside
        n) []))
        × IfMessage
        (option_to_list (cond refused (Some (cond none Empty TooLong)) None))
        (Fits max
        (cond refused (binary_at mx (cond none Start (Skipping n)) message)
        (binary_at mx (Inside n) [])).message)
    by true r true = ((e, tt), tt)
    by true r false = ((e, tt), tt)
    by false r none = ((e, (grind (arith, r), grind (arith, r, e))), tt)
stays_at max byte mx (Inside left) message e fit = by (is_last left) refl
  where
    by : (over : Bool) → is_last left ≡ over
        → FitsBinary max (binary_at mx (cond over Start (Inside (left - 1))) (message ++ byte ∷ []))
        × IfMessage (option_to_list (cond over (Some Message) None)) (Fits max (message ++ byte
        ∷ []))
    by true o =
        let l = one_longer message byte in let f = fit.0 in let g = fit.1 in
        ((e, tt), (omega (arith, l), omega (arith, l, f, g)))
    by false o =
        let l = one_longer message byte in let f = fit.0 in let g = fit.1 in
        let more : 2 ≤ left = grind (arith, o) in
        ((e, (omega (arith, more), omega (arith, l, f, g, more))), tt)
stays_at max byte mx (Skipping left) message e fit = by (is_last left)
  where
    by : (over : Bool)
        → FitsBinary max (binary_at mx (cond over Start (Skipping (left - 1))) message) × Unit {0}
    by true = ((e, tt), tt)
    by false = ((e, tt), tt)

stay_binary : (max byte : ℕ) (v : LengthsView) → FitsBinary max v → StaysBinary max byte v
stay_binary max byte v f = stays_at max byte v.max v.place v.message f.0 f.1

fit_binary : (max : ℕ) (used : List ℕ) (v : LengthsView) → FitsBinary max v
    → FitsBinary max (lengths.after_bytes used v)
unfolding lengths.after_bytes
fit_binary max [] v f = f
fit_binary max (b ∷ used) v f = fit_binary max used (lengths.after_byte b v) (stay_binary max b
    v f).0

-- ---- in lines

pub record FitsLines (max : ℕ) (v : HexView) : Type 0 where
  pub most : v.max ≡ max
  pub short : length v.message ≤ max
  pub why : v.refused ≡ Some Message → ⊥

line_fits : (max : ℕ) (v : HexView) → FitsLines max v → FitsLines max (line_begun v)
line_fits max v f = record { most = f.most; short = omega arith; why = none }
  where
    none : None ≡ Some Message → ⊥
    none e = cc

in_line_fits : (max : ℕ) (v : HexView) → FitsLines max v → FitsLines max (in_line v)
in_line_fits max v f = by v.ended
  where
    by : (b : Bool) → FitsLines max (cond b (line_begun v) v)
    by true = line_fits max v f
    by false = f

spelled_fits : (max : ℕ) (o : Option ℕ) (v : HexView) → FitsLines max v
    → FitsLines max (after_spelled o v)
spelled_fits max None v f = record { most = f.most; short = f.short; why = no }
  where
    no : Some NotHexadecimal ≡ Some Message → ⊥
    no e = cc
spelled_fits max (Some byte) v f = by (nat_le v.max (length v.message)) refl
  where
    no : Some TooLong ≡ Some Message → ⊥
    no e = cc

    by : (b : Bool) → nat_le v.max (length v.message) ≡ b
        → FitsLines max
        (cond b (record v { high = None; refused = Some TooLong })
        (record v { high = None; message = v.message ++ byte ∷ [] }))
    by true e = record { most = f.most; short = f.short; why = no }
    by false e =
        let l = one_longer v.message byte in let m = f.most in
        record { most = m; short = grind (arith, e, l, m); why = f.why }

second_fits : (max : ℕ) (high : Option ℕ) (digit : ℕ) (v : HexView) → FitsLines max v
    → FitsLines max (after_second high digit v)
second_fits max None digit v f = record { most = f.most; short = f.short; why = f.why }
second_fits max (Some high) digit v f = spelled_fits max (byte_of_digits high digit) v f

digit_fits : (max digit : ℕ) (v : HexView) → FitsLines max v → FitsLines max (after_digit digit v)
digit_fits max digit v f = by v.refused
  where
    by : (refused : Option Entry) → FitsLines max (after_digit_in refused digit v)
    by None = second_fits max v.high digit v f
    by (Some why) = f

returned_fits : (max : ℕ) (v : HexView) → FitsLines max v → FitsLines max (return_taken v)
returned_fits max v f = by v.returned
  where
    by : (b : Bool) → FitsLines max (cond b (after_digit 13 (record v { returned = false })) v)
    by true =
        digit_fits max 13 (record v { returned = false })
        (record { most = f.most; short = f.short; why = f.why })
    by false = f

digits_fit : (max : ℕ) (high : Option ℕ) (message : List ℕ) → length message ≤ max
    → IfMessage (option_to_list (entry_of_digits high message)) (Fits max message)
digits_fit max None [] short = tt
digits_fit max None (b ∷ rest) short = (omega arith, short)
digits_fit max (Some digit) message short = tt

entry_fits : (max : ℕ) (v : HexView) → FitsLines max v
    → IfMessage (option_to_list (entry_of_line v)) (Fits max v.message)
entry_fits max v f = by v.refused f.why
  where
    by : (refused : Option Entry) → (refused ≡ Some Message → ⊥)
        → IfMessage (option_to_list (entry_of_line_in refused v)) (Fits max v.message)
    by None why = digits_fit max v.high v.message f.short
    by (Some Message) why = absurd (why refl)
    by (Some NotHexadecimal) why = tt
    by (Some TooLong) why = tt
    by (Some Empty) why = tt
    by (Some Command) why = tt

abbrev StaysLines : ℕ → ℕ → HexView → Type 0
StaysLines max byte v =
    FitsLines max (hex.after_byte byte v)
    × IfMessage (option_to_list (hex.entry_of_byte byte v)) (Fits max (hex.after_byte byte
    v).message)

stay_lines : (max byte : ℕ) (v : HexView) → FitsLines max v → StaysLines max byte v
stay_lines max byte v f = by (byte == 10) (byte == 13)
  where
    u : HexView
    u = in_line v

    fu : FitsLines max (in_line v)
    fu = in_line_fits max v f

    after : Bool → Bool → HexView
    after ends returns =
        cond ends (line_ended (in_line v))
        (cond returns (record (return_taken (in_line v)) { returned = true })
        (after_digit byte (return_taken (in_line v))))

    by : (ends returns : Bool)
        → FitsLines max
        (cond ends (line_ended (in_line v))
        (cond returns (record (return_taken (in_line v)) { returned = true })
        (after_digit byte (return_taken (in_line v)))))
        × IfMessage (option_to_list (cond ends (entry_of_line (in_line v)) None))
        (Fits max
        (cond ends (line_ended (in_line v))
        (cond returns (record (return_taken (in_line v)) { returned = true })
        (after_digit byte (return_taken (in_line v))))).message)
    by true returns =
        (record { most = fu.most; short = fu.short; why = fu.why }, entry_fits max (in_line v) fu)
    by false true =
        let r = returned_fits max (in_line v) fu in
        (record { most = r.most; short = r.short; why = r.why }, tt)
    by false false = (
      digit_fits max byte (return_taken (in_line v)) (returned_fits max (in_line
          v) fu),
      tt,
    )

fit_lines : (max : ℕ) (used : List ℕ) (v : HexView) → FitsLines max v
    → FitsLines max (hex.after_bytes used v)
unfolding hex.after_bytes
fit_lines max [] v f = f
fit_lines max (b ∷ used) v f = fit_lines max used (hex.after_byte b v) (stay_lines max b v f).0

-- ---- in either

abbrev ReadFits : ℕ → List ℕ → Messages → Type 0
ReadFits max used m = IfMessage (entries_of_input used m) (Fits max (message_in (after_input
    used m)))

fits_in_binary : (max : ℕ) (used : List ℕ) (v : LengthsView) → FitsBinary max v
    → CompletesLast used (Binary v) → ReadFits max used (Binary v)
unfolding lengths.entries_of_bytes lengths.after_bytes
fits_in_binary max used v f part = by (last used)
  where
    one : (front : List ℕ) (byte : ℕ) → lengths.entries_of_bytes front v ≡ []
        → ReadFits max (front ++ byte ∷ []) (Binary v)
    one front byte none =
        let w = lengths.after_bytes front v in
        let e = lengths.entry_of_byte byte w in
        let entries : lengths.entries_of_bytes (front ++ byte ∷ []) v ≡ option_to_list e =
        length_laws.entries_of_last front byte v ∙ ap (λ es. es ++ option_to_list e) none in
        subst (λ es. IfMessage es (Fits max (lengths.after_bytes (front ++ byte ∷ []) v).message))
        (sym entries)
        (subst (λ (x : LengthsView). IfMessage (option_to_list e) (Fits max x.message))
        (sym (length_laws.after_last front byte v))
        (stay_binary max byte w (fit_binary max front v f)).1)

    by : Last used → ReadFits max used (Binary v)
    by (inl e) = subst (λ u. ReadFits max u (Binary v)) (sym e) tt
    by (inr r) =
        subst (λ u. ReadFits max u (Binary v)) (sym r.2) (one r.0 r.1 (part r.0 r.1 r.2))

fits_in_lines : (max : ℕ) (used : List ℕ) (v : HexView) → FitsLines max v
    → CompletesLast used (Digits v) → ReadFits max used (Digits v)
unfolding hex.entries_of_bytes hex.after_bytes
fits_in_lines max used v f part = by (last used)
  where
    one : (front : List ℕ) (byte : ℕ) → hex.entries_of_bytes front v ≡ []
        → ReadFits max (front ++ byte ∷ []) (Digits v)
    one front byte none =
        let w = hex.after_bytes front v in
        let e = hex.entry_of_byte byte w in
        let entries : hex.entries_of_bytes (front ++ byte ∷ []) v ≡ option_to_list e =
        hex_laws.entries_of_last front byte v ∙ ap (λ es. es ++ option_to_list e) none in
        subst (λ es. IfMessage es (Fits max (hex.after_bytes (front ++ byte ∷ []) v).message))
        (sym entries)
        (subst (λ (x : HexView). IfMessage (option_to_list e) (Fits max x.message))
        (sym (hex_laws.after_last front byte v))
        (stay_lines max byte w (fit_lines max front v f)).1)

    by : Last used → ReadFits max used (Digits v)
    by (inl e) = subst (λ u. ReadFits max u (Digits v)) (sym e) tt
    by (inr r) =
        subst (λ u. ReadFits max u (Digits v)) (sym r.2) (one r.0 r.1 (part r.0 r.1 r.2))

pub read_fits : (f : MessageForm) (max : ℕ) (input used : List ℕ) (m : Messages)
    → has_events f ≡ false → m ≡ after_input input (messages_begun f max) → CompletesLast used m → ReadFits max used m
read_fits form.Digits max input used m plain is part =
    subst (ReadFits max used) (sym is)
    (fits_in_lines max used (hex.after_bytes input (hex.begun max))
    (fit_lines max input (hex.begun max) (record { most = refl; short = omega arith; why = none }))
    (subst (CompletesLast used) is part))
  where
    none : None ≡ Some Message → ⊥
    none e = cc
read_fits form.Binary max input used m plain is part =
    subst (ReadFits max used) (sym is)
    (fits_in_binary max used (lengths.after_bytes input (lengths.begun max))
    (fit_binary max input (lengths.begun max) (refl, tt)) (subst (CompletesLast used) is part))
read_fits form.Events max input used m plain is part = absurd (no-false plain)
read_fits form.EventLines max input used m plain is part = absurd (no-false plain)
