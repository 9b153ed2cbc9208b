-- What an input gave, and what of it a session that was closed had not had: no message, if nothing
-- was lost.
use Rattle.std.proofs.Common.{◌≡◌, ◌∙◌, ap, sym, subst, refl, ℕ, ◌+◌, Bool, true, false, cond}
use Rattle.std.proofs.Common.{List, [], ◌∷◌, ◌++◌, map, arith, append_assoc, append-nil, Option}
use Rattle.std.proofs.Common.{Some, None, option_to_list}
use Rattle.ddcmp_input.specs.declared.entry.Entry.{Entry}
use Rattle.ddcmp_input.specs.declared.entry.Entry.TheVariants.{Message, NotHexadecimal, TooLong}
use Rattle.ddcmp_input.specs.declared.entry.Entry.TheVariants.{Command, Empty}
use Rattle.ddcmp_input.specs.HexLines.{HexView}
use Rattle.ddcmp_input.specs.CommandLines as command_lines
use Rattle.ddcmp_input.specs.HexLines as hex
use Rattle.ddcmp_input.specs.InBinary as binary
use Rattle.ddcmp_input.specs.InLines as lines
use Rattle.ddcmp_input.specs.Lengths.{LengthsView}
use Rattle.ddcmp_input.specs.Lengths as lengths
use Rattle.ddcmp_input.specs.Records as records
use Rattle.ddcmp_input.proofs.BinaryLaws as in_binary
use Rattle.ddcmp_input.proofs.HexLinesLaws as hex_laws
use Rattle.ddcmp_input.proofs.LengthsLaws as length_laws
use Rattle.ddcmp_input.proofs.LineLaws as in_lines
use Rattle.ddcmp_input.proofs.RecordsLaws as record_laws
use Rattle.ddcmp_input.proofs.CommandLinesLaws as command_laws
use Rattle.ddcmp_streams.specs.declared.messages.MessageForm.{MessageForm}
use Rattle.ddcmp_streams.specs.declared.messages.MessageForm.TheVariants as form
use Rattle.ddcmp_streams.specs.declared.messages.Messages.{Messages}
use Rattle.ddcmp_streams.specs.declared.messages.Messages.TheVariants.{Digits, Binary, Events}
use Rattle.ddcmp_streams.specs.declared.messages.Messages.TheVariants.{EventLines}
use Rattle.ddcmp_streams.specs.Messages.{after_input, count_of, entries_of_input, entry_of_last}
use Rattle.ddcmp_streams.specs.Messages.{messages_among, messages_begun}
use Rattle.ddcmp_session.specs.Session.{form_of, lost_among, lost_at_end, lost_with_last}
use Rattle.ddcmp_session.specs.Calls.{SessionHistory, end_in}
use Rattle.ddcmp_session.specs.Devices.{Agrees, BuffersView}
use Rattle.ddcmp_session.specs.Traffic.{Traffic}
use Rattle.ddcmp_session.proofs.InputLaws.{form-stays}
use Rattle.ddcmp_laws.specs.Sessions.{got_in, messages_of}
use Rattle.ddcmp_laws.proofs.Holding.{Holds}
use Rattle.ddcmp_laws.proofs.Inputs.{got_more, got_told, got_told_lines, map_more, read_by, second}
use Rattle.ddcmp_laws.proofs.Reading.{last_reads}

-- ---- bytes among which there is no message

among_more : (xs ys : List Entry)
    → messages_among (xs ++ ys) ≡ messages_among xs + messages_among ys
unfolding messages_among
among_more [] ys = omega arith
among_more (x ∷ xs) ys = let more = among_more xs ys in omega (arith, more)

among_one : (e : Option Entry) → messages_among (option_to_list e) ≡ count_of e
unfolding messages_among
among_one None = refl
among_one (Some Message) = omega arith
among_one (Some NotHexadecimal) = omega arith
among_one (Some TooLong) = omega arith
among_one (Some Empty) = omega arith
among_one (Some Command) = omega arith

none_by : (e : Option Entry) (message : List ℕ) → messages_among (option_to_list e) ≡ 0
    → read_by (option_to_list e) message ≡ []
unfolding messages_among
none_by None message none = refl
none_by (Some Message) message none = cc
none_by (Some NotHexadecimal) message none = refl
none_by (Some TooLong) message none = refl
none_by (Some Empty) message none = refl
none_by (Some Command) message none = refl

two_none : (a b n : ℕ) → n ≡ a + b → n ≡ 0 → (a ≡ 0) × (b ≡ 0)
two_none a b n e none = (omega (arith, e, none), omega (arith, e, none))

parts_none : (xs ys : List Entry) → messages_among (xs ++ ys) ≡ 0
    → (messages_among xs ≡ 0) × (messages_among ys ≡ 0)
parts_none xs ys none =
    two_none (messages_among xs) (messages_among ys) (messages_among (xs ++ ys)) (among_more xs ys)
    none

binary_none : (bytes : List ℕ) (v : LengthsView)
    → messages_among (lengths.entries_of_bytes bytes v) ≡ 0
    → got_in (binary.told_in bytes v) ≡ []
unfolding got_in binary.told_in lengths.entries_of_bytes
binary_none [] v none = refl
binary_none (b ∷ rest) v none =
    let e = lengths.entry_of_byte b v in
    let w = lengths.after_byte b v in
    let two = parts_none (option_to_list e) (lengths.entries_of_bytes rest w) none in
    got_more (binary.told_by_byte b v) (binary.told_in rest w)
    ∙ ap (λ ms. got_in (binary.told_by_byte b v) ++ ms) (binary_none rest w two.1)
    ∙ append-nil (got_in (binary.told_by_byte b v))
    ∙ got_told e w.message
    ∙ none_by e w.message two.0

lines_none : (bytes : List ℕ) (v : HexView)
    → messages_among (hex.entries_of_bytes bytes v) ≡ 0
    → got_in (map second (lines.told_in bytes v)) ≡ []
unfolding got_in lines.told_in hex.entries_of_bytes
lines_none [] v none = refl
lines_none (b ∷ rest) v none =
    let e = hex.entry_of_byte b v in
    let w = hex.after_byte b v in
    let two = parts_none (option_to_list e) (hex.entries_of_bytes rest w) none in
    ap got_in (map_more second (lines.told_by_byte b v) (lines.told_in rest w))
    ∙ got_more (map second (lines.told_by_byte b v)) (map second (lines.told_in rest w))
    ∙ ap (λ ms. got_in (map second (lines.told_by_byte b v)) ++ ms) (lines_none rest w two.1)
    ∙ append-nil (got_in (map second (lines.told_by_byte b v)))
    ∙ got_told_lines e w.number w.message
    ∙ none_by e w.message two.0

-- the messages of more bytes
abbrev More : MessageForm → ℕ → List ℕ → List ℕ → Type 0
More f max input more =
    (rest : List (List ℕ))
    × (messages_of f max (input ++ more) ≡ messages_of f max input ++ rest)
    × ((m : Messages) → m ≡ after_input input (messages_begun f max)
    → messages_among (entries_of_input more m) ≡ 0 → rest ≡ [])

pub messages_more : (f : MessageForm) (max : ℕ) (input more : List ℕ) → More f max input more
messages_more form.Digits max input more =
    let v = hex.after_bytes input (hex.begun max) in (
      got_in (map second (lines.told_in more v)),
      ap (λ ts. got_in (map second ts)) (in_lines.told_more input more (hex.begun max))
          ∙ ap got_in (map_more second (lines.told_in input (hex.begun max)) (lines.told_in more v))
          ∙ got_more (map second (lines.told_in input (hex.begun max)))
          (map second (lines.told_in more v)),
      λ m is none. lines_none more v (subst (λ x. messages_among (entries_of_input more x) ≡ 0) is
          none),
    )
messages_more form.Binary max input more =
    let v = lengths.after_bytes input (lengths.begun max) in (
      got_in (binary.told_in more v),
      ap got_in (in_binary.told_more input more (lengths.begun max))
          ∙ got_more (binary.told_in input (lengths.begun max)) (binary.told_in more v),
      λ m is none. binary_none more v (subst (λ x. messages_among (entries_of_input more x) ≡ 0)
          is none),
    )
messages_more form.Events max input more = ([], refl, λ m is none. refl)
messages_more form.EventLines max input more = ([], refl, λ m is none. refl)

-- ---- what is left, and the end

entries_more : (xs ys : List ℕ) (m : Messages)
    → entries_of_input (xs ++ ys) m
    ≡ entries_of_input xs m ++ entries_of_input ys (after_input xs m)
entries_more xs ys (Digits v) = hex_laws.entries_of_more xs ys v
entries_more xs ys (Binary v) = length_laws.entries_of_more xs ys v
entries_more xs ys (Events v) = record_laws.entries_of_more xs ys v
entries_more xs ys (EventLines v) = command_laws.entries_of_more xs ys v

abbrev ending : MessageForm → Bool → List ℕ
ending f over = cond over (end_in f) []

nothing : (m : Messages) → messages_among (entries_of_input [] m) ≡ 0
unfolding messages_among hex.entries_of_bytes lengths.entries_of_bytes records.entries_of_bytes
    command_lines.entries_of_bytes
nothing (Digits v) = refl
nothing (Binary v) = refl
nothing (Events v) = refl
nothing (EventLines v) = refl

none_ending : (f : MessageForm) (over : Bool) (m : Messages) → form_of m ≡ f
    → lost_with_last over m ≡ 0 → messages_among (entries_of_input (ending f over) m) ≡ 0
none_ending f true m is none =
    ap (λ g. messages_among (entries_of_input (end_in g) m)) (sym is)
    ∙ ap messages_among (sym (last_reads m).entries)
    ∙ among_one (entry_of_last m)
    ∙ none
none_ending f false m is none = nothing m

none_left : (f : MessageForm) (left : List ℕ) (over : Bool) (m : Messages) → form_of m ≡ f
    → messages_among (entries_of_input left m) ≡ 0
    → lost_with_last over (after_input left m) ≡ 0
    → messages_among (entries_of_input (left ++ ending f over) m) ≡ 0
none_left f left over m is none last =
    ap messages_among (entries_more left (ending f over) m)
    ∙ among_more (entries_of_input left m)
    (entries_of_input (ending f over) (after_input left m))
    ∙ both (messages_among (entries_of_input left m))
    (messages_among (entries_of_input (ending f over) (after_input left m))) none
    (none_ending f over (after_input left m) (form-stays left m ∙ is) last)
  where
    both : (a b : ℕ) → a ≡ 0 → b ≡ 0 → a + b ≡ 0
    both a b e g = omega (arith, e, g)

-- ---- what devices gave

-- the bytes that the session hasn't had yet
abbrev pub unread : MessageForm → Bool → BuffersView → List ℕ
unread f told held = cond told [] (held.input ++ ending f held.is_over)

pub gave_more : (f : MessageForm) (h : SessionHistory) (held : BuffersView) (t : Traffic)
    → form_of h.session.messages ≡ f → Agrees held h t
    → t.read ++ ending f t.is_over ≡ h.input ++ unread f h.is_told held
gave_more f h held t kind a = by h.is_told refl
  where
    by : (told : Bool) → h.is_told ≡ told
        → t.read ++ ending f t.is_over ≡ h.input ++ unread f told held
    by true e =
        ap (λ b. t.read ++ ending f b) (sym a.over ∙ a.told e)
        ∙ ap (λ g. t.read ++ end_in g) (sym kind)
        ∙ ap (λ b. t.read ++ cond b (end_in (form_of h.session.messages)) []) (sym e)
        ∙ a.read
        ∙ ap (λ xs. h.input ++ xs) (a.drained e)
    by false e =
        ap (λ b. t.read ++ ending f b) (sym a.over)
        ∙ ap (λ xs. xs ++ ending f held.is_over)
        (sym (append-nil t.read)
        ∙ ap (λ b. t.read ++ cond b (end_in (form_of h.session.messages)) []) (sym e)
        ∙ a.read)
        ∙ append_assoc h.input held.input (ending f held.is_over)

-- nothing was lost: no message is among them
pub none_unread : (f : MessageForm) (max : ℕ) (h : SessionHistory) (held : BuffersView)
    → Holds f max h → (h.session.is_read ≡ true → h.is_told ≡ true)
    → lost_among held.input h.session ≡ 0 → lost_at_end held.input held.is_over h.session ≡ 0
    → messages_of f max (h.input ++ unread f h.is_told held) ≡ messages_of f max h.input
none_unread f max h held holds read_told none last = by h.is_told refl
  where
    s : Messages
    s = h.session.messages

    shut : (b : Bool) → h.session.is_read ≡ b → h.is_told ≡ false → h.session.is_read ≡ false
    shut true e untold = let bad : true ≡ false = sym (read_told e) ∙ untold in cc
    shut false e untold = e

    by : (told : Bool) → h.is_told ≡ told
        → messages_of f max (h.input ++ unread f told held) ≡ messages_of f max h.input
    by true e = ap (messages_of f max) (append-nil h.input)
    by false e =
        let going = shut h.session.is_read refl e in
        let m = messages_more f max h.input (held.input ++ ending f held.is_over) in
        m.1
        ∙ ap (λ ms. messages_of f max h.input ++ ms)
        (m.2 s (holds.reads going)
        (none_left f held.input held.is_over s holds.kind none
        (sym (ap (λ b. cond b 0 (lost_with_last held.is_over (after_input held.input s))) going)
        ∙ last)))
        ∙ append-nil (messages_of f max h.input)

pub no_more : (xs : List ℕ) (b : Bool) → xs ++ cond b [] [] ≡ xs
no_more xs true = append-nil xs
no_more xs false = append-nil xs
