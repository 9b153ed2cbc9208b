-- Bytes of an input, of which there are none, and what completes one entry.
use Rattle.std.proofs.Common.{◌≡◌, ℕ, refl, ap, sym, ◌∙◌, List, [], ◌∷◌, Option, Some, None, false}
use Rattle.std.proofs.Common.{length, ◌≤◌, ◌+◌, arith, ◌++◌, take, drop, append_assoc}
use Rattle.std.proofs.Common.{length-append}
use Rattle.std.proofs.lemmas.List.{length-take, take-append-drop}
use Rattle.std.proofs.Math.Seq.{take-append_seam}
use Rattle.ddcmp_input.specs.declared.entry.Entry.{Entry}
use Rattle.ddcmp_input.proofs.LengthsLaws as length_laws
use Rattle.ddcmp_input.proofs.HexLinesLaws as line_laws
use Rattle.ddcmp_input.proofs.RecordsLaws as record_laws
use Rattle.ddcmp_input.proofs.CommandLinesLaws as command_laws
use Rattle.ddcmp_session.specs.Calls.{CompletesLast, HasReadInput}
use Rattle.std.specs.Prelude.{option_to_list}
use Rattle.ddcmp_input.specs.HexLines as lines
use Rattle.ddcmp_input.specs.Lengths as lengths
use Rattle.ddcmp_input.specs.Records as records
use Rattle.ddcmp_input.specs.CommandLines as command_lines
use Rattle.ddcmp_streams.specs.declared.messages.Messages.{Messages}
use Rattle.ddcmp_streams.specs.declared.messages.Messages.TheVariants.{Digits, Binary, Events}
use Rattle.ddcmp_streams.specs.declared.messages.Messages.TheVariants.{EventLines}
use Rattle.ddcmp_streams.specs.Messages.{after_input, entries_of_input}
use Rattle.ddcmp_session.specs.Session.{SessionView, after_input_read, after_entries, form_of}
use Rattle.ddcmp_session.specs.Session.{wants_input}

pub no-entries : (m : Messages) → entries_of_input [] m ≡ []
unfolding lines.entries_of_bytes lengths.entries_of_bytes records.entries_of_bytes
    command_lines.entries_of_bytes
no-entries (Digits v) = refl
no-entries (Binary v) = refl
no-entries (Events v) = refl
no-entries (EventLines v) = refl

pub nothing-read : (m : Messages) → after_input [] m ≡ m
unfolding lines.after_bytes lengths.after_bytes records.after_bytes command_lines.after_bytes
nothing-read (Digits v) = refl
nothing-read (Binary v) = refl
nothing-read (Events v) = refl
nothing-read (EventLines v) = refl

pub nothing-input_read : (s : SessionView) → s ≡ after_input_read [] s
nothing-input_read s =
    ap (λ m. record s { messages = m }) (sym (nothing-read s.messages))
    ∙ ap (λ es. after_entries es (record s { messages = after_input [] s.messages }))
    (sym (no-entries s.messages))

pub one-entry : {A : Type 0} (o : Option A) (e : A) → option_to_list o ≡ e ∷ [] → o ≡ Some e
one-entry None e is = cc
one-entry (Some x) e is = cc

-- the form stays
pub form-stays : (bytes : List ℕ) (m : Messages) → form_of (after_input bytes m) ≡ form_of m
form-stays bytes (Digits v) = refl
form-stays bytes (Binary v) = refl
form-stays bytes (Events v) = refl
form-stays bytes (EventLines v) = refl

-- ---- the bytes that `input_read` takes

empty_front : {A : Type 0} (xs ys : List A) → xs ++ ys ≡ [] → xs ≡ []
empty_front [] ys e = refl
empty_front (x ∷ xs) ys e = cc

none_in_front : (front : List ℕ) (byte : ℕ) (m : Messages)
    → entries_of_input (front ++ byte ∷ []) m ≡ [] → entries_of_input front m ≡ []
none_in_front front byte (Digits v) e =
    empty_front (lines.entries_of_bytes front v)
    (option_to_list (lines.entry_of_byte byte (lines.after_bytes front v)))
    (sym (line_laws.entries_of_last front byte v) ∙ e)
none_in_front front byte (Binary v) e =
    empty_front (lengths.entries_of_bytes front v)
    (option_to_list (lengths.entry_of_byte byte (lengths.after_bytes front v)))
    (sym (length_laws.entries_of_last front byte v) ∙ e)
none_in_front front byte (Events v) e =
    empty_front (records.entries_of_bytes front v)
    (option_to_list (records.entry_of_byte byte (records.after_bytes front v)))
    (sym (record_laws.entries_of_last front byte v) ∙ e)
none_in_front front byte (EventLines v) e =
    empty_front (command_lines.entries_of_bytes front v)
    (option_to_list (command_lines.entry_of_byte byte (command_lines.after_bytes front v)))
    (sym (command_laws.entries_of_last front byte v) ∙ e)

front_is : (n : ℕ) (bytes front : List ℕ) (byte : ℕ) → take n bytes ≡ front ++ byte ∷ []
    → take (length front) bytes ≡ front
front_is n bytes front byte e =
    ap (take (length front))
    (sym (take-append-drop n bytes)
    ∙ ap (λ ys. ys ++ drop n bytes) e
    ∙ append_assoc front (byte ∷ []) (drop n bytes))
    ∙ take-append_seam front (byte ∷ drop n bytes)

pub completes_last : (n : ℕ) (bytes : List ℕ) (m : Messages) → n ≤ length bytes
    → ((k : ℕ) (entry : Entry) → entries_of_input (take n bytes) m ≡ entry ∷ [] → n ≡ k + 1
    → entries_of_input (take k bytes) m ≡ [])
    → length (entries_of_input (take n bytes) m) ≤ 1 → CompletesLast (take n bytes) m
completes_last n bytes m most first few front byte is =
    by (entries_of_input (take n bytes) m) refl few
  where
    count : n ≡ length front + 1
    count =
        let a = ap length is in let b = length-take n bytes in
        let c = length-append front (byte ∷ []) in
        omega (arith, a, b, c, most)

    by : (es : List Entry) → entries_of_input (take n bytes) m ≡ es → length es ≤ 1
        → entries_of_input front m ≡ []
    by [] e few = none_in_front front byte m (ap (λ t. entries_of_input t m) (sym is) ∙ e)
    by (x ∷ []) e few =
        ap (λ t. entries_of_input t m) (sym (front_is n bytes front byte is))
        ∙ first (length front) x e count
    by (x ∷ y ∷ es) e few = absurd (omega (arith, few))

pub nothing_taken : (n : ℕ) (bytes : List ℕ) → n ≡ 0 → take n bytes ≡ []
nothing_taken n bytes e = ap (λ k. take k bytes) e

-- what a call of `input_read` says that it does
pub has-input_read : (n : ℕ) (bytes : List ℕ) (old new : SessionView) → n ≤ length bytes
    → new ≡ after_input_read (take n bytes) old
    → ((k : ℕ) (entry : Entry) → entries_of_input (take n bytes) old.messages ≡ entry ∷ []
    → n ≡ k + 1 → entries_of_input (take k bytes) old.messages ≡ [])
    → length (entries_of_input (take n bytes) old.messages) ≤ 1
    → (wants_input old ≡ false → n ≡ 0)
    → HasReadInput (take n bytes) old new
has-input_read n bytes old new most state first few none = record {
  state = state;
  wanted = λ e. nothing_taken n bytes (none e);
  part = completes_last n bytes old.messages most first few;
}
