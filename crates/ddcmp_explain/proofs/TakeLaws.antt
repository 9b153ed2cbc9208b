-- What was seen of an input, and what a result reports of the whole input.
use Rattle.std.proofs.Common.{◌≡◌, ◌≢◌, ℕ, ◌+◌, ◌-◌, ◌<◌, ◌^◌, Bool, true, false, List, [], ◌++◌}
use Rattle.std.proofs.Common.{length, refl, sym, ◌∙◌, ap, subst, arith, Option, Some, None, Ok, Err}
use Rattle.std.proofs.Common.{length-append, inl, inr}
use Rattle.std.specs.Prelude.{◌⊎◌, ◌↔◌, IsOk, IsTrue}
use Rattle.std.specs.Option.{option_map}
use Rattle.std.specs.Io.KnownBytes.{Appends, Consumes, Keeps}
use Rattle.std.proofs.KnownBytes.{Consumes-kept}
use Rattle.std.proofs.lemmas.List.{append-nil}
use Rattle.ddcmp_input.specs.Dump.{dump_after, dump_begun}
use Rattle.ddcmp_io.specs.Change.{SinkChange, SourceChange}
use Rattle.ddcmp_io.specs.Device.{ReadGives}
use Rattle.ddcmp_io.specs.declared.device.Got.{Got}
use Rattle.ddcmp_io.specs.declared.device.Got.TheVariants as got
use Rattle.ddcmp_io.specs.declared.device.Worst.{Worst}
use Rattle.ddcmp_io.specs.declared.device.Worst.TheVariants.{Fine, Idle, Failed}
use Rattle.ddcmp_io.specs.Input.{GaveMost}
use Rattle.ddcmp_explain.specs.declared.explain_fault.ExplainFault.{ExplainFault}
use Rattle.ddcmp_explain.specs.declared.explain_fault.ExplainFault.TheVariants.{Odd, NotHex, Line}
use Rattle.ddcmp_explain.specs.declared.explain_fault.ExplainFault.TheVariants.{Read, Write, Memory}
use Rattle.ddcmp_explain.specs.declared.form.Form.{Form}
use Rattle.ddcmp_explain.specs.declared.form.InputForm.{InputForm}
use Rattle.ddcmp_explain.specs.declared.form.InputForm.TheVariants.{As, Detected}
use Rattle.ddcmp_explain.specs.declared.style.Style.{Style}
use Rattle.ddcmp_explain.specs.Detection.{form_in}
use Rattle.ddcmp_explain.specs.Digits.{unexpected_in, left_in}
use Rattle.ddcmp_explain.specs.Explains.{Answer, Ends, Explains, ExplainsAs, IsExplained, Tells}
use Rattle.ddcmp_explain.specs.Explains.{fault_in, refusal, refusal_by}
use Rattle.ddcmp_explain.proofs.FormLaws.{unexpected-stays}

some-inj : {a b : List ℕ} → ◌≡◌ {A = Option (List ℕ)} (Some a) (Some b) → a ≡ b
some-inj h = cc

-- how much was seen of an input
seen_length : (input seen rest : List ℕ) → input ≡ seen ++ rest
    → length input ≡ length seen + length rest
seen_length input seen rest e = ap length e ∙ length-append seen rest

pub gave-most : (input : List ℕ) (left : Option (List ℕ)) (n : ℕ)
    → ((seen : List ℕ) × (length seen ≡ n) × Consumes (Some input) left seen) → n ≡ 2 ^ 64 - 1
    → GaveMost (Some input) left
gave-most input None n s m = tt
gave-most input (Some rest) n s m = seen_length input s.0 rest s.2 ∙ omega (arith, s.1, m)

-- what was seen of an input in its form
pub explains-as
    : (written : InputForm) (style : Style) (max : ℕ) (input seen : List ℕ)
    (left old new : Option (List ℕ)) (result : Answer)
    → Consumes (Some input) left seen → Ends (form_in written input) seen left result
    → Tells (form_in written input) style max seen old new result
    → Explains written style max input left old new result
explains-as written style max input seen None old new result c e t = absurd c
explains-as (As form) style max input seen (Some rest) old new result c e t =
    record { seen = seen; rest = rest; parts = c; left_is = refl; ends = e; tells = t }
explains-as Detected style max input seen (Some rest) old new result c e t =
    inr (record { seen = seen; rest = rest; parts = c; left_is = refl; ends = e; tells = t })

-- what was seen before the form was detected
pub explains-undetected
    : (written : InputForm) (style : Style) (max : ℕ) (input first : List ℕ)
    (left old new : Option (List ℕ)) (result : Answer)
    → written ≡ Detected → length first < 64 → Consumes (Some input) left first → Keeps old new
    → result ≡ Err Read → Explains written style max input left old new result
explains-undetected (As form) style max input first left old new result is short c k e =
    let bad : ◌≡◌ {A = InputForm} (As form) Detected = is in cc
explains-undetected Detected style max input first None old new result is short c k e = absurd c
explains-undetected Detected style max input first (Some rest) old new result is short c k e = inl (
    record {
      seen = first;
      rest = rest;
      parts = c;
      left_is = refl;
      short = short;
      kept = k;
      answer = e;
    }
    )

pub appends-none : (old new : Option (List ℕ)) → Appends old new [] → Keeps old new
appends-none None new a = tt
appends-none (Some xs) None a = a
appends-none (Some xs) (Some ys) a = a ∙ append-nil xs

-- ---- a source that gave the most has failed, or a write has

not-most : (input rest : List ℕ) (left : Option (List ℕ)) (seen more : List ℕ)
    → input ≡ seen ++ more → left ≡ Some more → left ≡ Some rest → length seen < 2 ^ 64 - 1
    → length input ≡ length rest + (2 ^ 64 - 1) → ⊥
not-most input rest left seen more parts is e few m =
    omega (arith, seen_length input seen more parts, ap length (some-inj (sym is ∙ e)), few, m)

most-as
    : (form : Form) (style : Style) (max : ℕ) (input rest : List ℕ) (left old new : Option (List ℕ))
    (result : Answer)
    → ExplainsAs form style max input left old new result → left ≡ Some rest
    → length input ≡ length rest + (2 ^ 64 - 1) → (result ≡ Err Read) ⊎ (result ≡ Err Write)
most-as form style max input rest left old new (Err Read) s e m = inl refl
most-as form style max input rest left old new (Err Write) s e m = inr refl
most-as form style max input rest left old new (Ok u) s e m =
    absurd (not-most input rest left s.seen s.rest s.parts s.left_is e s.ends.1 m)
most-as form style max input rest left old new (Err Odd) s e m =
    absurd (not-most input rest left s.seen s.rest s.parts s.left_is e s.ends.0 m)
most-as form style max input rest left old new (Err (NotHex index)) s e m =
    absurd (not-most input rest left s.seen s.rest s.parts s.left_is e s.ends.0 m)
most-as form style max input rest left old new (Err (Line line)) s e m =
    absurd (not-most input rest left s.seen s.rest s.parts s.left_is e s.ends.0 m)
most-as form style max input rest left old new (Err Memory) s e m =
    absurd (not-most input rest left s.seen s.rest s.parts s.left_is e
    (omega (arith, ap length s.ends)) m)

most-fails
    : (written : InputForm) (style : Style) (max : ℕ) (input rest : List ℕ)
    (left old new : Option (List ℕ)) (result : Answer)
    → Explains written style max input left old new result → left ≡ Some rest
    → length input ≡ length rest + (2 ^ 64 - 1) → (result ≡ Err Read) ⊎ (result ≡ Err Write)
most-fails (As form) style max input rest left old new result s e m =
    most-as form style max input rest left old new result s e m
most-fails Detected style max input rest left old new result s e m = elim s [
  | inl undetected ↦ inl undetected.answer
  | inr seen ↦ most-as _ style max input rest left old new result seen e m
]

-- ---- exactly if the input encodes whole bytes and nothing fails

fine_or_not : (worst : Worst) (P : Type 0) → (worst ≢ Fine → P) → (P → ⊥) → worst ≡ Fine
fine_or_not Fine P p n = refl
fine_or_not Idle P p n = absurd (n (p (λ e. cc)))
fine_or_not Failed P p n = absurd (n (p (λ e. cc)))

false_or_not : (b : Bool) (P : Type 0) → (b ≡ true → P) → (P → ⊥) → b ≡ false
false_or_not false P p n = refl
false_or_not true P p n = absurd (n (p refl))

none-some : (fault : ExplainFault) (o : Option ExplainFault) → o ≡ None → o ≡ Some fault → ⊥
none-some fault o n s = let bad : ◌≡◌ {A = Option ExplainFault} None (Some fault) = sym n ∙ s in cc

-- an input whose first bytes are refused is refused
refused-still : (form : Form) (seen rest : List ℕ) (fault : ExplainFault) (o : Option ℕ)
    → unexpected_in form seen ≡ o → refusal form seen ≡ Some fault
    → (unexpected_in form seen ≡ None → rest ≡ []) → refusal form (seen ++ rest) ≡ None → ⊥
refused-still form seen rest fault None is e ends n =
    none-some fault _ n
    (ap (refusal form) (ap (λ r. seen ++ r) (ends is) ∙ append-nil seen) ∙ e)
refused-still form seen rest fault (Some index) is e ends n =
    none-some _ _ n
    (ap (λ o. option_map (fault_in form (dump_after dump_begun (seen ++ rest)))
    (refusal_by o (left_in form (seen ++ rest)))) (unexpected-stays form seen rest index is))

module _ (style : Style) (max : ℕ) (input : List ℕ) (left old new : Option (List ℕ)) (worst : Worst)
    (broken : Bool) where
  abbrev Succeeds : Form → Answer → Type 0
  Succeeds form result =
      (refusal form input ≡ None) × (length input < 2 ^ 64 - 1) × (worst ≡ Fine) × (broken ≡ false)
      × (result ≢ Err Memory)

  whole_input : (form : Form) (result : Answer)
      → ExplainsAs form style max input left old new result
      → (worst ≢ Fine → result ≡ Err Read) → (broken ≡ true → result ≡ Err Write) → IsOk result
      → Succeeds form result
  whole_input form (Ok u) s f w ok =
      let same : input ≡ s.seen =
      s.parts ∙ ap (λ t. s.seen ++ t) s.ends.0 ∙ append-nil s.seen in (
        ap (refusal form) same ∙ s.ends.2,
        subst (λ t. length t < 2 ^ 64 - 1) (sym same) s.ends.1,
        fine_or_not worst (◌≡◌ {A = Answer} (Ok u) (Err Read)) f (λ e. cc),
        false_or_not broken (◌≡◌ {A = Answer} (Ok u) (Err Write)) w (λ e. cc),
        λ e. cc,
      )
  whole_input form (Err fault) s f w ok = let bad : ◌≡◌ {A = Bool} false true = ok in cc

  read_not : (form : Form) (result : Answer) → result ≡ Err Read
      → (result ≡ Err Read → (worst ≢ Fine) ⊎ GaveMost (Some input) left)
      → (rest : List ℕ) → left ≡ Some rest → Succeeds form result → IsOk result
  read_not form result e f rest is h = elim (f e) [
    | inl worse ↦ absurd (worse h.2)
    | inr most ↦ let gave : length input ≡ length rest + (2 ^ 64 - 1) =
        subst (GaveMost (Some input)) is most in
        absurd (omega (arith, gave, h.1))
  ]

  only_then : (form : Form) (result : Answer) → ExplainsAs form style max input left old new result
      → (result ≡ Err Read → (worst ≢ Fine) ⊎ GaveMost (Some input) left)
      → (result ≡ Err Write → broken ≡ true) → Succeeds form result → IsOk result
  only_then form (Ok u) s f w h = refl
  only_then form (Err Odd) s f w h =
      absurd (refused-still form s.seen s.rest Odd _ refl s.ends.1 s.ends.2
      (ap (refusal form) (sym s.parts) ∙ h.0))
  only_then form (Err (NotHex index)) s f w h =
      absurd (refused-still form s.seen s.rest (NotHex index) _ refl s.ends.1 s.ends.2
      (ap (refusal form) (sym s.parts) ∙ h.0))
  only_then form (Err (Line line)) s f w h =
      absurd (refused-still form s.seen s.rest (Line line) _ refl s.ends.1 s.ends.2
      (ap (refusal form) (sym s.parts) ∙ h.0))
  only_then form (Err Read) s f w h = read_not form (Err Read) refl f s.rest s.left_is h
  only_then form (Err Write) s f w h = let bad : ◌≡◌ {A = Bool} false true = sym h.3 ∙ w refl in cc
  only_then form (Err Memory) s f w h = absurd (h.4 refl)

  ok-exactly : (written : InputForm) (result : Answer)
      → Explains written style max input left old new result → (worst ≢ Fine → result ≡ Err Read)
      → (result ≡ Err Read → (worst ≢ Fine) ⊎ GaveMost (Some input) left)
      → (result ≡ Err Write) ↔ IsTrue broken
      → IsOk result ↔ Succeeds (form_in written input) result
  ok-exactly (As form) result s read only write =
      (whole_input form result s read write.1, only_then form result s only write.0)
  ok-exactly Detected result s read only write = elim s [
    | inl undetected ↦ (
      (λ ok. let bad : ◌≡◌ {A = Bool} false true = subst IsOk undetected.answer ok in cc),
      read_not _ result undetected.answer only undetected.rest undetected.left_is,
    )
    | inr seen ↦ (
      whole_input _ result seen read write.1,
      only_then _ result seen only write.0,
    )
  ]

pub explained-by
    : (written : InputForm) (style : Style) (max : ℕ) (source : SourceChange) (sink : SinkChange)
    (result : Answer)
    → ((input : List ℕ) → source.before ≡ Some input
    → Explains written style max input source.after sink.before sink.after result)
    → (source.state ≢ Fine → result ≡ Err Read)
    → (result ≡ Err Read → (source.state ≢ Fine) ⊎ GaveMost source.before source.after)
    → (result ≡ Err Write) ↔ IsTrue sink.broken
    → IsExplained written style max source sink result
explained-by written style max source sink result told read only write = record {
  told = told;
  ok = λ input e.
      ok-exactly style max input source.after sink.before sink.after source.state sink.broken
      written result (told input e) read
      (λ r. subst (λ b. (source.state ≢ Fine) ⊎ GaveMost b source.after) e (only r)) write;
  read = read;
  read_only = only;
  read_most = λ input rest e f most.
      most-fails written style max input rest source.after sink.before sink.after result
      (told input e) f most;
  write = write;
}

-- a read that gave no bytes consumed none
pub consumes-unread : (before left later : Option (List ℕ)) (seen : List ℕ) (answer : Got)
    (buf : List ℕ)
    → (answer ≡ got.Idle) ⊎ (answer ≡ got.Failed) → ReadGives left later answer buf
    → Consumes before left seen → Consumes before later seen
consumes-unread before left later seen answer buf is gives c =
    let kept : Keeps left later = elim is [
      | inl idle ↦ subst (λ g. ReadGives left later g buf) idle gives
      | inr failed ↦ subst (λ g. ReadGives left later g buf) failed gives
    ] in
    Consumes-kept before left later seen c kept
