-- How an input is explained, chunk by chunk, and how that ends.
use Rattle.std.proofs.Common.{◌≡◌, ◌≢◌, ℕ, ◌-◌, ◌^◌, Bool, true, false, List, [], ◌++◌, length}
use Rattle.std.proofs.Common.{take, Result, refl, sym, ◌∙◌, ap, subst, arith, Option, None, Some}
use Rattle.std.proofs.Common.{Ok, Err, inl, inr}
use Rattle.std.specs.Prelude.{◌⊎◌, ◌↔◌, IsTrue, is_err}
use Rattle.std.specs.Io.KnownBytes.{Appends}
use Rattle.std.proofs.KnownBytes.{Appends-nil}
use Rattle.ddcmp_io.specs.Input.{GaveMost}
use Rattle.ddcmp_io.specs.Written.{AppendsPart, Writes}
use Rattle.ddcmp_io.specs.declared.device.WriteFailed.{WriteFailed}
use Rattle.ddcmp_io.specs.declared.device.Worst.{Worst}
use Rattle.ddcmp_io.specs.declared.device.Worst.TheVariants.{Fine}
use Rattle.ddcmp_explain.specs.declared.explain_fault.ExplainFault.{ExplainFault}
use Rattle.ddcmp_explain.specs.declared.explain_fault.ExplainFault.TheVariants.{Odd, NotHex, Line}
use Rattle.ddcmp_explain.specs.declared.explain_fault.ExplainFault.TheVariants.{Read, Write, Memory}
use Rattle.ddcmp_explain.specs.declared.form.Form.{Form}
use Rattle.ddcmp_explain.specs.declared.form.InputForm.{InputForm}
use Rattle.ddcmp_explain.specs.declared.input_bytes.InputBytes.{InputBytes}
use Rattle.ddcmp_explain.specs.declared.lines.Lines.{Lines}
use Rattle.ddcmp_explain.specs.declared.style.Style.{Style}
use Rattle.ddcmp_explain.specs.Detection.{form_in}
use Rattle.ddcmp_explain.specs.Digits.{bytes_of}
use Rattle.ddcmp_explain.specs.Discarded.{lines_in, end_in}
use Rattle.ddcmp_explain.specs.Explains.{Answer, Explains}
use Rattle.ddcmp_explain.specs.Reads.{Gives, IsNext, Reads}
use Rattle.ddcmp_explain.specs.Inside.Progress.{HasTold, Progress, answer_of}
use Rattle.ddcmp_explain.proofs.ExplainLaws.{tells-cut, tells-part, tells-stopped, tells-whole}
use Rattle.ddcmp_explain.proofs.FormLaws.{nothing-spelled}
use Rattle.ddcmp_explain.proofs.LinesLaws.{lines-nothing}
use Rattle.ddcmp_explain.proofs.TakeLaws.{appends-none, explains-as, explains-undetected, gave-most}

pub begins
    : (written : InputForm) (max : ℕ) (start left : Option (List ℕ)) (input : List ℕ)
    (at : InputBytes) (lines : Lines)
    → Reads written input [] left at → HasTold max start [] lines false start
    → Progress written max start input left at lines false start
begins written max start left input at lines reads told =
    let none = nothing-spelled (form_in written input) in
    record {
      seen = [];
      reads = reads;
      told = subst (λ b. HasTold max start b lines false start) (sym none) told;
      appends =
          subst (Appends start start)
          (sym (ap (lines_in lines.style max) none ∙ lines-nothing lines.style max))
          (Appends-nil start);
    }

-- what a next read's result leaves possible of the source
pub fault-read : (old new : InputBytes) (state : Worst) (fault : ExplainFault)
    → IsNext old new state (Err fault) → state ≢ Fine
    → ◌≡◌ {A = Answer} (Err fault) (Err Read)
fault-read old new state Odd n worse = absurd (worse n)
fault-read old new state (NotHex index) n worse = absurd (worse n)
fault-read old new state (Line line) n worse = absurd (worse n)
fault-read old new state Read n worse = refl
fault-read old new state Write n worse = absurd n
fault-read old new state Memory n worse = absurd n

fault-only : (old new : InputBytes) (state : Worst) (fault : ExplainFault)
    → IsNext old new state (Err fault) → ◌≡◌ {A = Answer} (Err fault) (Err Read)
    → (state ≢ Fine) ⊎ (old.seen ≡ 2 ^ 64 - 1)
fault-only old new state Odd n e = cc
fault-only old new state (NotHex index) n e = cc
fault-only old new state (Line line) n e = cc
fault-only old new state Read n e = n
fault-only old new state Write n e = absurd n
fault-only old new state Memory n e = absurd n

-- what is returned after the last write
pub answer-read : (by : Result (Unit {0}) WriteFailed) → answer_of by ≡ Err Read → ⊥
answer-read (Ok u) e = cc
answer-read (Err failed) e = cc

pub answer-write : (by : Result (Unit {0}) WriteFailed) (broken : Bool) → broken ≡ is_err by
    → (answer_of by ≡ Err Write) ↔ IsTrue broken
answer-write (Ok u) broken is = (
  (λ e. cc),
  (λ b. let bad : ◌≡◌ {A = Bool} false true = sym is ∙ b in cc),
)
answer-write (Err failed) broken is = ((λ e. is), λ b. refl)

fault-never : (old new : InputBytes) (state : Worst) (fault : ExplainFault)
    → IsNext old new state (Err fault) → ◌≡◌ {A = Answer} (Err fault) (Err Write) → ⊥
fault-never old new state Odd n e = cc
fault-never old new state (NotHex index) n e = cc
fault-never old new state (Line line) n e = cc
fault-never old new state Read n e = cc
fault-never old new state Write n e = n
fault-never old new state Memory n e = n

pub fault-write : (old new : InputBytes) (state : Worst) (fault : ExplainFault) (broken : Bool)
    → IsNext old new state (Err fault) → broken ≡ false
    → (◌≡◌ {A = Answer} (Err fault) (Err Write)) ↔ IsTrue broken
fault-write old new state fault broken n whole = (
  (λ e. absurd (fault-never old new state fault n e)),
  (λ b. let bad : ◌≡◌ {A = Bool} false true = sym whole ∙ b in cc),
)

module _ (written : InputForm) (style : Style) (max : ℕ) (start : Option (List ℕ)) (input : List ℕ)
    (left : Option (List ℕ)) (at : InputBytes) (lines : Lines) (broken : Bool)
    (sink : Option (List ℕ)) (same : lines.style ≡ style)
    (p : Progress written max start input left at lines broken sink) where
  abbrev form : Form
  form = form_in written input

  -- a chunk more
  module _ (later : Option (List ℕ)) (next : InputBytes) (bytes : List ℕ) (n : ℕ)
      (chunk : Option ℕ) (is : chunk ≡ Some n)
      (gave : Gives written input p.seen later next bytes (Ok chunk)) where
    gives : Gives written input p.seen later next bytes (Ok (Some n))
    gives = subst (λ o. Gives written input p.seen later next bytes (Ok o)) is gave

    pub goes-on : (more : Lines) (fails : Bool) (grown : Option (List ℕ)) (flushed : Style)
        → more.style ≡ flushed
        → HasTold max start (bytes_of form p.seen ++ take n bytes) more fails grown
        → Appends start grown (lines_in flushed max (bytes_of form p.seen ++ take n bytes))
        → Progress written max start input later next more fails grown
    goes-on more fails grown flushed styled told appends = record {
      seen = p.seen ++ gives.0;
      reads = gives.1;
      told = subst (λ b. HasTold max start b more fails grown) (sym gives.2) told;
      appends =
          subst (λ b. Appends start grown (lines_in more.style max b)) (sym gives.2)
          (subst (λ s. Appends start grown (lines_in s max (bytes_of form p.seen ++ take n bytes)))
          (sym styled) appends);
    }

    pub write-failed : (grown : Option (List ℕ)) (pushed : Style) → pushed ≡ lines.style
        → AppendsPart start grown (lines_in pushed max (bytes_of form p.seen ++ take n bytes))
        → Explains written style max input later start grown (Err Write)
    write-failed grown pushed styled part =
        explains-as written style max input (p.seen ++ gives.0) later start grown (Err Write)
        gives.1.consumed tt
        (tells-part form style max (p.seen ++ gives.0) start grown
        (subst (λ b. AppendsPart start grown (lines_in style max b)) (sym gives.2)
        (subst
        (λ s. AppendsPart start grown (lines_in s max (bytes_of form p.seen ++ take n bytes)))
        (styled ∙ same) part)))

  -- no more
  pub ends : (later : Option (List ℕ)) (next : InputBytes) (bytes : List ℕ)
      (grown : Option (List ℕ)) (chunk : Option ℕ) (by : Result (Unit {0}) WriteFailed)
      → chunk ≡ None → Gives written input p.seen later next bytes (Ok chunk)
      → Writes start grown by
      (lines_in lines.style max (bytes_of form p.seen)
      ++ end_in lines.style max (bytes_of form p.seen))
      → Explains written style max input later start grown (answer_of by)
  ends later next bytes grown chunk (Ok u) is gave whole =
      let g = subst (λ o. Gives written input p.seen later next bytes (Ok o)) is gave in
      explains-as written style max input p.seen later start grown (Ok tt) g.0 g.1
      (tells-whole form style max p.seen start grown g.1.2
      (subst (λ s. Appends start grown
      (lines_in s max (bytes_of form p.seen) ++ end_in s max (bytes_of form p.seen))) same whole))
  ends later next bytes grown chunk (Err failed) is gave part =
      let g = subst (λ o. Gives written input p.seen later next bytes (Ok o)) is gave in
      explains-as written style max input p.seen later start grown (Err Write) g.0 tt
      (tells-cut form style max p.seen start grown g.1.2
      (subst (λ s. AppendsPart start grown
      (lines_in s max (bytes_of form p.seen) ++ end_in s max (bytes_of form p.seen))) same part))

  pub stopped : (later : Option (List ℕ)) (next : InputBytes) (bytes : List ℕ) (state : Worst)
      (fault : ExplainFault)
      → IsNext at next state (Err fault) → Gives written input p.seen later next bytes (Err fault)
      → Explains written style max input later start sink (Err fault)
  stopped later next bytes state fault n g = elim g [
    | inl ended ↦ explains-as written style max input p.seen later start sink (Err fault) ended.0
        ended.1
        (tells-stopped form style max p.seen start sink fault later at next state n ended.1
        (subst (λ s. Appends start sink (lines_in s max (bytes_of form p.seen))) same p.appends))
    | inr unopened ↦ explains-undetected written style max input unopened.3.0 later start sink
        (Err fault) unopened.0 unopened.3.1 unopened.3.2
        (appends-none start sink
        (subst (Appends start sink)
        (ap (λ s. lines_in lines.style max (bytes_of form s)) unopened.1
        ∙ ap (lines_in lines.style max) (nothing-spelled form)
        ∙ lines-nothing lines.style max) p.appends))
        cc
  ]

  most : (later : Option (List ℕ)) (next : InputBytes) (bytes : List ℕ) (fault : ExplainFault)
      → Gives written input p.seen later next bytes (Err fault) → at.seen ≡ 2 ^ 64 - 1
      → GaveMost (Some input) later
  most later next bytes fault g m = elim g [
    | inl ended ↦ gave-most input later at.seen (p.seen, p.reads.long, ended.0) m
    | inr unopened ↦ absurd (omega (arith, p.reads.long, ap length unopened.1, m))
  ]

-- a read fails only if the source failed, or gave the most
pub fault-read-only
    : (written : InputForm) (max : ℕ) (start before left later : Option (List ℕ))
    (at next : InputBytes) (lines : Lines) (broken : Bool) (sink : Option (List ℕ))
    (bytes : List ℕ) (state : Worst) (fault : ExplainFault)
    → ((input : List ℕ) → before ≡ Some input
    → Progress written max start input left at lines broken sink)
    → ((input seen : List ℕ) → Reads written input seen left at
    → Gives written input seen later next bytes (Err fault))
    → IsNext at next state (Err fault) → ◌≡◌ {A = Answer} (Err fault) (Err Read)
    → (state ≢ Fine) ⊎ GaveMost before later
fault-read-only written max start None left later at next lines broken sink bytes state fault so_far
    reading n e =
    inr tt
fault-read-only written max start (Some input) left later at next lines broken sink bytes state
    fault so_far reading n e =
    let p = so_far input refl in
    elim (fault-only at next state fault n e) [
      | inl worse ↦ inl worse
      | inr m ↦ inr (most written lines.style max start input left at lines broken sink refl p later
          next bytes fault (reading input p.seen p.reads) m)
    ]
