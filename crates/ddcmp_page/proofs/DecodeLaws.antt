-- What was decoded of an input that is refused.
use Rattle.std.proofs.Common.{◌≡◌, ℕ, List, [], Option, Some, Result, Err, refl, ◌∙◌, ap, inl, inr}
use Rattle.ddcmp_explain.specs.declared.explain_fault.ExplainFault.{ExplainFault}
use Rattle.ddcmp_explain.specs.declared.explain_fault.ExplainFault.TheVariants.{Odd, NotHex, Line}
use Rattle.ddcmp_explain.specs.declared.explain_fault.ExplainFault.TheVariants.{Read, Write, Memory}
use Rattle.ddcmp_explain.specs.declared.form.Form.{Form}
use Rattle.ddcmp_explain.specs.declared.form.InputForm.{InputForm}
use Rattle.ddcmp_explain.specs.declared.input_bytes.InputBytes.{InputBytes}
use Rattle.ddcmp_explain.specs.Detection.{form_in}
use Rattle.ddcmp_explain.specs.Digits.{bytes_of}
use Rattle.ddcmp_explain.specs.Explains.{Ends}
use Rattle.ddcmp_explain.specs.Reads.{Gives}
use Rattle.ddcmp_explain.proofs.FormLaws.{nothing-unexpected}
use Rattle.ddcmp_page.specs.Explained.{IsDecoded}

unread : (form : Form) (input : List ℕ) (fault : ExplainFault)
    → ◌≡◌ {A = Result (Option ℕ) ExplainFault} (Err fault) (Err Read)
    → Ends form [] (Some input) (Err fault)
unread form input Read e = inl (nothing-unexpected form)
unread form input Write e = tt
unread form input Memory e = refl
unread form input Odd e = cc
unread form input (NotHex index) e = cc
unread form input (Line line) e = cc

pub refused : (written : InputForm) (input seen left bytes output : List ℕ) (at : InputBytes)
    (fault : ExplainFault) → Gives written input seen (Some left) at bytes (Err fault)
    → output ≡ bytes_of (form_in written input) seen → IsDecoded written input output (Err fault)
refused written input seen left bytes output at fault (inl p) e = inr (seen, left, p.0, p.1, e)
refused written input seen left bytes output at fault (inr u) e = inr (
  [],
  input,
  refl,
  unread (form_in written input) input fault u.2,
  e ∙ ap (bytes_of (form_in written input)) u.1,
)
