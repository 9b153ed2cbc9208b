-- What a page sees of an input that was explained.
use Rattle.std.specs.Prelude.{◌≡◌, ◌⊎◌, ℕ, ◌==◌, List, [], ◌++◌, Bool, if◌then◌else◌, Some}
use Rattle.std.specs.Prelude.{Result, Err}
use Rattle.ddcmp_io.specs.Written.{Known}
use Rattle.ddcmp_explain.specs.declared.explain_fault.ExplainFault.{ExplainFault}
use Rattle.ddcmp_explain.specs.declared.explain_fault.ExplainFault.TheVariants.{Memory}
use Rattle.ddcmp_explain.specs.declared.form.Form.TheVariants as form
use Rattle.ddcmp_explain.specs.declared.form.InputForm.{InputForm}
use Rattle.ddcmp_explain.specs.declared.form.InputForm.TheVariants.{As, Detected}
use Rattle.ddcmp_explain.specs.declared.notation.Notation.TheVariants.{Plain, Json}
use Rattle.ddcmp_explain.specs.declared.style.Style.{Style}
use Rattle.ddcmp_explain.specs.Detection.{form_in}
use Rattle.ddcmp_explain.specs.Digits.{bytes_of}
use Rattle.ddcmp_explain.specs.Explains.{Answer, Ends, Explains}

abbrev pub style_of : Bool → Bool → Style
style_of json discarded =
    record { notation = if json then Json else Plain; discarded = discarded }

-- the form with a number
abbrev pub form_by : ℕ → InputForm
form_by number =
    if number == 1 then As form.Hex
    else if number == 2 then As form.Text
    else if number == 3 then As form.Raw
    else if number == 4 then As form.Dump
    else Detected

-- An input was explained: what was written, and what is returned.
abbrev pub IsExplainedBy : ℕ → Style → ℕ → List ℕ → List ℕ → Result (Unit {0}) ExplainFault → Type 0
IsExplainedBy number style max input output result =
    (left : Known) × Explains (form_by number) style max input left (Some []) (Some output) result

-- The output is the bytes that an input encodes, up to a fault; or there was no memory for them.
abbrev pub IsDecoded : InputForm → List ℕ → List ℕ → Answer → Type 0
IsDecoded written input output result =
    (result ≡ Err Memory)
    ⊎ ((seen : List ℕ) × (rest : List ℕ) × (input ≡ seen ++ rest)
    × Ends (form_in written input) seen (Some rest) result
    × (output ≡ bytes_of (form_in written input) seen))
