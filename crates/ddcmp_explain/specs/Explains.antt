-- What explain writes and returns.
use Rattle.std.specs.Prelude.{◌≡◌, ◌≢◌, ◌⊎◌, ◌↔◌, ℕ, ◌+◌, ◌-◌, ◌<◌, ◌^◌, List, [], ◌∷◌, ◌++◌, ⊤}
use Rattle.std.specs.Prelude.{length, if◌then◌else◌, is_none, false, IsOk, IsTrue, Option, Some}
use Rattle.std.specs.Prelude.{None, Result, Ok, Err}
use Rattle.std.specs.Io.KnownBytes.{Appends, IsAtEnd, Keeps}
use Rattle.std.specs.Option.{option_map}
use Rattle.ddcmp_input.specs.Dump.{DumpView, dump_after, dump_begun, not_dumped}
use Rattle.ddcmp_explain.specs.declared.explain_fault.ExplainFault.{ExplainFault}
use Rattle.ddcmp_explain.specs.declared.explain_fault.ExplainFault.TheVariants.{Odd, NotHex, Line}
use Rattle.ddcmp_explain.specs.declared.explain_fault.ExplainFault.TheVariants.{Read, Write}
use Rattle.ddcmp_explain.specs.declared.explain_fault.ExplainFault.TheVariants.{Memory}
use Rattle.ddcmp_explain.specs.declared.form.Form.{Form}
use Rattle.ddcmp_explain.specs.declared.form.Form.TheVariants.{Hex, Text, Raw, Dump}
use Rattle.ddcmp_explain.specs.declared.form.InputForm.{InputForm}
use Rattle.ddcmp_explain.specs.declared.form.InputForm.TheVariants.{As, Detected}
use Rattle.ddcmp_explain.specs.declared.style.Style.{Style}
use Rattle.ddcmp_explain.specs.Detection.{detected, form_in}
use Rattle.ddcmp_explain.specs.Digits.{bytes_of, unexpected_in, left_in}
use Rattle.ddcmp_explain.specs.Discarded.{lines_in, end_in}
use Rattle.ddcmp_io.specs.declared.device.Worst.TheVariants.{Fine}
use Rattle.ddcmp_io.specs.Change.{SourceChange, SinkChange}
use Rattle.ddcmp_io.specs.Input.{GaveMost}
use Rattle.ddcmp_io.specs.Written.{AppendsPart, Known}

abbrev pub refusal_by : Option ℕ → List ℕ → Option ExplainFault
refusal_by (Some index) left_digits = Some (NotHex index)
refusal_by None [] = None
refusal_by None (digit ∷ left_digits) = Some Odd

-- Of a dump, the line is named in which that is.
abbrev pub fault_in : Form → DumpView → ExplainFault → ExplainFault
fault_in Hex at digits = digits
fault_in Text at digits = digits
fault_in Raw at digits = digits
fault_in Dump at digits = Line (not_dumped at)

-- Why an input doesn't encode whole bytes: its first byte that isn't allowed where it is, or else a
-- digit that is left over.
abbrev pub refusal : Form → List ℕ → Option ExplainFault
refusal form input =
    option_map (fault_in form (dump_after dump_begun input))
    (refusal_by (unexpected_in form input) (left_in form input))

-- the whole output: the lines of the items of all complete bytes, and the last lines if the input
-- isn't refused
unfoldable pub explained : Form → Style → ℕ → List ℕ → List ℕ
explained form style max input =
    lines_in style max (bytes_of form input)
    ++ (if is_none (refusal form input) then end_in style max (bytes_of form input) else [])

-- what explain returns
abbrev pub Answer : Type 0
Answer = Result (Unit {0}) ExplainFault

-- The input is refused: for a byte that was read, or because it has ended.
abbrev pub Refuses : Form → List ℕ → Known → ExplainFault → Type 0
Refuses form seen left fault =
    (length seen < 2 ^ 64 - 1) × (refusal form seen ≡ Some fault)
    × (unexpected_in form seen ≡ None → IsAtEnd left)

-- For each result: whether the input was read to its end, and why it is refused.
abbrev pub Ends : Form → List ℕ → Known → Answer → Type 0
Ends form seen left (Ok u) =
    IsAtEnd left × (length seen < 2 ^ 64 - 1) × (refusal form seen ≡ None)
Ends form seen left (Err Odd) = Refuses form seen left Odd
Ends form seen left (Err (NotHex index)) = Refuses form seen left (NotHex index)
Ends form seen left (Err (Line line)) = Refuses form seen left (Line line)
Ends form seen left (Err Read) = (unexpected_in form seen ≡ None) ⊎ (length seen ≡ 2 ^ 64 - 1)
Ends form seen left (Err Write) = ⊤
Ends form seen left (Err Memory) = seen ≡ []

-- For each result: what was written.
abbrev pub Tells : Form → Style → ℕ → List ℕ → Known → Known → Answer → Type 0
Tells form style max seen old new (Ok u) = Appends old new (explained form style max seen)
Tells form style max seen old new (Err Odd) = Appends old new (explained form style max seen)
Tells form style max seen old new (Err (NotHex index)) =
    Appends old new (explained form style max seen)
Tells form style max seen old new (Err (Line line)) =
    Appends old new (explained form style max seen)
Tells form style max seen old new (Err Read) =
    Appends old new (lines_in style max (bytes_of form seen))
Tells form style max seen old new (Err Write) =
    AppendsPart old new (explained form style max seen)
Tells form style max seen old new (Err Memory) = Appends old new []

-- What explain did with an input in a form: how much of it was read, what is left, what was
-- written.
pub record ExplainsAs (form : Form) (style : Style) (max : ℕ) (input : List ℕ)
    (left old new : Known) (result : Answer) : Type 0 where
  pub seen : List ℕ
  pub rest : List ℕ
  pub parts : input ≡ seen ++ rest
  pub left_is : left ≡ Some rest
  pub ends : Ends form seen (Some rest) result
  pub tells : Tells form style max seen old new result

-- A read failed before 64 bytes or the end of the input were read, and nothing was written.
pub record IsUndetected (input : List ℕ) (left old new : Known) (result : Answer) : Type 0 where
  pub seen : List ℕ
  pub rest : List ℕ
  pub parts : input ≡ seen ++ rest
  pub left_is : left ≡ Some rest
  pub short : length seen < 64
  pub kept : Keeps old new
  pub answer : result ≡ Err Read

abbrev pub Explains : InputForm → Style → ℕ → List ℕ → Known → Known → Known → Answer → Type 0
Explains (As form) style max input left old new result =
    ExplainsAs form style max input left old new result
Explains Detected style max input left old new result =
    IsUndetected input left old new result
    ⊎ ExplainsAs (detected input) style max input left old new result

-- An input was explained: what was written, and when each result is returned.
pub record IsExplained (written : InputForm) (style : Style) (max : ℕ) (source : SourceChange)
    (sink : SinkChange) (result : Answer) : Type 0 where
  pub told : (input : List ℕ) → source.before ≡ Some input
      → Explains written style max input source.after sink.before sink.after result
  pub ok : (input : List ℕ) → source.before ≡ Some input
      → IsOk result ↔ ((refusal (form_in written input) input ≡ None)
      × (length input < 2 ^ 64 - 1) × (source.state ≡ Fine) × (sink.broken ≡ false)
      × (result ≢ Err Memory))
  -- Err Read: exactly if the source's state isn't Fine, or it returned 2^64 - 1 bytes and no write
  -- failed.
  pub read : source.state ≢ Fine → result ≡ Err Read
  pub read_only : result ≡ Err Read
      → (source.state ≢ Fine) ⊎ GaveMost source.before source.after
  pub read_most : (input rest : List ℕ)
      → source.before ≡ Some input → source.after ≡ Some rest
      → length input ≡ length rest + (2 ^ 64 - 1)
      → (result ≡ Err Read) ⊎ (result ≡ Err Write)
  pub write : (result ≡ Err Write) ↔ IsTrue sink.broken
