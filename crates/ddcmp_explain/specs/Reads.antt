-- How far an input was read, and what is read next.
use Rattle.std.specs.Prelude.{◌≡◌, ◌≢◌, ◌⊎◌, ℕ, ◌+◌, ◌-◌, ◌<◌, ◌≤◌, ◌^◌, List, [], ◌++◌, true}
use Rattle.std.specs.Prelude.{false}
use Rattle.std.specs.Prelude.{if◌then◌else◌, length, option_to_list, take, Option, None, Some}
use Rattle.std.specs.Prelude.{Result, Ok, Err}
use Rattle.std.specs.Io.KnownBytes.{Consumes, IsAtEnd}
use Rattle.ddcmp_input.specs.Dump.{DumpView, dump_after, dump_begun}
use Rattle.ddcmp_io.specs.declared.device.Worst.{Worst}
use Rattle.ddcmp_io.specs.declared.device.Worst.TheVariants.{Fine}
use Rattle.ddcmp_io.specs.Written.{Known}
use Rattle.ddcmp_explain.specs.declared.decoder.Decoder.{Decoder}
use Rattle.ddcmp_explain.specs.declared.explain_fault.ExplainFault.{ExplainFault}
use Rattle.ddcmp_explain.specs.declared.explain_fault.ExplainFault.TheVariants.{Odd, NotHex, Line}
use Rattle.ddcmp_explain.specs.declared.explain_fault.ExplainFault.TheVariants.{Read, Write}
use Rattle.ddcmp_explain.specs.declared.explain_fault.ExplainFault.TheVariants.{Memory}
use Rattle.ddcmp_explain.specs.declared.form.Form.{Form}
use Rattle.ddcmp_explain.specs.declared.form.Form.TheVariants.{Hex, Text, Raw, Dump}
use Rattle.ddcmp_explain.specs.declared.form.InputForm.{InputForm}
use Rattle.ddcmp_explain.specs.declared.form.InputForm.TheVariants.{Detected}
use Rattle.ddcmp_explain.specs.declared.input_bytes.InputBytes.{InputBytes}
use Rattle.ddcmp_explain.specs.Detection.{form_in}
use Rattle.ddcmp_explain.specs.Digits.{bytes_of, left_in, spot_in, unexpected_in}
use Rattle.ddcmp_explain.specs.Explains.{Ends}

-- the state of the parser of dumps, which only a dump passes through
abbrev pub dump_in : Form → List ℕ → DumpView
dump_in Dump seen = dump_after dump_begun seen
dump_in Hex seen = dump_begun
dump_in Text seen = dump_begun
dump_in Raw seen = dump_begun

-- the state of the decoder after `seen`, of which each byte was allowed where it is
pub record IsDecoded (form : Form) (seen : List ℕ) (at : Decoder) : Type 0 where
  pub left : left_in form seen ≡ option_to_list at.high
  pub spot : spot_in form seen ≡ at.spot

-- `seen` was read of an input in a form.
pub record IsRead (form : Form) (seen : List ℕ) (at : InputBytes) : Type 0 where
  pub form_is : at.form ≡ form
  pub unexpected : unexpected_in form seen ≡ at.unexpected
  pub dump : dump_in form seen ≡ at.dump
  pub decoded : at.unexpected ≡ None → IsDecoded form seen at.decoder

-- `seen` was read of an input, and `left` is left of it.
pub record Reads (written : InputForm) (input seen : List ℕ) (left : Known) (at : InputBytes)
    : Type 0 where
  pub consumed : Consumes (Some input) left seen
  pub long : length seen ≡ at.seen
  pub ended : at.ended ≡ true → IsAtEnd left
  pub opened : at.detects ≡ false → IsRead (form_in written input) seen at
  pub unopened : at.detects ≡ true → (written ≡ Detected) × (seen ≡ [])

-- an input that was read to its end, or can't be read further
abbrev pub Ended : Form → List ℕ → Known → Result (Option ℕ) ExplainFault → Type 0
Ended form seen left (Ok None) = Ends form seen left (Ok tt)
Ended form seen left (Ok (Some n)) = ⊥
Ended form seen left (Err fault) = Ends form seen left (Err fault)

-- a read failed before 64 bytes or the end of the input were read
abbrev pub IsUnopened : InputForm → List ℕ → List ℕ → Known → Result (Option ℕ) ExplainFault
    → Type 0
IsUnopened written input seen left result =
    (written ≡ Detected) × (seen ≡ []) × (result ≡ Err Read)
    × ((first : List ℕ) × (length first < 64) × Consumes (Some input) left first)

-- More was read, and the bytes that it adds follow those of what was read before; or there is no
-- more.
abbrev pub Gives : InputForm → List ℕ → List ℕ → Known → InputBytes → List ℕ
    → Result (Option ℕ) ExplainFault → Type 0
Gives written input seen left at bytes (Ok (Some n)) =
    (more : List ℕ) × Reads written input (seen ++ more) left at
    × (bytes_of (form_in written input) (seen ++ more)
    ≡ bytes_of (form_in written input) seen ++ take n bytes)
Gives written input seen left at bytes (Ok None) =
    Consumes (Some input) left seen × Ended (form_in written input) seen left (Ok None)
Gives written input seen left at bytes (Err fault) =
    (Consumes (Some input) left seen × Ended (form_in written input) seen left (Err fault))
    ⊎ IsUnopened written input seen left (Err fault)

-- how many more reads there may be
abbrev pub turns : InputBytes → ℕ
turns at = if at.detects then 2 ^ 64 else 2 ^ 64 - 1 - at.seen

-- Each time more is read, or there is no more. It is a failed read if the source's state isn't
-- Fine; and only then, or if 2^64 - 1 bytes were read.
abbrev pub IsNext : InputBytes → InputBytes → Worst → Result (Option ℕ) ExplainFault → Type 0
IsNext old new state (Ok (Some n)) =
    (state ≡ Fine) × (n ≤ 16384) × (old.seen + n ≤ new.seen) × (turns new < turns old)
IsNext old new state (Ok None) = state ≡ Fine
IsNext old new state (Err Odd) = state ≡ Fine
IsNext old new state (Err (NotHex index)) = state ≡ Fine
IsNext old new state (Err (Line line)) = state ≡ Fine
IsNext old new state (Err Read) = (state ≢ Fine) ⊎ (old.seen ≡ 2 ^ 64 - 1)
IsNext old new state (Err Write) = ⊥
IsNext old new state (Err Memory) = ⊥
