-- What was written of a text to a sink, directly or by way of a page.
use Rattle.std.specs.Prelude.{◌≡◌, ℕ, Bool, true, false, List, ◌++◌, take, Option, Result, Ok, Err}
use Rattle.std.specs.Io.KnownBytes.{Appends}
use Rattle.ddcmp_io.specs.declared.device.WriteFailed.{WriteFailed}

-- the bytes that a sink holds, if known
abbrev pub Known : Type 0
Known = Option (List ℕ)

-- a prefix of a text was written
abbrev pub AppendsPart : Known → Known → List ℕ → Type 0
AppendsPart old new text = (n : ℕ) × Appends old new (take n text)

-- all of a text was written, or if a write failed, a prefix of it
abbrev pub Writes : Known → Known → Result (Unit {0}) WriteFailed → List ℕ → Type 0
Writes old new (Ok u) text = Appends old new text
Writes old new (Err f) text = AppendsPart old new text

-- A sink with a page that buffers what is written to it: whether a write failed, what the sink
-- holds, if known, and what is buffered.
pub record Output : Type 0 where
  pub broken : Bool
  pub sink : Known
  pub waiting : List ℕ

-- the same from the parts of a sink
abbrev pub output_of : {W : Type 0} → (W → Bool) → (W → Known) → W → List ℕ → Output
output_of broken contents writer page =
    record { broken = broken writer; sink = contents writer; waiting = page }

abbrev pub HoldsBy : Bool → Known → Known → List ℕ → List ℕ → Type 0
HoldsBy false start sink waiting text =
    (out : List ℕ) × Appends start sink out × (text ≡ out ++ waiting)
HoldsBy true start sink waiting text = AppendsPart start sink text

-- Of a text written since the sink held `start`, the sink has a prefix and the rest is buffered. If
-- a write failed, the sink has a prefix.
abbrev pub Holds : Known → List ℕ → Output → Type 0
Holds start text at = HoldsBy at.broken start at.sink at.waiting text

-- A text was passed on: it follows whatever text was written before.
pub record HandsOver (old new : Output) (text : List ℕ) : Type 0 where
  pub holds : (start : Known) (before : List ℕ)
      → Holds start before old → Holds start (before ++ text) new
