-- What was read of an input to detect its form.
use Rattle.std.specs.Prelude.{ℕ, ◌<◌, List, length, take}
use Rattle.std.specs.Io.KnownBytes.{Consumes, IsAtEnd}
use Rattle.ddcmp_io.specs.Written.{Known}
use Rattle.ddcmp_explain.specs.declared.opening.Opening.{Opening}
use Rattle.ddcmp_explain.specs.declared.opening.Opening.TheVariants.{Whole, Ended, Failed}

-- 64 bytes were read; or the input has fewer; or a read failed before either was known
abbrev pub Opens : Known → Known → Opening → List ℕ → Type 0
Opens old new Whole bytes = Consumes old new bytes
Opens old new (Ended n) bytes = (n < 64) × Consumes old new (take n bytes) × IsAtEnd new
Opens old new Failed bytes = (seen : List ℕ) × (length seen < 64) × Consumes old new seen
