-- What is left of a source of which bytes were read before they were needed.
use Rattle.std.specs.Prelude.{ℕ, ◌++◌, List, drop, option_map}
use Rattle.std.specs.Io.KnownBytes.{Keeps}
use Rattle.ddcmp_io.specs.Device.{ReadGives}
use Rattle.ddcmp_io.specs.declared.device.Got.{Got}
use Rattle.ddcmp_io.specs.Written.{Known}

-- the early bytes that weren't returned yet, and what the source has left, if that is known
abbrev pub unread : ℕ → List ℕ → Known → Known
unread taken early left = option_map (λ rest. drop taken early ++ rest) left

-- a read of one source, during which no byte of the other was lost
abbrev pub Reads : Known → Known → Known → Known → Got → List ℕ → Type 0
Reads old new other_old other_new got buf = ReadGives old new got buf × Keeps other_old other_new
