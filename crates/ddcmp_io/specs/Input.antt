-- How many bytes a source has returned.
use Rattle.std.specs.Prelude.{◌≡◌, ℕ, ◌+◌, ◌-◌, ◌≤◌, ◌^◌, length, Some, None, ⊤}
use Rattle.ddcmp_io.specs.Written.{Known}
use Rattle.ddcmp_io.specs.declared.device.Got.{Got}
use Rattle.ddcmp_io.specs.declared.device.Got.TheVariants.{Bytes, Idle, Failed}

-- a read returned no more than this many bytes
abbrev pub GivesWithin : Got → ℕ → Type 0
GivesWithin (Bytes n) room = n ≤ room
GivesWithin Idle room = ⊤
GivesWithin Failed room = ⊤

-- a source returned 2^64 - 1 bytes, if its bytes are known
abbrev pub GaveMost : Known → Known → Type 0
GaveMost (Some input) (Some rest) = length input ≡ length rest + (2 ^ 64 - 1)
GaveMost (Some input) None = ⊤
GaveMost None left = ⊤
