-- The faults that a bridge draws, by their number.
use Rattle.std.specs.Prelude.{ℕ, zero, suc, ◌+◌, ⊤}
use Rattle.ddcmp_bridge.specs.Faults.{fate_by, loses}
use Rattle.ddcmp_bridge.specs.declared.faults.Faults.{Faults}
use Rattle.ddcmp_bridge.specs.declared.faults.Fate.{Fate}
use Rattle.ddcmp_bridge.specs.declared.faults.Fate.TheVariants.{Passed, Lost, Altered}

-- how many of `n` first words, those from `first` on, lose their frame
unfoldable pub lost_among : Faults → ℕ → ℕ → (ℕ → ℕ) → ℕ → ℕ
lost_among faults size first second zero = 0
lost_among faults size first second (suc n) =
    loses (fate_by faults size (first + n) (second n)) + lost_among faults size first second n

abbrev pub IsAltered : Fate → Type 0
IsAltered (Altered at by) = ⊤
IsAltered Passed = ⊥
IsAltered Lost = ⊥
