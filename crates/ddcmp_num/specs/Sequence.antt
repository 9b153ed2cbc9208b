-- Numbers modulo 256.
use Rattle.std.specs.Prelude.{ℕ, ◌+◌, ◌-◌, ◌%◌, ◌≤◌}

-- how far b lies ahead of a: b - a modulo 256
abbrev pub distance : ℕ → ℕ → ℕ
distance a b = (b + 256 - a) % 256

-- x lies no further ahead of a than n does
abbrev pub Within : ℕ → ℕ → ℕ → Type 0
Within a x n = distance a x ≤ distance a n
