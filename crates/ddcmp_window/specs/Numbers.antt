-- Computable tests and steps of numbers modulo 256.
use Rattle.std.specs.Prelude.{ℕ, ◌+◌, ◌%◌, Bool, nat_le}
use Rattle.ddcmp_num.specs.Sequence.{distance}

-- the number that follows
abbrev pub next_number : ℕ → ℕ
next_number x = (x + 1) % 256

-- the test of Within
abbrev pub is_within : ℕ → ℕ → ℕ → Bool
is_within a x n = nat_le (distance a x) (distance a n)
