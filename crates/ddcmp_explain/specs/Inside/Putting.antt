-- A text that is assembled in an array, piece by piece.
use Rattle.std.specs.Prelude.{◌≡◌, ℕ, ◌+◌, List, ◌++◌, length, take}

-- A text was put after the first `at` bytes: it ends at `end`, and the bytes before `at` are kept.
pub record Puts (old : List ℕ) (at : ℕ) (new : List ℕ) (end : ℕ) (text : List ℕ) : Type 0 where
  pub ends : end ≡ at + length text
  pub holds : take end new ≡ take at old ++ text
