-- Damage on the line: one byte, or a burst of bits.
use Rattle.std.specs.Prelude.{◌≡◌, ◌≢◌, ℕ, ◌<◌, ◌≤◌, Bool, List, ◌∷◌, ◌++◌, length}
use Rattle.ddcmp_num.specs.Check.{bits, check_of, check_pair}

-- The bits of two texts, in the order in which they are sent, are equal except for at most 16 in a
-- row.
pub record DiffersInABurst (old new : List ℕ) : Type 0 where
  pub front : List Bool
  pub sent : List Bool
  pub came : List Bool
  pub back : List Bool
  pub old_is : bits old ≡ front ++ (sent ++ back)
  pub new_is : bits new ≡ front ++ (came ++ back)
  pub short : length sent ≤ 16
  pub as_long : length came ≡ length sent
  pub other : sent ≢ came

-- two texts are equal except for one byte
pub record DiffersInOneByte (old new : List ℕ) : Type 0 where
  pub front : List ℕ
  pub sent : ℕ
  pub came : ℕ
  pub back : List ℕ
  pub old_is : old ≡ front ++ sent ∷ back
  pub new_is : new ≡ front ++ came ∷ back
  pub sent_byte : sent < 256
  pub came_byte : came < 256
  pub other : sent ≢ came

-- six bytes and their CRC
abbrev pub with_check : List ℕ → List ℕ
with_check six = six ++ check_pair (check_of six)
