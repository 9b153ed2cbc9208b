-- The first bytes of the incomplete frame, updated byte by byte.
use Rattle.std.specs.Prelude.{◌≡◌, ◌⊎◌, ℕ, ◌+◌, ◌-◌, ◌<◌, ◌≤◌, List, [], ◌∷◌, ◌++◌, drop, length}
use Rattle.std.specs.Prelude.{take}
use Rattle.ddcmp_explain.specs.declared.head.Head.{Head}

-- `head` has the number of bytes of the incomplete frame, and the first eight of them.
pub record Heads (head : Head) (rest : List ℕ) : Type 0 where
  pub counted : head.count ≡ length rest
  pub short : length rest < 8 → take head.count head.bytes ≡ rest
  pub full : 8 ≤ length rest → head.bytes ≡ take 8 rest

-- What is incomplete after one more byte: a suffix of what was and this byte. A frame whose header
-- is complete stays incomplete or ends.
pub record Follows (rest : List ℕ) (b : ℕ) (more : List ℕ) : Type 0 where
  pub within : length more ≤ length rest + 1
  pub suffix : more ≡ drop (length rest + 1 - length more) (rest ++ b ∷ [])
  pub whole : 8 ≤ length rest → (length more ≡ length rest + 1) ⊎ (more ≡ [])
