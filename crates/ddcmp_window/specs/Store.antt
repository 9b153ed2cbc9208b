-- The messages of a store, and what is copied out of it.
use Rattle.std.specs.Prelude.{ℕ, ◌<◌, ◌≤◌, List, [], ◌∷◌, ◌++◌, length, drop, slice_index_or}
use Rattle.std.specs.Prelude.{Option, Some, None}
use Rattle.ddcmp_num.specs.declared.limits.TheConstants.{MAX_COUNT, MAX_WINDOW}

-- the messages and their lengths are within a store's limits, which are in their ranges
pub record IsStored (limit longest : ℕ) (messages : List (List ℕ)) : Type 0 where
  pub limit_min : 1 ≤ limit
  pub limit_max : limit ≤ MAX_WINDOW
  pub longest_min : 1 ≤ longest
  pub longest_max : longest ≤ MAX_COUNT
  pub count : length messages ≤ limit
  pub lengths : (i : ℕ) → i < length messages
      → (1 ≤ length (slice_index_or messages i []))
      × (length (slice_index_or messages i []) ≤ longest)

-- the first message, if there is one
abbrev pub first_message : List (List ℕ) → Option (List ℕ)
first_message [] = None
first_message (message ∷ rest) = Some message

-- a slice after a message, if there is one, was copied to its front
abbrev pub with_front : Option (List ℕ) → List ℕ → List ℕ
with_front None slice = slice
with_front (Some message) slice = message ++ drop (length message) slice
