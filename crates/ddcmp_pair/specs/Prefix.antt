-- Prefixes of lists.
use Rattle.std.specs.Prelude.{◌≡◌, ℕ, List, ◌++◌}

-- these messages are a prefix of the list
abbrev pub IsPrefixOf : List (List ℕ) → List (List ℕ) → Type 0
IsPrefixOf front whole = (rest : List (List ℕ)) × (front ++ rest ≡ whole)
