-- Prefixes of texts.
use Rattle.std.specs.Prelude.{◌≡◌, ℕ, List, ◌++◌}

-- these bytes are a prefix of the text
abbrev pub Begins : List ℕ → List ℕ → Type 0
Begins front text = (rest : List ℕ) × (front ++ rest ≡ text)
