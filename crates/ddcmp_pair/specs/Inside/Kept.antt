-- Messages and frames that are stored one after another in one allocation.
use Rattle.std.specs.Prelude.{◌≡◌, ℕ, ◌-◌, ◌≤◌, List, [], ◌∷◌, drop, take}
use Rattle.ddcmp_pair.specs.Place.{WholeFrame}

-- bytes from an offset on, cut where messages end
unfoldable pub cut_from : ℕ → List ℕ → List ℕ → List (List ℕ)
cut_from at [] bytes = []
cut_from at (end ∷ ends) bytes = take (end - at) (drop at bytes) ∷ cut_from end ends bytes

-- ends in their order, the last of which is that of all bytes
unfoldable pub AreEnds : ℕ → List ℕ → ℕ → Type 0
AreEnds at [] size = at ≡ size
AreEnds at (end ∷ ends) size = (at ≤ end) × AreEnds end ends size

-- The stored messages, and how many more bytes and messages there is room for.
pub record MessagesView : Type 0 where
  pub all : List (List ℕ)
  pub spare_bytes : ℕ
  pub spare : ℕ

-- The same for frames.
pub record FramesView : Type 0 where
  pub all : List WholeFrame
  pub spare_bytes : ℕ
  pub spare : ℕ
