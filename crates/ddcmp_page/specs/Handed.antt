-- How an output gets to a page.
use Rattle.std.specs.Prelude.{◌≡◌, ◌⊎◌, ℕ, ◌<◌, ◌≤◌, List, ◌++◌, length, drop}
use Rattle.ddcmp_page.specs.declared.codes.TheConstants.{ROOM}

-- It is in front of the room, and the code of the call is returned; or the room is too short. In
-- both cases its length is stored.
abbrev pub Hands : List ℕ → ℕ → List ℕ → List ℕ → ℕ → ℕ → Type 0
Hands output code room after written result =
    (written ≡ length output)
    × (((length output ≤ length room) × (result ≡ code) × (after ≡ output ++ drop written room))
    ⊎ ((length room < length output) × (result ≡ ROOM) × (after ≡ room)))

-- There is no output, and no place of a fault; the room is as it was.
abbrev pub HandsNothing : List ℕ → List ℕ → ℕ → ℕ → Type 0
HandsNothing room after written place = (written ≡ 0) × (place ≡ 0) × (after ≡ room)
