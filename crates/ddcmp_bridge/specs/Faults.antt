-- The faults that a bridge applies to good frames, drawn from a seed.
use Rattle.std.specs.Prelude.{ℕ, ◌+◌, ◌-◌, ◌/◌, ◌%◌, ◌<◌, ◌≤◌, ⊤, List, [], ◌∷◌, ◌++◌, length}
use Rattle.std.specs.Prelude.{if◌then◌else◌, nat_lt, bit_xor, slice_set, slice_index_or}
use Rattle.rand_pcg.specs.Lcg.{Lcg, started, increment_of}
use Rattle.rand_pcg.specs.Pcg.{multiplier_64, pcg32}
use Rattle.ddcmp_frame.specs.declared.header.Header.{Header}
use Rattle.ddcmp_frame.specs.Wire.{wire}
use Rattle.ddcmp_bridge.specs.declared.faults.Faults.{Faults}
use Rattle.ddcmp_bridge.specs.declared.faults.Fate.{Fate}
use Rattle.ddcmp_bridge.specs.declared.faults.Fate.TheVariants.{Passed, Lost, Altered}

-- the random generator of a direction of a bridge
abbrev pub start_of : ℕ → ℕ → Lcg
start_of seed direction = started 64 multiplier_64 seed (increment_of 64 direction)

-- two words are drawn for each frame, whatever its fate
abbrev pub next_draws : Lcg → Lcg
next_draws draws = (pcg32 (pcg32 draws).1).1

-- The fate of a frame of `size` bytes. The first word decides whether it is lost, and if not,
-- whether it is damaged; the second, which of its bytes (never the first) and how.
abbrev pub fate_by : Faults → ℕ → ℕ → ℕ → Fate
fate_by faults size first second =
    if nat_lt (first % 100) faults.lose then Lost
    else if nat_lt (first / 100 % 100) faults.damage
    then Altered (1 + second % (size - 1)) (1 + second / 65536 % 255)
    else Passed

abbrev pub fate_drawn : Faults → Lcg → ℕ → Fate
fate_drawn faults draws size =
    fate_by faults size (pcg32 draws).0 (pcg32 (pcg32 draws).1).0

-- the byte that is altered isn't the first, is within `size` bytes, and does change
abbrev pub IsWithin : ℕ → Fate → Type 0
IsWithin size (Altered at by) = (1 ≤ at) × (at < size) × (1 ≤ by) × (by < 256)
IsWithin size Passed = ⊤
IsWithin size Lost = ⊤

-- a frame with one byte changed
abbrev pub altered : ℕ → ℕ → List ℕ → List ℕ
altered at by frame = slice_set frame at (bit_xor (slice_index_or frame at 0) by)

-- the bytes of a frame after its fate
abbrev pub after_fate : Fate → List ℕ → List ℕ
after_fate Passed frame = frame
after_fate Lost frame = []
after_fate (Altered at by) frame = altered at by frame

-- the fates of frames, one after another
unfoldable pub fates : Faults → Lcg → List (Header × List ℕ) → List Fate
fates faults draws [] = []
fates faults draws (frame ∷ rest) =
    fate_drawn faults draws (length (wire frame.0 frame.1)) ∷ fates faults (next_draws draws) rest

-- the generator after these frames
unfoldable pub draws_after : Lcg → List (Header × List ℕ) → Lcg
draws_after draws [] = draws
draws_after draws (frame ∷ rest) = draws_after (next_draws draws) rest

-- the bytes of these frames after these fates, one after another
unfoldable pub left_of : List (Header × List ℕ) → List Fate → List ℕ
left_of (frame ∷ rest) (fate ∷ others) =
    after_fate fate (wire frame.0 frame.1) ++ left_of rest others
left_of _ _ = []

-- whether a frame of this fate was lost, as 1 or 0; and whether it was altered
abbrev pub loses : Fate → ℕ
loses Lost = 1
loses Passed = 0
loses (Altered at by) = 0

abbrev pub alters : Fate → ℕ
alters (Altered at by) = 1
alters Passed = 0
alters Lost = 0

unfoldable pub lost_of : List Fate → ℕ
lost_of [] = 0
lost_of (fate ∷ rest) = loses fate + lost_of rest

unfoldable pub altered_of : List Fate → ℕ
altered_of [] = 0
altered_of (fate ∷ rest) = alters fate + altered_of rest
