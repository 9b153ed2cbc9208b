-- What two links did at their line, in one order; and when the line was honest.
use Rattle.std.specs.Prelude.{◌≡◌, ℕ, List, [], ◌∷◌, ◌++◌}
use Rattle.ddcmp_frame.specs.Reading.{good_frames}
use Rattle.ddcmp_io.specs.declared.carrier.End.{End}
use Rattle.ddcmp_io.specs.declared.carrier.End.TheVariants.{A, B}
use Rattle.ddcmp_pair.specs.Place.{IsSubsequence}
use Rattle.ddcmp_session.specs.Traffic.{LineAct, received, sent}

-- the acts of one end, among those of both
abbrev pub acts_if : End → End → LineAct → List LineAct
acts_if A A act = act ∷ []
acts_if B B act = act ∷ []
acts_if _ _ act = []

unfoldable pub acts_of : End → List (End × LineAct) → List LineAct
acts_of e [] = []
acts_of e (step ∷ rest) = acts_if e step.0 step.1 ++ acts_of e rest

-- The good frames in what one end has received, each of at most `max` bytes of data, are a
-- subsequence of those in what the other has written.
abbrev pub AreAmong : ℕ → List LineAct → List LineAct → Type 0
AreAmong max own theirs =
    IsSubsequence (good_frames max (received own)) (good_frames max (sent theirs))

-- This is so at each moment, both ways.
abbrev pub IsHonest : ℕ → ℕ → List (End × LineAct) → Type 0
IsHonest max other_max order = (past future : List (End × LineAct)) → past ++ future ≡ order
    → AreAmong max (acts_of A past) (acts_of B past)
    × AreAmong other_max (acts_of B past) (acts_of A past)
