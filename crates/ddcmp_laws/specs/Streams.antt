-- Two stations over streams, each of which yields the bytes that were written to it, in their
-- order.
use Rattle.std.specs.Prelude.{ℕ, List, [], ◌∷◌, ◌++◌}
use Rattle.ddcmp_station.specs.Driving.{Driving}
use Rattle.ddcmp_io.specs.declared.carrier.End.{End}
use Rattle.ddcmp_io.specs.declared.carrier.End.TheVariants.{A, B}
use Rattle.ddcmp_pair.specs.Run.{PairState}
use Rattle.ddcmp_laws.specs.Faithful.{IsFaithful}
use Rattle.ddcmp_laws.specs.Prefix.{Begins}
use Rattle.ddcmp_laws.specs.PairCalls.{Call, after_call}
use Rattle.ddcmp_laws.specs.Driven.{DriveCall, after_drive}

-- ---- calls in any order

-- After each of these calls, what arrived at each end is a prefix of what the other had written.
abbrev pub OverStreams : List (End × Call) → PairState → Type 0
OverStreams [] p = Unit {0}
OverStreams (step ∷ rest) p =
    IsFaithful (after_call step.0 step.1 p) × OverStreams rest (after_call step.0 step.1 p)

-- ---- calls of `drive`, one after another

-- those that are made at this end
abbrev pub drives_if : End → End → DriveCall → List DriveCall
drives_if A A call = call ∷ []
drives_if A B call = []
drives_if B A call = []
drives_if B B call = call ∷ []

unfoldable pub drives_at : End → List (End × DriveCall) → List DriveCall
drives_at e [] = []
drives_at e (step ∷ rest) = drives_if e step.0 step.1 ++ drives_at e rest

-- After a call at one end, the bytes that it has read are a prefix of those that the other had
-- written. The numbers are the fill of each end, and the last arguments how each was driven so far.
abbrev pub ReadsWhatIsWritten : End → ℕ → ℕ → DriveCall → Driving → Driving → Type 0
ReadsWhatIsWritten A m n call a b = Begins (after_drive m call a).text b.written
ReadsWhatIsWritten B m n call a b = Begins (after_drive n call b).text a.written

abbrev pub driven_a : End → ℕ → DriveCall → Driving → Driving
driven_a A m call a = after_drive m call a
driven_a B m call a = a

abbrev pub driven_b : End → ℕ → DriveCall → Driving → Driving
driven_b A n call b = b
driven_b B n call b = after_drive n call b

-- Each of these calls reads only such a prefix.
abbrev pub DrivenInTurn : ℕ → ℕ → List (End × DriveCall) → Driving → Driving → Type 0
DrivenInTurn m n [] a b = Unit {0}
DrivenInTurn m n (step ∷ rest) a b =
    ReadsWhatIsWritten step.0 m n step.1 a b
    × DrivenInTurn m n rest (driven_a step.0 m step.1 a) (driven_b step.0 n step.1 b)
