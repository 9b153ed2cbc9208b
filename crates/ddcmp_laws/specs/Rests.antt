-- A line on which no end starts or halts any more, until nothing is in flight.
use Rattle.std.specs.Prelude.{◌≡◌, ◌≢◌, true, List, [], ◌∷◌, ◌++◌, is_some}
use Rattle.ddcmp_frame.specs.Reading.{good_frames}
use Rattle.ddcmp_core.specs.declared.state.State.TheVariants.{Halted}
use Rattle.ddcmp_pair.specs.declared.event.Event.{Event}
use Rattle.ddcmp_pair.specs.declared.event.Event.TheVariants as event
use Rattle.ddcmp_pair.specs.Place.{place_of}
use Rattle.ddcmp_pair.specs.Run.{is_clean}
use Rattle.ddcmp_laws.specs.LossFree.{Line}

-- no end starts or halts
abbrev pub GoesOn : List Event → Type 0
GoesOn [] = Unit {0}
GoesOn (event.Start e ∷ rest) = ⊥
GoesOn (event.Halt e ∷ rest) = ⊥
GoesOn (e ∷ rest) = GoesOn rest

-- The run was honest and clean, neither end is halted, and all good frames in flight are, in their
-- order, among those that were sent after those that arrived.
pub record IsUnderWay (l : Line) : Type 0 where
  pub honest : l.pair.honest ≡ true
  pub clean : is_clean l.pair ≡ true
  pub awake_a : l.pair.a.core.station.state ≢ Halted
  pub awake_b : l.pair.b.core.station.state ≢ Halted
  pub sent_a : is_some (place_of (good_frames l.pair.a.core.limits.longest
      (l.pair.a.arrived ++ l.to_a)) l.pair.b.sent) ≡ true
  pub sent_b : is_some (place_of (good_frames l.pair.b.core.limits.longest
      (l.pair.b.arrived ++ l.to_b)) l.pair.a.sent) ≡ true
