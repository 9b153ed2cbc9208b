-- Recovery in any order: a line at rest, and then twice both timers expire and it comes to rest
-- again.
use Rattle.std.specs.Prelude.{◌≡◌, Bool, true, false, ◌||◌, List, [], ◌∷◌, length, None}
use Rattle.ddcmp_core.specs.declared.state.State.TheVariants.{Running}
use Rattle.ddcmp_io.specs.declared.carrier.End.{End}
use Rattle.ddcmp_io.specs.declared.carrier.End.TheVariants.{A, B}
use Rattle.ddcmp_pair.specs.declared.event.Event.{Event}
use Rattle.ddcmp_pair.specs.declared.event.Event.TheVariants as event
use Rattle.ddcmp_pair.specs.Run.{EndState, PairState, handed_up, line_bytes}
use Rattle.ddcmp_pair.specs.Settle.{settling, settled}
use Rattle.ddcmp_pair.specs.Recovery.{rounding, rounded, recovered}
use Rattle.ddcmp_laws.specs.LossFree.{Line, empty_line, IsLossFree, run_on_line}
use Rattle.ddcmp_laws.specs.Rests.{GoesOn}

-- nothing is in flight, and neither end has a frame to send
pub record IsAtRest (l : Line) : Type 0 where
  pub none_to_a : l.to_a ≡ []
  pub none_to_b : l.to_b ≡ []
  pub idle_a : line_bytes l.pair.a ≡ None
  pub idle_b : line_bytes l.pair.b ≡ None

-- the timer of this end expires
abbrev pub is_expiry : End → Event → Bool
is_expiry A (event.Expire A) = true
is_expiry B (event.Expire B) = true
is_expiry _ _ = false

-- the timer of this end expires among these events
unfoldable pub runs_out : End → List Event → Bool
runs_out end [] = false
runs_out end (e ∷ rest) = is_expiry end e || runs_out end rest

-- The events of a round in any order: nothing is lost, no end starts or halts, the timer of each
-- end expires at least once, at any time (an expiry has no effect if the timer is off), and the
-- line comes to rest.
pub record IsRoundInAnyOrder (events : List Event) (l : Line) : Type 0 where
  pub goes_on : GoesOn events
  pub loss_free : IsLossFree events l
  pub expires_a : runs_out A events ≡ true
  pub expires_b : runs_out B events ≡ true
  pub rests : IsAtRest (run_on_line events l)

-- An end runs, and the number of its messages reported acknowledged is that delivered at the other.
pub record IsTold (from to : EndState) : Type 0 where
  pub runs : from.core.station.state ≡ Running
  pub acknowledged : from.acknowledged ≡ length (handed_up to)

-- both ends run, and all that was delivered is reported acknowledged
pub record AreTold (p : PairState) : Type 0 where
  pub from_a : IsTold p.a p.b
  pub from_b : IsTold p.b p.a

-- The events of a recovery in lock step, on a line on which nothing is in flight: they settle it,
-- and then are two rounds as above. Each of the three leaves nothing in flight.
pub record IsTwoRounds (p : PairState) : Type 0 where
  pub goes_on : GoesOn (settling p).events
  pub loss_free : IsLossFree (settling p).events (empty_line p)
  pub settles : run_on_line (settling p).events (empty_line p) ≡ empty_line (settled p)
  pub rests : IsAtRest (empty_line (settled p))
  pub once : IsRoundInAnyOrder (rounding (settled p)).events (empty_line (settled p))
  pub leads : run_on_line (rounding (settled p)).events (empty_line (settled p))
      ≡ empty_line (rounded (settled p))
  pub twice : IsRoundInAnyOrder (rounding (rounded (settled p))).events
      (empty_line (rounded (settled p)))
  pub ends : run_on_line (rounding (rounded (settled p))).events
      (empty_line (rounded (settled p))) ≡ empty_line (recovered p)
