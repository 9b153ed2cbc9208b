-- A startup of two ends of any sizes, and what it makes possible.
use Rattle.std.specs.Prelude.{◌≡◌, true, List, [], ◌∷◌, map}
use Rattle.ddcmp_core.specs.declared.state.State.TheVariants.{Running}
use Rattle.ddcmp_proto.specs.declared.config.Config.{Config}
use Rattle.ddcmp_io.specs.declared.carrier.End.TheVariants.{A, B}
use Rattle.ddcmp_pair.specs.declared.event.Event.{Event}
use Rattle.ddcmp_pair.specs.declared.event.Event.TheVariants as event
use Rattle.ddcmp_pair.specs.Run.{PairState, run, new_pair, is_clean}
use Rattle.ddcmp_laws.specs.Story.{startup, event_in}

abbrev pub both_start : List Event
both_start = event.Start A ∷ event.Start B ∷ []

-- both ends after the startup that is written out
abbrev pub started : Config → Config → PairState
started first second = run (map event_in startup) (new_pair first second)

-- both ends run, over an honest line, and neither started twice
pub record IsUp (p : PairState) : Type 0 where
  pub honest : p.honest ≡ true
  pub clean : is_clean p ≡ true
  pub a_runs : p.a.core.station.state ≡ Running
  pub b_runs : p.b.core.station.state ≡ Running
