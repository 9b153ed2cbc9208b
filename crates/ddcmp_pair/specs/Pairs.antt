-- What a pair is: two new stations after some list of events.
use Rattle.std.specs.Prelude.{◌≡◌, Bool, false, List, None}
use Rattle.ddcmp_proto.specs.Config.{first_refusal}
use Rattle.ddcmp_proto.specs.declared.config.Config.{Config}
use Rattle.ddcmp_io.specs.declared.carrier.End.TheVariants.{A, B}
use Rattle.ddcmp_pair.specs.declared.event.Event.{Event}
use Rattle.ddcmp_pair.specs.Choices.{after_choice}
use Rattle.ddcmp_pair.specs.Run.{PairState, new_pair, run}

-- two new stations, at both of which the user has chosen when messages are acknowledged
abbrev pub new_pair_by : Bool → Config → Config → PairState
new_pair_by by_user first second =
    after_choice B by_user (after_choice A by_user (new_pair first second))

-- A pair after some list of events, from two such stations of any sizes in range.
pub record IsRunBy (by_user : Bool) (p : PairState) : Type 0 where
  pub first : Config
  pub second : Config
  pub first_made : first_refusal first ≡ None
  pub second_made : first_refusal second ≡ None
  pub events : List Event
  pub leads : run events (new_pair_by by_user first second) ≡ p

-- The same from two new stations that are as they were made.
abbrev pub IsRun : PairState → Type 0
IsRun p = IsRunBy false p
