-- Runs in which users also choose when their stations acknowledge: messages when they are received,
-- or messages when they are taken.
use Rattle.std.specs.Prelude.{◌≡◌, ◌≤◌, Bool, true, List, [], ◌∷◌, length}
use Rattle.ddcmp_core.specs.Choosing.{chosen}
use Rattle.ddcmp_io.specs.declared.carrier.End.{End}
use Rattle.ddcmp_io.specs.declared.carrier.End.TheVariants.{A, B}
use Rattle.ddcmp_pair.specs.declared.event.Event.{Event}
use Rattle.ddcmp_pair.specs.Run.{EndState, PairState, with_station, after_event}

-- An event happens; or the user of an end chooses, if its station is halted and its inbox empty.
pub data Act : Type 0 where
  Happens : Event → Act
  Chooses : End → Bool → Act

abbrev pub after_choice_here : Bool → EndState → EndState
after_choice_here by_user x =
    with_station (chosen by_user x.core.station) x

abbrev pub after_choice : End → Bool → PairState → PairState
after_choice A by_user p = record p { a = after_choice_here by_user p.a }
after_choice B by_user p = record p { b = after_choice_here by_user p.b }

abbrev pub after_act : Act → PairState → PairState
after_act (Happens e) p = after_event e p
after_act (Chooses end by_user) p = after_choice end by_user p

-- one act after another
unfoldable pub run_acts : List Act → PairState → PairState
run_acts [] p = p
run_acts (act ∷ rest) p = run_acts rest (after_act act p)

-- If the station at `to` acknowledges messages when they are taken, no more were reported
-- acknowledged to `from` than the user at `to` has taken.
abbrev pub IsAcknowledgedTaken : EndState → EndState → Type 0
IsAcknowledgedTaken from to =
    to.core.station.by_user ≡ true → from.acknowledged ≤ length to.taken
