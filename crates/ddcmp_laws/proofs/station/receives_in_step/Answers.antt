use Rattle.ddcmp_laws.proofs.StationLaws.{takes_next, takes_no_other, takes_none_without_room}
use Rattle.ddcmp_laws.proofs.StationLaws.{takes_nothing_else}
use Rattle.ddcmp_laws.proofs.station.receives_in_step.Goals as goal

pub returns-clause-next : goal.returns-clause-next
returns-clause-next c = takes_next

pub returns-clause-other : goal.returns-clause-other
returns-clause-other c = takes_no_other

pub returns-clause-full : goal.returns-clause-full
returns-clause-full c = takes_none_without_room

pub returns-clause-none : goal.returns-clause-none
returns-clause-none c = takes_nothing_else
