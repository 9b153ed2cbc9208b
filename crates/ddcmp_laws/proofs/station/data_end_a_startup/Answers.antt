use Rattle.ddcmp_laws.proofs.StationLaws.{startup_takes_next, startup_takes_no_other}
use Rattle.ddcmp_laws.proofs.StationLaws.{startup_goes_on}
use Rattle.ddcmp_laws.proofs.station.data_end_a_startup.Goals as goal

pub returns-clause-next : goal.returns-clause-next
returns-clause-next c = startup_takes_next

pub returns-clause-other : goal.returns-clause-other
returns-clause-other c = startup_takes_no_other

pub returns-clause-not_yet : goal.returns-clause-not_yet
returns-clause-not_yet c = startup_goes_on
