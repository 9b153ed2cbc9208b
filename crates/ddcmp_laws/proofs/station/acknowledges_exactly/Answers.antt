use Rattle.ddcmp_laws.proofs.StationLaws.{acknowledges, passes_over, ignores, receives_as_a}
use Rattle.ddcmp_laws.proofs.StationLaws.{takes_back_the_rep}
use Rattle.ddcmp_laws.proofs.station.acknowledges_exactly.Goals as goal

pub returns-clause-within : goal.returns-clause-within
returns-clause-within c = acknowledges

pub returns-clause-no_rep : goal.returns-clause-no_rep
returns-clause-no_rep c = takes_back_the_rep

pub returns-clause-beyond : goal.returns-clause-beyond
returns-clause-beyond c = passes_over

pub returns-clause-ignored : goal.returns-clause-ignored
returns-clause-ignored c = ignores

pub returns-clause-received : goal.returns-clause-received
returns-clause-received c = receives_as_a
