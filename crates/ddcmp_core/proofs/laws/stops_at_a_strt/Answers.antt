use Rattle.ddcmp_core.proofs.RestartLaws.{restart-told, stops, fault-stays}
use Rattle.ddcmp_core.proofs.laws.stops_at_a_strt.Goals as goal

pub returns-clause-told : goal.returns-clause-told
returns-clause-told c = restart-told

pub returns-clause-stops : goal.returns-clause-stops
returns-clause-stops c = stops

pub returns-clause-faults : goal.returns-clause-faults
returns-clause-faults c = fault-stays
