use Rattle.ddcmp_laws.proofs.StationLaws.{maintenance_elsewhere, nothing_else_in_maintenance}
use Rattle.ddcmp_laws.proofs.StationLaws.{maintenance_handed_up, maintenance_lost, maintenance_sent}
use Rattle.ddcmp_laws.proofs.station.maintenance_stands_apart.Goals as goal

pub returns-clause-elsewhere : goal.returns-clause-elsewhere
returns-clause-elsewhere c = maintenance_elsewhere

pub returns-clause-nothing_else : goal.returns-clause-nothing_else
returns-clause-nothing_else c = nothing_else_in_maintenance

pub returns-clause-handed_up : goal.returns-clause-handed_up
returns-clause-handed_up c = maintenance_handed_up

pub returns-clause-lost : goal.returns-clause-lost
returns-clause-lost c = maintenance_lost

pub returns-clause-sent : goal.returns-clause-sent
returns-clause-sent c = maintenance_sent
