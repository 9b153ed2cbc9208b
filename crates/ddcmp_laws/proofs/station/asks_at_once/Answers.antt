use Rattle.ddcmp_laws.proofs.StationLaws.{asks_for_unread, asks_for_unkept, asks_for_missing}
use Rattle.ddcmp_laws.proofs.StationLaws.{acknowledges_all}
use Rattle.ddcmp_laws.proofs.station.asks_at_once.Goals as goal

pub returns-clause-fault : goal.returns-clause-fault
returns-clause-fault c = asks_for_unread

pub returns-clause-no_room : goal.returns-clause-no_room
returns-clause-no_room c = asks_for_unkept

pub returns-clause-missing : goal.returns-clause-missing
returns-clause-missing c = asks_for_missing

pub returns-clause-all_came : goal.returns-clause-all_came
returns-clause-all_came c = acknowledges_all
