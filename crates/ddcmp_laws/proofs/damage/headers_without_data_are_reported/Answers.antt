use Rattle.ddcmp_laws.proofs.PassedLaws.{no_data_items, no_data_closed}
use Rattle.ddcmp_laws.proofs.damage.headers_without_data_are_reported.Goals as goal

pub returns-clause-reported : goal.returns-clause-reported
returns-clause-reported c = no_data_items

pub returns-clause-closed : goal.returns-clause-closed
returns-clause-closed c = no_data_closed
