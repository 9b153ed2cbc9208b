use Rattle.ddcmp_laws.proofs.DamageLaws.{data_burst, data_byte}
use Rattle.ddcmp_laws.proofs.damage.damaged_data_are_detected.Goals as goal

pub returns-clause-burst : goal.returns-clause-burst
returns-clause-burst c = data_burst

pub returns-clause-one_byte : goal.returns-clause-one_byte
returns-clause-one_byte c = data_byte
