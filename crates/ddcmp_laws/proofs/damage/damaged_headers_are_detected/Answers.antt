use Rattle.ddcmp_laws.proofs.DamageLaws.{header_burst, header_byte}
use Rattle.ddcmp_laws.proofs.damage.damaged_headers_are_detected.Goals as goal

pub returns-clause-burst : goal.returns-clause-burst
returns-clause-burst c = header_burst

pub returns-clause-one_byte : goal.returns-clause-one_byte
returns-clause-one_byte c = header_byte
