use Rattle.ddcmp_frame.proofs.WireLaws.{six-spelled, spelled-six}
use Rattle.ddcmp_frame.proofs.FrameLaws.{one_header}
use Rattle.ddcmp_frame.proofs.laws.spellings.Goals as goal

pub returns-clause-spelled : goal.returns-clause-spelled
returns-clause-spelled c = six-spelled

pub returns-clause-one : goal.returns-clause-one
returns-clause-one c = spelled-six

pub returns-clause-same : goal.returns-clause-same
returns-clause-same c = one_header
