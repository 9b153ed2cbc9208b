use Rattle.ddcmp_laws.proofs.Settling.{settles, whole_again, most}
use Rattle.ddcmp_laws.proofs.settles.settles_in_any_order.Goals as goal

pub returns-clause-frames : goal.returns-clause-frames
returns-clause-frames c = settles

pub returns-clause-whole : goal.returns-clause-whole
returns-clause-whole c = whole_again

pub returns-clause-most : goal.returns-clause-most
returns-clause-most c = most
