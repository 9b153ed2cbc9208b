use Rattle.ddcmp_pair.proofs.Modulo.{forward-near, forward-next, back-within, back-distance}
use Rattle.ddcmp_pair.proofs.laws.numbers_determine_positions.Goals as goal

pub returns-clause-near : goal.returns-clause-near
returns-clause-near c = forward-near

pub returns-clause-next : goal.returns-clause-next
returns-clause-next c = forward-next

pub returns-clause-within : goal.returns-clause-within
returns-clause-within c = back-within

pub returns-clause-newly : goal.returns-clause-newly
returns-clause-newly c = back-distance
