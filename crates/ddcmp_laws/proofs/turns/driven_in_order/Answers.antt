use Rattle.ddcmp_laws.proofs.Delivery.{reaches_a, reaches_b}
use Rattle.ddcmp_laws.proofs.turns.driven_in_order.Goals as goal

pub returns-clause-to_b : goal.returns-clause-to_b
returns-clause-to_b c = reaches_b

pub returns-clause-to_a : goal.returns-clause-to_a
returns-clause-to_a c = reaches_a
