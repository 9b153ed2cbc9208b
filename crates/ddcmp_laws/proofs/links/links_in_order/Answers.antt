use Rattle.ddcmp_laws.specs.Links.{LinkReaches}
use Rattle.ddcmp_laws.proofs.TwoLinks.{from_new, reaches_a, reaches_b}
use Rattle.ddcmp_laws.proofs.links.links_in_order.Goals as goal

pub returns-clause-to_b : goal.returns-clause-to_b
returns-clause-to_b c = from_new (λ p. LinkReaches p.a p.b) reaches_b

pub returns-clause-to_a : goal.returns-clause-to_a
returns-clause-to_a c = from_new (λ p. LinkReaches p.b p.a) reaches_a
