use Rattle.ddcmp_laws.specs.LinkLines.{LinkIsAsleep, LinkIsDelivered, LinksAreUp}
use Rattle.ddcmp_laws.proofs.Sleeping.{asleep_a, asleep_b}
use Rattle.ddcmp_laws.proofs.TwoLinks.{from_new}
use Rattle.ddcmp_laws.proofs.links.links_sleep_when_done.Goals as goal

pub returns-clause-from_a : goal.returns-clause-from_a
returns-clause-from_a c =
    from_new (λ p. LinksAreUp p → LinkIsAsleep p.a.link → LinkIsDelivered p.a p.b) asleep_a

pub returns-clause-from_b : goal.returns-clause-from_b
returns-clause-from_b c =
    from_new (λ p. LinksAreUp p → LinkIsAsleep p.b.link → LinkIsDelivered p.b p.a) asleep_b
