use Rattle.std.proofs.Common.{◌≡◌, true}
use Rattle.ddcmp_station.specs.Linking.{delivered}
use Rattle.ddcmp_laws.specs.Links.{received}
use Rattle.ddcmp_laws.proofs.TwoLinks.{all_to_a, all_to_b, from_new}
use Rattle.ddcmp_laws.proofs.links.delivered_over_an_honest_line.Goals as goal

pub returns-clause-to_b : goal.returns-clause-to_b
returns-clause-to_b c =
    from_new (λ p. delivered p.a.link ≡ true → received p.b ≡ p.a.accepted) all_to_b

pub returns-clause-to_a : goal.returns-clause-to_a
returns-clause-to_a c =
    from_new (λ p. delivered p.b.link ≡ true → received p.a ≡ p.b.accepted) all_to_a
