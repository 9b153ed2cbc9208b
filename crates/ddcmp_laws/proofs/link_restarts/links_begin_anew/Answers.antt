use Rattle.std.proofs.Common.{◌≡◌, true}
use Rattle.ddcmp_station.specs.Linking.{delivered}
use Rattle.ddcmp_laws.specs.Links.{LinkReaches, received}
use Rattle.ddcmp_laws.proofs.LinkRestarts.{anew-to-b, anew-to-a, anew-all-to-b, anew-all-to-a}
use Rattle.ddcmp_laws.proofs.LinkRestarts.{again-a, again-b, from_kept}
use Rattle.ddcmp_laws.proofs.link_restarts.links_begin_anew.Goals as goal

pub returns-clause-to_b : goal.returns-clause-to_b
returns-clause-to_b c = from_kept (λ p. LinkReaches p.a p.b) anew-to-b

pub returns-clause-to_a : goal.returns-clause-to_a
returns-clause-to_a c = from_kept (λ p. LinkReaches p.b p.a) anew-to-a

pub returns-clause-all_to_b : goal.returns-clause-all_to_b
returns-clause-all_to_b c =
    from_kept (λ p. delivered p.a.link ≡ true → received p.b ≡ p.a.accepted) anew-all-to-b

pub returns-clause-all_to_a : goal.returns-clause-all_to_a
returns-clause-all_to_a c =
    from_kept (λ p. delivered p.b.link ≡ true → received p.a ≡ p.b.accepted) anew-all-to-a

pub returns-clause-again_a : goal.returns-clause-again_a
returns-clause-again_a c = again-a

pub returns-clause-again_b : goal.returns-clause-again_b
returns-clause-again_b c = again-b
