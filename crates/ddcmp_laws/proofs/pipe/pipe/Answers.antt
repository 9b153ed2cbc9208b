use Rattle.ddcmp_laws.specs.Pipe.{Pipes}
use Rattle.ddcmp_laws.proofs.Outcomes.{pipes_a, pipes_b, over_honest}
use Rattle.ddcmp_laws.proofs.pipe.pipe.Goals as goal

pub returns-clause-to_b : goal.returns-clause-to_b
returns-clause-to_b c = over_honest (λ first second p. Pipes first p.a p.b) pipes_b

pub returns-clause-to_a : goal.returns-clause-to_a
returns-clause-to_a c = over_honest (λ first second p. Pipes second p.b p.a) pipes_a
