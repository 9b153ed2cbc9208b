use Rattle.ddcmp_laws.specs.Pipe.{PipesAll}
use Rattle.ddcmp_laws.proofs.Outcomes.{all_a, all_b, over_honest}
use Rattle.ddcmp_laws.proofs.pipe.pipe_is_whole.Goals as goal

pub returns-clause-to_b : goal.returns-clause-to_b
returns-clause-to_b c = over_honest (λ first second p. PipesAll first p.a p.b) all_b

pub returns-clause-to_a : goal.returns-clause-to_a
returns-clause-to_a c = over_honest (λ first second p. PipesAll second p.b p.a) all_a
