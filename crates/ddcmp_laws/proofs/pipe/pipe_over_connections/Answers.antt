use Rattle.ddcmp_laws.specs.Pipe.{Pipes, PipesAll, PipesBytes, PipesWhole}
use Rattle.ddcmp_laws.proofs.Outcomes.{all_a, all_b, bytes_a, bytes_b, pipes_a, pipes_b, whole_a}
use Rattle.ddcmp_laws.proofs.Outcomes.{whole_b, over_streams}
use Rattle.ddcmp_laws.proofs.pipe.pipe_over_connections.Goals as goal

pub returns-clause-to_b : goal.returns-clause-to_b
returns-clause-to_b c = over_streams (λ first second p. Pipes first p.a p.b) pipes_b

pub returns-clause-to_a : goal.returns-clause-to_a
returns-clause-to_a c = over_streams (λ first second p. Pipes second p.b p.a) pipes_a

pub returns-clause-all_to_b : goal.returns-clause-all_to_b
returns-clause-all_to_b c = over_streams (λ first second p. PipesAll first p.a p.b) all_b

pub returns-clause-all_to_a : goal.returns-clause-all_to_a
returns-clause-all_to_a c = over_streams (λ first second p. PipesAll second p.b p.a) all_a

pub returns-clause-bytes_to_b : goal.returns-clause-bytes_to_b
returns-clause-bytes_to_b c = over_streams (λ first second p. PipesBytes first second p.a p.b)
    bytes_b

pub returns-clause-bytes_to_a : goal.returns-clause-bytes_to_a
returns-clause-bytes_to_a c = over_streams (λ first second p. PipesBytes second first p.b p.a)
    bytes_a

pub returns-clause-whole_to_b : goal.returns-clause-whole_to_b
returns-clause-whole_to_b c = over_streams (λ first second p. PipesWhole first second p.a p.b)
    whole_b

pub returns-clause-whole_to_a : goal.returns-clause-whole_to_a
returns-clause-whole_to_a c = over_streams (λ first second p. PipesWhole second first p.b p.a)
    whole_a
