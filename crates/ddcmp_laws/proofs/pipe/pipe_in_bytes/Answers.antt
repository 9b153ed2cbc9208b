use Rattle.ddcmp_laws.specs.Pipe.{PipesBytes, PipesWhole}
use Rattle.ddcmp_laws.proofs.Outcomes.{bytes_a, bytes_b, whole_a, whole_b, over_honest}
use Rattle.ddcmp_laws.proofs.pipe.pipe_in_bytes.Goals as goal

pub returns-clause-to_b : goal.returns-clause-to_b
returns-clause-to_b c = over_honest (λ first second p. PipesBytes first second p.a p.b) bytes_b

pub returns-clause-to_a : goal.returns-clause-to_a
returns-clause-to_a c = over_honest (λ first second p. PipesBytes second first p.b p.a) bytes_a

pub returns-clause-whole_to_b : goal.returns-clause-whole_to_b
returns-clause-whole_to_b c = over_honest (λ first second p. PipesWhole first second p.a p.b)
    whole_b

pub returns-clause-whole_to_a : goal.returns-clause-whole_to_a
returns-clause-whole_to_a c = over_honest (λ first second p. PipesWhole second first p.b p.a)
    whole_a
