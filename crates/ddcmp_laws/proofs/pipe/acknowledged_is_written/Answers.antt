use Rattle.ddcmp_laws.specs.Written.{PipesWritten}
use Rattle.ddcmp_laws.proofs.AnewPipes.{written_anew_a, written_anew_b}
use Rattle.ddcmp_laws.proofs.Outcomes.{over_honest, over_streams, written_a, written_b}
use Rattle.ddcmp_laws.proofs.pipe.acknowledged_is_written.Goals as goal

pub returns-clause-to_b : goal.returns-clause-to_b
returns-clause-to_b c = over_honest (λ first second p. PipesWritten first second p.a p.b) written_b

pub returns-clause-to_a : goal.returns-clause-to_a
returns-clause-to_a c = over_honest (λ first second p. PipesWritten second first p.b p.a) written_a

pub returns-clause-connected_to_b : goal.returns-clause-connected_to_b
returns-clause-connected_to_b c =
    over_streams (λ first second p. PipesWritten first second p.a p.b) written_b

pub returns-clause-connected_to_a : goal.returns-clause-connected_to_a
returns-clause-connected_to_a c =
    over_streams (λ first second p. PipesWritten second first p.b p.a) written_a

pub returns-clause-anew_to_b : goal.returns-clause-anew_to_b
returns-clause-anew_to_b c = written_anew_b

pub returns-clause-anew_to_a : goal.returns-clause-anew_to_a
returns-clause-anew_to_a c = written_anew_a
