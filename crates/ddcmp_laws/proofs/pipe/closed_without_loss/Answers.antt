use Rattle.ddcmp_laws.proofs.AnewPipes.{closed_anew_a, closed_anew_b}
use Rattle.ddcmp_laws.specs.Pipe.{PipesClosed}
use Rattle.ddcmp_laws.proofs.Outcomes.{closed_a, closed_b, over_honest, over_streams}
use Rattle.ddcmp_laws.proofs.pipe.closed_without_loss.Goals as goal

pub returns-clause-to_b : goal.returns-clause-to_b
returns-clause-to_b c = over_honest (λ first second p. PipesClosed first p.a p.b) closed_b

pub returns-clause-to_a : goal.returns-clause-to_a
returns-clause-to_a c = over_honest (λ first second p. PipesClosed second p.b p.a) closed_a

pub returns-clause-connected_to_b : goal.returns-clause-connected_to_b
returns-clause-connected_to_b c =
    over_streams (λ first second p. PipesClosed first p.a p.b) closed_b

pub returns-clause-connected_to_a : goal.returns-clause-connected_to_a
returns-clause-connected_to_a c =
    over_streams (λ first second p. PipesClosed second p.b p.a) closed_a

pub returns-clause-anew_to_b : goal.returns-clause-anew_to_b
returns-clause-anew_to_b c = closed_anew_b

pub returns-clause-anew_to_a : goal.returns-clause-anew_to_a
returns-clause-anew_to_a c = closed_anew_a
