use Rattle.ddcmp_laws.proofs.ConnectionLaws.{once-together}
use Rattle.ddcmp_laws.proofs.Finished.{arrives}
use Rattle.ddcmp_laws.proofs.LastRuns.{runs-together}
use Rattle.ddcmp_laws.proofs.RunLaws.{all-to-a, all-to-b}
use Rattle.ddcmp_laws.proofs.endings.files_arrive.Goals as goal

pub returns-clause-to_b : goal.returns-clause-to_b
returns-clause-to_b c = λ a b f g done_a done_b together.
    arrives a b done_b (all-to-b a b f g done_a done_b together)

pub returns-clause-to_a : goal.returns-clause-to_a
returns-clause-to_a c = λ a b f g done_a done_b together.
    arrives b a done_a (all-to-a a b f g done_a done_b together)

pub returns-clause-connected_to_b : goal.returns-clause-connected_to_b
returns-clause-connected_to_b c = λ a b f g done_a done_b once_a once_b streams.
    arrives a b done_b
    (all-to-b a b f g done_a done_b
    (once-together a b f g done_a done_b once_a once_b streams))

pub returns-clause-connected_to_a : goal.returns-clause-connected_to_a
returns-clause-connected_to_a c = λ a b f g done_a done_b once_a once_b streams.
    arrives b a done_a
    (all-to-a a b f g done_a done_b
    (once-together a b f g done_a done_b once_a once_b streams))

pub returns-clause-last_to_b : goal.returns-clause-last_to_b
returns-clause-last_to_b c = λ a b f g done_a done_b ready_a ready_b ran.
    arrives a b done_b
    (all-to-b a b f g done_a done_b (runs-together a b f g done_a done_b ready_a ready_b ran))

pub returns-clause-last_to_a : goal.returns-clause-last_to_a
returns-clause-last_to_a c = λ a b f g done_a done_b ready_a ready_b ran.
    arrives b a done_a
    (all-to-a a b f g done_a done_b (runs-together a b f g done_a done_b ready_a ready_b ran))
