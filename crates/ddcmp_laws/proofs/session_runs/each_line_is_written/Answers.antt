use Rattle.ddcmp_laws.proofs.LastRuns.{runs-together}
use Rattle.ddcmp_laws.proofs.RunLaws.{writes-line-a, writes-line-b}
use Rattle.ddcmp_laws.proofs.session_runs.each_line_is_written.Goals as goal

pub returns-clause-to_b : goal.returns-clause-to_b
returns-clause-to_b c = writes-line-b

pub returns-clause-to_a : goal.returns-clause-to_a
returns-clause-to_a c = writes-line-a

pub returns-clause-connected_to_b : goal.returns-clause-connected_to_b
returns-clause-connected_to_b c = λ a b f g done_a done_b ready_a ready_b ran.
    writes-line-b a b f g done_a done_b
    (runs-together a b f g done_a done_b ready_a ready_b ran)

pub returns-clause-connected_to_a : goal.returns-clause-connected_to_a
returns-clause-connected_to_a c = λ a b f g done_a done_b ready_a ready_b ran.
    writes-line-a a b f g done_a done_b
    (runs-together a b f g done_a done_b ready_a ready_b ran)
