use Rattle.ddcmp_laws.proofs.LastRuns.{runs-together}
use Rattle.ddcmp_laws.proofs.RunLaws.{lines-to-a, lines-to-b, reads_over_lines}
use Rattle.ddcmp_laws.proofs.session_runs.runs_over_each_line.Goals as goal

pub returns-clause-to_b : goal.returns-clause-to_b
returns-clause-to_b c = lines-to-b

pub returns-clause-to_a : goal.returns-clause-to_a
returns-clause-to_a c = lines-to-a

pub returns-clause-connected_to_b : goal.returns-clause-connected_to_b
returns-clause-connected_to_b c = λ a b f g done_a done_b ready_a ready_b ran.
    lines-to-b a b f g done_a done_b
    (runs-together a b f g done_a done_b ready_a ready_b ran)

pub returns-clause-connected_to_a : goal.returns-clause-connected_to_a
returns-clause-connected_to_a c = λ a b f g done_a done_b ready_a ready_b ran.
    lines-to-a a b f g done_a done_b
    (runs-together a b f g done_a done_b ready_a ready_b ran)

pub returns-clause-input : goal.returns-clause-input
returns-clause-input c = reads_over_lines
