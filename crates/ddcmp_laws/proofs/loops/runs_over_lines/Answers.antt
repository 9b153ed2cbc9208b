use Rattle.ddcmp_laws.specs.Connections.{first_connections}
use Rattle.ddcmp_laws.proofs.OverLines.{are_calls_of_a, is_text_over, runs_over}
use Rattle.ddcmp_laws.proofs.loops.runs_over_lines.Goals as goal

pub returns-clause-history : goal.returns-clause-history
returns-clause-history c = runs_over

pub returns-clause-text : goal.returns-clause-text
returns-clause-text c = is_text_over

pub returns-clause-calls : goal.returns-clause-calls
returns-clause-calls c = λ made other steps.
    are_calls_of_a steps (first_connections made other)
