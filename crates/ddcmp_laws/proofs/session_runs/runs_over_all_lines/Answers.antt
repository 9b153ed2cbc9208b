use Rattle.ddcmp_laws.proofs.AllLinesWritten.{kept-a, kept-b}
use Rattle.ddcmp_laws.proofs.session_runs.runs_over_all_lines.Goals as goal

pub returns-clause-order : goal.returns-clause-order
returns-clause-order c = λ a b lines f g done_a done_b none_a none_b go. (
  (kept-b a b lines f g done_a done_b none_a none_b go).in_order,
  (kept-a a b lines f g done_a done_b none_a none_b go).in_order,
)

pub returns-clause-binary : goal.returns-clause-binary
returns-clause-binary c = λ a b lines f g done_a done_b none_a none_b go. (
  (kept-b a b lines f g done_a done_b none_a none_b go).written,
  (kept-a a b lines f g done_a done_b none_a none_b go).written,
)

pub returns-clause-lines : goal.returns-clause-lines
returns-clause-lines c = λ a b lines f g done_a done_b none_a none_b go. (
  (kept-b a b lines f g done_a done_b none_a none_b go).lines,
  (kept-a a b lines f g done_a done_b none_a none_b go).lines,
)

pub returns-clause-all_in_binary : goal.returns-clause-all_in_binary
returns-clause-all_in_binary c = λ a b lines f g done_a done_b none_a none_b go. (
  (kept-b a b lines f g done_a done_b none_a none_b go).all_written,
  (kept-a a b lines f g done_a done_b none_a none_b go).all_written,
)

pub returns-clause-all_in_lines : goal.returns-clause-all_in_lines
returns-clause-all_in_lines c = λ a b lines f g done_a done_b none_a none_b go. (
  (kept-b a b lines f g done_a done_b none_a none_b go).all_lines,
  (kept-a a b lines f g done_a done_b none_a none_b go).all_lines,
)
