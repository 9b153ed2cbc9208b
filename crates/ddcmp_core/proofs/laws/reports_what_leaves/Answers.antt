use Rattle.ddcmp_core.proofs.ToldLaws.{told_and_left}
use Rattle.ddcmp_core.proofs.laws.reports_what_leaves.Goals as goal

pub returns : goal.returns
returns c = told_and_left
