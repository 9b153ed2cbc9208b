use Rattle.ddcmp_explain.proofs.AdjoinLaws.{adjoins, counts}
use Rattle.ddcmp_explain.proofs.laws.every_byte_is_in_one_line.Goals as goal

pub returns-clause-adjoin : goal.returns-clause-adjoin
returns-clause-adjoin c = adjoins

pub returns-clause-counts : goal.returns-clause-counts
returns-clause-counts c = counts
