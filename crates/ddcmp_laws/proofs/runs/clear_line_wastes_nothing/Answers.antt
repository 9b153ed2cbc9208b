use Rattle.ddcmp_laws.proofs.ClearLaws.{clear_wastes_nothing}
use Rattle.ddcmp_laws.proofs.runs.clear_line_wastes_nothing.Goals as goal

pub returns : goal.returns
returns c = clear_wastes_nothing
