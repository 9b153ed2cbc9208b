use Rattle.std.proofs.Common.{refl, true}
use Rattle.ddcmp_laws.proofs.Finished.{took_all}
use Rattle.ddcmp_laws.proofs.endings.finished_runs_write_all.Goals as goal

pub returns : goal.returns
returns c = λ ran held t after last does fin.
    took_all true ran held t after last does fin (fin.finishes.well refl).0 refl
