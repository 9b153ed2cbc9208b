use Rattle.std.proofs.Common.{refl}
use Rattle.ddcmp_laws.proofs.PairCallLaws.{run_same, calls_in_order, calls_linked, calls_quiet}
use Rattle.ddcmp_laws.proofs.PairCallLaws.{calls_clean}
use Rattle.ddcmp_laws.proofs.calls.every_caller.Goals as goal

pub returns-clause-order : goal.returns-clause-order
returns-clause-order c = calls_in_order

pub returns-clause-links : goal.returns-clause-links
returns-clause-links c = calls_linked

pub returns-clause-no_restart : goal.returns-clause-no_restart
returns-clause-no_restart c = calls_quiet

pub returns-clause-clean : goal.returns-clause-clean
returns-clause-clean c = calls_clean

pub returns-clause-events : goal.returns-clause-events
returns-clause-events c = λ calls p. run_same calls p p refl
