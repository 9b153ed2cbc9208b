use Rattle.ddcmp_pair.proofs.Ordered.{run-of, run-in-order, run-linked, no-restart}
use Rattle.ddcmp_pair.proofs.laws.in_order.Goals as goal

pub returns-clause-order : goal.returns-clause-order
returns-clause-order c = λ first second events f g. run-in-order _ (run-of first second events f g)

pub returns-clause-links : goal.returns-clause-links
returns-clause-links c =
    λ first second events f g h k. run-linked _ (run-of first second events f g) h k

pub returns-clause-no_restart : goal.returns-clause-no_restart
returns-clause-no_restart c =
    λ first second events e f g k h. no-restart e _ (run-of first second events f g) k h
