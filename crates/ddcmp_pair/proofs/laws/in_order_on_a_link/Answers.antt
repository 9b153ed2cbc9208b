use Rattle.ddcmp_pair.proofs.Reached.{reached-in-order, reached-counts, reached-window}
use Rattle.ddcmp_pair.proofs.laws.in_order_on_a_link.Goals as goal

pub returns-clause-order : goal.returns-clause-order
returns-clause-order c = reached-in-order

pub returns-clause-counts : goal.returns-clause-counts
returns-clause-counts c = reached-counts

pub returns-clause-outstanding : goal.returns-clause-outstanding
returns-clause-outstanding c = reached-window
