use Rattle.ddcmp_laws.proofs.CallLaws.{sends_in_order, hands_up_in_order}
use Rattle.ddcmp_laws.proofs.station.maintenance_is_in_order.Goals as goal

pub returns-clause-sent : goal.returns-clause-sent
returns-clause-sent c = λ l s calls e. sends_in_order l calls s e

pub returns-clause-handed_up : goal.returns-clause-handed_up
returns-clause-handed_up c = λ l s calls e. hands_up_in_order l calls s e
