use Rattle.ddcmp_core.proofs.StartLaws.{data_sent}
use Rattle.ddcmp_core.proofs.laws.sends_in_window.Goals as goal

pub returns : goal.returns
returns c = λ l s u resp num message h e. data_sent l s resp num message u h e
