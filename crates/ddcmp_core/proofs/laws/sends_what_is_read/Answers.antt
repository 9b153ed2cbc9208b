use Rattle.ddcmp_core.proofs.StartLaws.{read_sent}
use Rattle.ddcmp_core.proofs.laws.sends_what_is_read.Goals as goal

pub returns : goal.returns
returns c = λ l s u f h e. read_sent l s f u h e
