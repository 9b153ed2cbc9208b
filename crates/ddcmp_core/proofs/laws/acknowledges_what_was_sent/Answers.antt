use Rattle.ddcmp_core.proofs.ToldLaws.{acknowledging_within, newly_within, told_within}
use Rattle.ddcmp_core.proofs.laws.acknowledges_what_was_sent.Goals as goal

pub returns-clause-number : goal.returns-clause-number
returns-clause-number c = acknowledging_within

pub returns-clause-newly : goal.returns-clause-newly
returns-clause-newly c = newly_within

pub returns-clause-told : goal.returns-clause-told
returns-clause-told c = told_within
