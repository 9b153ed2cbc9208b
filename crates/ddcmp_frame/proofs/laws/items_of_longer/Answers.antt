use Rattle.ddcmp_frame.proofs.ReadingLaws.{items-more, ending-more}
use Rattle.ddcmp_frame.proofs.laws.items_of_longer.Goals as goal

pub returns-clause-items : goal.returns-clause-items
returns-clause-items c = items-more

pub returns-clause-ending : goal.returns-clause-ending
returns-clause-ending c = ending-more
