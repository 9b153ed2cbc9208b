use Rattle.ddcmp_frame.proofs.ReadingLaws.{items-nothing, ending-nothing}
use Rattle.ddcmp_frame.proofs.laws.items_of_nothing.Goals as goal

pub returns-clause-items : goal.returns-clause-items
returns-clause-items c = items-nothing

pub returns-clause-ending : goal.returns-clause-ending
returns-clause-ending c = ending-nothing
