use Rattle.ddcmp_laws.proofs.LinkRules.{puts, holds, puts_none, has_no_room}
use Rattle.ddcmp_laws.proofs.rules.puts_what_it_has.Goals as goal

pub returns-clause-puts : goal.returns-clause-puts
returns-clause-puts c = puts

pub returns-clause-held : goal.returns-clause-held
returns-clause-held c = holds

pub returns-clause-idle : goal.returns-clause-idle
returns-clause-idle c = puts_none

pub returns-clause-no_room : goal.returns-clause-no_room
returns-clause-no_room c = has_no_room
