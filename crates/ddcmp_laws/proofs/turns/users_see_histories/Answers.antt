use Rattle.ddcmp_laws.proofs.Seen.{seen_given, seen_taken, seen_acknowledged}
use Rattle.ddcmp_laws.proofs.turns.users_see_histories.Goals as goal

pub returns-clause-given : goal.returns-clause-given
returns-clause-given c = seen_given

pub returns-clause-taken : goal.returns-clause-taken
returns-clause-taken c = seen_taken

pub returns-clause-acknowledged : goal.returns-clause-acknowledged
returns-clause-acknowledged c = seen_acknowledged
