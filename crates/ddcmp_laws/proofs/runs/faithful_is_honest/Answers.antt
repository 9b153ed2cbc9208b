use Rattle.ddcmp_laws.proofs.FaithfulLaws.{writes_what_it_answers, faithful_is_honest}
use Rattle.ddcmp_laws.proofs.runs.faithful_is_honest.Goals as goal

pub returns-clause-wrote : goal.returns-clause-wrote
returns-clause-wrote c = writes_what_it_answers

pub returns-clause-honest : goal.returns-clause-honest
returns-clause-honest c = faithful_is_honest
