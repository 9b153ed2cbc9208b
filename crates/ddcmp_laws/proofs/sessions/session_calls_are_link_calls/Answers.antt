use Rattle.ddcmp_laws.proofs.Histories.{are_calls, are_same, are_offered}
use Rattle.ddcmp_laws.proofs.sessions.session_calls_are_link_calls.Goals as goal

pub returns-clause-calls : goal.returns-clause-calls
returns-clause-calls c = are_calls

pub returns-clause-same : goal.returns-clause-same
returns-clause-same c = are_same

pub returns-clause-offers : goal.returns-clause-offers
returns-clause-offers c = are_offered
