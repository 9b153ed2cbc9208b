use Rattle.ddcmp_laws.proofs.LinkCalls.{new_same, step_same, history_same, offers_sent}
use Rattle.ddcmp_laws.proofs.links.link_calls_are_calls.Goals as goal

pub returns-clause-begins : goal.returns-clause-begins
returns-clause-begins c = new_same

pub returns-clause-call : goal.returns-clause-call
returns-clause-call c = step_same

pub returns-clause-history : goal.returns-clause-history
returns-clause-history c = history_same

pub returns-clause-offers : goal.returns-clause-offers
returns-clause-offers c = offers_sent
