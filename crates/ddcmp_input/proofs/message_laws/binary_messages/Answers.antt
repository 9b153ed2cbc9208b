use Rattle.ddcmp_input.proofs.BinaryLaws.{one_then, all_messages, empty_then, long_then}
use Rattle.ddcmp_input.proofs.message_laws.binary_messages.Goals as goal

pub returns-clause-message : goal.returns-clause-message
returns-clause-message c = one_then

pub returns-clause-messages : goal.returns-clause-messages
returns-clause-messages c = all_messages

pub returns-clause-empty : goal.returns-clause-empty
returns-clause-empty c = empty_then

pub returns-clause-long : goal.returns-clause-long
returns-clause-long c = long_then
