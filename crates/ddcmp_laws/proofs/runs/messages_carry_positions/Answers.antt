use Rattle.ddcmp_laws.proofs.CarriedLaws.{position_answered, positions_sent}
use Rattle.ddcmp_laws.proofs.runs.messages_carry_positions.Goals as goal

pub returns-clause-answered : goal.returns-clause-answered
returns-clause-answered c = position_answered

pub returns-clause-sent : goal.returns-clause-sent
returns-clause-sent c = positions_sent
