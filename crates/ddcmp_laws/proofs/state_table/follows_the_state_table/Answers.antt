use Rattle.ddcmp_laws.proofs.StateTableLaws.{expires, halts, receives, sends, starts}
use Rattle.ddcmp_laws.proofs.state_table.follows_the_state_table.Goals as goal

pub returns-clause-receives : goal.returns-clause-receives
returns-clause-receives c = receives

pub returns-clause-sends : goal.returns-clause-sends
returns-clause-sends c = sends

pub returns-clause-starts : goal.returns-clause-starts
returns-clause-starts c = starts

pub returns-clause-halts : goal.returns-clause-halts
returns-clause-halts c = halts

pub returns-clause-expires : goal.returns-clause-expires
returns-clause-expires c = expires
