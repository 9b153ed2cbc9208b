use Rattle.ddcmp_laws.proofs.Turning.{turns_do, drive_does}
use Rattle.ddcmp_laws.proofs.turns.turns_are_calls.Goals as goal

pub returns-clause-turns : goal.returns-clause-turns
returns-clause-turns c = turns_do

pub returns-clause-drive : goal.returns-clause-drive
returns-clause-drive c = drive_does
