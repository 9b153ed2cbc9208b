use Rattle.ddcmp_laws.proofs.PositionLaws.{numbers_are_positions}
use Rattle.ddcmp_laws.proofs.runs.numbers_are_positions.Goals as goal

pub returns : goal.returns
returns c = numbers_are_positions
