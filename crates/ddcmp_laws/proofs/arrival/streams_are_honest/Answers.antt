use Rattle.ddcmp_laws.proofs.MergeSteps.{streams-honest}
use Rattle.ddcmp_laws.proofs.arrival.streams_are_honest.Goals as goal

pub returns : goal.returns
returns c = streams-honest
