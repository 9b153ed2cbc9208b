use Rattle.ddcmp_laws.proofs.CountLaws.{counted_in_run}
use Rattle.ddcmp_laws.proofs.runs.counts_what_was_done.Goals as goal

pub returns : goal.returns
returns c = counted_in_run
