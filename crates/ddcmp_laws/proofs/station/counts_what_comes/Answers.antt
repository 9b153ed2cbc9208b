use Rattle.ddcmp_laws.proofs.CameLaws.{counts_faults, counts_replies, counts_none}
use Rattle.ddcmp_laws.proofs.station.counts_what_comes.Goals as goal

pub returns-clause-faults : goal.returns-clause-faults
returns-clause-faults c = counts_faults

pub returns-clause-replies : goal.returns-clause-replies
returns-clause-replies c = counts_replies

pub returns-clause-elsewhere : goal.returns-clause-elsewhere
returns-clause-elsewhere c = counts_none
