use Rattle.ddcmp_input.proofs.GrammarLaws.{reads-line}
use Rattle.ddcmp_input.proofs.dump_laws.lines_are_read.Goals as goal

pub returns : goal.returns
returns c line digits end is ends = reads-line end is ends
