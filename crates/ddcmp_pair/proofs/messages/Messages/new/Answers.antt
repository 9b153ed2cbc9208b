use Rattle.ddcmp_pair.proofs.KeptLaws.{cut-nothing, no-ends}
use Rattle.ddcmp_pair.proofs.messages.Messages.new.Goals as goal

pub invariant_of-result : goal.invariant_of-result
invariant_of-result c = rw (c.new-2.ensures.items, c.new.ensures.items) no-ends

pub returns : goal.returns
returns c = rw (c.new-2.ensures.items) (cut-nothing c.new.result.items)
