use Rattle.ddcmp_pair.proofs.KeptLaws.{cut-nothing, no-ends}
use Rattle.ddcmp_pair.proofs.messages.Messages.clear.Goals as goal

pub invariant_of-self : goal.invariant_of-self
invariant_of-self c = rw (c.clear-2.ensures.items, c.clear.ensures.items) no-ends

pub returns : goal.returns
returns c = rw (c.clear-2.ensures.items) (cut-nothing c.clear.new.self.items)
