use Rattle.std.proofs.Common.{arith}
use Rattle.std.proofs.lemmas.Grind.{common_steps}
use Rattle.ddcmp_window.proofs.slot_store.SlotStoreStore.push.Goals as goal

pub index_mut-slot-requires : goal.index_mut-slot-requires
index_mut-slot-requires c = grind (arith, common_steps) steps 2000000

pub unreachable-requires : goal.unreachable-requires
unreachable-requires c = grind (arith, common_steps) steps 2000000

pub overflow_add-self : goal.overflow_add-self
overflow_add-self c = grind (arith, common_steps) steps 2000000

pub invariant_of-self : goal.invariant_of-self
invariant_of-self c = grind (arith, common_steps) steps 2000000

pub returns-clause-messages : goal.returns-clause-messages
returns-clause-messages c = grind (arith, common_steps) steps 2000000
