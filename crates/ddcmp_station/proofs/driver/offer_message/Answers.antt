use Rattle.ddcmp_station.specs.UserCalls.{Calls}
use Rattle.std.proofs.Common.{arith, rules}
use Rattle.std.proofs.lemmas.Grind.{common_steps}
use Rattle.ddcmp_station.proofs.driver.offer_message.Goals as goal

pub returns-then-ne-clause-state : goal.returns-then-ne-clause-state
returns-then-ne-clause-state g c = search rules

pub returns-then-ne-clause-seen : goal.returns-then-ne-clause-seen
unfolding Calls
returns-then-ne-clause-seen g c = search rules

pub overflow_cast-longest : goal.overflow_cast-longest
overflow_cast-longest g c = search rules

pub slice_bounds-message-end : goal.slice_bounds-message-end
slice_bounds-message-end g c = search rules

pub slice_bounds-message-end-2 : goal.slice_bounds-message-end-2
slice_bounds-message-end-2 g c = search rules

pub slice_bounds-send-end : goal.slice_bounds-send-end
slice_bounds-send-end g c = search rules

pub slice_bounds-send-end-2 : goal.slice_bounds-send-end-2
slice_bounds-send-end-2 g c = search rules

pub returns-in-Ok-clause-state : goal.returns-in-Ok-clause-state
returns-in-Ok-clause-state g c = search rules

pub returns-in-Ok-clause-seen : goal.returns-in-Ok-clause-seen
unfolding Calls
returns-in-Ok-clause-seen g c = grind (arith, common_steps)

pub returns-in-Err-clause-state : goal.returns-in-Err-clause-state
returns-in-Err-clause-state g c = search rules

pub returns-in-Err-clause-seen : goal.returns-in-Err-clause-seen
unfolding Calls
returns-in-Err-clause-seen g c = search rules
