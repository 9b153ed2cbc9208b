use borrow.Author.Rules.{rules}
use Rattle.ddcmp_station.proofs.driver.send_frame.Goals as goal

pub poll-requires : goal.poll-requires
poll-requires g c = search rules

pub slice_bounds-write_all-end : goal.slice_bounds-write_all-end
slice_bounds-write_all-end g c = search rules

pub slice_bounds-write_all-end-in-Some : goal.slice_bounds-write_all-end-in-Some
slice_bounds-write_all-end-in-Some g c = search rules

pub write_all-requires : goal.write_all-requires
write_all-requires g c = search rules

pub returns-in-None-clause-station : goal.returns-in-None-clause-station
returns-in-None-clause-station g c = search rules

pub returns-in-None-clause-writes : goal.returns-in-None-clause-writes
returns-in-None-clause-writes g c = search rules

pub returns-in-None-clause-within : goal.returns-in-None-clause-within
returns-in-None-clause-within g c = search rules

pub returns-in-None-clause-broken : goal.returns-in-None-clause-broken
returns-in-None-clause-broken g c = search rules

pub returns-in-Ok-clause-station : goal.returns-in-Ok-clause-station
returns-in-Ok-clause-station g c = search rules

pub returns-in-Ok-clause-within : goal.returns-in-Ok-clause-within
returns-in-Ok-clause-within g c = search rules

pub returns-in-Ok-clause-broken : goal.returns-in-Ok-clause-broken
returns-in-Ok-clause-broken g c = search rules

pub returns-in-Err-clause-station : goal.returns-in-Err-clause-station
returns-in-Err-clause-station g c = search rules

pub returns-in-Err-clause-within : goal.returns-in-Err-clause-within
returns-in-Err-clause-within g c = search rules

pub returns-in-Err-clause-broken : goal.returns-in-Err-clause-broken
returns-in-Err-clause-broken g c = search rules
