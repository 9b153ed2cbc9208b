use Rattle.std.proofs.Common.{◌≡◌, ◌≤◌, ◌*◌, take, sum}
use Rattle.ddcmp_window.proofs.ring_store.sum_of.Given as goal

abbrev pub invariant-loop-length : goal.invariant-loop-length
invariant-loop-length l = record {
  value : l.total ≡ sum (take l.length-index l.lengths);
  bound : l.total ≤ l.length-index * 65535;
}
