use Rattle.std.proofs.Common.{arith}
use Rattle.ddcmp_window.specs.Inside.Cuts.{sum_by-cut}
use Rattle.ddcmp_window.proofs.ring_store.RingStoreStore.bytes.Goals as goal

pub returns : goal.returns
returns c = omega (arith, sum_by-cut)
