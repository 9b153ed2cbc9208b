use Rattle.std.proofs.Common.{arith}
use Rattle.ddcmp_window.specs.Inside.Cuts.{length-cut}
use Rattle.ddcmp_window.proofs.ring_store.RingStoreStore.len.Goals as goal

pub returns : goal.returns
returns c = omega (arith, length-cut)
