use Rattle.std.proofs.Common.{[], arith}
use Rattle.ddcmp_window.specs.Inside.Cuts.{length-cut, length-get_or-cut}
use Rattle.ddcmp_window.proofs.ring_store.RingStoreStore.length.Goals as goal

pub length_of-requires : goal.length_of-requires
length_of-requires c = omega (arith, length-cut)

pub returns : goal.returns
returns c =
    let store = c.args.self.now in
    let count = length-cut store.lengths.items store.ring.items in
    omega (
      arith,
      length-get_or-cut store.lengths.items store.ring.items c.args.i [] (omega arith)
          (omega arith),
    )
