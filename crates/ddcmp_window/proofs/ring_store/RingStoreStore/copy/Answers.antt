use Rattle.std.proofs.Common.{ℕ, ◌<◌, [], length, arith}
use Rattle.std.proofs.lemmas.List.{length-take-le}
use Rattle.std.proofs.lemmas.List.Sums.{sum_by_more_le}
use Rattle.ddcmp_window.specs.Inside.Cuts.{length-cut, get_or-cut, length-get_or-cut}
use Rattle.ddcmp_window.proofs.ring_store.RingStoreStore.copy.Goals as goal

pub length_of-length-requires : goal.length_of-length-requires
length_of-length-requires c = omega (arith, length-cut)

pub bytes_before-requires : goal.bytes_before-requires
bytes_before-requires c = omega (arith, length-cut)

pub slice_bounds-copy_across-end : goal.slice_bounds-copy_across-end
slice_bounds-copy_across-end c =
    let store = c.args.self.now in
    let count = length-cut store.lengths.items store.ring.items in
    omega (
      arith,
      length-get_or-cut store.lengths.items store.ring.items c.args.i [] (omega arith)
          (omega arith),
    )

pub slice_bounds-copy_across-end-2 : goal.slice_bounds-copy_across-end-2
slice_bounds-copy_across-end-2 c =
    let store = c.args.self.now in
    let count = length-cut store.lengths.items store.ring.items in
    let size =
    length-get_or-cut store.lengths.items store.ring.items c.args.i [] (omega arith)
    (omega arith) in
    omega (arith, length-take-le c.length_of-length.result c.args.out.now (omega arith))

pub copy_across-requires : goal.copy_across-requires
copy_across-requires c =
    let store = c.args.self.now in
    let count = length-cut store.lengths.items store.ring.items in
    let there : c.args.i < length store.lengths.items = omega arith in
    let size =
    length-get_or-cut store.lengths.items store.ring.items c.args.i [] there (omega arith) in
    let part = length-take-le c.length_of-length.result c.args.out.now (omega arith) in
    rw c.as_slices.ensures
    (omega (arith, sum_by_more_le (λ (n : ℕ). n) store.lengths.items c.args.i 0 there))

pub returns-clause-length : goal.returns-clause-length
returns-clause-length c =
    let store = c.args.self.now in
    let count = length-cut store.lengths.items store.ring.items in
    omega (
      arith,
      length-get_or-cut store.lengths.items store.ring.items c.args.i [] (omega arith)
          (omega arith),
    )

pub returns-clause-out : goal.returns-clause-out
returns-clause-out c =
    let store = c.args.self.now in
    let count = length-cut store.lengths.items store.ring.items in
    let there : c.args.i < length store.lengths.items = omega arith in
    let size =
    length-get_or-cut store.lengths.items store.ring.items c.args.i [] there (omega arith) in
    let part = length-take-le c.length_of-length.result c.args.out.now (omega arith) in
    rw (
      c.copy_across.ensures,
      c.as_slices.ensures,
      size,
      get_or-cut store.lengths.items store.ring.items c.args.i [] there,
    ) cc
