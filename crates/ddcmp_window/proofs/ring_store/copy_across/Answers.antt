use Rattle.std.proofs.Common.{◌-◌, length, take, drop}
use Rattle.ddcmp_window.proofs.Across.{part-append, put_mid-behind}
use Rattle.ddcmp_window.proofs.ring_store.copy_across.Goals as goal

pub returns : goal.returns
returns c =
    let first = take (c.min-2.result - c.min.result) (drop c.min.result c.args.front.now) in
    let second =
    take (c.saturating_sub-2.result - c.saturating_sub.result)
    (drop c.saturating_sub.result c.args.back.now) in
    let part = part-append c.args.start (length c.args.out.now) c.args.front.now c.args.back.now in
    rw (
      part,
      c.copy_from_slice.ensures.after,
      c.copy_from_slice-2.ensures.after,
      put_mid-behind first (drop (length first) c.args.out.now) second,
    ) cc
