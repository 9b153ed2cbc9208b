use Rattle.std.proofs.Common.{◌≡◌, ◌/◌, ◌%◌, ◌∙◌, arith, rules}
use Rattle.ddcmp_num.proofs.Tables.{push_by_eight}
use Rattle.ddcmp_num.proofs.block_check.Check.push_eight.Goals as goal

pub returns : goal.returns
returns c = λ text h.
    let high : c.self.inside.register / 256 % 256 ≡ c.self.inside.register / 256 = omega arith in
    rw (
      c.byte_check.ensures,
      c.byte_check-2.ensures,
      c.byte_check-3.ensures,
      c.byte_check-4.ensures,
      c.byte_check-5.ensures,
      c.byte_check-6.ensures,
      c.byte_check-7.ensures,
      c.byte_check-8.ensures,
      c.to_le_bytes.ensures,
      high,
    )
    (push_by_eight text c.args.bytes.now c.self.inside.register (omega arith) (omega arith)
    (search rules) (c.self.view_is ∙ h))
