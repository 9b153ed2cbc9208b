use Rattle.std.proofs.Common.{arith, rules}
use Rattle.ddcmp_num.proofs.Tables.{six_by_tables}
use Rattle.ddcmp_num.proofs.check_six.Goals as goal

pub returns : goal.returns
returns c =
    rw (
      c.byte_check.ensures,
      c.byte_check-2.ensures,
      c.byte_check-3.ensures,
      c.byte_check-4.ensures,
      c.byte_check-5.ensures,
      c.byte_check-6.ensures,
    )
    (six_by_tables c.args.bytes.now (omega arith) (search rules))
