use Rattle.std.proofs.Common.{◌∙◌, ap, get_or, [], arith}
use Rattle.ddcmp_num.specs.declared.check_tables.TheConstants.{BYTE_CHECKS}
use Rattle.ddcmp_num.proofs.Tables.{table-check}
use Rattle.ddcmp_num.proofs.check_tables.byte_check.Goals as goal

pub returns : goal.returns
returns c =
    ap (λ i. get_or (get_or BYTE_CHECKS c.args.zeros []) i 0) c.from.ensures
    ∙ table-check c.args.zeros c.args.byte (omega arith) (omega arith)
