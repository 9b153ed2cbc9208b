use Rattle.std.proofs.Common.{ap, get_or, arith}
use Rattle.ddcmp_explain.specs.declared.hex_digits.TheConstants.{HEX_VALUES}
use Rattle.ddcmp_explain.proofs.HexValues.{value-of-digit, no-digit}
use Rattle.ddcmp_explain.proofs.hex_digits.hex_value.Goals as goal

pub returns-then-value-lt16-clause-value : goal.returns-then-value-lt16-clause-value
returns-then-value-lt16-clause-value c =
    value-of-digit c.args.byte _ (omega arith) (ap (λ i. get_or HEX_VALUES i 0) c.from.ensures)
    c.if-value-lt16.true

pub returns-else-value-lt16-clause-value : goal.returns-else-value-lt16-clause-value
returns-else-value-lt16-clause-value c =
    no-digit c.args.byte _ (omega arith) (ap (λ i. get_or HEX_VALUES i 0) c.from.ensures)
    c.if-value-lt16.false
