use Rattle.std.proofs.Common.{◌+◌, ◌-◌, ◌*◌, ◌/◌, ap, arith, sym}
use Rattle.std.proofs.lemmas.Fmt.{decimal_digit}
use Rattle.std.proofs.Common.{length}
use lib.Count.{count_leading_zeros}
use Rattle.ddcmp_explain.proofs.PuttingLaws.{power-at, digits-by-bit}
use Rattle.ddcmp_explain.proofs.put.digits_in.Goals as goal

pub returns-then-number-lt10-clause-value : goal.returns-then-number-lt10-clause-value
returns-then-number-lt10-clause-value c =
    sym (ap length (decimal_digit c.args.number c.if-number-lt10.true))

pub returns-then-fewest-number-clause-value : goal.returns-then-fewest-number-clause-value
returns-then-fewest-number-clause-value c =
    let n = c.args.number in
    let power = power-at ((63 - count_leading_zeros 64 n) * 1233 / 4096 + 1) (omega arith) in
    (digits-by-bit n (omega (arith, c.if-number-lt10.false)) (omega arith)).0
    (omega (arith, power, c.if-fewest-number.true))

pub returns-else-fewest-number-clause-value : goal.returns-else-fewest-number-clause-value
returns-else-fewest-number-clause-value c =
    let n = c.args.number in
    let power = power-at ((63 - count_leading_zeros 64 n) * 1233 / 4096 + 1) (omega arith) in
    (digits-by-bit n (omega (arith, c.if-number-lt10.false)) (omega arith)).1
    (omega (arith, power, c.if-fewest-number.false))
