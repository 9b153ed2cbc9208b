use Rattle.std.proofs.Common.{arith}
use Rattle.ddcmp_line.proofs.Cutting.{cut-found, cut-none}
use Rattle.ddcmp_line.proofs.command.cut.Goals as goal

pub returns-then-line-at-eq32 : goal.returns-then-line-at-eq32
returns-then-line-at-eq32 c =
    cut-found 32 c.loop-at.at c.args.line.now c.loop-at-test.true c.if-line-at-eq32.true
    c.loop-at.invariant

pub returns : goal.returns
returns c =
    cut-none 32 c.loop-at.at c.args.line.now
    (omega (arith, c.loop-at-test.false, c.loop-at.auto.at-end)) c.loop-at.invariant
