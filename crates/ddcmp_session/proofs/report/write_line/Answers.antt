use Rattle.std.proofs.Common.{sym, ◌∙◌}
use Rattle.ddcmp_streams.proofs.ErrorsLaws.{line-then, line-none, queues-into}
use Rattle.ddcmp_session.proofs.report.write_line.Goals as goal

pub returns-then-begin_line : goal.returns-then-begin_line
returns-then-begin_line c =
    line-then _ _ _ _ _ _ _ _ (sym c.begin_line.ensures.room ∙ c.if-begin_line.true)
    c.begin_line.ensures.begun
    (queues-into _ _ c.write_report.new.out _ c.errors.view_is c.write_report.ensures)

pub returns-else-begin_line : goal.returns-else-begin_line
returns-else-begin_line c =
    line-none _ _ _ _ _ _ _ (sym c.begin_line.ensures.room ∙ c.if-begin_line.false)
    c.begin_line.ensures.begun
