use Rattle.std.proofs.Common.{sym, ◌∙◌}
use Rattle.ddcmp_streams.proofs.ErrorsLaws.{line-then, line-none, queues-into}
use Rattle.ddcmp_bridge.proofs.reports.report_line.Goals as goal

pub returns-then-begin_line : goal.returns-then-begin_line
returns-then-begin_line c =
    line-then _ _ _ _ _ _ _ _ (sym c.begin_line.ensures.room ∙ c.if-begin_line.true)
    c.begin_line.ensures.begun
    (queues-into _ _ c.queue_line.new.queue _ c.errors.view_is c.queue_line.ensures)

pub returns-else-begin_line : goal.returns-else-begin_line
returns-else-begin_line c =
    line-none _ _ _ _ _ _ _ (sym c.begin_line.ensures.room ∙ c.if-begin_line.false)
    c.begin_line.ensures.begun
