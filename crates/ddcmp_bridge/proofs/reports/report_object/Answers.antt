use Rattle.std.proofs.Common.{sym, ◌∙◌}
use Rattle.ddcmp_streams.proofs.ErrorsLaws.{line-then, line-none, queues-into}
use Rattle.ddcmp_bridge.proofs.reports.report_object.Goals as goal

pub returns-then-begin_object : goal.returns-then-begin_object
returns-then-begin_object c =
    line-then _ _ _ _ _ _ _ _ (sym c.begin_object.ensures.room ∙ c.if-begin_object.true)
    c.begin_object.ensures.begun
    (queues-into _ _ c.queue_object.new.queue _ c.errors.view_is c.queue_object.ensures)

pub returns-else-begin_object : goal.returns-else-begin_object
returns-else-begin_object c =
    line-none _ _ _ _ _ _ _ (sym c.begin_object.ensures.room ∙ c.if-begin_object.false)
    c.begin_object.ensures.begun
