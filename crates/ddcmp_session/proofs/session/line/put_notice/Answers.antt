use Rattle.std.proofs.Common.{◌∙◌, sym, []}
use Rattle.ddcmp_station.specs.StationText.{notice_line}
use Rattle.ddcmp_streams.proofs.ErrorsLaws.{line-then, line-none, queues-into}
use Rattle.ddcmp_streams.specs.contracts.errors.Errors as errors
use Rattle.ddcmp_session.proofs.session.line.put_notice.Goals as goal

pub returns-then-begin_line : goal.returns-then-begin_line
returns-then-begin_line c =
    line-then _ _ _ _ _ _ _ _ (sym c.begin_line.ensures.room ∙ c.if-begin_line.true)
    c.begin_line.ensures.begun
    (queues-into (errors.the_view c.errors.inside) c.begin_line.new.self c.report_notice.new.out
    (notice_line [] c.args.notice) c.errors.view_is c.report_notice.ensures)

pub returns-else-begin_line : goal.returns-else-begin_line
returns-else-begin_line c =
    line-none _ _ _ _ _ _ _ (sym c.begin_line.ensures.room ∙ c.if-begin_line.false)
    c.begin_line.ensures.begun
