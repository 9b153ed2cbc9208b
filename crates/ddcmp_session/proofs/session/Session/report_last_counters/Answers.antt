use Rattle.std.proofs.Common.{◌∙◌, [], ap, sym}
use Rattle.ddcmp_io.proofs.TextLaws.{sends-as}
use Rattle.ddcmp_station.specs.CountersText.{counters_line}
use Rattle.ddcmp_station.specs.Linking.{LinkView}
use Rattle.ddcmp_streams.proofs.ErrorsLaws.{line-then, queues-into}
use Rattle.ddcmp_session.proofs.session.Session.report_last_counters.Goals as goal

pub returns-then-begin_line-clause-errors : goal.returns-then-begin_line-clause-errors
returns-then-begin_line-clause-errors c =
    rw (sym c.self.view_is)
    (line-then _ _ _ _ _ _ _ _ (sym c.begin_line.ensures.room ∙ c.if-begin_line.true)
    c.begin_line.ensures.begun
    (queues-into _ _ c.write_counters_line.new.out _ (ap (λ s. s.errors) c.self-inside.view_is)
    (sends-as
    (ap (λ (d : LinkView). counters_line [] d.station.core.counters)
    (ap (λ s. s.link) c.self-inside.view_is))
    c.write_counters_line.ensures)))
