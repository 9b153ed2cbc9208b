use Rattle.std.proofs.Common.{◌∙◌, ap, sym}
use Rattle.ddcmp_io.proofs.TextLaws.{sends-as}
use Rattle.ddcmp_session.specs.EndText.{end_line}
use Rattle.ddcmp_station.specs.Linking.{LinkView}
use Rattle.ddcmp_streams.proofs.ErrorsLaws.{line-then, queues-into}
use Rattle.ddcmp_session.proofs.session.Session.report_last_line.Goals as goal

pub returns-then-begin_line-clause-errors : goal.returns-then-begin_line-clause-errors
returns-then-begin_line-clause-errors c =
    rw (sym c.self.view_is)
    (line-then _ _ _ _ _ _ _ _ (sym c.begin_line.ensures.room ∙ c.if-begin_line.true)
    c.begin_line.ensures.begun
    (queues-into _ _ c.write_end.new.out _ (ap (λ s. s.errors) c.self-inside.view_is)
    (sends-as
    (ap (λ (d : LinkView). end_line d) (ap (λ s. s.link) c.self-inside.view_is))
    c.write_end.ensures)))
