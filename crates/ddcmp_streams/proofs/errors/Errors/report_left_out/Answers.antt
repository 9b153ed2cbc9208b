use Rattle.std.proofs.Common.{ap, sym, ◌∙◌}
use Rattle.ddcmp_streams.specs.Errors.{ErrorsView}
use Rattle.ddcmp_streams.proofs.ErrorsLaws.{reports-noted}
use Rattle.ddcmp_streams.proofs.errors.Errors.report_left_out.Goals as goal

pub returns : goal.returns
returns c =
    reports-noted _ _ _ _ (sym c.reports_left_out.ensures ∙ c.if-not-reports_left_out.false)
    c.write_stamp.ensures c.write_left_out.ensures
    (ap (λ (e : ErrorsView). record e { left_out = 0 }) c.self.view_is)
