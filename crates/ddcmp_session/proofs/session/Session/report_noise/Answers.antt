use Rattle.std.proofs.Common.{◌∙◌, ◌++◌, codes, subst, sym}
use Rattle.ddcmp_streams.specs.Errors.{HasLine}
use Rattle.ddcmp_streams.specs.declared.errors.TheConstants.{SHORT_LINE}
use Rattle.ddcmp_session.proofs.session.Session.report_noise.Goals as goal

pub returns-clause-errors : goal.returns-clause-errors
returns-clause-errors c =
    rw (sym c.self.view_is) (subst
    (λ t. HasLine SHORT_LINE
    (codes "ddcmp: " ++ t
    ++ codes " bytes received, no STRT or STACK: other speed or parity, or not DDCMP?\n")
    c.self.inside.errors c.write_line.new.self)
    (c.as_bytes-text.ensures.value ∙ c.format.ensures.text) c.write_line.ensures)
