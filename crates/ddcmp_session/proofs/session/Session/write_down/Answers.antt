use Rattle.std.proofs.Common.{◌∙◌, ◌++◌, codes, subst, sym}
use Rattle.ddcmp_streams.specs.Errors.{HasLine}
use Rattle.ddcmp_streams.specs.declared.errors.TheConstants.{SHORT_LINE}
use Rattle.ddcmp_session.proofs.session.Session.write_down.Goals as goal

pub returns-clause-errors : goal.returns-clause-errors
returns-clause-errors c =
    rw (sym c.self.view_is) (subst
    (λ t. HasLine SHORT_LINE (codes "line down: " ++ t ++ codes "\n") c.self.inside.errors
    c.write_line.new.self)
    (c.as_bytes.ensures.value ∙ c.words.ensures) c.write_line.ensures)
