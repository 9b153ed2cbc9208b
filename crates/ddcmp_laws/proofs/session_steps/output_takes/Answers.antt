use Rattle.std.proofs.Common.{◌∙◌, length, min}
use Rattle.ddcmp_session.specs.Session.{taken_when_written}
use Rattle.ddcmp_session.proofs.GoingLaws.{same-at}
use Rattle.ddcmp_session.proofs.TakenLaws.{takes-line}
use Rattle.ddcmp_laws.proofs.session_steps.output_takes.Goals as goal

pub returns-clause-line : goal.returns-clause-line
returns-clause-line c =
    let old = c.args.session.now.state in
    same-at (λ x. x.link.station.line) c.output_took.new.self.state _ c.output_took.ensures.state
    ∙ takes-line (taken_when_written (min c.args.n (length old.output.waiting)) old) old.link
