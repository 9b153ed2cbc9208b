use Rattle.std.proofs.Common.{ap, ◌∙◌}
use Rattle.ddcmp_session.specs.Session.{SessionView}
use Rattle.ddcmp_session.proofs.FrameLaws.{frames-line}
use Rattle.ddcmp_laws.proofs.session_steps.fills.Goals as goal

pub returns-clause-line : goal.returns-clause-line
returns-clause-line c =
    ap (λ (s : SessionView). s.link.station.line) c.fill.ensures.frames.1
    ∙ frames-line c.fill.ensures.frames.0 c.args.session.now.state.link

pub returns-clause-done : goal.returns-clause-done
returns-clause-done c = λ text.
    (c.fill.ensures.frames.0, (c.fill.ensures.frames.1, c.fill.ensures.filled))
