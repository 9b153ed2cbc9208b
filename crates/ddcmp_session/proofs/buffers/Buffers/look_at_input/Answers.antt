use Rattle.std.proofs.Common.{refl}
use Rattle.ddcmp_session.proofs.GoingLaws.{stays, goes-then}
use Rattle.ddcmp_session.proofs.InputGoes.{ends}
use Rattle.ddcmp_session.proofs.LinesGo.{same-err}
use Rattle.ddcmp_session.proofs.ReadyLaws.{ended-ready}
use Rattle.ddcmp_session.proofs.buffers.Buffers.look_at_input.Goals as goal

pub returns-then-not-awaits_end-clause-on : goal.returns-then-not-awaits_end-clause-on
returns-then-not-awaits_end-clause-on g c = stays refl refl

pub returns-in-Err-clause-on : goal.returns-in-Err-clause-on
returns-in-Err-clause-on g c = c.in-Err.ensures.on _

pub returns-in-Err-clause-reports : goal.returns-in-Err-clause-reports
returns-in-Err-clause-reports g c = λ fault e. c.in-Err.ensures.reports _ fault (same-err e)

pub returns-then-has_ended-clause-on : goal.returns-then-has_ended-clause-on
returns-then-has_ended-clause-on g c =
    goes-then (c.in-Ok.ensures.on _)
    (ends c.args.session.now.state c.input_ended.new.self.state c.input_ended.ensures.state
    (c.if-not-awaits_end.ensures.takes refl) (c.if-has_ended.ensures.empty refl)
    (c.if-has_ended.ensures.over refl))

pub returns-else-has_ended-clause-on : goal.returns-else-has_ended-clause-on
returns-else-has_ended-clause-on g c = c.in-Ok.ensures.on _

pub returns-then-has_ended-clause-ready : goal.returns-then-has_ended-clause-ready
returns-then-has_ended-clause-ready g c =
    ended-ready c.args.session.now.state c.input_ended.new.self.state c.input_ended.ensures.state
