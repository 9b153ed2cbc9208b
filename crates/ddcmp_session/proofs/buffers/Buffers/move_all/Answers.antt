use Rattle.std.proofs.Common.{◌∙◌, ap}
use Rattle.ddcmp_session.specs.Logged.{LoggedSession}
use Rattle.ddcmp_session.specs.Session.{SessionView}
use Rattle.ddcmp_session.proofs.RestLaws.{none, as-ok, comes-to-rest}
use Rattle.ddcmp_session.proofs.GoingLaws.{stays, goes-then, filled-goes, reports-then, passed-on}
use Rattle.ddcmp_session.proofs.buffers.Buffers.move_all.Goals as goal

pub returns-in_err-moved-clause-on : goal.returns-in_err-moved-clause-on
returns-in_err-moved-clause-on g c =
    goes-then
    (filled-goes c.args.session.now.state c.fill.new.self.state c.fill.ensures.frames
    c.fill.ensures.filled)
    (goes-then c.write_line-moved.ensures.on
    c.read_input.ensures.on)

pub returns-in_err-moved-clause-reports : goal.returns-in_err-moved-clause-reports
returns-in_err-moved-clause-reports g c = λ fault e.
    reports-then
    (filled-goes c.args.session.now.state c.fill.new.self.state c.fill.ensures.frames
    c.fill.ensures.filled)
    (reports-then c.write_line-moved.ensures.on
    (c.in_err-moved.ensures.reports fault (passed-on c.from_residual.ensures.1 e)))

pub returns-in_err-moved-2-clause-on : goal.returns-in_err-moved-2-clause-on
returns-in_err-moved-2-clause-on g c =
    goes-then
    (filled-goes c.args.session.now.state c.fill.new.self.state c.fill.ensures.frames
    c.fill.ensures.filled)
    (goes-then c.write_line-moved.ensures.on
    (goes-then c.read_input.ensures.on
    c.pass_input.ensures.on))

pub returns-in_err-moved-2-clause-reports : goal.returns-in_err-moved-2-clause-reports
returns-in_err-moved-2-clause-reports g c = λ fault e.
    reports-then
    (filled-goes c.args.session.now.state c.fill.new.self.state c.fill.ensures.frames
    c.fill.ensures.filled)
    (reports-then c.write_line-moved.ensures.on
    (reports-then c.read_input.ensures.on
    (c.in_err-moved-2.ensures.reports fault (passed-on c.from_residual-in_err-moved-2.ensures.1
    e))))

pub returns-in_err-moved-3-clause-on : goal.returns-in_err-moved-3-clause-on
returns-in_err-moved-3-clause-on g c =
    goes-then
    (filled-goes c.args.session.now.state c.fill.new.self.state c.fill.ensures.frames
    c.fill.ensures.filled)
    (goes-then c.write_line-moved.ensures.on
    (goes-then c.read_input.ensures.on
    (goes-then c.pass_input.ensures.on
    c.read_line.ensures.on)))

pub returns-in_err-moved-3-clause-reports : goal.returns-in_err-moved-3-clause-reports
returns-in_err-moved-3-clause-reports g c = λ fault e.
    reports-then
    (filled-goes c.args.session.now.state c.fill.new.self.state c.fill.ensures.frames
    c.fill.ensures.filled)
    (reports-then c.write_line-moved.ensures.on
    (reports-then c.read_input.ensures.on
    (reports-then c.pass_input.ensures.on
    (c.in_err-moved-3.ensures.reports fault (passed-on c.from_residual-in_err-moved-3.ensures.1
    e)))))

pub returns-in_err-moved-4-clause-on : goal.returns-in_err-moved-4-clause-on
returns-in_err-moved-4-clause-on g c =
    goes-then
    (filled-goes c.args.session.now.state c.fill.new.self.state c.fill.ensures.frames
    c.fill.ensures.filled)
    (goes-then c.write_line-moved.ensures.on
    (goes-then c.read_input.ensures.on
    (goes-then c.pass_input.ensures.on
    (goes-then c.read_line.ensures.on
    (goes-then (c.pass_received.ensures.on _)
    (c.write_output.ensures.on _))))))

pub returns-in_err-moved-4-clause-reports : goal.returns-in_err-moved-4-clause-reports
returns-in_err-moved-4-clause-reports g c = λ fault e.
    reports-then
    (filled-goes c.args.session.now.state c.fill.new.self.state c.fill.ensures.frames
    c.fill.ensures.filled)
    (reports-then c.write_line-moved.ensures.on
    (reports-then c.read_input.ensures.on
    (reports-then c.pass_input.ensures.on
    (reports-then c.read_line.ensures.on
    (reports-then (c.pass_received.ensures.on _)
    (c.in_err-moved-4.ensures.reports _ fault (passed-on c.from_residual-in_err-moved-4.ensures.1
    e)))))))

pub returns-clause-on : goal.returns-clause-on
returns-clause-on g c =
    goes-then
    (filled-goes c.args.session.now.state c.fill.new.self.state c.fill.ensures.frames
    c.fill.ensures.filled)
    (goes-then c.write_line-moved.ensures.on
    (goes-then c.read_input.ensures.on
    (goes-then c.pass_input.ensures.on
    (goes-then c.read_line.ensures.on
    (goes-then (c.pass_received.ensures.on _)
    (goes-then (c.write_output.ensures.on _)
    (stays c.write_errors.ensures.session c.write_errors.ensures.devices)))))))

pub returns-clause-rests : goal.returns-clause-rests
returns-clause-rests g c = λ e.
    let n =
    none c.write_line-moved.result c.in_ok-moved.field-0 c.in_ok-moved-2.field-0
    c.in_ok-moved-3.field-0 c.pass_received.result c.in_ok-moved-4.field-0 c.write_errors.result
    e in
    let passed = c.in_ok-moved-2.ensures.idle (as-ok n.third) in
    let fed = c.pass_received.ensures.idle n.fifth in
    comes-to-rest c.fill.new.self.state c.pass_input.new.session.state
    c.pass_received.new.session.state
    c.write_errors.new.session.state c.pass_input.new.self c.pass_received.new.self
    c.fill.ensures.filled
    (ap (λ (s : LoggedSession). s.state) (passed.0 ∙ c.write_line-moved.ensures.idle n.first))
    (c.in_ok-moved-2.ensures.input_read (as-ok n.third))
    (c.in_ok-moved-2.ensures.told (as-ok n.third))
    (fed.0
    ∙ ap (λ (s : SessionView). record s { output = c.pass_received.new.session.state.output })
    c.in_ok-moved-3.ensures.session)
    (fed.1 ∙ c.in_ok-moved-3.ensures.idle (as-ok n.fourth))
    (c.pass_received.ensures.fed n.fifth) (c.pass_received.ensures.left n.fifth)
    (c.write_errors.ensures.session
    ∙ ap (λ (s : LoggedSession). s.state) (c.in_ok-moved-4.ensures.idle (as-ok n.sixth)))

pub returns-in_err-moved-clause-untimed : goal.returns-in_err-moved-clause-untimed
returns-in_err-moved-clause-untimed g c = λ e.
    c.in_err-moved.ensures.untimed (passed-on c.from_residual.ensures.1 e)

pub returns-in_err-moved-2-clause-untimed : goal.returns-in_err-moved-2-clause-untimed
returns-in_err-moved-2-clause-untimed g c = λ e.
    c.in_err-moved-2.ensures.untimed (passed-on c.from_residual-in_err-moved-2.ensures.1 e)

pub returns-in_err-moved-3-clause-untimed : goal.returns-in_err-moved-3-clause-untimed
returns-in_err-moved-3-clause-untimed g c = λ e.
    c.in_err-moved-3.ensures.untimed (passed-on c.from_residual-in_err-moved-3.ensures.1 e)

pub returns-in_err-moved-4-clause-untimed : goal.returns-in_err-moved-4-clause-untimed
returns-in_err-moved-4-clause-untimed g c = λ e.
    c.in_err-moved-4.ensures.untimed (passed-on c.from_residual-in_err-moved-4.ensures.1 e)
