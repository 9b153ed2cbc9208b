use Rattle.std.proofs.Common.{◌∙◌, ap, refl}
use Rattle.ddcmp_session.specs.Session.{SessionView}
use Rattle.ddcmp_session.proofs.DrainLaws.{counted-once}
use Rattle.ddcmp_session.proofs.GoingLaws.{same-at}
use Rattle.ddcmp_session.proofs.LinesGo.{goes-over, line-left, none-over, over-then, ready-by}
use Rattle.ddcmp_session.proofs.LinesGo.{reports-over}
use Rattle.ddcmp_session.proofs.buffers.runner.leave_line.Goals as goal

pub returns-in-Err-clause-over : goal.returns-in-Err-clause-over
returns-in-Err-clause-over g c = λ held. goes-over (c.drain_output.ensures.on held)

pub returns-in-Err-drain_output-clause-over : goal.returns-in-Err-drain_output-clause-over
returns-in-Err-drain_output-clause-over g c = λ held.
    over-then (goes-over (c.drain_output.ensures.on held))
    (over-then
    (line-left c.args.how c.line_ended-has_room.result c.drain_output.new.session.state
    c.line_ended-has_room.new.self.state (record {
      link = c.line_ended-has_room.ensures.link;
      wrote = c.line_ended-has_room.ensures.wrote;
      stays = c.line_ended-has_room.ensures.stays;
    })) (goes-over (c.drain_output-2.ensures.on held)))

pub returns-clause-over : goal.returns-clause-over
returns-clause-over g c = λ held.
    over-then (goes-over (c.drain_output.ensures.on held))
    (over-then
    (line-left c.args.how c.line_ended-has_room.result c.drain_output.new.session.state
    c.line_ended-has_room.new.self.state (record {
      link = c.line_ended-has_room.ensures.link;
      wrote = c.line_ended-has_room.ensures.wrote;
      stays = c.line_ended-has_room.ensures.stays;
    }))
    (over-then (goes-over (c.drain_output-2.ensures.on held))
    (goes-over (c.drain_errors.ensures.on held))))

pub returns-in-Err-clause-reports : goal.returns-in-Err-clause-reports
returns-in-Err-clause-reports g c = λ held fault untimed e.
    reports-over (none-over {held = held} refl refl)
    (c.in-Err.ensures.reports held fault e untimed)

pub returns-in-Err-drain_output-clause-reports : goal.returns-in-Err-drain_output-clause-reports
returns-in-Err-drain_output-clause-reports g c = λ held fault untimed e.
    reports-over
    (over-then (goes-over (c.drain_output.ensures.on held))
    (line-left c.args.how c.line_ended-has_room.result c.drain_output.new.session.state
    c.line_ended-has_room.new.self.state (record {
      link = c.line_ended-has_room.ensures.link;
      wrote = c.line_ended-has_room.ensures.wrote;
      stays = c.line_ended-has_room.ensures.stays;
    })))
    (c.in-Err-drain_output.ensures.reports held fault e untimed)

pub returns-clause-left : goal.returns-clause-left
returns-clause-left g c = λ e.
    ap (λ (x : SessionView). x.has_line) c.drain_errors.ensures.session
    ∙ same-at (λ x. x.has_line) c.drain_output-2.new.session.state _
    c.drain_output-2.ensures.only.stays
    ∙ same-at (λ x. x.has_line) c.line_ended-has_room.new.self.state _
    c.line_ended-has_room.ensures.stays

pub returns-clause-counted : goal.returns-clause-counted
returns-clause-counted g c = λ e.
    ap (λ (x : SessionView). x.course) c.drain_errors.ensures.session
    ∙ counted-once c.args.session.now.state c.drain_output.new.session.state
    c.line_ended-has_room.new.self.state
    c.drain_output-2.new.session.state c.drain_output.ensures.only
    (same-at (λ x. x.course) c.line_ended-has_room.new.self.state _
    c.line_ended-has_room.ensures.stays)
    c.drain_output-2.ensures.only

pub returns-clause-ready : goal.returns-clause-ready
returns-clause-ready g c = λ e.
    ready-by c.drain_errors.ensures.session
    (c.drain_output-2.ensures.emptied c.in-Ok-drain_output.is).mail
