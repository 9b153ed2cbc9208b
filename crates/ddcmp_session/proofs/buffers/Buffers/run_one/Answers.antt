use Rattle.std.proofs.Common.{◌≡◌, ap, refl, subst, Err, Ok, Option, Result, Some}
use Rattle.ddcmp_session.specs.declared.line_end.LineEnd.{LineEnd}
use Rattle.ddcmp_session.specs.Stopping.{LeavesLine}
use Rattle.ddcmp_session.specs.declared.devices.DeviceFault.TheVariants.{Line}
use Rattle.ddcmp_session.proofs.LinesGo.{goes-over, none-over, over-then, reports-over}
use Rattle.ddcmp_session.proofs.LinesGo.{same-err, same-fault}
use Rattle.ddcmp_session.specs.declared.session.EndReason.TheVariants as EndReason
use Rattle.ddcmp_session.proofs.StopLaws.{may-at-end}
use Rattle.ddcmp_session.proofs.buffers.Buffers.run_one.Goals as goal

pub returns-in-Ok-Done-clause-over : goal.returns-in-Ok-Done-clause-over
returns-in-Ok-Done-clause-over g c =
    over-then c.begin.ensures.over (goes-over c.run.ensures.on)

pub returns-in-Ok-Done-clause-well : goal.returns-in-Ok-Done-clause-well
returns-in-Ok-Done-clause-well g c = λ e.
    may-at-end c.run.new.session.state (c.run.ensures.ended EndReason.Done cc)

pub returns-in-Ok-Restarted-clause-over : goal.returns-in-Ok-Restarted-clause-over
returns-in-Ok-Restarted-clause-over g c =
    over-then c.begin.ensures.over (goes-over c.run.ensures.on)

pub returns-in-Ok-Time-clause-over : goal.returns-in-Ok-Time-clause-over
returns-in-Ok-Time-clause-over g c =
    over-then c.begin.ensures.over (goes-over c.run.ensures.on)

pub returns-in-Err-Line-clause-over : goal.returns-in-Err-Line-clause-over
returns-in-Err-Line-clause-over g c =
    over-then c.begin.ensures.over
    (over-then (goes-over c.run.ensures.on) (none-over c.report_down.ensures.state refl))

pub returns-in-Ok-Restarted-2-clause-over : goal.returns-in-Ok-Restarted-2-clause-over
returns-in-Ok-Restarted-2-clause-over g c =
    over-then c.begin.ensures.over (goes-over c.run.ensures.on)

pub returns-in-Ok-GivenUp-clause-over : goal.returns-in-Ok-GivenUp-clause-over
returns-in-Ok-GivenUp-clause-over g c =
    over-then c.begin.ensures.over (goes-over c.run.ensures.on)

pub returns-in-Err-run : goal.returns-in-Err-run
returns-in-Err-run g c = record {
  over = over-then c.begin.ensures.over (goes-over c.run.ensures.on);
  reports = λ fault untimed e.
      reports-over c.begin.ensures.over (c.in-Err-run.ensures.reports fault (same-fault e));
  well = λ e. cc;
  ended = λ e. cc;
  gone = λ how e. cc;
  left = λ e. cc;
  shut = λ refusal e. cc;
  time = λ e. absurd (c.in-Err-run.ensures.untimed (same-fault e));
  unjudged = λ count e. cc;
  read = λ e. cc;
}

pub returns-in-Err-clause-time : goal.returns-in-Err-clause-time
returns-in-Err-clause-time g c = λ e. c.in-Err.ensures.time (same-err e)

pub returns-in-Err-clause-shut : goal.returns-in-Err-clause-shut
returns-in-Err-clause-shut g c = λ refusal e. c.in-Err.ensures.shut refusal (same-err e)

same-some : {A B : Type 0} {a b : A} → ◌≡◌ {A = Result (Option A) B} (Ok (Some a)) (Ok (Some b))
    → a ≡ b
same-some e = cc

pub returns-in-Err-Line-clause-gone : goal.returns-in-Err-Line-clause-gone
returns-in-Err-Line-clause-gone g c = λ how e.
    subst
    (λ (h : LineEnd). LeavesLine h c.args.self.now c.args.session.now.state
    (g.D.Devices.traffic c.args.devices.now) c.report_down.new.self.state
    (g.D.Devices.traffic c.run.new.devices))
    (same-some e)
    (reports-over c.begin.ensures.over
    (c.in-Err-Line.ensures.reports (Line c.in-Err-Line.why)
    (ap (λ f. Err f) c.in-Err-Line.field-0-is)))

pub returns-in-Err-clause-reports : goal.returns-in-Err-clause-reports
returns-in-Err-clause-reports g c = λ fault untimed e.
    c.in-Err.ensures.reports fault untimed (same-err e)

pub returns-in-Ok-false-clause-well : goal.returns-in-Ok-false-clause-well
returns-in-Ok-false-clause-well g c = λ e.
    may-at-end c.begin.new.session.state (c.begin.ensures.ended cc)
