use Rattle.std.proofs.Common.{◌∷◌, ap, refl, subst, sym}
use Rattle.ddcmp_ports.specs.Running.{Passed}
use Rattle.ddcmp_log.specs.Scheduling.{NoneIsDue}
use Rattle.ddcmp_tap.specs.Tapping.{TapView}
use Rattle.ddcmp_tap.proofs.ReportLaws.{none-due}
use Rattle.ddcmp_tap.proofs.machine.TapMachine.pass_time.Goals as goal

pub returns-then-is_counted_out-clause-has : goal.returns-then-is_counted_out-clause-has
returns-then-is_counted_out-clause-has c = rw (sym c.self.view_is) (record {
  history = λ h k.
      c.fail-kept.ensures.has (Passed c.args.now ∷ h) (record {
        moment = refl;
        caller = k.caller;
        called = k.called;
        up = k.up;
        down = k.down;
        caller_ended = k.caller_ended;
        called_ended = k.called_ended;
        written = k.written;
        rest = k.rest;
      });
  same = ap (λ t. (t.log, t.written)) c.fail-kept.ensures.fault;
})

pub returns-then-is_counted_out-clause-settled : goal.returns-then-is_counted_out-clause-settled
returns-then-is_counted_out-clause-settled c =
    subst (λ (t : TapView). NoneIsDue t.moment t.reports.schedule) (sym c.fail-kept.ensures.fault)
    (none-due c.args.now c.stamp-stamp.result c.log.result.now c.log-2.result.now
    c.self.inside.reports c.report_if_due-is_queued.new.self
    c.report_if_due-is_queued.result c.report_if_due-is_queued.ensures)

pub returns-else-is_counted_out-2-clause-settled : goal.returns-else-is_counted_out-2-clause-settled
returns-else-is_counted_out-2-clause-settled c =
    none-due c.args.now c.stamp-stamp.result c.log.result.now c.log-2.result.now
    c.self.inside.reports c.report_if_due-is_queued.new.self
    c.report_if_due-is_queued.result c.report_if_due-is_queued.ensures
