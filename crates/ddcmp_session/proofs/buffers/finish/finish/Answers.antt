use Rattle.std.proofs.Common.{refl, true, false}
use Rattle.ddcmp_session.proofs.Finished.{drains-none, reports-ended}
use Rattle.ddcmp_session.proofs.LinesGo.{is-unit}
use Rattle.ddcmp_session.proofs.buffers.finish.finish.Goals as goal

pub returns-in-Err-clause-finishes : goal.returns-in-Err-clause-finishes
returns-in-Err-clause-finishes g c = record {
  delivered = c.deliver_rest.new.session.state;
  between = g.D.Devices.traffic c.deliver_rest.new.devices;
  delivers = c.deliver_rest.ensures.drains;
  writes = false;
  drained = λ e. cc;
  with_lines = c.deliver_rest.new.session.state;
  lines = refl;
  takes = drains-none refl refl;
  well = λ e. cc;
}

pub returns-clause-finishes : goal.returns-clause-finishes
returns-clause-finishes g c = record {
  delivered = c.deliver_rest.new.session.state;
  between = g.D.Devices.traffic c.deliver_rest.new.devices;
  delivers = c.deliver_rest.ensures.drains;
  writes = true;
  drained = λ e. c.in-Ok.ensures.emptied refl;
  with_lines = c.write_end.new.self.state;
  lines = record {
    lines = c.write_end.ensures.lines;
    binary = c.write_end.ensures.binary;
    stays = c.write_end.ensures.stays;
  };
  takes = c.drain_output.ensures.drains;
  well = λ e. (refl, c.drain_output.ensures.emptied (is-unit c.drain_output.result e));
}

pub returns-clause-reports : goal.returns-clause-reports
returns-clause-reports g c = λ held fault e untimed.
    reports-ended (c.deliver_rest.ensures.on held) c.write_end.ensures.stays
    (c.drain_output.ensures.reports held fault e untimed)
