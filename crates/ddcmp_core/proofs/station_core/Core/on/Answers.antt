use Rattle.std.proofs.Common.{◌+◌, ◌≤◌, length, subst}
use Rattle.ddcmp_core.specs.Table.{Limits, acknowledged_by}
use Rattle.ddcmp_core.specs.Frames.{received}
use Rattle.ddcmp_core.proofs.ToldLaws.{running_left}
use Rattle.ddcmp_core.proofs.station_core.Core.on.Goals as goal

pub returns-in-Running-clause-leaves : goal.returns-in-Running-clause-leaves
returns-in-Running-clause-leaves g c =
    let i = c.self.inside in
    let limits : Limits =
    record {
      window = i.sender.limit;
      room = i.inbox.limit;
      longest = i.sender.longest;
      restart = i.restart;
    } in
    let kept = c.self.invariant.1.in_window.sent_kept in
    subst
    (λ v. acknowledged_by c.on_running.result + length c.on_running.new.self.station.out
    ≤ length v.station.out) c.self.view_is
    (rw (c.on_running.ensures.told, c.on_running.ensures.state)
    (running_left limits _ (received c.args.input.now) c.in-Running.is kept))
