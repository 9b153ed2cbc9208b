use Rattle.std.proofs.Common.{[], refl, sym, ap, ◌∙◌, arith}
use Rattle.ddcmp_core.specs.Table.{StationState}
use Rattle.ddcmp_core.proofs.Taken.{take_all_after}
use Rattle.ddcmp_station.proofs.SeenLaws.{hands-one}
use Rattle.ddcmp_station.proofs.DriveLaws.{Calls-none}
use Rattle.ddcmp_station.proofs.driver.deliver.Goals as goal

pub loop-length-init : goal.loop-length-init
loop-length-init g c = record {
  room = c.requires;
  rest = refl;
  seen = ([], Calls-none g.U.User.becomes c.args.user.now, refl);
}

pub loop-length-preserved : goal.loop-length-preserved
loop-length-preserved g c =
    let i = c.loop-length.invariant in
    let t = c.take.ensures in
    let s = c.loop-length.station in
    record {
      room = rw t.state (omega (arith, i.room, c.take.auto.out));
      rest =
          rw t.state
          (ap
          (λ (u : StationState). record s { core = record s.core { station = u } })
          (take_all_after s.core.station) ∙ i.rest);
      seen =
          rw t.state
          (hands-one g.U.User.becomes _ _ _ c.loop-length.station.core.station.inbox _
          c.in-Some.length _ _ i.seen (sym t.length ∙ c.in-Some.is) t.out c.mail.ensures);
    }
