use Rattle.ddcmp_streams.proofs.TraceLaws.{completed-none, completed-some, same-form}
use Rattle.ddcmp_streams.proofs.trace.Trace.log_byte.Goals.{in-None, in-Some}
use Rattle.ddcmp_streams.proofs.trace.Trace.log_byte.Goals as goal

pub returns : goal.returns
returns c = record {
  given = c.push.result;
  takes = c.push.ensures.takes;
  lines =
      elim c.match-push.branch [
        | in-None w ↦
            completed-none c.args.self.now c.args.way c.push.result _ _ _ w.in-None.is w.errors-is
        | in-Some w ↦
            completed-some c.args.self.now _ c.args.way c.push.result w.in-Some.completed _ _ _ _ _
            (same-form c.args.way _ _ _ c.args.self.now c.self.view_is c.push.ensures.stays)
            w.in-Some.is w.data-data.ensures w.put_skipped.ensures
            (rw (w.errors-is) w.put_item.ensures)
      ];
  stays = c.push.ensures.stays;
}
