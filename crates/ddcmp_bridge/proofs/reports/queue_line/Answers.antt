use Rattle.ddcmp_streams.proofs.ErrorsLaws.{through-page}
use Rattle.ddcmp_bridge.proofs.reports.queue_line.Goals as goal

pub returns : goal.returns
returns c =
    through-page c.args.queue.now c.write_direction.new.writer c.flush-is_whole.new.writer _ _ _ _ c.new-page.ensures c.flush-is_whole.ensures.empty
    c.write_direction.ensures c.flush-is_whole.ensures.sends
