use Rattle.ddcmp_streams.proofs.ErrorsLaws.{through-page}
use Rattle.ddcmp_bridge.proofs.reports.queue_object.Goals as goal

pub returns : goal.returns
returns c =
    through-page c.args.queue.now c.write_object.new.writer c.flush-is_whole.new.writer _ _ _ _ c.new-page.ensures c.flush-is_whole.ensures.empty
    c.write_object.ensures c.flush-is_whole.ensures.sends
