use Rattle.ddcmp_streams.proofs.ErrorsLaws.{queues-by-page}
use Rattle.ddcmp_streams.proofs.errors.Errors.write_text.Goals as goal

pub returns : goal.returns
returns c =
    queues-by-page _ _ c.write.new.writer c.flush-is_whole.new.writer _ _ _ _ c.self.view_is
    c.new-page.ensures c.flush-is_whole.ensures.empty c.write.ensures.sends
    c.flush-is_whole.ensures.sends
