use Rattle.ddcmp_io.proofs.WrittenLaws.{sends-then}
use Rattle.ddcmp_streams.proofs.ErrorsLaws.{queues-by-page}
use Rattle.ddcmp_streams.proofs.errors.Errors.write_reason.Goals as goal

pub returns : goal.returns
returns c =
    queues-by-page _ _ c.write-5.new.writer c.flush-is_whole.new.writer _ _ _ _ c.self.view_is
    c.new-page.ensures c.flush-is_whole.ensures.empty
    (sends-then
    (sends-then
    (sends-then
    (sends-then (sends-then c.write.ensures.sends c.write-2.ensures.sends) c.write_number.ensures)
    c.write-3.ensures.sends)
    c.write-4.ensures.sends)
    c.write-5.ensures.sends)
    c.flush-is_whole.ensures.sends
