use Rattle.std.proofs.Common.{ap}
use Rattle.ddcmp_io.proofs.WrittenLaws.{sends-then}
use Rattle.ddcmp_io.proofs.TextLaws.{sends-as}
use Rattle.ddcmp_streams.specs.Errors.{ErrorsView, left_out_text}
use Rattle.ddcmp_streams.proofs.ErrorsLaws.{queues-as, queues-by-page}
use Rattle.ddcmp_streams.proofs.errors.Errors.write_left_out.Goals as goal

pub returns : goal.returns
returns c =
    queues-as (ap (λ (e : ErrorsView). left_out_text e.left_out) c.self.view_is)
    (queues-by-page _ _ c.write-2.new.writer c.flush-is_whole.new.writer _ _ _ _ c.self.view_is
    c.new-page.ensures c.flush-is_whole.ensures.empty
    (sends-then (sends-then c.write.ensures.sends c.write_number.ensures)
    (sends-as c.left_out_words.ensures c.write-2.ensures.sends))
    c.flush-is_whole.ensures.sends)
