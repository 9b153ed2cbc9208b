use Rattle.ddcmp_io.proofs.WrittenLaws.{sends-then}
use Rattle.ddcmp_io.proofs.TextLaws.{sends-as}
use Rattle.ddcmp_streams.proofs.ErrorsLaws.{through-page}
use Rattle.ddcmp_session.proofs.text.write_silence.Goals as goal

pub returns : goal.returns
returns c =
    through-page c.args.out.now c.write-3.new.writer c.flush-is_whole.new.writer _ _ _ _
    c.new-page.ensures c.flush-is_whole.ensures.empty
    (sends-then
    (sends-then
    (sends-then (sends-then c.write.ensures.sends c.write_number.ensures) c.write-2.ensures.sends)
    c.write_number-2.ensures)
    (sends-as c.bytes_words.ensures c.write-3.ensures.sends))
    c.flush-is_whole.ensures.sends
