use Rattle.ddcmp_io.specs.Written.{output_of}
use Rattle.ddcmp_picture.proofs.CaptionLaws.{HasWritten}
use Rattle.ddcmp_picture.proofs.caption.write_without_zeros.Given as goal

abbrev pub invariant-loop-at : goal.invariant-loop-at
invariant-loop-at g l =
    HasWritten (output_of g.W.Sink.broken g.W.Sink.contents l.initial.writer l.initial.page)
    (output_of g.W.Sink.broken g.W.Sink.contents l.writer l.page) l.text l.start l.at
