use Rattle.std.proofs.Common.{ap₂, sym, ◌∙◌}
use Rattle.ddcmp_io.specs.Written.{output_of}
use Rattle.ddcmp_picture.proofs.CaptionLaws.{none_written, reads_byte, writes_last, writes_word}
use Rattle.ddcmp_picture.proofs.caption.write_without_zeros.Goals as goal
use Rattle.ddcmp_picture.proofs.caption.write_without_zeros.Goals.{then-is_gap, else-is_gap}

pub loop-at-init : goal.loop-at-init
loop-at-init g c = none_written _ _

pub loop-at-preserved : goal.loop-at-preserved
loop-at-preserved g c = elim c.if-is_gap.branch [
  | then-is_gap w
      ↦ writes_word _ _ _ _ c.args.text.now c.loop-at.start c.loop-at.at _ c.loop-at.invariant
      c.loop-at-test.true (sym c.is_gap.ensures ∙ w.if-is_gap.true) w.write_unless_zero.ensures
      (ap₂ (output_of g.W.Sink.broken g.W.Sink.contents) w.writer-is w.page-is) w.start-is
  | else-is_gap w
      ↦ reads_byte _ _ _ c.args.text.now c.loop-at.start c.loop-at.at _ c.loop-at.invariant
      c.loop-at-test.true (sym c.is_gap.ensures ∙ w.if-is_gap.false)
      (ap₂ (output_of g.W.Sink.broken g.W.Sink.contents) w.writer-is w.page-is) w.start-is
]

pub returns : goal.returns
returns g c =
    writes_last _ _ _ c.args.text.now c.loop-at.start c.loop-at.at c.loop-at.invariant
    c.loop-at-test.false c.write_unless_zero-2.ensures
