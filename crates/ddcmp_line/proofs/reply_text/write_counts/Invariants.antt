use Rattle.std.proofs.Common.{take}
use Rattle.std.specs.List.{flat_map}
use Rattle.ddcmp_io.specs.Written.{HandsOver, output_of}
use Rattle.ddcmp_line.specs.ScriptText.{count_text}
use Rattle.ddcmp_line.proofs.reply_text.write_counts.Given as goal

abbrev pub invariant-loop-exchanges : goal.invariant-loop-exchanges
invariant-loop-exchanges g l =
    HandsOver (output_of g.W.Sink.broken g.W.Sink.contents l.initial.writer l.initial.page)
    (output_of g.W.Sink.broken g.W.Sink.contents l.writer l.page)
    (flat_map count_text (take l.exchanges-index l.counts))
