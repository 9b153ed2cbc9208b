use Rattle.std.proofs.Common.{take}
use Rattle.std.specs.List.{flat_map}
use Rattle.ddcmp_io.specs.Written.{HandsOver, output_of}
use Rattle.ddcmp_station.specs.StationText.{notice_line}
use Rattle.ddcmp_line.proofs.reply_text.write_notices.Given as goal

abbrev pub invariant-loop-notice : goal.invariant-loop-notice
invariant-loop-notice g l =
    HandsOver (output_of g.W.Sink.broken g.W.Sink.contents l.initial.writer l.initial.page)
    (output_of g.W.Sink.broken g.W.Sink.contents l.writer l.page)
    (flat_map (notice_line l.who) (take l.notice-index l.notices))
