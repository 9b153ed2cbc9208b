use Rattle.std.proofs.Common.{◌++◌, sym, subst}
use Rattle.ddcmp_io.specs.Written.{Writes}
use Rattle.ddcmp_io.proofs.WrittenLaws.{sends-behind, sends-out, sends-longer, sends-then}
use Rattle.ddcmp_io.proofs.page.Page.write.Goals as goal

pub returns-then-text-room-clause-sends : goal.returns-then-text-room-clause-sends
returns-then-text-room-clause-sends g c = sends-behind _ _ _ _ _ c.append.ensures

pub returns-else-text-le-PAGE-clause-sends : goal.returns-else-text-le-PAGE-clause-sends
returns-else-text-le-PAGE-clause-sends g c =
    sends-then c.in-Ok.ensures.sends
    (sends-out _ _ _ _ c.flush.new.self _ _ c.write_all.result c.in-Ok.ensures.broken
    c.write_all.ensures.broken c.in-Ok.ensures.empty
    (subst
    (λ waiting. Writes (g.W.Sink.contents c.flush.new.writer)
    (g.W.Sink.contents c.write_all.new.writer) c.write_all.result (waiting ++ c.args.text.now))
    (sym c.in-Ok.ensures.empty) c.write_all.ensures.written))

pub returns-in-Err-clause-sends : goal.returns-in-Err-clause-sends
returns-in-Err-clause-sends g c =
    sends-longer _ _ _ _ c.in-Err.ensures.broken c.in-Err.ensures.sends
