use Rattle.std.proofs.Common.{sym, subst}
use Rattle.ddcmp_io.specs.Written.{Writes}
use Rattle.ddcmp_tap.specs.Logging.{head_of}
use Rattle.ddcmp_tap.proofs.connections.write_head.Goals as goal

pub returns-in-Ladder-clause-written : goal.returns-in-Ladder-clause-written
returns-in-Ladder-clause-written g c =
    subst (λ n. Writes (g.W.Sink.contents c.args.writer.now)
    (g.W.Sink.contents c.write_all.new.writer) c.write_all.result (head_of n))
    (sym c.in-Ladder.is) c.write_all.ensures.written
