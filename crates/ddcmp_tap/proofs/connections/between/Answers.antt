use Rattle.std.proofs.Common.{[], subst, sym}
use Rattle.ddcmp_tap.specs.Logging.{Says, head_of}
use Rattle.ddcmp_tap.proofs.HeadLaws.{no-memory, no-head, said-below}
use Rattle.ddcmp_tap.proofs.connections.between.Goals as goal

pub returns-in_default-clause-says : goal.returns-in_default-clause-says
returns-in_default-clause-says g c =
    let log = c.args.log in
    no-memory (head_of log.notation) log.notation log.times log.max
    (g.W.Sink.contents c.args.writer.now)

pub returns-in_default-new-clause-says : goal.returns-in_default-new-clause-says
returns-in_default-new-clause-says g c =
    let log = c.args.log in
    no-memory (head_of log.notation) log.notation log.times log.max
    (g.W.Sink.contents c.args.writer.now)

pub returns-then-is_err-clause-says : goal.returns-then-is_err-clause-says
returns-then-is_err-clause-says g c =
    let log = c.args.log in
    no-head (head_of log.notation) log.notation log.times log.max
    (g.W.Sink.contents c.args.writer.now) (g.W.Sink.contents c.write_head.new.writer)
    c.write_head.result (sym c.if-is_err.ensures.value) c.write_head.ensures.written

pub returns-clause-says : goal.returns-clause-says
returns-clause-says g c =
    let log = c.args.log in
    let mid = g.W.Sink.contents c.write_head.new.writer in
    let new = g.W.Sink.contents c.run_tap.new.writer in
    said-below (head_of log.notation) log.notation log.times log.max
    (g.W.Sink.contents c.args.writer.now) mid new c.write_head.result c.run_tap.result
    c.run_tap.ensures.carrier (sym c.if-is_err.ensures.value) c.write_head.ensures.written
    (subst (λ l. Says [] l.notation l.times l.max mid new c.run_tap.result) c.in-Ok.ensures.log
    c.run_tap.ensures.taps.0)
