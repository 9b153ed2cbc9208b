use Rattle.ddcmp_io.specs.Written.{output_of}
use Rattle.ddcmp_line.specs.ScriptEnds.{around}
use Rattle.ddcmp_line.specs.Inside.ScriptProgress.{fresh}
use Rattle.ddcmp_line.proofs.Endings.{plays-whole, plays-cut}
use Rattle.ddcmp_line.proofs.player.Player.finish.Goals as goal

pub returns-in-Err-clause-plays : goal.returns-in-Err-clause-plays
returns-in-Err-clause-plays g c = λ input p d log sink de h.
    let x = around p c.end_input.new.pair d log (g.C.Carrier.told c.end_input.new.carrier) in
    c.stop.ensures.plays c.args.counted input x sink
    (c.in-Err.ensures.ends input p d log (fresh sink) de h)

pub returns-in-Ok-flush-clause-plays : goal.returns-in-Ok-flush-clause-plays
returns-in-Ok-flush-clause-plays g c = λ input p d log sink de h.
    let x = around p c.end_input.new.pair d log (g.C.Carrier.told c.end_input.new.carrier) in
    let out = output_of g.W.Sink.broken g.W.Sink.contents c.flush.new.writer c.flush.new.self in
    plays-whole c.args.counted input x sink _ _ out
    (c.in-Ok.ensures.ends input p d log (fresh sink) de h)
    c.write_closing.ensures c.in-Ok-flush.ensures.sends c.in-Ok-flush.ensures.broken
    c.in-Ok-flush.ensures.empty

pub returns-in-Err-flush-clause-plays : goal.returns-in-Err-flush-clause-plays
returns-in-Err-flush-clause-plays g c = λ input p d log sink de h.
    let x = around p c.end_input.new.pair d log (g.C.Carrier.told c.end_input.new.carrier) in
    let out = output_of g.W.Sink.broken g.W.Sink.contents c.flush.new.writer c.flush.new.self in
    plays-cut c.args.counted input x sink _ _ out
    (c.in-Ok.ensures.ends input p d log (fresh sink) de h)
    c.write_closing.ensures c.in-Err-flush.ensures.sends
