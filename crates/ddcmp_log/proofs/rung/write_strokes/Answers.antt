use Rattle.std.proofs.Common.{◌≡◌, take, replicate, subst}
use Rattle.std.proofs.lemmas.List.{take-replicate}
use Rattle.ddcmp_io.specs.Written.{HandsOver, output_of}
use Rattle.ddcmp_log.proofs.rung.write_strokes.Goals as goal

pub returns : goal.returns
returns g c =
    let cut : take c.args.count (replicate 71 c.args.stroke)
    ≡ replicate c.args.count c.args.stroke = take-replicate _ _ _ c.requires in
    subst
    (λ t. HandsOver
    (output_of g.W.Sink.broken g.W.Sink.contents c.args.writer.now c.args.page.now)
    (output_of g.W.Sink.broken g.W.Sink.contents c.write.new.writer c.write.new.self) t)
    cut c.write.ensures.sends
