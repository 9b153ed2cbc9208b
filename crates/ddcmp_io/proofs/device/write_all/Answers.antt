use Rattle.std.proofs.Common.{subst, sym, arith, length-drop}
use Rattle.std.proofs.lemmas.List.{take_rest}
use Rattle.std.specs.Io.KnownBytes.{Appends}
use Rattle.std.proofs.KnownBytes.{Appends-trans}
use Rattle.std.proofs.Math.Seq.{take-add}
use Rattle.ddcmp_io.proofs.device.write_all.Goals as goal

pub loop-at-preserved : goal.loop-at-preserved
loop-at-preserved g c =
    let taken = rw take_rest at c.in-Some.ensures.bytes in
    record {
      whole = c.in-Some.ensures.broken;
      within = omega (arith, taken.0, length-drop c.loop-at.at c.args.bytes.now);
      written =
          subst
          (λ t. Appends (g.W.Sink.contents c.args.writer.now) (g.W.Sink.contents c.write.new.self)
          t) (sym (take-add c.loop-at.at c.in-Some.n c.args.bytes.now))
          (Appends-trans _ _ _ _ _ c.loop-at.invariant.written taken.2);
    }
