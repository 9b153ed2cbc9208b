use Rattle.std.proofs.Common.{◌-◌, subst, arith, ◌∙◌, length, drop, length-drop}
use Rattle.std.proofs.lemmas.List.{length-take}
use Rattle.ddcmp_explain.specs.Inside.Progress.{HasTold}
use Rattle.ddcmp_explain.proofs.LinesLaws.{taken-more}
use Rattle.ddcmp_explain.proofs.lines.Lines.push_all.Goals as goal

pub loop-used-preserved : goal.loop-used-preserved
loop-used-preserved g c =
    let bytes = c.args.bytes.now in
    let n = c.loop-used.used in
    let k = c.push-used.result in
    let p = c.push-used in
    let now = c.loop-used.invariant in
    record {
      within = omega (arith, length-take (length bytes - n) (drop n bytes), length-drop n bytes);
      max = p.ensures.max ∙ now.max;
      style = p.ensures.style ∙ now.style;
      offset = omega arith;
      told = λ max start text h.
          subst (λ t. HasTold max start t p.new.self (g.W.Sink.broken p.new.writer)
          (g.W.Sink.contents p.new.writer))
          (taken-more text bytes n k) (p.ensures.told max start _ (now.told max start text h));
    }
