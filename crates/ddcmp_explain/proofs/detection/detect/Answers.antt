use Rattle.std.proofs.Common.{ap, sym, ◌∙◌}
use Rattle.ddcmp_explain.specs.Detection.{detected_at}
use Rattle.ddcmp_explain.proofs.DetectionLaws.{sight-end, sight-step}
use Rattle.ddcmp_explain.proofs.detection.detect.Goals as goal

pub loop-byte-preserved : goal.loop-byte-preserved
loop-byte-preserved c = record {
  sight =
      sight-step _ c.loop-byte.sight c.after-sight.result c.args.first.now c.loop-byte.byte-index
      c.loop-byte-test.true c.after-sight.ensures c.loop-byte.invariant.sight;
}

pub returns : goal.returns
returns c =
    c.detected.ensures
    ∙ ap detected_at
    (sym (sight-end _ c.loop-byte.sight c.args.first.now c.loop-byte.byte-index
    c.loop-byte-test.false c.loop-byte.invariant.sight))
