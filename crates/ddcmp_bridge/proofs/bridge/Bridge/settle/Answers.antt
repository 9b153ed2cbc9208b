use Rattle.std.proofs.Common.{ap, subst, sym}
use Rattle.ddcmp_bridge.specs.Crossing.{CrossesAs, asked_of, view_of}
use Rattle.ddcmp_bridge.proofs.CrossLaws.{crosses-ended, printing}
use Rattle.ddcmp_bridge.proofs.bridge.Bridge.settle.Goals as goal

pub returns-then-self-2-clause-keeps : goal.returns-then-self-2-clause-keeps
returns-then-self-2-clause-keeps c = record {
  crosses = λ h k.
      subst (λ s. CrossesAs (view_of s) h) (sym c.end.ensures.stays)
      (crosses-ended (view_of c.args.self.now) c.end.new.self.ended h (printing c.in-Printing.is)
      c.end.ensures.there c.end.ensures.back k);
  asked = ap asked_of c.end.ensures.stays;
}
