use Rattle.std.proofs.Common.{ap, arith}
use Rattle.ddcmp_frame.specs.Limits.{MAX_COUNT}
use Rattle.ddcmp_bridge.proofs.AmountLaws.{good-within}
use Rattle.ddcmp_bridge.proofs.relay.Relay.counts.Goals as goal

pub returns-clause-all : goal.returns-clause-all
returns-clause-all c = λ start came taken r.
    omega (
      arith,
      good-within MAX_COUNT came,
      r.bytes,
      r.stands.offset,
      ap (λ w. w.bytes) c.self.view_is,
      ap (λ w. w.frames.offset) c.self.view_is,
      c.saturating_sub.ensures,
      c.from.ensures,
      c.offset-offset.ensures.value,
    )
