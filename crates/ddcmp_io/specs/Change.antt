-- The effect of a call on its devices.
use Rattle.std.specs.Prelude.{Bool}
use Rattle.ddcmp_io.specs.Written.{Known}
use Rattle.ddcmp_io.specs.declared.device.Worst.{Worst}

-- the bytes that a source had and has left, if known, and its state
pub record SourceChange : Type 0 where
  pub before : Known
  pub after : Known
  pub state : Worst

abbrev pub source_change : Known → Known → Worst → SourceChange
source_change before after state = record { before = before; after = after; state = state }

-- the bytes that a sink held and holds, if known, and whether a write failed
pub record SinkChange : Type 0 where
  pub before : Known
  pub after : Known
  pub broken : Bool

abbrev pub sink_change : Known → Known → Bool → SinkChange
sink_change before after broken = record { before = before; after = after; broken = broken }
