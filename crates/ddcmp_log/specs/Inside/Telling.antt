-- Lines that are put into a text in memory.
use Rattle.std.specs.Prelude.{◌≡◌, ℕ, List, ◌++◌, length, Option, Some}
use Rattle.ddcmp_frame.specs.Reading.{ReadItem, items, open_at_end}
use Rattle.ddcmp_explain.specs.declared.notation.Totals.{Totals}
use Rattle.ddcmp_io.specs.Written.{HandsOver, Output}
use Rattle.ddcmp_io.specs.declared.memory.MemorySink.{MemorySink}
use Rattle.ddcmp_log.specs.Logged.{logged_lines}
use Rattle.ddcmp_log.specs.declared.notation.LogNotation.{LogNotation}
use Rattle.ddcmp_log.specs.declared.side.Side.{Side}
use Rattle.ddcmp_log.specs.declared.side.Stamp.{Stamp}

-- a text, and the page that buffers what is written to it
abbrev pub output_in : MemorySink → List ℕ → Output
output_in text page =
    record { broken = text.refused; sink = Some text.bytes.items; waiting = page }

-- The lines of the items that `more` adds to `told` were written.
pub record Tells (notation : LogNotation) (side : Side) (max : ℕ) (stamp : Option Stamp)
    (told more : List ℕ) (old new : Output) : Type 0 where
  pub given : List ReadItem
  pub adds : items max (told ++ more) ≡ items max told ++ given
  pub puts : HandsOver old new (logged_lines notation stamp side given)

-- the totals of received bytes
abbrev pub totals_of : ℕ → List ℕ → Totals
totals_of max told = record {
  items = length (items max told);
  bytes = length told;
  left_open = open_at_end max told;
}
