-- How `ddcmp bridge` ends.
use Rattle.std.specs.Prelude.{◌≡◌, ◌≢◌, ◌⊎◌, ◌&&◌, Bool, true, false, if◌then◌else◌}
use Rattle.std.specs.Prelude.{Result, Ok, Err, Option, Some, None}
use Rattle.std.specs.Io.KnownBytes.{Appends, Keeps}
use Rattle.ddcmp_bridge.specs.Report.{bridge_report}
use Rattle.ddcmp_io.specs.Written.{AppendsPart, Known}
use Rattle.ddcmp_bridge.specs.declared.bridge.BridgeEnd.{BridgeEnd}
use Rattle.ddcmp_bridge.specs.declared.options.BridgeOptions.{BridgeOptions}
use Rattle.ddcmp_device.specs.declared.bridging.BridgeFault.{BridgeFault}
use Rattle.ddcmp_device.specs.declared.bridging.BridgeFault.TheVariants as bridging
use Rattle.ddcmp_ports.specs.Events.{open_fault_text}
use Rattle.ddcmp_ports.specs.LineNames.{word_of}
use Rattle.ddcmp_ports.specs.declared.line_name.LineName.{LineName}
use Rattle.ddcmp_explain.specs.declared.notation.Notation.{Notation}
use Rattle.ddcmp_explain.specs.declared.notation.Notation.TheVariants as words
use Rattle.ddcmp_log.specs.declared.notation.LogNotation.{LogNotation}
use Rattle.ddcmp_log.specs.declared.notation.LogNotation.TheVariants.{Plain, Ladder, Json}
use Rattle.ddcmp_args.specs.declared.bridge_args.BridgeArgs.{BridgeArgs}
use Rattle.ddcmp_commands.specs.declared.fault.Fault.TheVariants.{Write, Memory, Ended}
use Rattle.ddcmp_commands.specs.declared.ending.Ending.{Ending}
use Rattle.ddcmp_commands.specs.declared.ending.Ending.TheVariants.{Done, Fault as Faulted}
use Rattle.ddcmp_commands.specs.Endings.{IsLineUnopened, is_json, is_refusal}
use Rattle.ddcmp_cli.specs.Lines.{LinesKnown}

-- the notation in which received frames are printed: JSON, plain text if `--trace` is given, or
-- none
abbrev pub lines_of : Notation → Bool → Option LogNotation
lines_of words.Json trace = Some Json
lines_of words.Plain trace = if trace then Some Plain else None

-- the same, or a ladder, if one is requested
abbrev pub trace_of : BridgeArgs → Option LogNotation
trace_of bridged =
    if bridged.ladder then Some Ladder else lines_of bridged.notation bridged.trace

-- The report of a bridge that ran was written, and the program ends as the bridge did; or writing
-- the report failed.
abbrev pub Reports : Known → Known → BridgeEnd → Ending → Type 0
Reports old new end ending =
    ((ending ≡ (if end.has_failed then Faulted Ended else Done))
    × Appends old new (bridge_report end.there end.back))
    ⊎ ((ending ≡ Faulted Write) × AppendsPart old new (bridge_report end.there end.back))

-- how the program ends after a bridge with this result
abbrev pub BridgeEnds : Known → Known → Result BridgeEnd BridgeFault → Ending → Type 0
BridgeEnds old new (Ok end) ending = Reports old new end ending
BridgeEnds old new (Err (bridging.Open why)) ending =
    IsLineUnopened (open_fault_text why) ending × Keeps old new
BridgeEnds old new (Err bridging.Memory) ending = (ending ≡ Faulted Memory) × Keeps old new

-- the options of a bridge with these arguments
abbrev pub options_of : BridgeArgs → BridgeOptions
options_of bridged = record {
  seconds = bridged.seconds;
  again = bridged.again;
  faults = bridged.faults;
  delay_ms = bridged.delay;
  baud = bridged.baud;
  trace = trace_of bridged;
  report = bridged.report;
  clock = bridged.clock;
  save_first = bridged.save_first;
  save_second = bridged.save_second;
  append = bridged.append;
}

-- Frames can't be printed in two notations.
abbrev pub has_two_notations : BridgeArgs → Bool
has_two_notations bridged = bridged.ladder && is_json bridged.notation

-- The result of `bridge`. A LINE that isn't one and two notations are usage errors; else a bridge
-- was run from the line of the first name to that of the second with these options, and the
-- program ends as the bridge did.
abbrev pub Bridges : LinesKnown → BridgeArgs → Known → Known → Ending → Type 0
Bridges lines bridged old new ending =
    ((has_two_notations bridged ≡ true) × (is_refusal ending ≡ true) × Keeps old new)
    ⊎ (((line : LineName) → word_of line ≢ bridged.first.now)
    × (is_refusal ending ≡ true) × Keeps old new)
    ⊎ (((line : LineName) → word_of line ≢ bridged.second.now)
    × (is_refusal ending ≡ true) × Keeps old new)
    ⊎ ((has_two_notations bridged ≡ false)
    × (first : LineName) × (word_of first ≡ bridged.first.now)
    × (second : LineName) × (word_of second ≡ bridged.second.now)
    × (ended : Result BridgeEnd BridgeFault)
    × ((known : Result BridgeEnd BridgeFault)
    → lines.bridges (word_of first) (word_of second) (options_of bridged) ≡ Some known
    → ended ≡ known)
    × BridgeEnds old new ended ending)
