-- How the program ends.
use Rattle.std.specs.Prelude.{⊤, ◌↔◌, IsTrue, None, codes, string_bytes, false, ◌≡◌, ◌≢◌, ◌⊎◌, ◌≤◌}
use Rattle.std.specs.Prelude.{ℕ, List, [], Option, Some, Result, Ok, Err}
use Rattle.std.specs.Option.{option_map}
use Rattle.std.specs.Io.KnownBytes.{Appends, Keeps}
use Rattle.ddcmp_commands.specs.declared.fault.Fault.TheVariants.{Read, Write, Memory as NoMemory}
use Rattle.ddcmp_station.specs.Config.{first_refusal}
use Rattle.ddcmp_commands.specs.declared.ending.Ending.{Ending}
use Rattle.ddcmp_commands.specs.declared.ending.Ending.TheVariants.{Done, Usage as Misused}
use Rattle.ddcmp_commands.specs.declared.ending.Ending.TheVariants.{Fault as Faulted}
use Rattle.clap.specs.Words.{Text}
use Rattle.ddcmp_args.specs.declared.command.Command.{Command}
use Rattle.ddcmp_args.specs.declared.command.Command.TheVariants.{Explain, Simulate, Pair, Station}
use Rattle.ddcmp_args.specs.declared.command.Command.TheVariants.{Tap, Link, Bridge}
use Rattle.ddcmp_args.specs.declared.explain_args.ExplainArgs.{ExplainArgs}
use Rattle.ddcmp_args.specs.declared.station_args.StationArgs.{StationArgs}
use Rattle.ddcmp_commands.specs.Connections.{Peers}
use Rattle.ddcmp_args.specs.declared.link_args.LinkArgs.{LinkArgs}
use Rattle.ddcmp_args.specs.declared.bridge_args.BridgeArgs.{BridgeArgs}
use Rattle.ddcmp_args.specs.declared.tap_args.TapArgs.{TapArgs}
use Rattle.ddcmp_args.specs.declared.no_command.NoCommand.{NoCommand}
use Rattle.ddcmp_args.specs.declared.no_command.NoCommand.TheVariants.{Help, Version, Usage}
use Rattle.ddcmp_args.specs.declared.no_command.NoCommand.TheVariants.{Memory}
use Rattle.ddcmp_io.specs.declared.device.Worst.TheVariants.{Fine}
use Rattle.ddcmp_io.specs.Change.{SourceChange, SinkChange}
use Rattle.ddcmp_io.specs.Input.{GaveMost}
use Rattle.ddcmp_io.specs.Written.{AppendsPart, Known}
use Rattle.ddcmp_args.specs.Args.{HasBridge, HasExplain, HasLink, HasStation, HasTap, Reads}
use Rattle.ddcmp_args.specs.Args.{option_in, text_in, Asks, IsAsked, IsOutOfOrder, file_of}
use Rattle.ddcmp_core.specs.Limits.{MAX_COUNT}
use Rattle.ddcmp_cli.specs.Lines.{LinesKnown}
use Rattle.ddcmp_cli.specs.LinkEndings.{Links}
use Rattle.ddcmp_cli.specs.BridgeEndings.{Bridges}
use Rattle.ddcmp_cli.specs.Scripts.{ScriptAsked}
use Rattle.ddcmp_cli.specs.declared.script_command.Way.TheVariants.{Simulated, Paired}
use Rattle.ddcmp_commands.specs.Endings.{is_refusal, Streams, streams}
use Rattle.ddcmp_commands.specs.Explaining.{ExplainsAsked}
use Rattle.ddcmp_commands.specs.Stations.{Stations}
use Rattle.ddcmp_commands.specs.TapEndings.{TapsAsked}

-- `explain` ran with the options that the arguments have, or an allocation failed
abbrev pub ExplainsOrNoMemory : (List ℕ → Known) → List Text → Streams → Ending → Type 0
ExplainsOrNoMemory held words s ending =
    ((ending ≡ Faulted NoMemory) × (s.left ≡ Some s.input) × Appends s.before s.after [])
    ⊎ ((e : ExplainArgs) × HasExplain (option_in words) (text_in words) e
    × ExplainsAsked held e s ending)

-- the name of the file that a command reads instead of standard input
abbrev pub file_named : Command → Option (List ℕ)
file_named (Explain explained) = option_map (λ name. name.now) explained.file
file_named (Simulate scripted) = option_map (λ name. name.now) scripted.file
file_named (Pair scripted) = option_map (λ name. name.now) scripted.file
file_named (Station served) = None
file_named (Tap tapped) = None
file_named (Link linked) = None
file_named (Bridge bridged) = None

-- a command of this name may have the name of a file
abbrev pub ReadsFiles : Text → Type 0
ReadsFiles name =
    (name ≡ codes "explain") ⊎ (name ≡ codes "simulate") ⊎ (name ≡ codes "pair")

abbrev pub CanRun : Command → Type 0
CanRun (Explain explained) = (1 ≤ explained.max) × (explained.max ≤ MAX_COUNT)
CanRun (Simulate scripted) = first_refusal scripted.from.config ≡ None
CanRun (Pair scripted) = first_refusal scripted.from.config ≡ None
CanRun (Station served) = ⊤
CanRun (Tap tapped) = (1 ≤ tapped.max) × (tapped.max ≤ MAX_COUNT)
CanRun (Link linked) = ⊤
CanRun (Bridge bridged) = ⊤

-- `station` ran with the options that the arguments have, or an allocation failed
abbrev pub StationsOrNoMemory : Peers → List Text → Known → Known → Ending → Type 0
StationsOrNoMemory peers words old new ending =
    ((ending ≡ Faulted NoMemory) × Keeps old new)
    ⊎ ((served : StationArgs) × HasStation (option_in words) (text_in words) served
    × Stations peers served old new ending)

-- `tap` ran with the options that the arguments have, or an allocation failed
abbrev pub TapsOrNoMemory : List Text → Known → Known → Ending → Type 0
TapsOrNoMemory words old new ending =
    ((ending ≡ Faulted NoMemory) × Keeps old new)
    ⊎ ((tapped : TapArgs) × HasTap (option_in words) (text_in words) tapped
    × TapsAsked tapped old new ending)

-- `link` ran with the options that the arguments have, or an allocation failed
abbrev pub LinksOrNoMemory : LinesKnown → List Text → Ending → Type 0
LinksOrNoMemory lines words ending =
    (ending ≡ Faulted NoMemory)
    ⊎ ((linked : LinkArgs) × HasLink (option_in words) (text_in words) linked
    × Links lines linked ending)

-- `bridge` ran with the options that the arguments have, or an allocation failed
abbrev pub BridgesOrNoMemory : LinesKnown → List Text → Known → Known → Ending → Type 0
BridgesOrNoMemory lines words old new ending =
    ((ending ≡ Faulted NoMemory) × Keeps old new)
    ⊎ ((bridged : BridgeArgs) × HasBridge (option_in words) (text_in words) bridged
    × Bridges lines bridged old new ending)

-- A command was run, and the ending reports its result. `held` has the contents of files by their
-- names, `peers` what is known of connections, and `lines` of lines.
abbrev pub Performs : (List ℕ → Known) → Peers → LinesKnown → Command → Streams → Ending → Type 0
Performs held peers lines (Explain explained) s ending = ExplainsAsked held explained s ending
Performs held peers lines (Simulate scripted) s ending =
    ScriptAsked Simulated held scripted s ending
Performs held peers lines (Pair scripted) s ending = ScriptAsked Paired held scripted s ending
Performs held peers lines (Station served) s ending =
    (s.left ≡ Some s.input) × Stations peers served s.before s.after ending
Performs held peers lines (Tap tapped) s ending =
    (s.left ≡ Some s.input) × TapsAsked tapped s.before s.after ending
Performs held peers lines (Link linked) s ending = Links lines linked ending
Performs held peers lines (Bridge bridged) s ending =
    (s.left ≡ Some s.input) × Bridges lines bridged s.before s.after ending

-- the whole text was written, or a write failed
abbrev pub Shows : List ℕ → Known → Known → Ending → Type 0
Shows text old new ending =
    ((ending ≡ Done) × Appends old new text) ⊎ ((ending ≡ Faulted Write) × AppendsPart old new text)

-- The result for parsed arguments. `before` and `left` are what the source had and has left, `old`
-- and `new` what the sink held and holds. Only commands read, and a usage error writes nothing
-- here.
abbrev pub Answers : (List ℕ → Known) → Peers → LinesKnown → Result Command NoCommand → Known
    → Known → Known → Known → Ending → Type 0
Answers held peers lines (Ok command) before left old new ending =
    (input : List ℕ) → before ≡ Some input
    → Performs held peers lines command (streams input left old new) ending
Answers held peers lines (Err (Help text)) before left old new ending =
    (left ≡ before) × Shows (string_bytes text) old new ending
Answers held peers lines (Err (Version text)) before left old new ending =
    (left ≡ before) × Shows (string_bytes text) old new ending
Answers held peers lines (Err (Usage text)) before left old new ending =
    (left ≡ before) × Keeps old new × (ending ≡ Misused text)
Answers held peers lines (Err Memory) before left old new ending =
    (left ≡ before) × Keeps old new × (ending ≡ Faulted NoMemory)

-- how the program ends, whatever its arguments
abbrev pub Ends : (List ℕ → Known) → Peers → LinesKnown → List Text → Known → Known → Known
    → Known → Ending → Type 0
Ends held peers lines words before left old new ending =
    (read : Result Command NoCommand) × Reads words read
    × Answers held peers lines read before left old new ending

-- What a run of the program did, for these arguments. `Unread` and `Unwritten` state that its input
-- and its output are unchanged.
pub record RunsAs (held : List ℕ → Known) (peers : Peers) (lines : LinesKnown) (words : List Text)
    (source : SourceChange) (sink : SinkChange) (Unread Unwritten : Type 0) (ending : Ending)
    : Type 0 where
  pub explains : (input : List ℕ) → source.before ≡ Some input → IsAsked words (codes "explain")
      → ExplainsOrNoMemory held words (streams input source.after sink.before sink.after) ending
  pub ends : Ends held peers lines words source.before source.after sink.before sink.after ending
  pub refused : IsOutOfOrder words → IsTrue (is_refusal ending) × Unread × Unwritten
  pub read : (Asks words (codes "link") → ⊥) → source.state ≢ Fine → ending ≡ Faulted Read
  pub read_only : (Asks words (codes "station") → ⊥) → (Asks words (codes "tap") → ⊥)
      → (Asks words (codes "link") → ⊥) → file_of (text_in words (codes "file")) ≡ None
      → ending ≡ Faulted Read
      → (source.state ≢ Fine) ⊎ GaveMost source.before source.after
  pub write : (Asks words (codes "station") → ⊥) → (Asks words (codes "tap") → ⊥)
      → (ending ≡ Faulted Write) ↔ IsTrue sink.broken
  pub whole : ending ≡ Done → sink.broken ≡ false
  pub untouched : (name : Text) → ReadsFiles name → IsAsked words name
      → file_of (text_in words (codes "file")) ≢ None → Unread
  pub stations : IsAsked words (codes "station")
      → Unread × StationsOrNoMemory peers words sink.before sink.after ending
  pub taps : IsAsked words (codes "tap")
      → Unread × TapsOrNoMemory words sink.before sink.after ending
      × (IsTrue sink.broken → ending ≡ Faulted Write)
  pub links : IsAsked words (codes "link") → LinksOrNoMemory lines words ending
  pub bridges : IsAsked words (codes "bridge")
      → Unread × BridgesOrNoMemory lines words sink.before sink.after ending
