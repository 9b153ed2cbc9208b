-- What `ddcmp simulate` and `ddcmp pair` do, and how they end.
use Rattle.std.specs.Prelude.{if◌then◌else◌, None, Bool, true, false, ◌≡◌, ◌≢◌, ◌⊎◌, ℕ, List, []}
use Rattle.std.specs.Prelude.{◌∷◌, Option, Some, Result, Ok, Err, is_some}
use Rattle.std.specs.Io.KnownBytes.{Appends, Keeps}
use Rattle.ddcmp_line.specs.declared.script_fault.ScriptFault.{ScriptFault}
use Rattle.ddcmp_commands.specs.declared.fault.Fault.TheVariants.{Memory as NoMemory, Carrier}
use Rattle.ddcmp_io.specs.declared.carrier.End.TheVariants.{A, B}
use Rattle.ddcmp_pair.specs.declared.event.Event.TheVariants as event
use Rattle.ddcmp_pair.specs.Pairs.{new_pair_by}
use Rattle.ddcmp_pair.specs.Run.{PairState, run}
use Rattle.ddcmp_pair.specs.Settle.{settled}
use Rattle.ddcmp_line.specs.ScriptEnds.{Around, around, Plays}
use Rattle.ddcmp_picture.specs.Drawn.{DrawsScript}
use Rattle.ddcmp_picture.specs.declared.canvas.Picture.{Picture}
use Rattle.ddcmp_commands.specs.declared.ending.Ending.{Ending}
use Rattle.ddcmp_commands.specs.declared.ending.Ending.TheVariants.{Fault as Faulted}
use Rattle.std.specs.Borrow.{Bor}
use Rattle.ddcmp_args.specs.declared.script_args.Beginning.{Beginning}
use Rattle.ddcmp_args.specs.declared.script_args.ScriptArgs.{ScriptArgs}
use Rattle.ddcmp_cli.specs.declared.script_command.Way.{Way}
use Rattle.ddcmp_cli.specs.declared.script_command.Way.TheVariants.{Simulated, Paired}
use Rattle.ddcmp_io.specs.Written.{AppendsPart, Known}
use Rattle.ddcmp_args.specs.declared.view.ScriptView.{ScriptView}
use Rattle.ddcmp_commands.specs.Endings.{script_fault, ending_of, is_refusal, Streams, Untouched}
use Rattle.ddcmp_commands.specs.Endings.{ReadsFile}

-- a pair after both ends were started, and settled
abbrev pub begun : PairState → PairState
begun p = settled (run (event.Start A ∷ event.Start B ∷ []) p)

-- the pair that a script begins with
abbrev pub pair_with : Beginning → PairState
pair_with from =
    if from.begun then begun (new_pair_by from.by_user from.config from.config)
    else new_pair_by from.by_user from.config from.config

-- A script was drawn, or its text was written. What is written of a drawing isn't defined here.
abbrev pub Ran : Bool → Bool → Streams → Around → Result (Unit {0}) ScriptFault → Type 0
Ran true counted s x result = DrawsScript s.input x result
Ran false counted s x result =
    Plays counted s.input x (Appends s.before s.after) (AppendsPart s.before s.after) result

-- A script was run between two such ends, over a carrier that is direct or not, and the ending
-- reports the result; or an allocation for the ends failed.
abbrev pub RunsBetween : Bool → Beginning → Bool → Bool → Streams → Ending → Type 0
RunsBetween is_direct from counted is_drawn s ending =
    ((ending ≡ Faulted NoMemory) × (s.left ≡ Some s.input) × Appends s.before s.after [])
    ⊎ ((result : Result (Unit {0}) ScriptFault) × (after : PairState)
    × (ending ≡ ending_of script_fault result)
    × Ran is_drawn counted s (around (pair_with from) after is_direct None None) result)

-- The same for `simulate`, whose carrier returns what it is passed, and doesn't fail; and for
-- `pair`, whose connection may not be made. What that returns isn't known.
abbrev pub RunsBy : Way → Beginning → Bool → Bool → Streams → Ending → Type 0
RunsBy Simulated from counted is_drawn s ending =
    RunsBetween true from counted is_drawn s ending × (ending ≢ Faulted Carrier)
RunsBy Paired from counted is_drawn s ending =
    ((ending ≡ Faulted Carrier) × (s.left ≡ Some s.input) × Appends s.before s.after [])
    ⊎ RunsBetween false from counted is_drawn s ending

-- What holds of a run, by the pictures that are requested: two are a usage error; one is drawn; if
-- there is none, the text is written.
abbrev pub ShowsBy : Bool → Bool → Type 0 → (Bool → Type 0) → Type 0
ShowsBy true true Refused Runs = Refused
ShowsBy true false Refused Runs = Runs true
ShowsBy false true Refused Runs = Runs true
ShowsBy false false Refused Runs = Runs false

-- The picture of a view, if any, or the usage error for two.
abbrev pub Picks : ScriptView → Result (Option Picture) Ending → Type 0
Picks view (Ok picture) = ShowsBy view.svg view.ladder ⊥ (λ is_drawn. is_some picture ≡ is_drawn)
Picks view (Err ending) = ShowsBy view.svg view.ladder (is_refusal ending ≡ true) (λ _. ⊥)

-- The script was on standard input; or in a file, and standard input wasn't read. `held` has the
-- contents of files by their names. A usage error reads and writes nothing: requesting both
-- pictures is one before the file is opened.
abbrev pub ShowsFrom : (List ℕ → Known) → Option (Bor (List ℕ)) → ScriptView
    → (Bool → Streams → Ending → Type 0) → Streams → Ending → Type 0
ShowsFrom held None view Runs s ending =
    ShowsBy view.svg view.ladder ((is_refusal ending ≡ true) × Untouched s)
    (λ is_drawn. Runs is_drawn s ending)
ShowsFrom held (Some name) view Runs s ending =
    (s.left ≡ Some s.input)
    × ShowsBy view.svg view.ladder ((is_refusal ending ≡ true) × Keeps s.before s.after)
    (λ is_drawn. ReadsFile name.now (held name.now) (Runs is_drawn) s.before s.after ending)

-- `simulate` and `pair` with their options
abbrev pub ScriptAsked : Way → (List ℕ → Known) → ScriptArgs → Streams → Ending → Type 0
ScriptAsked way held it s ending =
    ShowsFrom held it.file it.view (RunsBy way it.from it.view.counters) s ending
