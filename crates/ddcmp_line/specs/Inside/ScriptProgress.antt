-- How far a script has been played.
use Rattle.std.specs.Prelude.{◌≡◌, ℕ, ◌+◌, Bool, false, List, [], ◌++◌, length, Option, Some}
use Rattle.std.specs.Prelude.{Result, Ok, Err}
use Rattle.ddcmp_io.specs.Carriages.{Carriage}
use Rattle.ddcmp_pair.specs.Run.{PairState}
use Rattle.ddcmp_line.specs.declared.player.Player.{Player}
use Rattle.ddcmp_io.specs.Written.{Known, Output, HandsOver}
use Rattle.ddcmp_line.specs.declared.command.ParsedLine.TheVariants as reading
use Rattle.ddcmp_line.specs.declared.performer.Undone.{Undone}
use Rattle.ddcmp_line.specs.declared.performer.Undone.TheVariants.{NoCommand, NotHex, Write}
use Rattle.ddcmp_line.specs.declared.performer.Undone.TheVariants.{Memory, Carrier}
use Rattle.ddcmp_line.specs.ScriptWords.{lines_of}
use Rattle.ddcmp_line.specs.Script.{Between, DoneLine}
use Rattle.ddcmp_line.specs.ScriptEnds.{Around, around, HasNoLf, Begins, Did, StoppedAt, Broken}
use Rattle.ddcmp_line.specs.ScriptEnds.{AsksCarrier, scene_then}

-- a sink, and an empty page to buffer what is written to it
abbrev pub fresh : Known → Output
fresh sink = record { broken = false; sink = sink; waiting = [] }

-- The state of a player: the part of the current line that was read, how many lines are done, and
-- what is between the ends.
pub record PlayerView : Type 0 where
  pub line : List ℕ
  pub number : ℕ
  pub lines : Between

abbrev pub played : List ℕ → ℕ → Between → PlayerView
played line number lines = record { line = line; number = number; lines = lines }

-- the output and the pair at the start and now
pub record Course : Type 0 where
  pub start : Output
  pub now : Output
  pub around : Around

abbrev pub course : Output → Output → Around → Course
course start now x = record { start = start; now = now; around = x }

-- this text was written since the start
abbrev pub HandedOver : Course → List ℕ → Type 0
HandedOver way text = HandsOver way.start way.now text

-- Some lines of an input are done; `player.line` was read of the next one; and `rest` is unread.
pub record HasDone (input rest : List ℕ) (player : PlayerView) (way : Course) : Type 0 where
  pub done : List DoneLine
  pub begins : Begins done (lines_of (player.line ++ rest)) input
  pub did : Did done way.around (HandedOver way)
  pub lines_are : player.lines ≡ (scene_then way.around.pair done).lines
  pub number_is : player.number ≡ length done
  pub begun : HasNoLf player.line

-- All lines of an input are done.
pub record HasDoneAll (input : List ℕ) (way : Course) : Type 0 where
  pub done : List DoneLine
  pub begins : Begins done [] input
  pub did : Did done way.around (HandedOver way)

-- some lines of an input are done, whose unread rest is `left`
abbrev pub IsPlaying : List ℕ → Known → PlayerView → Course → Type 0
IsPlaying input left player way =
    (rest : List ℕ) × (left ≡ Some rest) × HasDone input rest player way

-- why a line wasn't done, after `number` lines that were
abbrev pub Stops : List ℕ → ℕ → Course → Undone → Type 0
Stops input number way NoCommand =
    StoppedAt (λ r. r ≡ reading.NoCommand) (number + 1) input way.around (HandedOver way)
Stops input number way NotHex =
    StoppedAt (λ r. r ≡ reading.NotHex) (number + 1) input way.around (HandedOver way)
Stops input number way Write = Broken input way.around (λ text behind. HandedOver way text)
Stops input number way Memory = Broken input way.around (λ text behind. HandedOver way text)
Stops input number way Carrier =
    StoppedAt AsksCarrier (number + 1) input way.around (HandedOver way)

-- the bytes before `rest` were played, or why not
abbrev pub PlaysOn : List ℕ → List ℕ → PlayerView → Course → Result (Unit {0}) Undone → Type 0
PlaysOn input rest player way (Ok u) = HasDone input rest player way
PlaysOn input rest player way (Err stop) = Stops input player.number way stop

-- The state at a moment: the player, the output, the pair, and what the carrier has reported.
pub record Moment : Type 0 where
  pub player : PlayerView
  pub output : Output
  pub pair : PairState
  pub told : Option (List Carriage)

abbrev pub moment : Player → Output → PairState → Option (List Carriage) → Moment
moment player output pair told = record {
  player = played player.line.items player.number player.stage.lines;
  output = output;
  pair = pair;
  told = told;
}

-- a chunk of an input was played, or why not
abbrev pub Takes : List ℕ → Bool → Moment → Moment → Result (Unit {0}) Undone → Type 0
Takes piece is_direct old new result =
    (input rest : List ℕ) (p : PairState) (d : Bool) (log : Option (List Carriage))
    (start : Output) → is_direct ≡ d
    → HasDone input (piece ++ rest) old.player
    (course start old.output (around p old.pair d log old.told))
    → PlaysOn input rest new.player (course start new.output (around p new.pair d log new.told))
    result

-- the same for the last line
abbrev pub PlaysOut : List ℕ → ℕ → Course → Result (Unit {0}) Undone → Type 0
PlaysOut input number way (Ok u) = HasDoneAll input way
PlaysOut input number way (Err stop) = Stops input number way stop
