-- How a script ends: which of its lines were done, what was written, and what the pair is then.
use Rattle.std.specs.Prelude.{◌≡◌, ◌≢◌, ⊤, ◌⊎◌, ◌↔◌, ℕ, ◌+◌, ◌-◌, ◌<◌, ◌^◌, Bool, false, List, []}
use Rattle.std.specs.Prelude.{◌∷◌, ◌++◌, length, Option, Some, Result, Ok, Err, IsOk, IsTrue}
use Rattle.std.specs.Io.KnownBytes.{Appends}
use Rattle.ddcmp_io.specs.declared.device.Worst.TheVariants.{Fine}
use Rattle.ddcmp_io.specs.Change.{SourceChange, SinkChange}
use Rattle.ddcmp_io.specs.Input.{GaveMost}
use Rattle.ddcmp_io.specs.Written.{AppendsPart}
use Rattle.ddcmp_io.specs.declared.carrier.End.{End}
use Rattle.ddcmp_pair.specs.InOrder.{IsInOrder}
use Rattle.ddcmp_pair.specs.Run.{PairState}
use Rattle.ddcmp_pair.specs.Settle.{WantsMemory}
use Rattle.ddcmp_line.specs.declared.command.ScriptCommand.TheVariants as command
use Rattle.ddcmp_line.specs.declared.command.ParsedLine.{ParsedLine}
use Rattle.ddcmp_line.specs.declared.command.ParsedLine.TheVariants as reading
use Rattle.ddcmp_line.specs.declared.script_fault.ScriptFault.{ScriptFault}
use Rattle.ddcmp_line.specs.declared.script_fault.ScriptFault.TheVariants.{Line, Hex, Read}
use Rattle.ddcmp_line.specs.declared.script_fault.ScriptFault.TheVariants.{Write, Memory}
use Rattle.ddcmp_line.specs.declared.script_fault.ScriptFault.TheVariants.{Carrier}
use Rattle.ddcmp_line.specs.ScriptWords.{reading_of, lines_of}
use Rattle.ddcmp_line.specs.ScriptText.{closing_text}
use Rattle.ddcmp_io.specs.Carriages.{Carriage}
use Rattle.ddcmp_line.specs.Script.{Carries, Scene, DoneLine, AllFit, nothing_between, lines_done}
use Rattle.ddcmp_line.specs.Script.{after_lines, text_of_lines, carriages_of_lines, events_by}
use Rattle.ddcmp_line.specs.Script.{carriages_by}

-- a pair with nothing between its ends
abbrev pub scene_with : PairState → Scene
scene_with p = record { pair = p; lines = nothing_between }

-- the scene after some lines, which start with this pair and nothing between its ends
abbrev pub scene_then : PairState → List DoneLine → Scene
scene_then p done = after_lines done (scene_with p)

abbrev pub text_then : PairState → List DoneLine → List ℕ
text_then p done = text_of_lines done (scene_with p)

-- what these lines pass to the carrier
abbrev pub carriages_then : PairState → List DoneLine → List Carriage
carriages_then p done = carriages_of_lines done (scene_with p)

-- The pair and the carrier's log before and after a call, and whether the carrier is direct.
pub record Around : Type 0 where
  pub pair : PairState
  pub pair_after : PairState
  pub is_direct : Bool
  pub told : Option (List Carriage)
  pub told_after : Option (List Carriage)

abbrev pub around : PairState → PairState → Bool → Option (List Carriage)
    → Option (List Carriage) → Around
around p q is_direct told told_after = record {
  pair = p;
  pair_after = q;
  is_direct = is_direct;
  told = told;
  told_after = told_after;
}

-- all that the carrier carried
abbrev pub Carried : Around → List Carriage → Type 0
Carried x all = Carries x.is_direct x.told x.told_after all

-- a text without LF: a part of a line
abbrev pub HasNoLf : List ℕ → Type 0
HasNoLf [] = ⊤
HasNoLf (c ∷ more) = (c ≢ 10) × HasNoLf more

-- An input begins with these lines, all of them are valid, and the lines `behind` follow.
pub record Begins (done : List DoneLine) (behind : List (List ℕ)) (input : List ℕ) : Type 0 where
  pub lines : lines_done done ++ behind ≡ lines_of input
  pub fit : AllFit (lines_done done)

-- These lines were done and no more: the pair is as after them, and their text was written.
pub record Did (done : List DoneLine) (x : Around) (Wrote : List ℕ → Type 0) : Type 0 where
  pub pair : x.pair_after ≡ (scene_then x.pair done).pair
  pub carried : Carried x (carriages_then x.pair done)
  pub written : Wrote (text_then x.pair done)

-- All lines were done, and the last lines of the text were written too.
pub record Finished (counted : Bool) (input : List ℕ) (x : Around) (Wrote : List ℕ → Type 0)
    : Type 0 where
  pub done : List DoneLine
  pub begins : Begins done [] input
  pub did : Did done x (λ text. Wrote (text ++ closing_text counted x.pair_after))

-- Some lines were done.
pub record Paused (input : List ℕ) (x : Around) (Wrote : List ℕ → Type 0) : Type 0 where
  pub done : List DoneLine
  pub behind : List (List ℕ)
  pub begins : Begins done behind input
  pub did : Did done x Wrote

-- Every line that ends with LF before the unread bytes was done, and no other.
pub record PausedBefore (rest : List ℕ) (input : List ℕ) (x : Around) (Wrote : List ℕ → Type 0)
    : Type 0 where
  pub done : List DoneLine
  pub line : List ℕ
  pub begins : Begins done (lines_of (line ++ rest)) input
  pub begun : HasNoLf line
  pub did : Did done x Wrote

-- All lines before line `n` were done, and line `n` reads like this.
pub record StoppedAt (Reads : ParsedLine → Type 0) (n : ℕ) (input : List ℕ) (x : Around)
    (Wrote : List ℕ → Type 0) : Type 0 where
  pub done : List DoneLine
  pub line : List ℕ
  pub behind : List (List ℕ)
  pub begins : Begins done (line ∷ behind) input
  pub number : n ≡ length done + 1
  pub reads : Reads (reading_of line)
  pub did : Did done x Wrote

-- nothing was done after these lines
abbrev pub StoppedBehind : List DoneLine → Around → Type 0
StoppedBehind done x =
    (x.pair_after ≡ (scene_then x.pair done).pair) × Carried x (carriages_then x.pair done)

-- What the line after these passes to the carrier was carried; some of its events happened, each as
-- a whole; and the next one needs to allocate.
pub record StoppedInside (line : List ℕ) (done : List DoneLine) (x : Around) : Type 0 where
  pub came : List ℕ
  pub wants : WantsMemory (events_by (reading_of line) came (scene_then x.pair done))
      (scene_then x.pair done).pair x.pair_after
  pub carried : Carried x (carriages_then x.pair done
      ++ carriages_by (reading_of line) came (scene_then x.pair done))

-- Nothing was done after these lines, or the next one was begun.
abbrev pub StoppedBefore : List (List ℕ) → List DoneLine → Around → Type 0
StoppedBefore [] done x = StoppedBehind done x
StoppedBefore (line ∷ behind) done x = StoppedBehind done x ⊎ StoppedInside line done x

-- After the text of the last line, the last lines of the script's text are written.
abbrev pub text_behind : Bool → List (List ℕ) → PairState → List ℕ
text_behind counted [] p = closing_text counted p
text_behind counted (line ∷ behind) p = []

-- Some lines were done; the next one wasn't, or only in part.
pub record Broken (input : List ℕ) (x : Around) (Wrote : List ℕ → List (List ℕ) → Type 0)
    : Type 0 where
  pub done : List DoneLine
  pub behind : List (List ℕ)
  pub begins : Begins done behind input
  pub stopped : StoppedBefore behind done x
  pub written : Wrote (text_then x.pair done) behind

-- the line uses the carrier
abbrev pub AsksCarrier : ParsedLine → Type 0
AsksCarrier r = (from : End) × (most : Option ℕ) × (r ≡ reading.Asks (command.Carry from most))

-- For each result of a script: which lines were done and how the next one reads, what the pair and
-- its carrier are then, and what was written, or a beginning of it. `counted` is whether counters
-- are requested.
abbrev pub Plays : Bool → List ℕ → Around → (List ℕ → Type 0) → (List ℕ → Type 0)
    → Result (Unit {0}) ScriptFault → Type 0
Plays counted input x Wrote WrotePart (Ok u) = Finished counted input x Wrote
Plays counted input x Wrote WrotePart (Err (Line n)) =
    StoppedAt (λ r. r ≡ reading.NoCommand) n input x Wrote
Plays counted input x Wrote WrotePart (Err (Hex n)) =
    StoppedAt (λ r. r ≡ reading.NotHex) n input x Wrote
Plays counted input x Wrote WrotePart (Err Read) = Paused input x Wrote
Plays counted input x Wrote WrotePart (Err Write) =
    Broken input x (λ text behind. WrotePart (text ++ text_behind counted behind x.pair_after))
Plays counted input x Wrote WrotePart (Err Memory) = Broken input x (λ text behind. Wrote text)
Plays counted input x Wrote WrotePart (Err Carrier) =
    (n : ℕ) × StoppedAt AsksCarrier n input x Wrote

-- A script was played: which lines were done, what was written, what the pair is, and when each
-- result is returned. `is_down` is whether the carrier has failed.
pub record IsPlayed (counted : Bool) (x : Around) (source : SourceChange) (sink : SinkChange)
    (is_down : Bool) (result : Result (Unit {0}) ScriptFault) : Type 0 where
  pub told : (input : List ℕ) → source.before ≡ Some input
      → Plays counted input x (Appends sink.before sink.after)
      (AppendsPart sink.before sink.after) result
  -- Err Read: every line that ends with LF in the bytes that were read was done, and no other.
  pub paused : (input rest : List ℕ) → source.before ≡ Some input → source.after ≡ Some rest
      → length input < length rest + (2 ^ 64 - 1) → result ≡ Err Read
      → PausedBefore rest input x (Appends sink.before sink.after)
  -- Ok: exactly if every line is valid, and no device and no allocation failed.
  pub ok : (input : List ℕ) → source.before ≡ Some input
      → IsOk result ↔ (AllFit (lines_of input) × (source.state ≡ Fine)
      × (GaveMost source.before source.after → ⊥) × (sink.broken ≡ false) × (is_down ≡ false)
      × (result ≢ Err Memory))
  -- Err Read: exactly if the source's state isn't Fine, or it has returned 2^64 - 1 bytes.
  pub read : source.state ≢ Fine → result ≡ Err Read
  pub read_only : result ≡ Err Read
      → (source.state ≢ Fine) ⊎ GaveMost source.before source.after
  pub read_most : (input rest : List ℕ) → source.before ≡ Some input → source.after ≡ Some rest
      → length input ≡ length rest + (2 ^ 64 - 1) → result ≡ Err Read
  pub write : (result ≡ Err Write) ↔ IsTrue sink.broken
  pub carried : (result ≡ Err Carrier) ↔ IsTrue is_down
  -- Whatever the result, messages are in order.
  pub order : IsInOrder x.pair_after
