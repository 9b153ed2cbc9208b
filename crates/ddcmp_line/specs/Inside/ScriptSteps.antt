-- The effect of one line of a script, as the code does it.
use Rattle.std.specs.Prelude.{◌≡◌, ◌⊎◌, ◌↔◌, ℕ, Bool, false, IsTrue, List, [], Option, Result, Ok}
use Rattle.std.specs.Prelude.{Err}
use Rattle.ddcmp_io.specs.Device.{Logs}
use Rattle.ddcmp_io.specs.Written.{Output, HandsOver}
use Rattle.ddcmp_io.specs.declared.carrier.End.{End}
use Rattle.ddcmp_line.specs.declared.command.ScriptCommand.TheVariants.{Carry}
use Rattle.ddcmp_line.specs.declared.command.ParsedLine.{ParsedLine}
use Rattle.ddcmp_line.specs.declared.command.ParsedLine.TheVariants as reading
use Rattle.ddcmp_line.specs.declared.performer.Undone.{Undone}
use Rattle.ddcmp_line.specs.declared.performer.Undone.TheVariants.{NoCommand, NotHex, Write}
use Rattle.ddcmp_line.specs.declared.performer.Undone.TheVariants.{Memory, Carrier}
use Rattle.ddcmp_pair.specs.Run.{PairState}
use Rattle.ddcmp_pair.specs.Settle.{WantsMemory}
use Rattle.ddcmp_io.specs.Carriages.{Carriage}
use Rattle.ddcmp_line.specs.Script.{events_by, Between, Scene, Effect, Carries, after_outcome}
use Rattle.ddcmp_line.specs.Script.{scene_after, text_of, carriages_by}

abbrev pub scene_of : PairState → Between → Scene
scene_of p lines = record { pair = p; lines = lines }

-- The whole effect happened, and its text was written.
pub record Comes (o : Effect) (old new : Scene) (before after : Output) : Type 0 where
  pub scene : new ≡ after_outcome o old
  pub text : HandsOver before after o.text

-- What a line passes to the carrier was carried; some of its events happened, each as a whole; and
-- the next one needs to allocate.
pub record HasBegun (is_direct : Bool) (log log_after : Option (List Carriage)) (r : ParsedLine)
    (old new : Scene) : Type 0 where
  pub came : List ℕ
  pub wants : WantsMemory (events_by r came old) old.pair new.pair
  pub carried : Carries is_direct log log_after (carriages_by r came old)

-- nothing happened at the ends, and nothing was carried
abbrev pub IsUntouched : Bool → Option (List Carriage) → Option (List Carriage) → Scene → Scene
    → Type 0
IsUntouched is_direct log log_after old new =
    (new.pair ≡ old.pair) × Carries is_direct log log_after []

-- an allocation failure stops a line
abbrev pub stopped_of : {E : Type 0} → Result (Unit {0}) E → Result (Unit {0}) Undone
stopped_of (Ok u) = Ok u
stopped_of (Err m) = Err Memory

-- the effect of a line, for each result
abbrev pub LineEnds : Bool → Option (List Carriage) → Option (List Carriage) → ParsedLine → Scene
    → Scene → Output → Output → Result (Unit {0}) Undone → Type 0
LineEnds is_direct log log_after r old new before after (Ok u) =
    (came : List ℕ) × (r ≡ reading.NoCommand → ⊥) × (r ≡ reading.NotHex → ⊥)
    × (new ≡ scene_after r came old) × HandsOver before after (text_of r came old)
    × Carries is_direct log log_after (carriages_by r came old)
LineEnds is_direct log log_after r old new before after (Err NoCommand) =
    (r ≡ reading.NoCommand) × (new ≡ old) × (after ≡ before) × Logs log log_after []
LineEnds is_direct log log_after r old new before after (Err NotHex) =
    (r ≡ reading.NotHex) × (new ≡ old) × (after ≡ before) × Logs log log_after []
LineEnds is_direct log log_after r old new before after (Err Write) =
    (new ≡ old) × HandsOver before after [] × Logs log log_after []
LineEnds is_direct log log_after r old new before after (Err Carrier) =
    (from : End) × (most : Option ℕ) × (r ≡ reading.Asks (Carry from most)) × (new ≡ old)
    × HandsOver before after [] × Logs log log_after []
LineEnds is_direct log log_after r old new before after (Err Memory) =
    HandsOver before after []
    × (IsUntouched is_direct log log_after old new ⊎ HasBegun is_direct log log_after r old new)

-- What a result implies for the sink and the carrier: Err Write, that a write failed; Err Carrier,
-- that the carrier did, after all buffered text was written.
pub record TellsDevices (output : Output) (is_down : Bool) (result : Result (Unit {0}) Undone)
    : Type 0 where
  pub write : result ≡ Err Write → IsTrue output.broken
  pub one : result ≡ Err Carrier → (output.broken ≡ false) × (output.waiting ≡ [])
  pub carrier : (result ≡ Err Carrier) ↔ IsTrue is_down
