-- One turn of `drive`, in the parts that are proved.
use Rattle.std.specs.Prelude.{◌≡◌, ℕ, ◌+◌, ◌<◌, ◌≤◌, List, [], ◌∷◌, ◌++◌, length, take, Option}
use Rattle.std.specs.Prelude.{Result, Ok, Err}
use Rattle.std.specs.Io.KnownBytes.{Appends, Consumes}
use Rattle.ddcmp_io.specs.declared.device.Worst.{Worst}
use Rattle.ddcmp_io.specs.declared.device.Worst.TheVariants.{Fine}
use Rattle.ddcmp_frame.specs.Reader.{StandsFor}
use Rattle.ddcmp_io.specs.declared.device.LineFault.{LineFault}
use Rattle.ddcmp_io.specs.declared.device.LineFault.TheVariants.{Read, Write, Ended, Memory}
use Rattle.ddcmp_station.specs.declared.driver.Tally.{Tally}
use Rattle.ddcmp_proto.specs.Station.{StationView}
use Rattle.ddcmp_station.specs.UserCalls.{UserCall}
use Rattle.ddcmp_station.specs.Driving.{DriveTurn, Devices, IsSentPart, before_read, after_turn}
use Rattle.ddcmp_station.specs.Driving.{bytes_read, read_answer, last_read_answer, TakesTurns}
use Rattle.ddcmp_frame.specs.Device.{Logs}
use Rattle.ddcmp_io.specs.declared.device.Got.{Got}

-- all bytes were written, or on a fault a prefix of them
abbrev pub WritesFrame : Option (List ℕ) → Option (List ℕ) → List ℕ → Result ℕ LineFault → Type 0
WritesFrame old new bytes (Ok n) = (n ≡ length bytes) × Appends old new bytes
WritesFrame old new bytes (Err Write) = (n : ℕ) × Appends old new (take n bytes)
WritesFrame old new bytes (Err Read) = ⊥
WritesFrame old new bytes (Err Ended) = ⊥
WritesFrame old new bytes (Err Memory) = ⊥

-- the result of the one read
abbrev pub read_answers_of : Result ℕ LineFault → List Got
read_answers_of (Ok n) = read_answer n ∷ []
read_answers_of (Err fault) = last_read_answer fault

-- a turn was taken
pub record TakesTurn (milliseconds : ℕ) (old new : StationView) (before after : Tally)
    (worst : Worst) (devices : Devices) (saw : List UserCall → Type 0) : Type 0 where
  pub turn : DriveTurn
  pub frame : List ℕ
  pub short : length turn.came ≤ 256
  pub fine : devices.worst ≡ Fine → (worst ≡ Fine) × (0 < length turn.came)
  pub consumed : Consumes devices.left devices.left_after turn.came
  pub appended : Appends devices.sink devices.sink_after frame
  pub clocked : Appends devices.told devices.told_after (turn.now ∷ [])
  pub answered : Logs devices.answers devices.answers_after (read_answer (length turn.came) ∷ [])
  pub sights : List UserCall
  pub shown : saw sights
  pub read : after.read ≡ before.read + length turn.came
  pub written : after.written ≡ before.written + length frame
  pub syn : new.syn ≡ old.syn
  pub limits : new.core.limits ≡ old.core.limits
  pub offset : new.line.offset ≡ old.line.offset + length turn.came
  pub stands : (text : List ℕ) → StandsFor old.line text → StandsFor new.line (text ++ turn.came)
  pub turned_is : (text written : List ℕ) (seen : List UserCall) → StandsFor old.line text
      → after_turn milliseconds old.syn turn (record {
        core = old.core;
        text = text;
        deadline = before.deadline;
        written = written;
        seen = seen;
      })
      ≡ record {
        core = new.core;
        text = text ++ turn.came;
        deadline = after.deadline;
        written = written ++ frame;
        seen = seen ++ sights;
      }

-- a turn was started and ended at a fault
pub record BreaksTurn (milliseconds : ℕ) (old new : StationView) (before : Tally) (worst : Worst)
    (devices : Devices) (saw : List UserCall → Type 0) (fault : LineFault) : Type 0 where
  pub last : DriveTurn
  pub frame : List ℕ
  pub sent : List ℕ
  pub sent_is : IsSentPart fault sent frame
  pub consumed : Consumes devices.left devices.left_after []
  pub appended : Appends devices.sink devices.sink_after sent
  pub clocked : Appends devices.told devices.told_after (last.now ∷ [])
  pub answered : Logs devices.answers devices.answers_after (last_read_answer fault)
  pub sights : List UserCall
  pub shown : saw sights
  pub fine : devices.worst ≡ Fine → worst ≡ Fine
  pub syn : new.syn ≡ old.syn
  pub limits : new.core.limits ≡ old.core.limits
  pub line : new.line ≡ old.line
  pub deadline : Option ℕ
  pub before_is : (text written : List ℕ) (seen : List UserCall)
      → before_read milliseconds old.syn last (record {
        core = old.core;
        text = text;
        deadline = before.deadline;
        written = written;
        seen = seen;
      })
      ≡ record {
        core = new.core;
        text = text;
        deadline = deadline;
        written = written ++ frame;
        seen = seen ++ sights;
      }

-- either of the two; `worst` is the worst status of the source before
abbrev pub TurnEnds : ℕ → StationView → StationView → Tally → Tally → Worst → Devices
    → (List UserCall → Type 0) → Result (Unit {0}) LineFault → Type 0
TurnEnds milliseconds old new before after worst devices saw (Ok u) =
    TakesTurn milliseconds old new before after worst devices saw
TurnEnds milliseconds old new before after worst devices saw (Err fault) =
    BreaksTurn milliseconds old new before worst devices saw fault

-- this many turns were taken, and the tally counts them
pub record TurnsSoFar (milliseconds count : ℕ) (old new : StationView) (tally : Tally)
    (devices : Devices) (saw : List UserCall → Type 0) : Type 0 where
  pub turns : List DriveTurn
  pub written : List ℕ
  pub seen : List UserCall
  pub count_is : length turns ≡ count
  pub read_is : tally.read ≡ length (bytes_read turns)
  pub written_is : tally.written ≡ length written
  pub took : TakesTurns milliseconds turns written seen tally.deadline old new devices saw
