-- What `drive` does: its turns, and their result.
use Rattle.std.specs.Prelude.{◌≡◌, ℕ, ◌+◌, ◌≤◌, ◌<◌, Bool, false, ◌&&◌, if◌then◌else◌, ◌==◌, nat_le}
use Rattle.std.specs.Prelude.{min, List, [], ◌∷◌, ◌++◌, length, take, Option, Some, None, Result}
use Rattle.std.specs.Prelude.{Ok, Err}
use Rattle.std.specs.List.{flat_map}
use Rattle.std.specs.Io.KnownBytes.{Appends, Consumes}
use Rattle.ddcmp_io.specs.declared.device.Worst.{Worst}
use Rattle.ddcmp_io.specs.declared.device.Worst.TheVariants.{Fine}
use Rattle.ddcmp_frame.specs.Reader.{StandsFor}
use Rattle.ddcmp_frame.specs.Device.{Logs}
use Rattle.ddcmp_io.specs.declared.device.Got.{Got}
use Rattle.ddcmp_io.specs.declared.device.Got.TheVariants.{Bytes, Idle, Failed}
use Rattle.ddcmp_core.specs.declared.state.Timer.{Timer}
use Rattle.ddcmp_core.specs.declared.state.Timer.TheVariants.{Off, Fresh, On}
use Rattle.ddcmp_core.specs.Table.{Frame, after_halt, may_send, after_accept, after_expire}
use Rattle.ddcmp_core.specs.Table.{after_take_arm, is_on, next, next_frame}
use Rattle.ddcmp_core.specs.Choosing.{after_take_all}
use Rattle.ddcmp_core.specs.Counting.{counters_after_expire}
use Rattle.ddcmp_core.specs.Core.{CoreView}
use Rattle.ddcmp_station.specs.declared.driver.Driven.{Driven}
use Rattle.ddcmp_io.specs.declared.device.LineFault.{LineFault}
use Rattle.ddcmp_io.specs.declared.device.LineFault.TheVariants.{Read, Write, Ended, Memory}
use Rattle.ddcmp_proto.specs.Bytes.{after_piece, notices_of_piece, frame_on_line, after_poll}
use Rattle.ddcmp_station.specs.UserCalls.{UserCall, calls_of_offer, calls_of_notices, calls_of_mail}
use Rattle.ddcmp_proto.specs.Station.{StationView}

-- One turn: the moment that the clock returned, the message that the user offered (no bytes if it
-- offered none or wasn't asked), and the bytes that were read.
pub record DriveTurn : Type 0 where
  pub now : ℕ
  pub offered : List ℕ
  pub came : List ℕ

-- A driven station: the station itself, the text of its line, the deadline of its timer, if this
-- call has set one, the bytes that this call has written, and the calls that its user saw.
pub record Driving : Type 0 where
  pub core : CoreView
  pub text : List ℕ
  pub deadline : Option ℕ
  pub written : List ℕ
  pub seen : List UserCall

abbrev pub driving_from : CoreView → List ℕ → Driving
driving_from k text = record { core = k; text = text; deadline = None; written = []; seen = [] }

-- ---- the timer

-- the moment this many milliseconds later, or the last one that a clock can return
abbrev pub later : ℕ → ℕ → ℕ
later now milliseconds = min (now + milliseconds) 18446744073709551615

-- The deadline is set if the timer was started and that wasn't reported yet, or if it is on and
-- this call has set no deadline.
abbrev pub deadline_at : ℕ → ℕ → Timer → Option ℕ → Option ℕ
deadline_at milliseconds now Off deadline = deadline
deadline_at milliseconds now Fresh deadline = Some (later now milliseconds)
deadline_at milliseconds now On None = Some (later now milliseconds)
deadline_at milliseconds now On (Some moment) = Some moment

abbrev pub is_due : ℕ → Option ℕ → Bool
is_due now None = false
is_due now (Some moment) = nat_le moment now

-- the timer has expired
abbrev pub core_after_expire : CoreView → CoreView
core_after_expire k =
    record k {
      station = after_expire k.station;
      counters = counters_after_expire k.station k.counters;
    }

abbrev pub core_after_take_arm : CoreView → CoreView
core_after_take_arm k = record k { station = after_take_arm k.station }

-- whether a timer that is handled at this moment expires
abbrev pub expires_at : ℕ → ℕ → Timer → Option ℕ → Bool
expires_at milliseconds now timer deadline =
    is_on timer && is_due now (deadline_at milliseconds now timer deadline)

-- the timer expires if it is on and its deadline is reached
abbrev pub core_at_deadline : ℕ → Option ℕ → CoreView → CoreView
core_at_deadline now deadline k =
    if is_on k.station.timer && is_due now deadline then core_after_expire k else k

-- ---- the message of the user, the frame, and the received messages

abbrev pub core_after_message : List ℕ → CoreView → CoreView
core_after_message message k = record k {
  station = if may_send k.limits k.station message then after_accept k.station message
      else k.station;
}

abbrev pub frame_bytes : ℕ → Option Frame → List ℕ
frame_bytes syn None = []
frame_bytes syn (Some f) = frame_on_line syn f

-- all received messages are passed to the user
abbrev pub core_after_mail : CoreView → CoreView
core_after_mail k = record k { station = after_take_all k.station }

abbrev pub core_after_halt : CoreView → CoreView
core_after_halt k = record k { station = after_halt k.station }

-- ---- a turn

-- up to its frame: the timer, then the message of the user
abbrev pub before_offer : ℕ → DriveTurn → Driving → CoreView
before_offer milliseconds turn d =
    core_at_deadline turn.now (deadline_at milliseconds turn.now d.core.station.timer d.deadline)
    (core_after_take_arm d.core)

abbrev pub before_frame : ℕ → DriveTurn → Driving → CoreView
before_frame milliseconds turn d =
    core_after_message turn.offered (before_offer milliseconds turn d)

-- up to its read: the frame is written
abbrev pub before_read : ℕ → ℕ → DriveTurn → Driving → Driving
before_read milliseconds syn turn d = record d {
  core = after_poll (before_frame milliseconds turn d);
  deadline = deadline_at milliseconds turn.now d.core.station.timer d.deadline;
  written = d.written
      ++ frame_bytes syn (next_frame (next (before_frame milliseconds turn d).station));
  seen = d.seen ++ calls_of_offer (before_offer milliseconds turn d) turn.offered;
}

-- and the read: the bytes that were read are handled, and all received messages are delivered
abbrev pub after_read : List ℕ → Driving → Driving
after_read came d = record d {
  core = core_after_mail (after_piece d.text came d.core);
  text = d.text ++ came;
  seen = d.seen ++ (calls_of_notices (notices_of_piece d.text came d.core)
      ++ calls_of_mail (after_piece d.text came d.core));
}

abbrev pub after_turn : ℕ → ℕ → DriveTurn → Driving → Driving
after_turn milliseconds syn turn d = after_read turn.came (before_read milliseconds syn turn d)

-- turns in their order
unfoldable pub after_turns : ℕ → ℕ → List DriveTurn → Driving → Driving
after_turns milliseconds syn [] d = d
after_turns milliseconds syn (turn ∷ rest) d =
    after_turns milliseconds syn rest (after_turn milliseconds syn turn d)

-- all bytes that were read
abbrev pub bytes_read : List DriveTurn → List ℕ
bytes_read turns = flat_map (λ t. t.came) turns

-- the moments of the turns
abbrev pub moments : List DriveTurn → List ℕ
moments turns = flat_map (λ t. t.now ∷ []) turns

-- each turn reads once; an idle read returns no bytes
unfoldable pub read_answer : ℕ → Got
read_answer n = if n == 0 then Idle else Bytes n

abbrev pub read_answers : List DriveTurn → List Got
read_answers turns = flat_map (λ t. read_answer (length t.came) ∷ []) turns

-- the result of the read of a turn that was broken off, if there was one
abbrev pub last_read_answer : LineFault → List Got
last_read_answer Read = Failed ∷ []
last_read_answer Write = []
last_read_answer Ended = Bytes 0 ∷ []
last_read_answer Memory = []

-- A read returns at most 256 bytes, and at least one if the source was never idle since it was
-- made: `drive` ends at the end of its input.
unfoldable pub ReadsInTurns : Worst → List DriveTurn → Type 0
ReadsInTurns worst [] = Unit {0}
ReadsInTurns worst (turn ∷ rest) =
    (length turn.came ≤ 256) × (worst ≡ Fine → 0 < length turn.came) × ReadsInTurns worst rest

-- ---- what `drive` did

-- What a source has left, what a sink holds, the moments of the clock and the results of the reads,
-- before and after; and the worst status of the source after.
pub record Devices : Type 0 where
  pub left : Option (List ℕ)
  pub left_after : Option (List ℕ)
  pub worst : Worst
  pub sink : Option (List ℕ)
  pub sink_after : Option (List ℕ)
  pub told : Option (List ℕ)
  pub told_after : Option (List ℕ)
  pub answers : Option (List Got)
  pub answers_after : Option (List Got)

-- The same from the devices themselves, before and after. The first arguments are what a source, a
-- sink and a clock show to contracts.
abbrev pub devices_of : {R W C : Type 0}
    → (R → Option (List ℕ)) → (R → Worst) → (R → Option (List Got)) → (W → Option (List ℕ))
    → (C → Option (List ℕ)) → R → R → W → W → C → C → Devices
devices_of left worst answers contents told
    reader reader_after writer writer_after clock clock_after = record {
      left = left reader;
      left_after = left reader_after;
      worst = worst reader_after;
      sink = contents writer;
      sink_after = contents writer_after;
      told = told clock;
      told_after = told clock_after;
      answers = answers reader;
      answers_after = answers reader_after;
    }

-- These turns were taken: the source lost the bytes read, the sink holds the bytes written, the
-- station is the driven one, for every text that its reader stands for, and `saw` holds for the
-- calls of the user.
pub record TakesTurns (milliseconds : ℕ) (turns : List DriveTurn) (written : List ℕ)
    (seen : List UserCall) (deadline : Option ℕ) (old new : StationView)
    (devices : Devices) (saw : List UserCall → Type 0) : Type 0 where
  pub reads : ReadsInTurns devices.worst turns
  pub consumed : Consumes devices.left devices.left_after (bytes_read turns)
  pub appended : Appends devices.sink devices.sink_after written
  pub clocked : Appends devices.told devices.told_after (moments turns)
  pub answered : Logs devices.answers devices.answers_after (read_answers turns)
  pub shown : saw seen
  pub syn : new.syn ≡ old.syn
  pub limits : new.core.limits ≡ old.core.limits
  pub offset : new.line.offset ≡ old.line.offset + length (bytes_read turns)
  pub stands : (text : List ℕ) → StandsFor old.line text
      → StandsFor new.line (text ++ bytes_read turns)
  pub driven_is : (text : List ℕ) → StandsFor old.line text
      → after_turns milliseconds old.syn turns (driving_from old.core text)
      ≡ record {
        core = new.core;
        text = text ++ bytes_read turns;
        deadline = deadline;
        written = written;
        seen = seen;
      }

-- These turns were taken, and one more up to its read, whose frame is `frame`; `sent` of it was
-- written. Then the station was halted.
pub record BreaksOff (milliseconds : ℕ) (turns : List DriveTurn) (last : DriveTurn)
    (written frame sent : List ℕ) (seen : List UserCall) (old new : StationView)
    (devices : Devices) (saw : List UserCall → Type 0) (fault : LineFault) : Type 0 where
  pub reads : ReadsInTurns devices.worst turns
  pub consumed : Consumes devices.left devices.left_after (bytes_read turns)
  pub appended : Appends devices.sink devices.sink_after (written ++ sent)
  pub clocked : Appends devices.told devices.told_after (moments turns ++ last.now ∷ [])
  pub answered : Logs devices.answers devices.answers_after
      (read_answers turns ++ last_read_answer fault)
  pub shown : saw seen
  pub syn : new.syn ≡ old.syn
  pub limits : new.core.limits ≡ old.core.limits
  pub offset : new.line.offset ≡ old.line.offset + length (bytes_read turns)
  pub stands : (text : List ℕ) → StandsFor old.line text
      → StandsFor new.line (text ++ bytes_read turns)
  pub core : (text : List ℕ) → StandsFor old.line text
      → new.core ≡ core_after_halt (before_read milliseconds old.syn last
      (after_turns milliseconds old.syn turns (driving_from old.core text))).core
  pub written_is : (text : List ℕ) → StandsFor old.line text
      → (after_turns milliseconds old.syn turns (driving_from old.core text)).written ≡ written
  pub frame_is : (text : List ℕ) → StandsFor old.line text
      → (before_read milliseconds old.syn last
      (after_turns milliseconds old.syn turns (driving_from old.core text))).written
      ≡ written ++ frame
  pub seen_is : (text : List ℕ) → StandsFor old.line text
      → (before_read milliseconds old.syn last
      (after_turns milliseconds old.syn turns (driving_from old.core text))).seen ≡ seen

-- how much of the last frame was written: a prefix if the write failed, otherwise all of it
abbrev pub IsSentPart : LineFault → List ℕ → List ℕ → Type 0
IsSentPart Read sent frame = sent ≡ frame
IsSentPart Write sent frame = (n : ℕ) × (sent ≡ take n frame)
IsSentPart Ended sent frame = sent ≡ frame
IsSentPart Memory sent frame = ⊥

abbrev pub EndsAtFault : ℕ → ℕ → StationView → StationView → Devices → (List UserCall → Type 0)
    → LineFault → Type 0
EndsAtFault milliseconds count old new devices saw fault =
    (turns : List DriveTurn) × (last : DriveTurn) × (written frame sent : List ℕ)
    × (seen : List UserCall)
    × (length turns < count) × IsSentPart fault sent frame
    × BreaksOff milliseconds turns last written frame sent seen old new devices saw fault

-- What a call of `drive` for `count` turns did. Its clause `memory` states what an allocation
-- failure does.
abbrev pub Drives : ℕ → ℕ → StationView → StationView → Devices → (List UserCall → Type 0)
    → Result Driven LineFault → Type 0
Drives milliseconds count old new devices saw (Ok told) =
    (turns : List DriveTurn) × (written : List ℕ) × (seen : List UserCall) × (deadline : Option ℕ)
    × (length turns ≡ count)
    × (told ≡ record { turns = count; read = length (bytes_read turns); written = length written })
    × TakesTurns milliseconds turns written seen deadline old new devices saw
Drives milliseconds count old new devices saw (Err Read) =
    EndsAtFault milliseconds count old new devices saw Read
Drives milliseconds count old new devices saw (Err Write) =
    EndsAtFault milliseconds count old new devices saw Write
Drives milliseconds count old new devices saw (Err Ended) =
    EndsAtFault milliseconds count old new devices saw Ended
Drives milliseconds count old new devices saw (Err Memory) = Unit {0}
