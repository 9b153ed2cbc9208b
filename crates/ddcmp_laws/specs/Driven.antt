-- Driven stations: which calls each turn of `drive` makes, and what their users saw.
use Rattle.std.specs.Prelude.{◌≡◌, ℕ, ◌≤◌, ◌&&◌, nat_le, if◌then◌else◌, List, [], ◌∷◌, ◌++◌, length}
use Rattle.std.specs.Prelude.{map, replicate, option_to_list, Option, Some, None}
use Rattle.std.specs.List.{flat_map}
use Rattle.std.specs.Io.KnownBytes.{Appends, Consumes}
use Rattle.ddcmp_frame.specs.Reader.{StandsFor}
use Rattle.ddcmp_core.specs.Store.{first_message}
use Rattle.ddcmp_core.specs.declared.notice.Notice.{Notice}
use Rattle.ddcmp_core.specs.Table.{new_station, after_start, is_on}
use Rattle.ddcmp_core.specs.Core.{CoreView}
use Rattle.ddcmp_proto.specs.Bytes.{after_piece}
use Rattle.ddcmp_proto.specs.Config.{core_made}
use Rattle.ddcmp_proto.specs.declared.config.Config.{Config}
use Rattle.ddcmp_proto.specs.Station.{StationView}
use Rattle.ddcmp_station.specs.UserCalls.{UserCall, Asked, Told, Handed, is_user_asked}
use Rattle.ddcmp_station.specs.UserCalls.{calls_of_offer, calls_of_notices}
use Rattle.ddcmp_station.specs.Driving.{DriveTurn, Driving, driving_from, Devices, deadline_at}
use Rattle.ddcmp_station.specs.Driving.{is_due, core_after_take_arm, core_after_halt, before_offer}
use Rattle.ddcmp_station.specs.Driving.{before_read, after_turn, after_turns, bytes_read}
use Rattle.ddcmp_io.specs.declared.carrier.End.{End}
use Rattle.ddcmp_io.specs.declared.carrier.End.TheVariants.{A, B}
use Rattle.ddcmp_pair.specs.Prefix.{IsPrefixOf}
use Rattle.ddcmp_pair.specs.Run.{EndState, acknowledged_in, notices_at}
use Rattle.ddcmp_laws.specs.Faithful.{written}
use Rattle.ddcmp_laws.specs.Prefix.{Begins}
use Rattle.ddcmp_laws.specs.PairCalls.{Call, Start, Halt, Send, Poll, Arrive, Expire, Take, Arm}
use Rattle.ddcmp_laws.specs.PairCalls.{after_calls_here, after_call_here, calls_at}

-- ---- what a user sees of calls

-- A user offers a message to be sent, is passed the notices of received bytes, and is passed the
-- message that is taken.
abbrev pub shown_by : Call → EndState → List UserCall
shown_by (Send message) x = calls_of_offer x.core message
shown_by (Arrive bytes) x = calls_of_notices (notices_at bytes x)
shown_by Take x = map Handed (option_to_list (first_message x.core.station.inbox))
shown_by _ x = []

unfoldable pub shown_in : List Call → EndState → List UserCall
shown_in [] x = []
shown_in (c ∷ rest) x = shown_by c x ++ shown_in rest (after_call_here c x)

-- A message that a user returned is accepted if it has at least one byte, and at most the number
-- for which there was room.
abbrev pub accepted_of : UserCall → List (List ℕ)
accepted_of (Asked room message) =
    if nat_le 1 (length message) && nat_le (length message) room then message ∷ [] else []
accepted_of _ = []

abbrev pub handed_of : UserCall → List (List ℕ)
handed_of (Handed message) = message ∷ []
handed_of _ = []

abbrev pub told_of : UserCall → List Notice
told_of (Told n) = n ∷ []
told_of _ = []

-- the messages that were accepted from a user, and those that it was passed
abbrev pub accepted_from : List UserCall → List (List ℕ)
accepted_from seen = flat_map accepted_of seen

abbrev pub handed_to : List UserCall → List (List ℕ)
handed_to seen = flat_map handed_of seen

-- how many messages were reported acknowledged to it
abbrev pub acknowledged_to : List UserCall → ℕ
acknowledged_to seen = acknowledged_in (flat_map told_of seen)

-- The messages that one user was passed are a prefix of those accepted from the other, each once
-- and unchanged; and no more of them were reported acknowledged to the other.
pub record Reaches (giver taker : List UserCall) : Type 0 where
  pub order : IsPrefixOf (handed_to taker) (accepted_from giver)
  pub acknowledged : acknowledged_to giver ≤ length (handed_to taker)

-- ---- the calls of a turn

abbrev pub calls_of_timer : ℕ → Option ℕ → CoreView → List Call
calls_of_timer now deadline k =
    if is_on k.station.timer && is_due now deadline then Expire ∷ [] else []

abbrev pub calls_of_message : List ℕ → CoreView → List Call
calls_of_message offered k = if is_user_asked k then Send offered ∷ [] else []

-- up to its read: the timer is handled, a user that is asked returns a message, a frame is written
abbrev pub calls_before_read : ℕ → DriveTurn → Driving → List Call
calls_before_read milliseconds turn d =
    (Arm ∷ calls_of_timer turn.now
    (deadline_at milliseconds turn.now d.core.station.timer d.deadline)
    (core_after_take_arm d.core))
    ++ (calls_of_message turn.offered (before_offer milliseconds turn d) ++ Poll ∷ [])

-- its read: the bytes that were read arrive, and all received messages are taken
abbrev pub calls_of_read : List ℕ → Driving → List Call
calls_of_read came d =
    Arrive came ∷ replicate (length (after_piece d.text came d.core).station.inbox) Take

abbrev pub calls_of_turn : ℕ → ℕ → DriveTurn → Driving → List Call
calls_of_turn milliseconds syn turn d =
    calls_before_read milliseconds turn d
    ++ calls_of_read turn.came (before_read milliseconds syn turn d)

-- one turn after another
unfoldable pub calls_of_turns : ℕ → ℕ → List DriveTurn → Driving → List Call
calls_of_turns milliseconds syn [] d = []
calls_of_turns milliseconds syn (turn ∷ rest) d =
    calls_of_turn milliseconds syn turn d
    ++ calls_of_turns milliseconds syn rest (after_turn milliseconds syn turn d)

-- ---- calls of `drive`

-- A call of `drive`: the milliseconds of its timer, the turns that it took, and the turn, if there
-- was one, in which it broke off before or at its read.
pub record DriveCall : Type 0 where
  pub milliseconds : ℕ
  pub turns : List DriveTurn
  pub last : Option DriveTurn

-- if it broke off, the station was halted
abbrev pub after_last : ℕ → ℕ → Option DriveTurn → Driving → Driving
after_last milliseconds syn None d = d
after_last milliseconds syn (Some turn) d = record (before_read milliseconds syn turn d) {
  core = core_after_halt (before_read milliseconds syn turn d).core;
}

abbrev pub calls_of_last : ℕ → Option DriveTurn → Driving → List Call
calls_of_last milliseconds None d = []
calls_of_last milliseconds (Some turn) d = calls_before_read milliseconds turn d ++ Halt ∷ []

-- what it did to a station that had read this text before
abbrev pub after_all_turns : ℕ → DriveCall → CoreView → List ℕ → Driving
after_all_turns syn call k text =
    after_turns call.milliseconds syn call.turns (driving_from k text)

abbrev pub driven : ℕ → DriveCall → CoreView → List ℕ → Driving
driven syn call k text =
    after_last call.milliseconds syn call.last (after_all_turns syn call k text)

abbrev pub calls_of_drive : ℕ → DriveCall → CoreView → List ℕ → List Call
calls_of_drive syn call k text =
    calls_of_turns call.milliseconds syn call.turns (driving_from k text)
    ++ calls_of_last call.milliseconds call.last (after_all_turns syn call k text)

-- the same, after what was written and seen before
abbrev pub after_drive : ℕ → DriveCall → Driving → Driving
after_drive syn call d = record (driven syn call d.core d.text) {
  written = d.written ++ (driven syn call d.core d.text).written;
  seen = d.seen ++ (driven syn call d.core d.text).seen;
}

-- one call of `drive` after another
unfoldable pub after_drives : ℕ → List DriveCall → Driving → Driving
after_drives syn [] d = d
after_drives syn (call ∷ rest) d = after_drives syn rest (after_drive syn call d)

unfoldable pub calls_of_drives : ℕ → List DriveCall → Driving → List Call
calls_of_drives syn [] d = []
calls_of_drives syn (call ∷ rest) d =
    calls_of_drive syn call d.core d.text ++ calls_of_drives syn rest (after_drive syn call d)

-- ---- turns as calls

-- These calls at an end lead to the same station and the same text of its line as the turns, write
-- the same bytes after those before, and the user sees the same.
pub record Does (calls : List Call) (x : EndState) (d : Driving) : Type 0 where
  pub core : (after_calls_here calls x).core ≡ d.core
  pub text : (after_calls_here calls x).arrived ≡ d.text
  pub written : written (after_calls_here calls x) ≡ written x ++ d.written
  pub seen : shown_in calls x ≡ d.seen

-- A station was driven by this call of `drive`, as its contract states: the source lost the bytes
-- that its turns read, and the sink got the bytes that they wrote, or if the call broke off a
-- prefix of these.
pub record IsDriven (milliseconds : ℕ) (call : DriveCall) (old new : StationView)
    (devices : Devices) (saw : List UserCall → Type 0) : Type 0 where
  pub timer : call.milliseconds ≡ milliseconds
  pub sent : List ℕ
  pub seen : List UserCall
  pub consumed : Consumes devices.left devices.left_after (bytes_read call.turns)
  pub appended : Appends devices.sink devices.sink_after sent
  pub shown : saw seen
  pub syn : new.syn ≡ old.syn
  pub stands : (text : List ℕ) → StandsFor old.line text
      → StandsFor new.line (text ++ bytes_read call.turns)
  pub core : (text : List ℕ) → StandsFor old.line text
      → (driven old.syn call old.core text).core ≡ new.core
  pub text : (text : List ℕ) → StandsFor old.line text
      → (driven old.syn call old.core text).text ≡ text ++ bytes_read call.turns
  pub written : (text : List ℕ) → StandsFor old.line text
      → Begins sent (driven old.syn call old.core text).written
  pub seen_is : (text : List ℕ) → StandsFor old.line text
      → (driven old.syn call old.core text).seen ≡ seen

-- ---- two driven stations

-- a new station that was started
abbrev pub begun : Config → Driving
begun config =
    driving_from (record (core_made config) { station = after_start new_station }) []

-- everything that its user saw, if it was driven by these calls
abbrev pub seen_of : Config → List DriveCall → List UserCall
seen_of config drives = (after_drives config.syn drives (begun config)).seen

-- its calls: it is started once and then driven
abbrev pub calls_of : Config → List DriveCall → List Call
calls_of config drives = Start ∷ calls_of_drives config.syn drives (begun config)

-- The calls of two stations, of which each is started once and then driven, in some order.
pub record AreDriven (first second : Config) (a b : List DriveCall) (calls : List (End × Call))
    : Type 0 where
  pub at_a : calls_at A calls ≡ calls_of first a
  pub at_b : calls_at B calls ≡ calls_of second b
