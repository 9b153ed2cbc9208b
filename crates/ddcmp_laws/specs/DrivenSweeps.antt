-- Two driven stations over lines that lose nothing from some moment on: what is in flight between
-- them, and when all is delivered.
use Rattle.std.specs.Prelude.{◌≡◌, ◌⊎◌, ℕ, ◌+◌, ◌*◌, ◌<◌, ◌≤◌, max, Bool, true, false, ◌||◌}
use Rattle.std.specs.Prelude.{if◌then◌else◌, List, [], ◌∷◌, ◌++◌, length, drop, Some, None}
use Rattle.ddcmp_core.specs.Core.{CoreView}
use Rattle.ddcmp_core.specs.declared.state.State.TheVariants.{Running}
use Rattle.ddcmp_core.specs.declared.state.Timer.TheVariants.{Off}
use Rattle.ddcmp_core.specs.Table.{may_send, next, next_frame}
use Rattle.ddcmp_proto.specs.Bytes.{items_added}
use Rattle.ddcmp_proto.specs.Config.{first_refusal}
use Rattle.ddcmp_proto.specs.declared.config.Config.{Config}
use Rattle.ddcmp_station.specs.Driving.{DriveTurn, Driving, deadline_at, expires_at}
use Rattle.ddcmp_station.specs.Driving.{core_after_take_arm, before_offer, before_frame}
use Rattle.ddcmp_station.specs.Driving.{frame_bytes, before_read, after_read}
use Rattle.ddcmp_io.specs.declared.carrier.End.{End}
use Rattle.ddcmp_io.specs.declared.carrier.End.TheVariants.{A, B}
use Rattle.ddcmp_pair.specs.declared.event.Event.{Event}
use Rattle.ddcmp_pair.specs.declared.event.Event.TheVariants as event
use Rattle.ddcmp_pair.specs.Run.{PairState, run, new_pair}
use Rattle.ddcmp_laws.specs.LossFree.{Line, ComesFirst, IsWhole}
use Rattle.ddcmp_laws.specs.Rests.{IsUnderWay}
use Rattle.ddcmp_laws.specs.PairCalls.{Call, Send, Poll, Arm, events_in}
use Rattle.ddcmp_laws.specs.Driven.{calls_of_timer, calls_of_read, accepted_from, handed_to}
use Rattle.ddcmp_laws.specs.Driven.{acknowledged_to, begun}
use Rattle.ddcmp_laws.specs.LinkLines.{calls_at_end}

-- ---- parts of turns

-- A part of a turn: the turn up to its read, which handles the timer, the message of the user and a
-- frame; its read; or the return of the call of `drive`, after which another is made. Parts of the
-- other end's turns may be between them.
pub data TurnPart : Type 0 where
  Writes : (turn : DriveTurn) → TurnPart
  Reads : (came : List ℕ) → TurnPart
  Again : TurnPart

-- a driven station, with the milliseconds of its timer and the SYN fill before its frames
pub record DrivenEnd : Type 0 where
  pub milliseconds : ℕ
  pub syn : ℕ
  pub driving : Driving

abbrev pub after_part : TurnPart → DrivenEnd → DrivenEnd
after_part (Writes turn) x =
    record x { driving = before_read x.milliseconds x.syn turn x.driving }
after_part (Reads came) x = record x { driving = after_read came x.driving }
after_part Again x = record x { driving = record x.driving { deadline = None } }

abbrev pub read_by : TurnPart → List ℕ
read_by (Reads came) = came
read_by _ = []

abbrev pub written_by : TurnPart → DrivenEnd → List ℕ
written_by (Writes turn) x =
    frame_bytes x.syn (next_frame (next (before_frame x.milliseconds turn x.driving).station))
written_by _ x = []

-- ---- what is in flight

-- Two driven stations, and the bytes in flight to each: the other has written them, and it hasn't
-- read them yet.
pub record DrivenLine : Type 0 where
  pub a : DrivenEnd
  pub b : DrivenEnd
  pub to_a : List ℕ
  pub to_b : List ℕ

abbrev pub driven_at : End → DrivenLine → DrivenEnd
driven_at A l = l.a
driven_at B l = l.b

-- what a part of a turn does on a line
abbrev pub after_on_driven : End → TurnPart → DrivenLine → DrivenLine
after_on_driven A part l = record {
  a = after_part part l.a;
  b = l.b;
  to_a = drop (length (read_by part)) l.to_a;
  to_b = l.to_b ++ written_by part l.a;
}
after_on_driven B part l = record {
  a = l.a;
  b = after_part part l.b;
  to_a = l.to_a ++ written_by part l.b;
  to_b = drop (length (read_by part)) l.to_b;
}

unfoldable pub run_on_driven : List (End × TurnPart) → DrivenLine → DrivenLine
run_on_driven [] l = l
run_on_driven (step ∷ rest) l = run_on_driven rest (after_on_driven step.0 step.1 l)

-- the bytes that are read are a prefix of those in flight
abbrev pub ReadsTheFirst : End → TurnPart → DrivenLine → Type 0
ReadsTheFirst A part l = ComesFirst (read_by part) l.to_a
ReadsTheFirst B part l = ComesFirst (read_by part) l.to_b

-- Nothing is lost.
abbrev pub TurnsLoseNothing : List (End × TurnPart) → DrivenLine → Type 0
TurnsLoseNothing [] l = Unit {0}
TurnsLoseNothing (step ∷ rest) l =
    ReadsTheFirst step.0 step.1 l × TurnsLoseNothing rest (after_on_driven step.0 step.1 l)

-- ---- the line of their stations

-- a message of the user that is accepted
abbrev pub calls_of_accepted : List ℕ → CoreView → List Call
calls_of_accepted offered k =
    if may_send k.limits k.station offered then Send offered ∷ [] else []

-- The calls that a part of a turn makes. A message that is refused changes nothing, and is left
-- out.
abbrev pub calls_of_part : TurnPart → DrivenEnd → List Call
calls_of_part (Writes turn) x =
    (Arm ∷ calls_of_timer turn.now
    (deadline_at x.milliseconds turn.now x.driving.core.station.timer x.driving.deadline)
    (core_after_take_arm x.driving.core))
    ++ (calls_of_accepted turn.offered (before_offer x.milliseconds turn x.driving)
    ++ Poll ∷ [])
calls_of_part (Reads came) x = calls_of_read came x.driving
calls_of_part Again x = []

-- the events of these parts of turns
unfoldable pub events_of_parts : List (End × TurnPart) → DrivenLine → List Event
events_of_parts [] l = []
events_of_parts (step ∷ rest) l =
    events_in (calls_at_end step.0 (calls_of_part step.1 (driven_at step.0 l)))
    ++ events_of_parts rest (after_on_driven step.0 step.1 l)

-- the line between the two stations as a pair: the same bytes are in flight
abbrev pub line_of_driven : PairState → DrivenLine → Line
line_of_driven p l = record { pair = p; to_a = l.to_a; to_b = l.to_b }

-- ---- two driven stations under way

-- two new stations, each started
abbrev pub new_driven : Config → ℕ → Config → ℕ → DrivenLine
new_driven first milliseconds second other_milliseconds = record {
  a = record { milliseconds = milliseconds; syn = first.syn; driving = begun first };
  b = record { milliseconds = other_milliseconds; syn = second.syn; driving = begun second };
  to_a = [];
  to_b = [];
}

-- The stations after these parts of turns, whatever was lost, with these bytes in flight.
abbrev pub driven_after : List (End × TurnPart) → DrivenLine → List ℕ → List ℕ → DrivenLine
driven_after before l to_a to_b =
    record (run_on_driven before l) { to_a = to_a; to_b = to_b }

abbrev pub pair_after : Config → Config → List (End × TurnPart) → DrivenLine → PairState
pair_after first second before l =
    run (event.Start A ∷ event.Start B ∷ events_of_parts before l) (new_pair first second)

-- The promise holds for two driven stations and their pair, if what is in flight arrives whole, and
-- they are under way.
abbrev pub KeepsFrom : (Line → DrivenLine → Type 0) → PairState → DrivenLine → Type 0
KeepsFrom Promise p l =
    IsWhole (line_of_driven p l) → IsUnderWay (line_of_driven p l)
    → Promise (line_of_driven p l) l

-- A promise about two driven stations under way: these turns led to them from two new stations of
-- any sizes in range, each started once, and these bytes are in flight to each. Anything may have
-- been lost before, but the line was honest, neither is halted, and what is in flight arrives
-- whole.
abbrev pub IsKeptWhileDriven : (Line → DrivenLine → Type 0) → Type 0
IsKeptWhileDriven Promise = (first second : Config) (milliseconds other_milliseconds : ℕ)
    (before : List (End × TurnPart)) (to_a to_b : List ℕ)
    → first_refusal first ≡ None → first_refusal second ≡ None
    → KeepsFrom Promise
    (pair_after first second before
    (new_driven first milliseconds second other_milliseconds))
    (driven_after before (new_driven first milliseconds second other_milliseconds) to_a to_b)

-- A station runs, and each message that was accepted from its user was delivered to the other's,
-- and was reported acknowledged.
pub record DrivenIsDelivered (giver taker : Driving) : Type 0 where
  pub runs : giver.core.station.state ≡ Running
  pub handed : handed_to taker.seen ≡ accepted_from giver.seen
  pub acknowledged : acknowledged_to giver.seen ≡ length (accepted_from giver.seen)

-- the same for both
pub record DrivenAreDone (l : DrivenLine) : Type 0 where
  pub from_a : DrivenIsDelivered l.a.driving l.b.driving
  pub from_b : DrivenIsDelivered l.b.driving l.a.driving

-- ---- a sweep of turns

-- in a turn no timer expires, and no message is accepted
pub record IsQuietTurn (turn : DriveTurn) (x : DrivenEnd) : Type 0 where
  pub timer : expires_at x.milliseconds turn.now x.driving.core.station.timer x.driving.deadline
      ≡ false
  pub message : may_send (before_offer x.milliseconds turn x.driving).limits
      (before_offer x.milliseconds turn x.driving).station turn.offered ≡ false

abbrev pub IsQuiet : TurnPart → DrivenEnd → Type 0
IsQuiet (Writes turn) x = IsQuietTurn turn x
IsQuiet _ x = Unit {0}

abbrev pub AreQuiet : List (End × TurnPart) → DrivenLine → Type 0
AreQuiet [] l = Unit {0}
AreQuiet (step ∷ rest) l =
    IsQuiet step.1 (driven_at step.0 l) × AreQuiet rest (after_on_driven step.0 step.1 l)

-- how many bytes this end reads
abbrev pub bytes_read_by : End → End → TurnPart → ℕ
bytes_read_by A A part = length (read_by part)
bytes_read_by B B part = length (read_by part)
bytes_read_by _ _ part = 0

unfoldable pub bytes_read_at : End → List (End × TurnPart) → ℕ
bytes_read_at end [] = 0
bytes_read_at end (step ∷ rest) = bytes_read_by end step.0 step.1 + bytes_read_at end rest

-- this end has a turn
abbrev pub has_turn : End → End → TurnPart → Bool
has_turn A A (Writes turn) = true
has_turn B B (Writes turn) = true
has_turn _ _ part = false

-- among these parts of turns
unfoldable pub is_driven_in : End → List (End × TurnPart) → Bool
is_driven_in end [] = false
is_driven_in end (step ∷ rest) = has_turn end step.0 step.1 || is_driven_in end rest

-- A sweep of turns: no timer expires, no message is accepted, each end has a turn, and all that was
-- in flight as it began is read. More may be read.
pub record IsSweepOfTurns (parts : List (End × TurnPart)) (l : DrivenLine) : Type 0 where
  pub quiet : AreQuiet parts l
  pub all_to_a : length l.to_a ≤ bytes_read_at A parts
  pub all_to_b : length l.to_b ≤ bytes_read_at B parts
  pub turn_a : is_driven_in A parts ≡ true
  pub turn_b : is_driven_in B parts ≡ true

-- The shortest sweep: each reads what is in flight to it, and then has a turn at this moment in
-- which its user offers nothing.
abbrev pub sweep_at : ℕ → DrivenLine → List (End × TurnPart)
sweep_at now l =
    (A, Reads l.to_a) ∷ (B, Reads l.to_b)
    ∷ (A, Writes (record { now = now; offered = []; came = [] }))
    ∷ (B, Writes (record { now = now; offered = []; came = [] })) ∷ []

-- a moment before the deadline of an end, if one is set, and before the last moment of a clock
pub record IsEarly (now : ℕ) (x : DrivenEnd) : Type 0 where
  pub waits : 1 ≤ x.milliseconds
  pub later : now < 18446744073709551615
  pub before : (moment : ℕ) → x.driving.deadline ≡ Some moment → now < moment

-- ---- how many are enough

-- one sweep after another
abbrev pub AreSweepsOfTurns : List (List (End × TurnPart)) → DrivenLine → Type 0
AreSweepsOfTurns [] l = Unit {0}
AreSweepsOfTurns (sweep ∷ rest) l =
    IsSweepOfTurns sweep l × AreSweepsOfTurns rest (run_on_driven sweep l)

-- their parts of turns
unfoldable pub turns_in_a_row : List (List (End × TurnPart)) → List (End × TurnPart)
turns_in_a_row [] = []
turns_in_a_row (sweep ∷ rest) = sweep ++ turns_in_a_row rest

-- the events of these sweeps
unfoldable pub events_of_sweeps : List (List (End × TurnPart)) → DrivenLine → List (List Event)
events_of_sweeps [] l = []
events_of_sweeps (sweep ∷ rest) l =
    events_of_parts sweep l ∷ events_of_sweeps rest (run_on_driven sweep l)

-- the larger window, and the number of items in flight
abbrev pub window_of : DrivenLine → ℕ
window_of l = max l.a.driving.core.limits.window l.b.driving.core.limits.window

abbrev pub items_in_flight : DrivenLine → ℕ
items_in_flight l =
    length (items_added l.a.driving.core.limits.longest l.a.driving.text l.to_a)
    + length (items_added l.b.driving.core.limits.longest l.b.driving.text l.to_b)

-- Enough sweeps of turns for the line to come to rest.
pub record AreEnoughTurns (sweeps : List (List (End × TurnPart))) (l : DrivenLine) : Type 0 where
  pub each : AreSweepsOfTurns sweeps l
  pub enough : 8 * window_of l * window_of l + 32 * window_of l + 26
      + (4 * window_of l + 2) * items_in_flight l ≤ length sweeps

-- ---- a recovery

-- the timer of this end expires in a turn
abbrev pub expires_by : End → End → TurnPart → DrivenEnd → Bool
expires_by A A (Writes turn) x =
    expires_at x.milliseconds turn.now x.driving.core.station.timer x.driving.deadline
expires_by B B (Writes turn) x =
    expires_at x.milliseconds turn.now x.driving.core.station.timer x.driving.deadline
expires_by _ _ part x = false

-- among these parts of turns
unfoldable pub expires_in : End → List (End × TurnPart) → DrivenLine → Bool
expires_in end [] l = false
expires_in end (step ∷ rest) l =
    expires_by end step.0 step.1 (driven_at step.0 l)
    || expires_in end rest (after_on_driven step.0 step.1 l)

-- the same, or the timer is off as they begin
abbrev pub ExpiresOrIsOff : End → List (End × TurnPart) → DrivenLine → Type 0
ExpiresOrIsOff end parts l =
    (expires_in end parts l ≡ true)
    ⊎ ((driven_at end l).driving.core.station.timer ≡ Off)

-- A round of turns: turns in which the timer of each end expires, unless it is off, and messages
-- may be accepted; and then enough sweeps.
pub record IsRoundOfTurns (waking : List (End × TurnPart)) (sweeps : List (List (End × TurnPart)))
    (l : DrivenLine) : Type 0 where
  pub timer_a : ExpiresOrIsOff A waking l
  pub timer_b : ExpiresOrIsOff B waking l
  pub enough : AreEnoughTurns sweeps (run_on_driven waking l)

-- These turns are a recovery: enough sweeps, and two rounds.
pub record IsRecoveryOfTurns (parts : List (End × TurnPart)) (l : DrivenLine) : Type 0 where
  pub sweeps : List (List (End × TurnPart))
  pub once : List (End × TurnPart)
  pub more : List (List (End × TurnPart))
  pub twice : List (End × TurnPart)
  pub last : List (List (End × TurnPart))
  pub parts_are : parts ≡ turns_in_a_row sweeps
      ++ (once ++ (turns_in_a_row more ++ (twice ++ turns_in_a_row last)))
  pub enough : AreEnoughTurns sweeps l
  pub first_round : IsRoundOfTurns once more (run_on_driven (turns_in_a_row sweeps) l)
  pub second_round : IsRoundOfTurns twice last
      (run_on_driven (turns_in_a_row sweeps ++ (once ++ turns_in_a_row more)) l)
