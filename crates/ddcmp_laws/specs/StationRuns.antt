-- Two stations and every call that a station has, also those that clear a line or concern
-- maintenance: what each call does to an end of a run, and when an end and a station agree.
use Rattle.std.specs.Prelude.{◌≡◌, ℕ, ◌+◌, ◌≤◌, Bool, true, ◌&&◌, if◌then◌else◌, ◌==◌, List, []}
use Rattle.std.specs.Prelude.{◌∷◌, ◌++◌, length, map, None, option_to_list}
use Rattle.ddcmp_frame.specs.Reader.{StandsFor}
use Rattle.ddcmp_frame.specs.Reading.{good_frames}
use Rattle.ddcmp_core.specs.Store.{first_message}
use Rattle.ddcmp_core.specs.Table.{is_halted, may_start, after_enter_maintenance, may_send}
use Rattle.ddcmp_core.specs.Table.{may_send_maintenance, after_accept}
use Rattle.ddcmp_proto.specs.Bytes.{notices_of_piece}
use Rattle.ddcmp_proto.specs.Config.{first_refusal}
use Rattle.ddcmp_proto.specs.declared.config.Config.{Config}
use Rattle.ddcmp_proto.specs.Station.{StationView}
use Rattle.ddcmp_proto.specs.StationCalls.{StationCall, Starts, Halts, Sends, Polls, Feeds, Expires}
use Rattle.ddcmp_proto.specs.StationCalls.{Takes, TakesArm, Asks, ClearsLine, EntersMaintenance}
use Rattle.ddcmp_proto.specs.StationCalls.{SendsMaintenance, HasDone}
use Rattle.ddcmp_io.specs.declared.carrier.End.{End}
use Rattle.ddcmp_io.specs.declared.carrier.End.TheVariants.{A, B}
use Rattle.ddcmp_pair.specs.Prefix.{IsPrefixOf}
use Rattle.ddcmp_pair.specs.Run.{EndState, PairState, with_station, cleared, acknowledged_in}
use Rattle.ddcmp_pair.specs.Run.{new_end, new_pair, is_clean}
use Rattle.ddcmp_laws.specs.PairCalls.{Call, Start, Halt, Send, Poll, Arrive, Expire, Take, Arm}
use Rattle.ddcmp_laws.specs.PairCalls.{Ask}
use Rattle.ddcmp_laws.specs.PairCalls.{after_call_here, is_call_honest}

-- ---- the calls that aren't events of a run, at their end

-- A halted end whose line is cleared begins new histories. If it has messages that weren't taken it
-- counts as started twice: the run isn't clean until that line is cleared again.
abbrev pub after_clear_line_here : EndState → EndState
after_clear_line_here x =
    if is_halted x.core.station.state
    then record (cleared x) { starts = if length x.core.station.inbox == 0 then 0 else 2 }
    else x

-- An end that enters maintenance counts as started twice as well.
abbrev pub after_maintenance_here : EndState → EndState
after_maintenance_here x =
    record (with_station (if may_start x.core.station
    then after_enter_maintenance x.core.station else x.core.station) x) {
      starts = if may_start x.core.station then 2 else x.starts;
    }

abbrev pub after_send_maintenance_here : List ℕ → EndState → EndState
after_send_maintenance_here message x =
    with_station (if may_send_maintenance x.core.limits x.core.station message
    then after_accept x.core.station message else x.core.station) x

-- ---- every call

abbrev pub after_station_call_here : StationCall → EndState → EndState
after_station_call_here Starts x = after_call_here Start x
after_station_call_here Halts x = after_call_here Halt x
after_station_call_here (Sends message) x = after_call_here (Send message) x
after_station_call_here Polls x = after_call_here Poll x
after_station_call_here (Feeds used) x = after_call_here (Arrive used) x
after_station_call_here Expires x = after_call_here Expire x
after_station_call_here Takes x = after_call_here Take x
after_station_call_here TakesArm x = after_call_here Arm x
after_station_call_here Asks x = after_call_here Ask x
after_station_call_here ClearsLine x = after_clear_line_here x
after_station_call_here EntersMaintenance x = after_maintenance_here x
after_station_call_here (SendsMaintenance message) x = after_send_maintenance_here message x

-- No good frame has arrived at this end since its line was cleared.
abbrev pub has_heard_none : EndState → Bool
has_heard_none x = length (good_frames x.core.limits.longest x.arrived) == 0

-- Whether the line is honest after a call, y being the other end. A halted end that clears its line
-- begins a new line, on which the other end may have sent frames already. It is honest unless the
-- other end has received a frame, which is one of the old line.
abbrev pub is_honest_after : StationCall → EndState → EndState → Bool → Bool
is_honest_after (Feeds used) x y honest = is_call_honest (Arrive used) x y.sent && honest
is_honest_after ClearsLine x y honest =
    if is_halted x.core.station.state then has_heard_none y else honest
is_honest_after _ x y honest = honest

-- a pair after a call at one of its ends
abbrev pub after_station_call : End → StationCall → PairState → PairState
after_station_call A c p = record {
  a = after_station_call_here c p.a;
  b = p.b;
  honest = is_honest_after c p.a p.b p.honest;
}
after_station_call B c p = record {
  a = p.a;
  b = after_station_call_here c p.b;
  honest = is_honest_after c p.b p.a p.honest;
}

-- calls of both ends, in the order in which they are made
unfoldable pub run_station_calls : List (End × StationCall) → PairState → PairState
run_station_calls [] p = p
run_station_calls (step ∷ rest) p =
    run_station_calls rest (after_station_call step.0 step.1 p)

-- the calls of `Calls` among them
abbrev pub station_call : Call → StationCall
station_call Start = Starts
station_call Halt = Halts
station_call (Send message) = Sends message
station_call Poll = Polls
station_call (Arrive bytes) = Feeds bytes
station_call Expire = Expires
station_call Take = Takes
station_call Arm = TakesArm
station_call Ask = Asks

abbrev pub station_calls : List (End × Call) → List (End × StationCall)
station_calls calls = map (λ step. (step.0, station_call step.1)) calls

-- ---- stations

-- An end of a run and a station agree: the state of its reader is that after the bytes that
-- arrived.
pub record IsStationAt (x : EndState) (v : StationView) : Type 0 where
  pub core : x.core ≡ v.core
  pub syn : x.syn ≡ v.syn
  pub line : StandsFor v.line x.arrived

-- ---- the history of a station

-- A station, and what happened since its line was cleared: the bytes that it used from the line,
-- the messages that it accepted, those that were taken from it, and how many it reported
-- acknowledged.
pub record StationHistory : Type 0 where
  pub station : StationView
  pub used : List ℕ
  pub accepted : List (List ℕ)
  pub taken : List (List ℕ)
  pub acknowledged : ℕ

abbrev pub begun_station : StationView → StationHistory
begun_station v = record {
  station = v;
  used = [];
  accepted = [];
  taken = [];
  acknowledged = 0;
}

-- what a call adds
abbrev pub used_by : StationCall → List ℕ
used_by (Feeds used) = used
used_by _ = []

abbrev pub accepted_by : StationCall → StationView → List (List ℕ)
accepted_by (Sends message) v =
    if may_send v.core.limits v.core.station message then message ∷ [] else []
accepted_by _ v = []

abbrev pub taken_by : StationCall → StationView → List (List ℕ)
taken_by Takes v = option_to_list (first_message v.core.station.inbox)
taken_by _ v = []

abbrev pub acknowledged_after : StationCall → StationHistory → ℕ
acknowledged_after (Feeds used) h =
    acknowledged_in (notices_of_piece h.used used h.station.core)
acknowledged_after _ h = 0

-- what is kept of the history: nothing, if the line is cleared
abbrev pub kept_by : {A : Type 0} → StationCall → StationView → A → A → A
kept_by ClearsLine v nothing old = if is_halted v.core.station.state then nothing else old
kept_by _ v nothing old = old

-- a call, and the station after it
pub record StationStep : Type 0 where
  pub call : StationCall
  pub station : StationView

abbrev pub after_station_step : StationStep → StationHistory → StationHistory
after_station_step step h = record {
  station = step.station;
  used = kept_by step.call h.station [] h.used ++ used_by step.call;
  accepted = kept_by step.call h.station [] h.accepted ++ accepted_by step.call h.station;
  taken = kept_by step.call h.station [] h.taken ++ taken_by step.call h.station;
  acknowledged =
      kept_by step.call h.station 0 h.acknowledged + acknowledged_after step.call h;
}

-- An end of a run and a station with its history agree.
pub record IsSameStation (x : EndState) (h : StationHistory) : Type 0 where
  pub at : IsStationAt x h.station
  pub used : x.arrived ≡ h.used
  pub accepted : x.given ≡ h.accepted
  pub taken : x.taken ≡ h.taken
  pub acknowledged : x.acknowledged ≡ h.acknowledged

-- ---- two stations

pub record Stations : Type 0 where
  pub a : StationHistory
  pub b : StationHistory

abbrev pub history_at : End → Stations → StationHistory
history_at A q = q.a
history_at B q = q.b

abbrev pub after_step_at : End → StationStep → Stations → Stations
after_step_at A step q = record { a = after_station_step step q.a; b = q.b }
after_step_at B step q = record { a = q.a; b = after_station_step step q.b }

-- Each step is a call of one of two stations, which does what its contract states.
abbrev pub AreStationCalls : List (End × StationStep) → Stations → Type 0
AreStationCalls [] q = Unit {0}
AreStationCalls (step ∷ rest) q =
    HasDone step.1.call (history_at step.0 q).station step.1.station
    × AreStationCalls rest (after_step_at step.0 step.1 q)

unfoldable pub after_station_steps : List (End × StationStep) → Stations → Stations
after_station_steps [] q = q
after_station_steps (step ∷ rest) q = after_station_steps rest (after_step_at step.0 step.1 q)

abbrev pub calls_of_stations : List (End × StationStep) → List (End × StationCall)
calls_of_stations steps = map (λ step. (step.0, step.1.call)) steps

-- the same for both ends of a run
pub record AreSameStations (p : PairState) (q : Stations) : Type 0 where
  pub a : IsSameStation p.a q.a
  pub b : IsSameStation p.b q.b

-- the messages that were taken from a station, and after them those in its inbox
abbrev pub received : StationHistory → List (List ℕ)
received h = h.taken ++ h.station.core.station.inbox

-- The messages that one station received are a prefix of those that the other accepted, each once
-- and unchanged; and the other reported no more of them acknowledged.
pub record StationReaches (giver taker : StationHistory) : Type 0 where
  pub order : IsPrefixOf (received taker) giver.accepted
  pub acknowledged : giver.acknowledged ≤ length (received taker)

-- A promise about the histories of two stations is kept, for two new stations of any sizes in
-- range, whatever the calls, if the line is honest and the run clean since the lines were cleared.
abbrev pub IsKeptByStations : (Stations → Type 0) → Type 0
IsKeptByStations Promise = (first second : Config) (v w : StationView)
    (steps : List (End × StationStep))
    → first_refusal first ≡ None → first_refusal second ≡ None
    → IsStationAt (new_end first) v → IsStationAt (new_end second) w
    → AreStationCalls steps (record { a = begun_station v; b = begun_station w })
    → (run_station_calls (calls_of_stations steps) (new_pair first second)).honest ≡ true
    → is_clean (run_station_calls (calls_of_stations steps) (new_pair first second)) ≡ true
    → Promise
    (after_station_steps steps (record { a = begun_station v; b = begun_station w }))
