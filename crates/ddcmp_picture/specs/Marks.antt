-- The marks that the steps of a run add to a picture.
use Rattle.std.specs.Prelude.{ℕ, Bool, true, false, ◌||◌, ◌&&◌, ◌==◌, if◌then◌else◌, nat_lt}
use Rattle.std.specs.Prelude.{List, [], ◌∷◌, ◌++◌, length, map, drop, min, codes, decimal, Option}
use Rattle.std.specs.Prelude.{Some, None}
use Rattle.ddcmp_core.specs.Core.{CoreView}
use Rattle.ddcmp_core.specs.Table.{StationState}
use Rattle.ddcmp_core.specs.declared.notice.Notice.{Notice}
use Rattle.ddcmp_core.specs.declared.notice.Notice.TheVariants as notice
use Rattle.ddcmp_core.specs.declared.state.State.{State}
use Rattle.ddcmp_core.specs.declared.state.State.TheVariants.{Halted, IStart, AStart, Running}
use Rattle.ddcmp_core.specs.declared.state.State.TheVariants.{Maintenance}
use Rattle.ddcmp_pair.specs.Run.{PairState, at}
use Rattle.ddcmp_io.specs.Ends.{other}
use Rattle.ddcmp_io.specs.declared.carrier.End.{End}
use Rattle.ddcmp_io.specs.declared.carrier.End.TheVariants.{A, B}
use Rattle.ddcmp_pair.specs.declared.event.Event.{Event}
use Rattle.ddcmp_pair.specs.declared.event.Event.TheVariants as event
use Rattle.ddcmp_pair.specs.declared.event.Reply.{Reply}
use Rattle.ddcmp_pair.specs.declared.event.Reply.TheVariants as reply
use Rattle.ddcmp_line.specs.ScriptText.{damage_text}
use Rattle.ddcmp_line.specs.declared.command.ScriptCommand.{ScriptCommand}
use Rattle.ddcmp_line.specs.declared.command.ScriptCommand.TheVariants.{Happens, Carry, Lose}
use Rattle.ddcmp_line.specs.declared.command.ScriptCommand.TheVariants.{Damage, Raw, Settle}
use Rattle.ddcmp_line.specs.declared.command.ScriptCommand.TheVariants.{Recover}
use Rattle.ddcmp_line.specs.declared.command.ScriptCommand.TheVariants.{State as StateOf}
use Rattle.ddcmp_station.specs.StationText.{state_text}
use Rattle.ddcmp_picture.specs.declared.request.Request.{Request}
use Rattle.ddcmp_picture.specs.declared.request.Request.TheVariants as asked
use Rattle.ddcmp_picture.specs.declared.mark.TripEnd.{TripEnd}
use Rattle.ddcmp_picture.specs.declared.mark.TripEnd.TheVariants.{Arrived, Cut, Lost}
use Rattle.ddcmp_picture.specs.declared.mark.Mark.{Mark}
use Rattle.ddcmp_picture.specs.declared.mark.Mark.TheVariants.{Note, Across, Departs, Ends, Appears}
use Rattle.ddcmp_picture.specs.declared.mark.Trip.{Trip}
use Rattle.ddcmp_picture.specs.declared.states.Seen.{Seen}
use Rattle.ddcmp_picture.specs.declared.states.States.{States}
use Rattle.ddcmp_picture.specs.declared.short_text.ShortText.{ShortText}
use Rattle.ddcmp_picture.specs.Labels.{words, label_of, line_of, notice_label, reply_label}
use Rattle.ddcmp_picture.specs.Labels.{numbers_label, holding_label, faults_label}
use Rattle.ddcmp_picture.specs.ShortTexts.{is_blank, with_text, bytes_shown}
use Rattle.ddcmp_picture.specs.Trips.{Trips, no_trips, trips_of, with_trips, with_first, rest_of}
use Rattle.ddcmp_picture.specs.Trips.{damaged_by}

-- ---- states

abbrev pub same_state : State → State → Bool
same_state Halted Halted = true
same_state IStart IStart = true
same_state AStart AStart = true
same_state Running Running = true
same_state Maintenance Maintenance = true
same_state _ _ = false

-- a notice implies that this is the state now
abbrev pub names_state : Notice → State → Bool
names_state notice.Running Running = true
names_state notice.RunningAndHandedUp Running = true
names_state notice.MaintenanceSeen Maintenance = true
names_state notice.MaintenanceHandedUp Maintenance = true
names_state notice.MaintenanceDropped Maintenance = true
names_state _ _ = false

unfoldable pub name_state : List Notice → State → Bool
name_state [] now = false
name_state (it ∷ rest) now = names_state it now || name_state rest now

-- the state of an end, and its counters
abbrev pub seen_of : CoreView → Seen
seen_of c = record { state = c.station.state; counters = c.counters }

abbrev pub seen_now : End → PairState → Seen
seen_now e p = seen_of (at e p).core

abbrev pub state_of : End → PairState → State
state_of e p = (at e p).core.station.state

-- of both ends
abbrev pub states_in : PairState → States
states_in p = record { a = seen_of p.a.core; b = seen_of p.b.core }

abbrev pub seen_at : End → States → Seen
seen_at A states = states.a
seen_at B states = states.b

abbrev pub state_at : End → States → State
state_at e states = (seen_at e states).state

-- ---- notes

-- the text of a reply, with the new state if the state has changed
abbrev pub answer_label : ShortText → State → State → ShortText
answer_label text before now =
    if same_state before now then text
    else with_text (with_text text (codes ", now ")) (state_text now)

-- the notices of an arrival: the first is in the row of the arrival
unfoldable pub notice_marks : End → Bool → List Notice → List Mark
notice_marks to is_beside [] = []
notice_marks to is_beside (it ∷ rest) =
    Note to (notice_label it) is_beside ∷ notice_marks to false rest

-- what was wrong with received bytes
abbrev pub fault_marks : End → Bool → ShortText → List Mark
fault_marks to is_beside faults =
    if is_blank faults then [] else Note to faults is_beside ∷ []

-- the new state, if it has changed and no notice implies it
abbrev pub now_marks : End → Bool → List Notice → State → State → List Mark
now_marks to is_beside notices before now =
    if same_state before now || name_state notices now then []
    else Note to (with_text (words (codes "now ")) (state_text now)) is_beside ∷ []

-- what an end reports on an arrival: its notices, the faults that it counted, and its state
abbrev pub told_marks : End → List Notice → Seen → Seen → List Mark
told_marks to notices before now =
    notice_marks to true notices
    ++ fault_marks to (length notices == 0) (faults_label before.counters now.counters)
    ++ now_marks to
    ((length notices == 0) && is_blank (faults_label before.counters now.counters)) notices
    before.state now.state

abbrev pub sent_label : List ℕ → Reply → ShortText
sent_label message (reply.Accepted number) =
    with_text (with_text (reply_label (reply.Accepted number)) (codes ": ")) (bytes_shown message)
sent_label message r = reply_label r

-- ---- frames

-- a frame that leaves in this row
abbrev pub trip_of : End → ℕ → List ℕ → Trip
trip_of from row bytes = record {
  from = from;
  row = row;
  label = label_of bytes;
  is_whole = true;
  is_damaged = false;
}

-- `part` of the `of` bytes that were left of the first frame arrived
abbrev pub landed_marks : ℕ → ℕ → List Trip → List Mark
landed_marks part of [] = []
landed_marks part of (trip ∷ rest) =
    if nat_lt part of then Ends trip (Cut part of) ∷ [] else Ends trip Arrived ∷ []

abbrev pub landed_trips : ℕ → ℕ → ℕ → List Trip → List Trip
landed_trips row part of trips =
    if nat_lt part of then with_first (rest_of row) trips else drop 1 trips

abbrev pub lost_marks : End → List Trip → List Mark
lost_marks from [] = Note from (words (codes "nothing to lose")) false ∷ []
lost_marks from (trip ∷ rest) = Ends trip Lost ∷ []

abbrev pub ends_by : TripEnd → Trip → Mark
ends_by trip_end trip = Ends trip trip_end

-- all frames are taken off the lines, those of A first
abbrev pub all_end : TripEnd → Trips → List Mark
all_end trip_end trips = map (ends_by trip_end) trips.a ++ map (ends_by trip_end) trips.b

-- ---- a step

abbrev pub is_settle : Request → Bool
is_settle asked.Event = false
is_settle (asked.Carry part of) = false
is_settle asked.Settle = true

-- An end wrote a frame, or had none. In a settle the latter isn't drawn.
abbrev pub polled_marks : End → ℕ → Bool → Reply → List Mark
polled_marks from row settles (reply.Wrote bytes) = Departs (trip_of from row bytes) ∷ []
polled_marks from row settles r = if settles then [] else Note from (reply_label r) false ∷ []

abbrev pub polled_trips : End → ℕ → Reply → Trips → Trips
polled_trips from row (reply.Wrote bytes) trips =
    with_trips from (trips_of from trips ++ trip_of from row bytes ∷ []) trips
polled_trips from row r trips = trips

-- A timer that was off isn't drawn in a settle.
abbrev pub expired_marks : End → Bool → Reply → State → State → List Mark
expired_marks at settles (reply.Expired false) before now =
    if settles then []
    else Note at (answer_label (reply_label (reply.Expired false)) before now) false ∷ []
expired_marks at settles r before now =
    Note at (answer_label (reply_label r) before now) false ∷ []

abbrev pub cleared_marks : Reply → Trips → List Mark
cleared_marks reply.Cleared trips = all_end Lost trips ++ Across (reply_label reply.Cleared) ∷ []
cleared_marks r trips = Across (reply_label r) ∷ []

abbrev pub cleared_trips : Reply → Trips → Trips
cleared_trips reply.Cleared trips = no_trips
cleared_trips r trips = trips

-- Bytes arrived at an end, as the command requested.
abbrev pub arrived_marks : Request → End → List ℕ → Trips → List Mark
arrived_marks asked.Event to bytes trips = Appears to (label_of bytes) ∷ []
arrived_marks (asked.Carry part of) to bytes trips =
    landed_marks part of (trips_of (other to) trips)
arrived_marks asked.Settle to bytes trips =
    landed_marks (length bytes) (length bytes) (trips_of (other to) trips)

abbrev pub arrived_trips : Request → End → ℕ → List ℕ → Trips → Trips
arrived_trips asked.Event to row bytes trips = trips
arrived_trips (asked.Carry part of) to row bytes trips =
    with_trips (other to) (landed_trips row part of (trips_of (other to) trips)) trips
arrived_trips asked.Settle to row bytes trips =
    with_trips (other to)
    (landed_trips row (length bytes) (length bytes) (trips_of (other to) trips)) trips

abbrev pub notices_in : Reply → List Notice
notices_in (reply.Notices notices) = notices
notices_in r = []

-- What a picture knows before a step: the request of the script's line, the row of the next mark,
-- what was seen of both ends, and the frames in flight.
pub record Sight : Type 0 where
  pub asked : Request
  pub row : ℕ
  pub states : States
  pub trips : Trips

-- the marks of a step
abbrev pub step_marks : Event → Reply → PairState → Sight → List Mark
step_marks (event.Poll e) r now s = polled_marks e s.row (is_settle s.asked) r
step_marks (event.Take e) r now s = Note e (reply_label r) false ∷ []
step_marks (event.Send e message) r now s = Note e (sent_label message r) false ∷ []
step_marks event.Clear r now s = cleared_marks r s.trips
step_marks (event.Start e) r now s =
    Note e (answer_label (reply_label r) (state_at e s.states) (state_of e now)) false ∷ []
step_marks (event.Halt e) r now s =
    Note e (answer_label (reply_label r) (state_at e s.states) (state_of e now)) false ∷ []
step_marks (event.Expire e) r now s =
    expired_marks e (is_settle s.asked) r (state_at e s.states) (state_of e now)
step_marks (event.Arrive to bytes) r now s =
    arrived_marks s.asked to bytes s.trips
    ++ told_marks to (notices_in r) (seen_at to s.states) (seen_now to now)

-- and the frames in flight after it
abbrev pub step_trips : Event → Reply → Sight → Trips
step_trips (event.Poll e) r s = polled_trips e s.row r s.trips
step_trips event.Clear r s = cleared_trips r s.trips
step_trips (event.Arrive to bytes) r s = arrived_trips s.asked to s.row bytes s.trips
step_trips _ r s = s.trips

-- ---- a line of the script

-- A byte that the frame doesn't have can't be damaged.
abbrev pub has_byte : ℕ → Option ℕ → Bool
has_byte at None = false
has_byte at (Some length) = nat_lt at length

abbrev pub is_none : Option ℕ → Bool
is_none None = true
is_none (Some n) = false

abbrev pub damage_marks : End → ℕ → Option ℕ → List Mark
damage_marks from at front =
    if has_byte at front then []
    else Note from (with_text (words (codes "damage: "))
    (line_of (damage_text (is_none front) false))) false ∷ []

abbrev pub damage_trips : End → ℕ → ℕ → Option ℕ → Trips → Trips
damage_trips from at by front trips =
    if has_byte at front
    then with_trips from (with_first (damaged_by by) (trips_of from trips)) trips else trips

-- the two notes on a station's state
abbrev pub look_marks : End → StationState → List Mark
look_marks e s = Note e (numbers_label s) false ∷ Note e (holding_label s) false ∷ []

-- Settle and recover drop all frames first.
abbrev pub settle_marks : List ℕ → Trips → List Mark
settle_marks name trips = all_end Lost trips ++ Across (words name) ∷ []

-- how many bytes of a frame are to arrive: at most `n`, or all
abbrev pub part_of : Option ℕ → ℕ → ℕ
part_of None of = of
part_of (Some n) of = min of n

abbrev pub carry_marks : End → Option ℕ → List Mark
carry_marks from None = Note from (words (codes "nothing to pass")) false ∷ []
carry_marks from (Some of) = []

abbrev pub carry_asked : Option ℕ → Option ℕ → Request
carry_asked most None = asked.Event
carry_asked most (Some of) = asked.Carry (part_of most of) of

-- The marks before a line has any effect. `front` is how many bytes haven't arrived of the first
-- frame on the line between the ends that the command names.
abbrev pub line_marks : ScriptCommand → Option ℕ → PairState → Trips → List Mark
line_marks (Happens happened) front p trips = []
line_marks (Raw to bytes) front p trips = []
line_marks (Carry from most) front p trips = carry_marks from front
line_marks (Lose from) front p trips = lost_marks from (trips_of from trips)
line_marks (Damage from at by) front p trips = damage_marks from at front
line_marks Settle front p trips = settle_marks (codes "settle") trips
line_marks Recover front p trips = settle_marks (codes "recover") trips
line_marks (StateOf e) front p trips = look_marks e (at e p).core.station

abbrev pub line_trips : ScriptCommand → Option ℕ → Trips → Trips
line_trips (Lose from) front trips = with_trips from (drop 1 (trips_of from trips)) trips
line_trips (Damage from at by) front trips = damage_trips from at by front trips
line_trips Settle front trips = no_trips
line_trips Recover front trips = no_trips
line_trips _ front trips = trips

abbrev pub line_asked : ScriptCommand → Option ℕ → Request
line_asked (Carry from most) front = carry_asked most front
line_asked Settle front = asked.Settle
line_asked Recover front = asked.Settle
line_asked _ front = asked.Event

-- the result of a settle, and (below) of a recovery
abbrev pub settled_label : ℕ → Bool → ShortText
settled_label exchanges quiet =
    with_text (with_text (words (codes "settled ")) (decimal exchanges))
    (if quiet then codes " quiet" else codes " busy")

unfoldable pub counts_label : ShortText → List ℕ → ShortText
counts_label text [] = text
counts_label text (n ∷ rest) =
    counts_label (with_text (with_text text (codes " ")) (decimal n)) rest

abbrev pub recovered_label : List ℕ → Bool → ShortText
recovered_label exchanges done =
    with_text (counts_label (words (codes "recovered")) exchanges)
    (if done then codes " done" else codes " unfinished")
