-- A bridge as a machine: what it needs and has pending, and what it has passed on.
use Rattle.std.specs.Prelude.{◌≡◌, ℕ, ◌+◌, ◌-◌, ◌^◌, Bool, true, false, List, [], ◌++◌, length, min}
use Rattle.std.specs.Prelude.{Option, Some, None, Result, Ok, if◌then◌else◌, ◌&&◌, nat_lt}
use Rattle.std.specs.Prelude.{is_none, is_some, ◌||◌, ◌*◌, ◌≤◌}
use Rattle.rand_pcg.specs.Lcg.{Lcg}
use Rattle.ddcmp_ports.specs.declared.port.Down.{Down}
use Rattle.ddcmp_ports.specs.declared.port.Need.{Need}
use Rattle.ddcmp_ports.specs.declared.port.Need.TheVariants as need
use Rattle.ddcmp_ports.specs.declared.line_name.LineName.{LineName}
use Rattle.ddcmp_ports.specs.declared.port.Port.{Port}
use Rattle.ddcmp_ports.specs.declared.port.Port.TheVariants.{Input, Output, Errors, First, Second}
use Rattle.ddcmp_ports.specs.Running.{Event, Passage, taken, used, used_whole}
use Rattle.ddcmp_bridge.specs.declared.bridge.Bridge.{Bridge}
use Rattle.ddcmp_bridge.specs.declared.bridge.BridgeEnd.{BridgeEnd}
use Rattle.ddcmp_bridge.specs.declared.bridge.BridgeStop.{BridgeStop}
use Rattle.ddcmp_bridge.specs.declared.counts.Counts.{Counts}
use Rattle.ddcmp_ports.specs.declared.fault.OpenFault.{OpenFault}
use Rattle.ddcmp_bridge.specs.declared.bridge.BridgeStop.TheVariants as stop
use Rattle.ddcmp_bridge.specs.declared.bridge.Phase.{Phase}
use Rattle.ddcmp_bridge.specs.declared.bridge.Phase.TheVariants as phase
use Rattle.ddcmp_bridge.specs.declared.errors.BridgeErrors.{BridgeErrors}
use Rattle.ddcmp_bridge.specs.declared.line.BridgeLine.{BridgeLine}
use Rattle.ddcmp_bridge.specs.declared.line.Stage.{Stage}
use Rattle.ddcmp_bridge.specs.declared.line.Stage.TheVariants as stage
use Rattle.ddcmp_bridge.specs.declared.options.BridgeOptions.{BridgeOptions}
use Rattle.ddcmp_bridge.specs.Delaying.{DirectionView, Directs, Frames, due_at, next_due}
use Rattle.ddcmp_bridge.specs.Faults.{start_of}
use Rattle.ddcmp_bridge.specs.Relaying.{counts_of, passed_on}

-- ---- what it needs

-- whether a direction has room, and can count one more byte
abbrev pub can_take : DirectionView → Bool
can_take d = nat_lt (length d.held) d.limit && nat_lt (d.relay.frames.offset + 1) (2 ^ 64)

abbrev pub need_to_open : BridgeLine → ℕ → Need
need_to_open line now = if nat_lt now line.pause.ends_at then need.Nothing else need.Opening

abbrev pub need_to_read : BridgeLine → DirectionView → Need
need_to_read line d = if is_none line.over && can_take d then need.Bytes else need.Nothing

-- A line is shut first, and closed once the other was shut, too.
abbrev pub need_to_leave : Stage → Stage → Need
need_to_leave stage.Open other = need.Shutting
need_to_leave stage.Shut stage.Open = need.Nothing
need_to_leave stage.Shut stage.Shut = need.Closing
need_to_leave stage.Shut stage.Closed = need.Closing
need_to_leave stage.Closed other = need.Nothing

abbrev pub needs_of_first : Phase → Bridge → Need
needs_of_first phase.ListenFirst b = need_to_open b.first b.moment
needs_of_first phase.OpenFirst b = need_to_open b.first b.moment
needs_of_first phase.Joined b = need_to_read b.first b.there
needs_of_first phase.Leaving b = need_to_leave b.first.stage b.second.stage
needs_of_first phase.ListenSecond b = need.Nothing
needs_of_first phase.OpenSecond b = need.Nothing
needs_of_first phase.Printing b = need.Nothing

abbrev pub needs_of_second : Phase → Bridge → Need
needs_of_second phase.ListenSecond b = need_to_open b.second b.moment
needs_of_second phase.OpenSecond b = need_to_open b.second b.moment
needs_of_second phase.Joined b = need_to_read b.second b.back
needs_of_second phase.Leaving b = need_to_leave b.second.stage b.first.stage
needs_of_second phase.ListenFirst b = need.Nothing
needs_of_second phase.OpenFirst b = need.Nothing
needs_of_second phase.Printing b = need.Nothing

abbrev pub needs_of : Bridge → Port → Need
needs_of b First = needs_of_first b.phase b
needs_of b Second = needs_of_second b.phase b
needs_of b Input = need.Nothing
needs_of b Output = need.Nothing
needs_of b Errors = need.Nothing

-- ---- what it has pending

abbrev pub is_joined : Phase → Bool
is_joined phase.Joined = true
is_joined _ = false

-- whether frames are passed on to a line
abbrev pub passes_to : Phase → BridgeLine → Bool
passes_to now line = is_joined now && is_none line.broken

-- the lines that are queued for standard error
abbrev pub unwritten : BridgeErrors → List ℕ
unwritten e = if e.is_broken then [] else e.lines.queue.waiting

abbrev pub pending_of : Bridge → Port → List ℕ
pending_of b First = if passes_to b.phase b.first then due_at b.moment b.back.held else []
pending_of b Second = if passes_to b.phase b.second then due_at b.moment b.there.held else []
pending_of b Errors = unwritten b.errors
pending_of b Input = []
pending_of b Output = []

-- ---- when it wakes

-- the moment, if it is in the future
abbrev pub later_than : ℕ → Option ℕ → ℕ
later_than now None = 18446744073709551615
later_than now (Some moment) = if nat_lt now moment then moment else 18446744073709551615

abbrev pub wakes_in : Phase → Bridge → ℕ
wakes_in phase.ListenFirst b = later_than b.moment (Some b.first.pause.ends_at)
wakes_in phase.OpenFirst b = later_than b.moment (Some b.first.pause.ends_at)
wakes_in phase.ListenSecond b = later_than b.moment (Some b.second.pause.ends_at)
wakes_in phase.OpenSecond b = later_than b.moment (Some b.second.pause.ends_at)
wakes_in phase.Joined b =
    min (later_than b.moment (next_due b.there.held)) (later_than b.moment (next_due b.back.held))
wakes_in phase.Leaving b = b.ends_at
wakes_in phase.Printing b = b.ends_at

-- when a report is due, its time is over, a pause ends or a frame is due
abbrev pub wakes_of : Bridge → ℕ
wakes_of b = min b.reports.schedule.due_at (min b.ends_at (wakes_in b.phase b))

-- ---- what it has passed on

-- how far a line is open, and why nothing more is read from it and written to it, if so
pub record LineState : Type 0 where
  pub stage : Stage
  pub over : Option Down
  pub broken : Option Down

abbrev pub state_of : BridgeLine → LineState
state_of l = record { stage = l.stage; over = l.over; broken = l.broken }

abbrev pub is_opening : Phase → Bool
is_opening phase.ListenFirst = true
is_opening phase.ListenSecond = true
is_opening phase.OpenFirst = true
is_opening phase.OpenSecond = true
is_opening _ = false

-- bytes of the lines at hand, once both were open
abbrev pub joined : Bool → List ℕ → List ℕ
joined true bytes = bytes
joined false bytes = []

-- What its history says something of: both ways, how far each line is open, why nothing more is
-- read from it and written to it, what was asked for, the phase, whether both lines were open at
-- once, whether it had other lines before, why and when it left these, when its time is over, how
-- it ended, and the counters of the lines before.
pub record CrossView : Type 0 where
  pub there : DirectionView
  pub back : DirectionView
  pub first : LineState
  pub second : LineState
  pub options : BridgeOptions
  pub phase : Phase
  pub was_joined : Bool
  pub has_reopened : Bool
  pub stop : BridgeStop
  pub left_at : ℕ
  pub ends_at : ℕ
  pub ended : Option (Result BridgeEnd OpenFault)
  pub earlier_there : Counts
  pub earlier_back : Counts

abbrev pub view_of : Bridge → CrossView
view_of b = record {
  there = b.there;
  back = b.back;
  first = state_of b.first;
  second = state_of b.second;
  options = b.options;
  phase = b.phase;
  was_joined = b.was_joined;
  has_reopened = b.has_reopened;
  stop = b.stop;
  left_at = b.left_at;
  ends_at = b.ends_at;
  ended = b.ended;
  earlier_there = b.earlier_there;
  earlier_back = b.earlier_back;
}

-- One way, with the faults and the delay that were asked for: `came` was used of one line, and
-- `taken` was written to the other. Its generator begins as the seed says, and goes on if there
-- were other lines before.
pub record Carries (c : CrossView) (number : ℕ) (d : DirectionView) (came taken : List ℕ)
    : Type 0 where
  pub start : Lcg
  pub begins : c.has_reopened ≡ false → start ≡ start_of c.options.faults.seed number
  pub directs : Directs start d (joined c.was_joined came) (joined c.was_joined taken)
  pub faults : d.relay.faults ≡ c.options.faults
  pub delay : d.delay ≡ c.options.delay_ms

-- Until both lines are open nothing is used of one that is, and nothing was written to it. When a
-- line ended, all that had come was used.
pub record Uses (was_joined : Bool) (line : LineState) (p : Port) (h : List Event) : Type 0 where
  pub came : was_joined ≡ false → line.stage ≡ stage.Open → used p h ≡ []
  pub gone : was_joined ≡ false → line.stage ≡ stage.Open → taken p h ≡ []
  pub whole : is_some line.over ≡ true → line.broken ≡ None → used_whole p h ≡ used p h

-- Frames are passed on once both lines were open.
pub record FitsPhase (now : Phase) (was_joined : Bool) : Type 0 where
  pub joined : is_joined now ≡ true → was_joined ≡ true
  pub opening : is_opening now ≡ true → was_joined ≡ false

-- A line has ended; if the other hasn't, nothing that was used of the first is left to pass on.
pub record IsOver (first second : Option Down) (there back : Frames) : Type 0 where
  pub some : (is_some first || is_some second) ≡ true
  pub first_passed : is_some second ≡ false → there ≡ []
  pub second_passed : is_some first ≡ false → back ≡ []

-- why it left its lines: one has ended, or its time was over
pub record Left (why : BridgeStop) (left_at seconds : ℕ) (first second : Option Down)
    (there back : Frames) : Type 0 where
  pub line : why ≡ stop.Line → IsOver first second there back
  pub time : why ≡ stop.Time → 1000 * seconds ≤ left_at

abbrev pub is_left : Phase → Bool
is_left phase.Leaving = true
is_left phase.Printing = true
is_left _ = false

abbrev pub is_printing : Phase → Bool
is_printing phase.Printing = true
is_printing _ = false

-- the sum of counters, none of which overflows
abbrev pub sum_of : Counts → Counts → Counts
sum_of a b = record {
  frames = min (a.frames + b.frames) (2 ^ 64 - 1);
  skipped = min (a.skipped + b.skipped) (2 ^ 64 - 1);
  damaged = min (a.damaged + b.damaged) (2 ^ 64 - 1);
  lost = min (a.lost + b.lost) (2 ^ 64 - 1);
  altered = min (a.altered + b.altered) (2 ^ 64 - 1);
}

-- The counters are those of what one way used, after those of the lines before.
abbrev pub Counted : Counts → DirectionView → Counts → Type 0
Counted earlier d counts =
    (start : Lcg) (came taken : List ℕ) → Directs start d came taken
    → counts ≡ sum_of earlier (counts_of d.relay.faults start came)

-- It has ended once it has printed its last lines, with the counters of both ways.
pub record EndsAs (ended : Option (Result BridgeEnd OpenFault)) (now : Phase)
    (earlier_there earlier_back : Counts) (there back : DirectionView) : Type 0 where
  pub printed : is_some ended ≡ true → is_printing now ≡ true
  pub one : (end : BridgeEnd) → ended ≡ Some (Ok end) → Counted earlier_there there end.there
  pub other : (end : BridgeEnd) → ended ≡ Some (Ok end) → Counted earlier_back back end.back

-- A bridge with this history: it has passed on the good frames of each line, after their faults,
-- or holds them. It had other lines before only if it was asked to open them again.
pub record CrossesAs (c : CrossView) (h : List Event) : Type 0 where
  pub there : Carries c 0 c.there (used First h) (taken Second h)
  pub back : Carries c 1 c.back (used Second h) (taken First h)
  pub again : c.has_reopened ≡ true → c.options.again ≡ true
  pub first : Uses c.was_joined c.first First h
  pub second : Uses c.was_joined c.second Second h
  pub fits : FitsPhase c.phase c.was_joined
  pub left : is_left c.phase ≡ true → Left c.stop c.left_at c.options.seconds
      c.first.over c.second.over c.there.held c.back.held
  pub limit : is_printing c.phase ≡ false → c.ends_at ≡ 1000 * c.options.seconds
  pub ends : EndsAs c.ended c.phase c.earlier_there c.earlier_back c.there c.back

abbrev pub Crosses : Bridge → List Event → Type 0
Crosses b h = CrossesAs (view_of b) h

-- what it was asked for: the names of its lines, and its options
abbrev pub asked_of : Bridge → LineName × LineName × BridgeOptions
asked_of b = (b.first.name, b.second.name, b.options)

-- What it has passed on still agrees with its history, and what was asked for is the same.
pub record Keeps (old new : Bridge) : Type 0 where
  pub crosses : (h : List Event) → Crosses old h → Crosses new h
  pub asked : asked_of new ≡ asked_of old

-- a line to be opened: its name, and its speed in bits a second, or 0 for as fast as it takes bytes
pub record LinePlan : Type 0 where
  pub name : LineName
  pub baud : ℕ

abbrev pub plan_of : LineName → ℕ → LinePlan
plan_of name baud = record { name = name; baud = baud }

-- A system opens the lines that a bridge was asked for.
pub record OpensLines (b : Bridge) (one two : LinePlan) : Type 0 where
  pub first : one ≡ plan_of b.first.name b.options.baud
  pub second : two ≡ plan_of b.second.name b.options.baud

-- ---- over lines of which all that passed is known

-- what is the front of other bytes
pub record IsFront (front all : List ℕ) : Type 0 where
  pub rest : List ℕ
  pub is : all ≡ front ++ rest

-- One way: what was written to a line is the front of what is passed on of all that came over the
-- other.
pub record PassesOn (b : Bridge) (number : ℕ) (one two : Passage) : Type 0 where
  pub start : Lcg
  pub begins : b.has_reopened ≡ false → start ≡ start_of b.options.faults.seed number
  pub front : IsFront two.gone (passed_on b.options.faults start one.came)

-- both ways, over the lines that were open at once last
pub record Bridges (b : Bridge) (first second : Passage) : Type 0 where
  pub there : PassesOn b 0 first second
  pub back : PassesOn b 1 second first
