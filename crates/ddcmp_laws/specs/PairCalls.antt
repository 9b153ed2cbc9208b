-- Calls of the stations at two ends, whoever makes them: what each does, and which event of a run
-- it is, if any.
use Rattle.std.specs.Prelude.{◌≡◌, ℕ, ◌≤◌, Bool, true, ◌&&◌, is_some, List, [], ◌∷◌, ◌++◌, sum_by}
use Rattle.ddcmp_frame.specs.Reading.{good_frames}
use Rattle.ddcmp_core.specs.Table.{StationState, after_take_arm}
use Rattle.ddcmp_io.specs.declared.carrier.End.{End}
use Rattle.ddcmp_io.specs.declared.carrier.End.TheVariants.{A, B}
use Rattle.ddcmp_pair.specs.declared.event.Event.{Event}
use Rattle.ddcmp_pair.specs.declared.event.Event.TheVariants as event
use Rattle.ddcmp_pair.specs.Place.{WholeFrame, place_of}
use Rattle.ddcmp_pair.specs.Run.{EndState, PairState, with_station, after_start_here}
use Rattle.ddcmp_pair.specs.Run.{after_halt_here, after_send_here, after_poll_here}
use Rattle.ddcmp_pair.specs.Run.{after_arrival_here, after_expire_here, after_take_here}

-- A call of a station: one that is an event of a run, by its name; Arm, which asks whether the
-- timer was started; or Ask, any call that only returns something.
pub data Call : Type 0 where
  Start : Call
  Halt : Call
  Send : List ℕ → Call
  Poll : Call
  Arrive : List ℕ → Call
  Expire : Call
  Take : Call
  Arm : Call
  Ask : Call

-- ---- what calls do

-- a start of the timer is noted
abbrev pub after_arm_here : EndState → EndState
after_arm_here x = with_station (after_take_arm x.core.station) x

-- what a call does to its end
abbrev pub after_call_here : Call → EndState → EndState
after_call_here Start x = after_start_here x
after_call_here Halt x = after_halt_here x
after_call_here (Send message) x = after_send_here message x
after_call_here Poll x = after_poll_here x
after_call_here (Arrive bytes) x = after_arrival_here bytes x
after_call_here Expire x = after_expire_here x
after_call_here Take x = after_take_here x
after_call_here Arm x = after_arm_here x
after_call_here Ask x = x

-- whether a call is honest, if the other end has sent these frames
abbrev pub is_call_honest : Call → EndState → List WholeFrame → Bool
is_call_honest (Arrive bytes) x sent =
    is_some (place_of (good_frames x.core.limits.longest (x.arrived ++ bytes)) sent)
is_call_honest _ x sent = true

-- a pair after a call at one of its ends
abbrev pub after_call : End → Call → PairState → PairState
after_call A c p = record {
  a = after_call_here c p.a;
  b = p.b;
  honest = is_call_honest c p.a p.b.sent && p.honest;
}
after_call B c p = record {
  a = p.a;
  b = after_call_here c p.b;
  honest = is_call_honest c p.b p.a.sent && p.honest;
}

-- calls of both ends, in the order in which they are made
unfoldable pub run_calls : List (End × Call) → PairState → PairState
run_calls [] p = p
run_calls (step ∷ rest) p = run_calls rest (after_call step.0 step.1 p)

-- ---- the calls at one end

unfoldable pub after_calls_here : List Call → EndState → EndState
after_calls_here [] x = x
after_calls_here (c ∷ rest) x = after_calls_here rest (after_call_here c x)

-- the calls that are made at this end
abbrev pub calls_if : End → End → Call → List Call
calls_if A A c = c ∷ []
calls_if A B c = []
calls_if B A c = []
calls_if B B c = c ∷ []

unfoldable pub calls_at : End → List (End × Call) → List Call
calls_at e [] = []
calls_at e (step ∷ rest) = calls_if e step.0 step.1 ++ calls_at e rest

-- how often it is started
abbrev pub starts_by : Call → ℕ
starts_by Start = 1
starts_by _ = 0

abbrev pub starts_in : List Call → ℕ
starts_in calls = sum_by starts_by calls

-- each end is started at most once
pub record IsStartedOnce (calls : List (End × Call)) : Type 0 where
  pub at_a : starts_in (calls_at A calls) ≤ 1
  pub at_b : starts_in (calls_at B calls) ≤ 1

-- ---- calls as events

abbrev pub events_of : End → Call → List Event
events_of e Start = event.Start e ∷ []
events_of e Halt = event.Halt e ∷ []
events_of e (Send message) = event.Send e message ∷ []
events_of e Poll = event.Poll e ∷ []
events_of e (Arrive bytes) = event.Arrive e bytes ∷ []
events_of e Expire = event.Expire e ∷ []
events_of e Take = event.Take e ∷ []
events_of e Arm = []
events_of e Ask = []

-- the events of these calls, in their order
unfoldable pub events_in : List (End × Call) → List Event
events_in [] = []
events_in (step ∷ rest) = events_of step.0 step.1 ++ events_in rest

-- ---- equal except for Arm

-- Two stations are equal, except that one may have reported already that its timer was started.
abbrev pub IsSameStation : StationState → StationState → Type 0
IsSameStation s t = after_take_arm s ≡ after_take_arm t

abbrev pub noted : PairState → PairState
noted p = record { a = after_arm_here p.a; b = after_arm_here p.b; honest = p.honest }

-- the same for both ends of two pairs
abbrev pub IsSamePair : PairState → PairState → Type 0
IsSamePair p q = noted p ≡ noted q
