-- Sweeps of a line: all that is in flight arrives, each end is polled, and received messages are
-- taken.
use Rattle.std.specs.Prelude.{◌≡◌, ◌⊎◌, ℕ, ◌+◌, ◌*◌, ◌≤◌, Bool, true, false, ◌||◌, List, [], ◌∷◌}
use Rattle.std.specs.Prelude.{◌++◌, length}
use Rattle.ddcmp_core.specs.declared.state.Timer.TheVariants.{Off}
use Rattle.ddcmp_core.specs.Table.{has_room}
use Rattle.ddcmp_proto.specs.Bytes.{items_added}
use Rattle.ddcmp_io.specs.declared.carrier.End.{End}
use Rattle.ddcmp_io.specs.declared.carrier.End.TheVariants.{A, B}
use Rattle.ddcmp_pair.specs.declared.event.Event.{Event}
use Rattle.ddcmp_pair.specs.declared.event.Event.TheVariants as event
use Rattle.ddcmp_pair.specs.Recovery.{larger_window}
use Rattle.ddcmp_pair.specs.Run.{EndState, PairState, at, after_event}
use Rattle.ddcmp_laws.specs.LossFree.{Line, run_on_line}
use Rattle.ddcmp_laws.specs.Price.{price, added, items_on_way}
use Rattle.ddcmp_laws.specs.Rests.{GoesOn}
use Rattle.ddcmp_laws.specs.Delivers.{runs_out}

-- ---- a sweep

-- nothing but polls, arrivals and takes
abbrev pub OnlyCarries : List Event → Type 0
OnlyCarries [] = Unit {0}
OnlyCarries (event.Poll e ∷ rest) = OnlyCarries rest
OnlyCarries (event.Arrive e bytes ∷ rest) = OnlyCarries rest
OnlyCarries (event.Take e ∷ rest) = OnlyCarries rest
OnlyCarries (e ∷ rest) = ⊥

-- how many bytes arrive at this end by an event
abbrev pub bytes_to : End → Event → ℕ
bytes_to A (event.Arrive A bytes) = length bytes
bytes_to B (event.Arrive B bytes) = length bytes
bytes_to _ _ = 0

unfoldable pub bytes_brought : End → List Event → ℕ
bytes_brought end [] = 0
bytes_brought end (e ∷ rest) = bytes_to end e + bytes_brought end rest

-- this end is polled
abbrev pub is_poll : End → Event → Bool
is_poll A (event.Poll A) = true
is_poll B (event.Poll B) = true
is_poll _ _ = false

-- the same among these events
unfoldable pub is_asked : End → List Event → Bool
is_asked end [] = false
is_asked end (e ∷ rest) = is_poll end e || is_asked end rest

-- A sweep: in any order, and in chunks of any size, all that was in flight as it began arrives and
-- each end is polled at least once. More may arrive, and messages may be taken.
pub record IsSweep (events : List Event) (l : Line) : Type 0 where
  pub carries : OnlyCarries events
  pub all_to_a : length l.to_a ≤ bytes_brought A events
  pub all_to_b : length l.to_b ≤ bytes_brought B events
  pub asked_a : is_asked A events ≡ true
  pub asked_b : is_asked B events ≡ true

-- one sweep after another
abbrev pub AreSweeps : List (List Event) → Line → Type 0
AreSweeps [] l = Unit {0}
AreSweeps (sweep ∷ rest) l = IsSweep sweep l × AreSweeps rest (run_on_line sweep l)

-- their events
unfoldable pub in_a_row : List (List Event) → List Event
in_a_row [] = []
in_a_row (sweep ∷ rest) = sweep ++ in_a_row rest

-- The shortest sweep: what is in flight to each end arrives at once, and then each is polled.
abbrev pub sweep_of : Line → List Event
sweep_of l =
    event.Arrive A l.to_a ∷ event.Arrive B l.to_b ∷ event.Poll A ∷ event.Poll B ∷ []

-- ---- how many are enough

-- Two more than twice the number of frames that may be sent: the frames are the price of the line
-- and, for each NAK of a full inbox, the window that is retransmitted.
pub record AreEnough (sweeps : List (List Event)) (l : Line) : Type 0 where
  pub each : AreSweeps sweeps l
  pub enough : 2 * (price (larger_window l.pair) l
      + added (larger_window l.pair) (in_a_row sweeps) l.pair) + 2 ≤ length sweeps

-- as bytes arrive, the inbox has room for a message
abbrev pub FindsRoom : Event → PairState → Type 0
FindsRoom (event.Arrive e bytes) p = has_room (at e p).core.limits (at e p).core.station ≡ true
FindsRoom e p = Unit {0}

-- Received messages are taken in time: whenever bytes arrive, there is room for a message.
abbrev pub AreTakenInTime : List Event → PairState → Type 0
AreTakenInTime [] p = Unit {0}
AreTakenInTime (e ∷ rest) p = FindsRoom e p × AreTakenInTime rest (after_event e p)

-- Enough sweeps in numbers, if received messages are taken in time, w being the larger window.
pub record AreInTime (sweeps : List (List Event)) (l : Line) : Type 0 where
  pub each : AreSweeps sweeps l
  pub taken : AreTakenInTime (in_a_row sweeps) l.pair
  pub enough : 8 * larger_window l.pair * larger_window l.pair + 32 * larger_window l.pair + 26
      + (4 * larger_window l.pair + 2) * items_on_way l ≤ length sweeps

-- as bytes arrive, the inbox has room for one message per item that they complete
abbrev pub HasRoomForAll : List ℕ → EndState → Type 0
HasRoomForAll bytes x =
    length x.core.station.inbox + length (items_added x.core.limits.longest x.arrived bytes)
    ≤ x.core.limits.room

abbrev pub FindsRoomForAll : Event → PairState → Type 0
FindsRoomForAll (event.Arrive e bytes) p = HasRoomForAll bytes (at e p)
FindsRoomForAll e p = Unit {0}

-- Received messages are taken at once: whenever bytes arrive, there is room for all messages in
-- them.
abbrev pub AreTakenAtOnce : List Event → PairState → Type 0
AreTakenAtOnce [] p = Unit {0}
AreTakenAtOnce (e ∷ rest) p = FindsRoomForAll e p × AreTakenAtOnce rest (after_event e p)

-- Enough sweeps in numbers, if received messages are taken at once.
pub record AreAtOnce (sweeps : List (List Event)) (l : Line) : Type 0 where
  pub each : AreSweeps sweeps l
  pub taken : AreTakenAtOnce (in_a_row sweeps) l.pair
  pub enough : 32 * larger_window l.pair + 26
      + (4 * larger_window l.pair + 2) * items_on_way l ≤ length sweeps

-- ---- a round

-- the timer of this end expires among these events, or it is off as they begin
abbrev pub RunsOutOrIsOff : End → List Event → PairState → Type 0
RunsOutOrIsOff end events p =
    (runs_out end events ≡ true) ⊎ ((at end p).core.station.timer ≡ Off)

-- A round by sweeps: events in which no end starts or halts and the timer of each end expires,
-- unless it is off; and then enough sweeps.
pub record IsRoundBySweeps (waking : List Event) (sweeps : List (List Event)) (l : Line)
    : Type 0 where
  pub goes_on : GoesOn waking
  pub timer_a : RunsOutOrIsOff A waking l.pair
  pub timer_b : RunsOutOrIsOff B waking l.pair
  pub enough : AreEnough sweeps (run_on_line waking l)

-- the line after it
abbrev pub after_round : List Event → List (List Event) → Line → Line
after_round waking sweeps l = run_on_line (in_a_row sweeps) (run_on_line waking l)

-- These events are a recovery by sweeps: enough sweeps, and two rounds.
pub record IsRecoveryBySweeps (events : List Event) (l : Line) : Type 0 where
  pub sweeps : List (List Event)
  pub once : List Event
  pub more : List (List Event)
  pub twice : List Event
  pub last : List (List Event)
  pub events_are : events ≡ in_a_row sweeps
      ++ (once ++ (in_a_row more ++ (twice ++ in_a_row last)))
  pub enough : AreEnough sweeps l
  pub first_round : IsRoundBySweeps once more (run_on_line (in_a_row sweeps) l)
  pub second_round : IsRoundBySweeps twice last
      (after_round once more (run_on_line (in_a_row sweeps) l))
