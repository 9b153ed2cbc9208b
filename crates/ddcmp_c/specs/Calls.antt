-- The effect of calls from C on the station of a handle.
use Rattle.std.specs.Prelude.{◌≡◌, ◌≢◌, ℕ, if◌then◌else◌, Option, Some, None, Ok}
use Rattle.ddcmp_core.specs.Table.{StationState, may_start, answer_to_start}
use Rattle.ddcmp_proto.specs.Station.{StationView}
use Rattle.ddcmp_proto.specs.StationCalls.{StationCall, HasDone, with_state}
use Rattle.ddcmp_c.specs.declared.values.TheConstants.{OK, CLOSED}
use Rattle.ddcmp_c.specs.Codes.{code_of_start_answer}

-- The call is made on the station that the handle owns; without one, nothing happens.
pub record Makes (call : StationCall) (old new : Option StationView) : Type 0 where
  pub closed : old ≡ None → new ≡ None
  pub done : (s : StationView) → old ≡ Some s
      → (t : StationView) × (new ≡ Some t) × HasDone call s t

-- The station is unchanged; the result is a value of it, or `none` if there is no station.
pub record Asks {A : Type 0} (none : A) (answer : StationView → A) (old : Option StationView)
    (result : A) (new : Option StationView) : Type 0 where
  pub closed : old ≡ None → result ≡ none
  pub same : new ≡ old
  pub value : (s : StationView) → old ≡ Some s → result ≡ answer s

-- The station is unchanged; a struct, which was `before`, gets a value of it.
pub record FillsIn {A : Type 0} (given : StationView → A) (old : Option StationView) (before : A)
    (result : ℕ) (new : Option StationView) (after : A) : Type 0 where
  pub closed : old ≡ None → (result ≡ CLOSED) × (new ≡ None)
  pub same : new ≡ old
  pub value : (s : StationView) → old ≡ Some s → (result ≡ OK) × (after ≡ given s)
  pub none : result ≢ OK → after ≡ before

-- A station that may start is started by `started`. The number of messages that it dropped replaces
-- `before`.
pub record Starts (started : StationState → StationState) (old : Option StationView) (before : ℕ)
    (result : ℕ) (new : Option StationView) (after : ℕ) : Type 0 where
  pub closed : old ≡ None → (result ≡ CLOSED) × (new ≡ None)
  pub state : (s : StationView) → old ≡ Some s
      → new ≡ Some (with_state s (if may_start s.core.station then started s.core.station
      else s.core.station))
  pub code : (s : StationView) → old ≡ Some s
      → result ≡ code_of_start_answer (answer_to_start s.core.station)
  pub dropped : (s : StationView) (n : ℕ) → old ≡ Some s
      → answer_to_start s.core.station ≡ Ok n → after ≡ n
  pub refused : result ≢ OK → (new ≡ old) × (after ≡ before)
