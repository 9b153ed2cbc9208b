-- What contracts see of one end of a pair, and what holds for each.
use Rattle.std.specs.Prelude.{◌≡◌, ℕ, ◌+◌, ◌<◌, ◌≤◌, false, List, [], length, slice_index_or}
use Rattle.std.specs.Prelude.{Option, Some}
use Rattle.ddcmp_frame.specs.Reader.{ReaderView, StandsFor}
use Rattle.ddcmp_frame.specs.Reading.{good_frames}
use Rattle.ddcmp_core.specs.Table.{is_halted}
use Rattle.ddcmp_proto.specs.Station.{StationView}
use Rattle.ddcmp_pair.specs.Place.{WholeFrame, place_of}
use Rattle.ddcmp_pair.specs.Run.{EndState}

-- An end, and the place of the good frames that arrived here among those that the other end sent;
-- no place, once an arrival here wasn't honest.
pub record SideView : Type 0 where
  pub state : EndState
  pub place : Option ℕ

-- the end with this station and this history since the line was cleared
abbrev pub end_with : StationView → List (List ℕ) → List (List ℕ) → List WholeFrame → List ℕ
    → ℕ → ℕ → EndState
end_with station given taken sent arrived acknowledged starts = record {
  core = station.core;
  syn = station.syn;
  given = given;
  taken = taken;
  sent = sent;
  arrived = arrived;
  acknowledged = acknowledged;
  starts = starts;
}

-- Only accepted messages were reported acknowledged; if this end isn't halted, its queued messages
-- were accepted, too. No message that was taken is longer than this end receives.
pub record IsSoundEnd (x : EndState) : Type 0 where
  pub told : x.acknowledged ≤ length x.given
  pub kept : is_halted x.core.station.state ≡ false
      → x.acknowledged + length x.core.station.out ≤ length x.given
  pub short : (i : ℕ) → i < length x.taken
      → length (slice_index_or x.taken i []) ≤ x.core.limits.longest

-- A known place is the place of all good frames that arrived.
abbrev pub IsPlaced : SideView → List WholeFrame → Type 0
IsPlaced x sent =
    (n : ℕ) → x.place ≡ Some n
    → (place_of (good_frames x.state.core.limits.longest x.state.arrived) sent ≡ Some n)
    × (n ≤ length sent)

-- The station and the reader beside it have read all bytes that arrived.
pub record HasRead (station : StationView) (reader : ReaderView) (arrived : List ℕ) : Type 0 where
  pub by_station : StandsFor station.line arrived
  pub by_reader : StandsFor reader arrived
  pub max_is : reader.max ≡ station.core.limits.longest
