-- The calls of a station by their names, and what each does by its contract.
use Rattle.std.specs.Prelude.{◌≡◌, ℕ, if◌then◌else◌, true, false, Bool, List, [], ◌++◌}
use Rattle.ddcmp_frame.specs.Reader.{StandsFor}
use Rattle.ddcmp_core.specs.Counting.{counters_after_expire}
use Rattle.ddcmp_core.specs.Table.{StationState, is_halted, may_start, after_start}
use Rattle.ddcmp_core.specs.Table.{after_enter_maintenance, after_halt, may_send, after_accept}
use Rattle.ddcmp_core.specs.Table.{may_send_maintenance, after_take, after_expire, after_take_arm}
use Rattle.ddcmp_proto.specs.Bytes.{after_piece, after_poll}
use Rattle.ddcmp_proto.specs.Station.{StationView}

-- A call of a station, with the message that it was passed, or the bytes of the line that it used.
-- Asks is any call that only returns something.
pub data StationCall : Type 0 where
  Starts : StationCall
  Halts : StationCall
  Sends : (message : List ℕ) → StationCall
  Polls : StationCall
  Feeds : (used : List ℕ) → StationCall
  Expires : StationCall
  Takes : StationCall
  TakesArm : StationCall
  Asks : StationCall
  ClearsLine : StationCall
  EntersMaintenance : StationCall
  SendsMaintenance : (message : List ℕ) → StationCall

-- a station in another state
abbrev pub with_state : StationView → StationState → StationView
with_state v state = record v { core = record v.core { station = state } }

-- Bytes of the line were used, whatever text came before them.
pub record HasFed (used : List ℕ) (old new : StationView) : Type 0 where
  pub stands : (text : List ℕ) → StandsFor old.line text → StandsFor new.line (text ++ used)
  pub core : (text : List ℕ) → StandsFor old.line text → new.core ≡ after_piece text used old.core
  pub syn : new.syn ≡ old.syn

-- A halted station drops the bytes of its line; any other stays as it is.
pub record HasCleared (old new : StationView) : Type 0 where
  pub core : new.core ≡ old.core
  pub syn : new.syn ≡ old.syn
  pub cleared : is_halted old.core.station.state ≡ true → StandsFor new.line []
  pub refused : is_halted old.core.station.state ≡ false → new ≡ old

-- What each call does; a call that is refused leaves the station as it is.
abbrev pub HasDone : StationCall → StationView → StationView → Type 0
HasDone Starts old new =
    new ≡ with_state old (if may_start old.core.station then after_start old.core.station
    else old.core.station)
HasDone Halts old new = new ≡ with_state old (after_halt old.core.station)
HasDone (Sends message) old new =
    new ≡ with_state old (if may_send old.core.limits old.core.station message
    then after_accept old.core.station message else old.core.station)
HasDone Polls old new = new ≡ record old { core = after_poll old.core }
HasDone (Feeds used) old new = HasFed used old new
HasDone Expires old new =
    new ≡ record old {
      core = record old.core {
        station = after_expire old.core.station;
        counters = counters_after_expire old.core.station old.core.counters;
      };
    }
HasDone Takes old new = new ≡ with_state old (after_take old.core.station)
HasDone TakesArm old new = new ≡ with_state old (after_take_arm old.core.station)
HasDone Asks old new = new ≡ old
HasDone ClearsLine old new = HasCleared old new
HasDone EntersMaintenance old new =
    new ≡ with_state old (if may_start old.core.station
    then after_enter_maintenance old.core.station else old.core.station)
HasDone (SendsMaintenance message) old new =
    new ≡ with_state old (if may_send_maintenance old.core.limits old.core.station message
    then after_accept old.core.station message else old.core.station)
