-- What `ddcmp station` does, and how it ends.
use Rattle.std.specs.Prelude.{length, ◌<◌, None, Bool, true, false, ◌≡◌, ◌≢◌, ◌⊎◌, ◌≤◌, ℕ, List}
use Rattle.std.specs.Prelude.{Some, Result, Ok, Err}
use Rattle.std.specs.Io.KnownBytes.{Keeps}
use Rattle.ddcmp_commands.specs.declared.fault.Fault.TheVariants.{Message, Memory as NoMemory}
use Rattle.ddcmp_commands.specs.declared.fault.Fault.TheVariants.{Carrier}
use Rattle.ddcmp_commands.specs.declared.ending.Ending.{Ending}
use Rattle.ddcmp_commands.specs.declared.ending.Ending.TheVariants.{Fault as Faulted}
use Rattle.ddcmp_args.specs.declared.station_args.StationArgs.{StationArgs}
use Rattle.ddcmp_args.specs.declared.station_args.Role.{Role}
use Rattle.ddcmp_commands.specs.Connections.{Peers}
use Rattle.ddcmp_net.specs.declared.serve_fault.ServeFault.{ServeFault}
use Rattle.ddcmp_net.specs.declared.serve_fault.ServeFault.TheVariants as serving
use Rattle.ddcmp_io.specs.Written.{Known}
use Rattle.ddcmp_net.specs.Serving.{Serves}
use Rattle.ddcmp_station.specs.Driving.{Devices}
use Rattle.hex.specs.Hex.{decode_of}
use Rattle.hex.specs.declared.error.FromHexError.{FromHexError}
use Rattle.ddcmp_commands.specs.Endings.{serve_fault, ending_of, is_refusal}

-- A station ran over a connection, from which it received `gives` if that is known, with this
-- message to send, and the ending reports the result. If an allocation failed, nothing was written.
pub record ServesOver (gives : Known) (served : StationArgs) (message : List ℕ) (old new : Known)
    (ending : Ending) : Type 0 where
  pub answer : Result (Unit {0}) ServeFault
  pub failed : Bool
  pub ends : ending ≡ ending_of serve_fault answer
  pub serves : answer ≢ Err serving.Config → (devices : Devices)
      × ((bytes : List ℕ) → gives ≡ Some bytes → devices.left ≡ Some bytes)
      × Serves served.timer_ms served.turns served.restart served.counters message devices failed
      old new answer
  pub kept : ending ≡ Faulted NoMemory → Keeps old new

-- The connection can't be made, or a station ran over it. If it is known whether the connection can
-- be made, only one of both is possible.
abbrev pub Connects : Peers → Role → StationArgs → List ℕ → Known → Known → Ending → Type 0
Connects peers role served message old new ending =
    ((peers.opens role served.addr.now ≢ Some true) × (ending ≡ Faulted Carrier) × Keeps old new)
    ⊎ ((peers.opens role served.addr.now ≢ Some false)
    × ServesOver (peers.gives role served.addr.now) served message old new ending)

-- the result for a hexadecimal message that isn't too long
abbrev pub SendsDecoded : Peers → Role → StationArgs → Result (List ℕ) FromHexError → Known → Known
    → Ending → Type 0
SendsDecoded peers role served (Ok message) old new ending =
    Connects peers role served message old new ending
SendsDecoded peers role served (Err refused) old new ending =
    (ending ≡ Faulted Message) × Keeps old new

-- The result of `station`. An unknown role, and a message of more than 1500 bytes, are usage errors
-- (or an allocation fails as they are reported); then comes a message that isn't hexadecimal, and
-- then the connection. Only a station that runs writes.
abbrev pub Stations : Peers → StationArgs → Known → Known → Ending → Type 0
Stations peers served old new ending =
    (((served.role ≡ None) ⊎ (3000 < length served.send.now))
    × (is_refusal ending ≡ true) × Keeps old new)
    ⊎ ((role : Role) × (served.role ≡ Some role) × (length served.send.now ≤ 3000)
    × SendsDecoded peers role served (decode_of served.send.now) old new ending)
