-- What became of a station that was asked for.
use Rattle.std.proofs.Common.{◌≡◌, ◌≤◌, ℕ, List, length, refl, inr, inl, ◌⊎◌, subst, Option, Some}
use Rattle.std.proofs.Common.{None, Result, Ok, Err}
use Rattle.std.specs.Result.{result_ok}
use Rattle.hex.specs.Hex.{decode_of}
use Rattle.hex.specs.declared.error.FromHexError.{FromHexError}
use Rattle.ddcmp_commands.specs.declared.ending.Ending.{Ending}
use Rattle.ddcmp_args.specs.declared.station_args.StationArgs.{StationArgs}
use Rattle.ddcmp_args.specs.declared.station_args.Role.{Role}
use Rattle.ddcmp_commands.specs.Connections.{Peers}
use Rattle.ddcmp_commands.specs.declared.ending.Ending.TheVariants.{Fault as Faulted}
use Rattle.ddcmp_commands.specs.declared.fault.Fault.TheVariants.{Memory as NoMemory}
use Rattle.ddcmp_net.specs.declared.serve_fault.ServeFault.{ServeFault}
use Rattle.ddcmp_net.specs.declared.serve_fault.ServeFault.TheVariants as serving
use Rattle.ddcmp_io.specs.declared.device.LineFault.TheVariants as line
use Rattle.ddcmp_commands.specs.Stations.{Connects, SendsDecoded, Stations}
use Rattle.ddcmp_commands.specs.Endings.{ending_of, serve_fault}

decoded : (peers : Peers) (role : Role) (served : StationArgs) (d : Result (List ℕ) FromHexError)
    (message : List ℕ) (old new : Option (List ℕ)) (ending : Ending)
    → Some message ≡ result_ok d → Connects peers role served message old new ending
    → SendsDecoded peers role served d old new ending
decoded peers role served (Ok bytes) message old new ending e c =
    subst (λ m. Connects peers role served m old new ending) (cc e) c
decoded peers role served (Err refused) message old new ending e c =
    let e' : ◌≡◌ (Some message) None = e in cc

-- an ending that reports an allocation failure is the result of one
pub want-of : (answer : Result (Unit {0}) ServeFault)
    → ending_of serve_fault answer ≡ Faulted NoMemory
    → (answer ≡ Err serving.Config) ⊎ (answer ≡ Err (serving.Line line.Memory))
want-of (Ok u) e = cc
want-of (Err serving.Config) e = inl refl
want-of (Err serving.Report) e = cc
want-of (Err (serving.Line line.Read)) e = cc
want-of (Err (serving.Line line.Write)) e = cc
want-of (Err (serving.Line line.Ended)) e = cc
want-of (Err (serving.Line line.Memory)) e = inr refl

-- a message was read, and then the connection was opened or not
pub connects : (peers : Peers) (role : Role) (served : StationArgs) (message : List ℕ)
    (old new : Option (List ℕ)) (ending : Ending)
    → served.role ≡ Some role → length served.send.now ≤ 3000
    → Some message ≡ result_ok (decode_of served.send.now)
    → Connects peers role served message old new ending → Stations peers served old new ending
connects peers role served message old new ending r l e c =
    inr (
      role,
      r,
      l,
      decoded peers role served (decode_of served.send.now) message old new ending e c,
    )
