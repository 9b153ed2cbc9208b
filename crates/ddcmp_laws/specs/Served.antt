-- A served station as a driven one.
use Rattle.std.specs.Prelude.{◌≡◌, ℕ, Bool, List, [], ◌∷◌, Result}
use Rattle.std.specs.Io.KnownBytes.{Appends, Consumes}
use Rattle.ddcmp_io.specs.Written.{Known}
use Rattle.ddcmp_core.specs.Core.{CoreView}
use Rattle.ddcmp_station.specs.declared.driver.Driven.{Driven}
use Rattle.ddcmp_io.specs.declared.device.LineFault.{LineFault}
use Rattle.ddcmp_station.specs.Driving.{Devices, bytes_read}
use Rattle.ddcmp_net.specs.Serving.{default_config, OffersOnce, WritesOut, report_text}
use Rattle.ddcmp_laws.specs.Prefix.{Begins}
use Rattle.ddcmp_laws.specs.Driven.{DriveCall, after_drives, begun, seen_of}

-- A served station is a new one that was started and driven by this call: the source lost the bytes
-- that its turns read, and the sink got the bytes that they wrote, or if the call broke off a
-- prefix of these. Its user offered the message once, and what the user saw is the report.
pub record IsServed (milliseconds : ℕ) (restart counted : Bool) (send : List ℕ) (call : DriveCall)
    (devices : Devices) (failed : Bool) (report report_after : Known) : Type 0 where
  pub timer : call.milliseconds ≡ milliseconds
  pub sent : List ℕ
  pub told : Result Driven LineFault
  pub core : CoreView
  pub consumed : Consumes devices.left devices.left_after (bytes_read call.turns)
  pub appended : Appends devices.sink devices.sink_after sent
  pub text : (after_drives 0 (call ∷ []) (begun (default_config restart))).text
      ≡ bytes_read call.turns
  pub written : Begins sent (after_drives 0 (call ∷ []) (begun (default_config restart))).written
  pub offered : OffersOnce send (seen_of (default_config restart) (call ∷ []))
  pub reported : WritesOut failed report report_after
      (report_text counted (seen_of (default_config restart) (call ∷ [])) told core)
