-- What a served station does.
use Rattle.std.specs.Prelude.{◌≡◌, ℕ, Bool, true, false, if◌then◌else◌, List, [], ◌∷◌, ◌++◌, codes}
use Rattle.std.specs.Prelude.{decimal, Result, Ok, Err}
use Rattle.std.specs.List.{flat_map}
use Rattle.std.specs.Io.KnownBytes.{Appends}
use Rattle.hex.specs.Hex.{encode_lower}
use Rattle.ddcmp_core.specs.declared.state.State.{State}
use Rattle.ddcmp_core.specs.Core.{CoreView}
use Rattle.ddcmp_core.specs.Table.{new_station, after_start}
use Rattle.ddcmp_frame.specs.Reader.{StandsFor}
use Rattle.ddcmp_io.specs.Written.{Known, AppendsPart}
use Rattle.ddcmp_proto.specs.declared.config.Config.{Config}
use Rattle.ddcmp_station.specs.declared.driver.Driven.{Driven}
use Rattle.ddcmp_io.specs.declared.device.LineFault.{LineFault}
use Rattle.ddcmp_station.specs.Config.{core_made}
use Rattle.ddcmp_station.specs.Driving.{Devices, Drives}
use Rattle.ddcmp_station.specs.Station.{StationView}
use Rattle.ddcmp_station.specs.UserCalls.{UserCall, Asked, Told, Handed}
use Rattle.ddcmp_station.specs.CountersText.{counters_line}
use Rattle.ddcmp_station.specs.StationText.{notice_line, state_text}
use Rattle.ddcmp_net.specs.declared.serve_fault.ServeFault.{ServeFault}
use Rattle.ddcmp_net.specs.declared.serve_fault.ServeFault.TheVariants.{Line, Report}

abbrev pub default_config : Bool → Config
default_config restart =
    record { window = 7; inbox = 8; max = 1500; syn = 0; restart = restart }

-- a station of these sizes that was started and has done nothing else
pub record HasStarted (restart : Bool) (v : StationView) : Type 0 where
  pub core : v.core
      ≡ record (core_made (default_config restart)) { station = after_start new_station }
  pub syn : v.syn ≡ 0
  pub line : StandsFor v.line []

-- the last line of a report
abbrev pub end_text : Driven → State → List ℕ
end_text driven state =
    codes "turns=" ++ decimal driven.turns ++ codes " state=" ++ state_text state
    ++ codes " read=" ++ decimal driven.read ++ codes " written=" ++ decimal driven.written
    ++ codes "\n"

-- the end of a report: the counters, if requested, and the last line
abbrev pub closing_text : Bool → Driven → CoreView → List ℕ
closing_text counted driven k =
    if counted then counters_line [] k.counters ++ end_text driven k.station.state
    else end_text driven k.station.state

-- the line of a report for a call of its user: for a notice, and for a received message
abbrev pub call_text : UserCall → List ℕ
call_text (Asked room message) = []
call_text (Told notice) = notice_line [] notice
call_text (Handed message) = codes "mail " ++ encode_lower message ++ codes "\n"

-- the lines for all calls, in order
abbrev pub calls_text : List UserCall → List ℕ
calls_text calls = flat_map call_text calls

-- a whole report: the lines for all calls, and if all turns were done, its end
abbrev pub report_text : Bool → List UserCall → Result Driven LineFault → CoreView → List ℕ
report_text counted calls (Ok driven) k = calls_text calls ++ closing_text counted driven k
report_text counted calls (Err fault) k = calls_text calls

-- All of a text was written, or a prefix of it, if a write failed.
abbrev pub WritesOut : Bool → Known → Known → List ℕ → Type 0
WritesOut false old new text = Appends old new text
WritesOut true old new text = AppendsPart old new text

-- A user that is asked for messages first returns this one, whole, and then none.
abbrev pub OffersOnce : List ℕ → List UserCall → Type 0
OffersOnce send [] = Unit {0}
OffersOnce send (Asked room message ∷ calls) = (message ≡ send) × OffersOnce [] calls
OffersOnce send (Told notice ∷ calls) = OffersOnce send calls
OffersOnce send (Handed message ∷ calls) = OffersOnce send calls

-- The result of a served station, by that of `drive`: a fault of the line, or else whether a write
-- of the report failed.
abbrev pub served_answer : Result Driven LineFault → Bool → Result (Unit {0}) ServeFault
served_answer (Ok driven) false = Ok tt
served_answer (Ok driven) true = Err Report
served_answer (Err fault) failed = Err (Line fault)

-- A station that was just started was driven over these devices. Its user sent the message once and
-- reported each notice and message, and the result reports how that ended. `counted` is whether
-- counters are requested, and `failed` whether a write of the report failed.
pub record Serves (milliseconds turns : ℕ) (restart counted : Bool) (send : List ℕ)
    (devices : Devices) (failed : Bool) (report report_after : Known)
    (answer : Result (Unit {0}) ServeFault)
    : Type 0 where
  pub old : StationView
  pub new : StationView
  pub driven : Result Driven LineFault
  pub begun : HasStarted restart old
  pub drives : Drives milliseconds turns old new devices (λ calls. OffersOnce send calls
      × WritesOut failed report report_after (report_text counted calls driven new.core))
      driven
  pub answers : answer ≡ served_answer driven failed
