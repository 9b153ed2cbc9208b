-- What is reported about a line on standard error, without the line feed.
use Rattle.std.specs.Prelude.{List, ◌++◌, codes, decimal, ℕ}
use Rattle.std.specs.Net.Text.{socket_text}
use Rattle.ddcmp_io.specs.Causes.{cause_words}
use Rattle.ddcmp_ports.specs.declared.event.LineEvent.{LineEvent}
use Rattle.ddcmp_ports.specs.declared.event.LineEvent.TheVariants as event
use Rattle.ddcmp_ports.specs.declared.event.DeviceOpened.{DeviceOpened}
use Rattle.ddcmp_ports.specs.declared.event.Retry.{Retry}
use Rattle.ddcmp_ports.specs.declared.fault.Attempt.{Attempt}
use Rattle.ddcmp_ports.specs.declared.fault.Attempt.TheVariants as attempt
use Rattle.ddcmp_ports.specs.declared.fault.Cause.{Cause}
use Rattle.ddcmp_ports.specs.declared.fault.Cause.TheVariants as cause
use Rattle.ddcmp_ports.specs.declared.fault.OpenFault.{OpenFault}

abbrev pub attempt_text : Attempt → List ℕ
attempt_text attempt.Connect = codes "connect"
attempt_text attempt.Listen = codes "listen"
attempt_text attempt.Open = codes "open"
attempt_text attempt.Create = codes "create"
attempt_text attempt.Write = codes "write"

abbrev pub cause_text : Cause → List ℕ
cause_text (cause.System kind) = cause_words kind
cause_text cause.UnknownHost = codes "no such host"
cause_text cause.NoHost = codes "the host is missing, as in 0.0.0.0:7000"
cause_text cause.NoPort = codes "the port isn't a number up to 65535"
cause_text cause.OtherFamily = codes "not of the other address's family"
cause_text cause.NotDevice = codes "not a character device"
cause_text cause.InUse = codes "already in use"
cause_text cause.Exists = codes "file exists"
cause_text cause.Full = codes "no space left on device"
cause_text cause.Failed = codes "failed"

-- a line that couldn't be opened, with its name
abbrev pub open_fault_text : OpenFault → List ℕ
open_fault_text f =
    attempt_text f.attempt ++ (codes " " ++ (f.name.now ++ (codes ": " ++ cause_text f.cause)))

abbrev pub event_text : LineEvent → List ℕ
event_text (event.Listening address) = codes "listening " ++ socket_text address
event_text (event.Connecting address) = codes "connecting " ++ socket_text address
event_text (event.Connected address) = codes "connected " ++ socket_text address
event_text (event.Refused address) = codes "refused " ++ socket_text address
event_text (event.Bound local peer) =
    codes "bound " ++ (socket_text local ++ (codes ", peer " ++ socket_text peer))
event_text (event.Stranger sender peer) =
    codes "datagram from "
    ++ (socket_text sender ++ (codes " ignored: the peer is " ++ socket_text peer))

-- a device that was opened
abbrev pub device_text : DeviceOpened → List ℕ
device_text d = codes "opened " ++ d.path.now

-- a line that is opened again after some seconds
abbrev pub retry_text : Retry → List ℕ
retry_text r =
    codes "ddcmp: "
    ++ (open_fault_text r.fault ++ (codes "; retry in " ++ (decimal r.seconds ++ codes " s")))
