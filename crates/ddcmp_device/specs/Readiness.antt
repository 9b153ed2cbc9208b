-- Which of the requested devices are known to be ready.
use Rattle.std.specs.Prelude.{Bool, ◌&&◌, ◌||◌, Option, Some, None}
use Rattle.ddcmp_device.specs.declared.poller.Descriptor.{Descriptor}
use Rattle.ddcmp_device.specs.declared.poller.Ready.{Ready}
use Rattle.ddcmp_device.specs.declared.place.LinePlace.{LinePlace}
use Rattle.ddcmp_device.specs.declared.poller.Poller.{Poller}
use Rattle.ddcmp_io.specs.declared.transfer.Wanted.{Wanted}

-- the readiness of the line: of the serial device, if it is one, or else of the socket
abbrev pub ready_of : Option Descriptor → Ready → Ready
ready_of (Some device) socket = device.ready
ready_of None socket = socket

abbrev pub place_ready : LinePlace → Ready
place_ready p = ready_of p.device p.socket

-- a requested device is ready
abbrev pub is_any_ready : Wanted → Poller → Bool
is_any_ready wanted w =
    wanted.input && w.input.ready.to_read
    || wanted.output && w.output.ready.to_write
    || wanted.errors && w.errors.ready.to_write
    || wanted.from_line && (place_ready w.line).to_read
    || wanted.to_line && (place_ready w.line).to_write
