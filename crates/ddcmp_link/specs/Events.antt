-- What a link reports about its line on standard error.
use Rattle.std.specs.Prelude.{◌≡◌, ℕ, List, Option, Some, None}
use Rattle.std.specs.Fmt.Cut.{IsTextOrCut}
use Rattle.ddcmp_device.specs.Opening.{event_of}
use Rattle.ddcmp_device.specs.declared.opener.Opened.{Opened}
use Rattle.ddcmp_device.specs.declared.opener.Opened.TheVariants.{Line}
use Rattle.ddcmp_ports.specs.Events.{device_text, event_text}
use Rattle.ddcmp_ports.specs.declared.line_name.LineName.{LineName}
use Rattle.ddcmp_ports.specs.declared.line_name.LineName.TheVariants.{Device}
use Rattle.ddcmp_ports.specs.declared.event.LineEvent.{LineEvent}
use Rattle.ddcmp_streams.specs.Errors.{ErrorsView, HasEvent}
use Rattle.ddcmp_streams.specs.declared.errors.TheConstants.{EVENT_ROOM}

-- The text was reported, whole or truncated with dots at the end.
abbrev pub HasReported : List ℕ → ErrorsView → ErrorsView → Type 0
HasReported event old new =
    (text : List ℕ) × IsTextOrCut EVENT_ROOM event text × HasEvent text old new

-- The event was reported, if there is one.
abbrev pub Reports : Option LineEvent → ErrorsView → ErrorsView → Type 0
Reports None old new = new ≡ old
Reports (Some event) old new = HasReported (event_text event) old new

-- How far the opening of a line came was reported, and of a device, which has no address, that it
-- is open.
abbrev pub ReportsOpened : LineName → Opened → ErrorsView → ErrorsView → Type 0
ReportsOpened (Device path) (Line it) old new =
    HasReported (device_text (record { path = path })) old new
ReportsOpened _ opened old new = Reports (event_of opened) old new
