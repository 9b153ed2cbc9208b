-- The possible results of opening a line, by its kind, and what is reported about them.
use Rattle.std.specs.Prelude.{⊤, ◌≡◌, Option, Some, None}
use Rattle.ddcmp_ports.specs.declared.event.LineEvent.{LineEvent}
use Rattle.ddcmp_ports.specs.declared.event.LineEvent.TheVariants as event
use Rattle.ddcmp_device.specs.declared.line.Line.{Line as LineValue}
use Rattle.ddcmp_device.specs.declared.line.Line.TheVariants as line
use Rattle.ddcmp_device.specs.declared.opener.Opened.{Opened}
use Rattle.ddcmp_device.specs.declared.opener.Opened.TheVariants.{Bound, Line, Connected}
use Rattle.ddcmp_device.specs.declared.opener.Opened.TheVariants.{Connecting}
use Rattle.ddcmp_device.specs.declared.opener.Opened.TheVariants.{Listening, NotYet, Refused}
use Rattle.ddcmp_io.specs.declared.line_kind.LineKind.{LineKind}
use Rattle.ddcmp_io.specs.declared.line_kind.LineKind.TheVariants as kind

-- what is reported: nothing of a device
abbrev pub event_of : Opened → Option LineEvent
event_of (Line it) = None
event_of (Bound it local peer) = Some (event.Bound local peer)
event_of (Connected it peer) = Some (event.Connected peer)
event_of (Connecting peer) = Some (event.Connecting peer)
event_of (Listening address) = Some (event.Listening address)
event_of (Refused peer) = Some (event.Refused peer)
event_of NotYet = None

-- the line, if it is open
abbrev pub line_of : Opened → Option LineValue
line_of (Line it) = Some it
line_of (Bound it local peer) = Some it
line_of (Connected it peer) = Some it
line_of (Connecting peer) = None
line_of (Listening address) = None
line_of (Refused peer) = None
line_of NotYet = None

-- Only a line for callers listens.
abbrev pub Begins : LineKind → Opened → Type 0
Begins kind.Listen (Listening address) = ⊤
Begins kind.Connect NotYet = ⊤
Begins kind.Datagrams NotYet = ⊤
Begins kind.Device NotYet = ⊤
Begins _ _ = ⊥

-- A connection is begun and then made; a listener waits for a caller, who then connects or is
-- refused; other lines are open at once.
abbrev pub Opens : LineKind → Opened → Type 0
Opens kind.Connect (Connected (line.Stream stream) peer) = ⊤
Opens kind.Connect (Connecting peer) = ⊤
Opens kind.Connect NotYet = ⊤
Opens kind.Listen (Listening address) = ⊤
Opens kind.Listen (Connected (line.Stream stream) peer) = ⊤
Opens kind.Listen (Refused peer) = ⊤
Opens kind.Listen NotYet = ⊤
Opens kind.Datagrams (Bound (line.Datagrams socket remote) local peer) = ⊤
Opens kind.Device (Line (line.Device file)) = ⊤
Opens _ _ = ⊥

-- If there is no result yet, the connection or the listener is unchanged, if there is one.
abbrev pub SameIfNotYet : {C : Type 0} → C → C → Opened → Type 0
SameIfNotYet old new NotYet = new ≡ old
SameIfNotYet old new _ = ⊤
