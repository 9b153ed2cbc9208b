-- Frames as the table reads them, and as a station writes them.
use Rattle.std.specs.Prelude.{ℕ, ◌≤◌, Bool, true, false, List, [], length, Option, Some, None}
use Rattle.ddcmp_frame.specs.declared.header.Flags.{Flags}
use Rattle.ddcmp_frame.specs.declared.header.ControlType.{ControlType}
use Rattle.ddcmp_frame.specs.declared.header.ControlType.TheVariants as control
use Rattle.ddcmp_frame.specs.declared.header.Header.{Header}
use Rattle.ddcmp_frame.specs.declared.header.Header.TheVariants as header
use Rattle.ddcmp_frame.specs.Fields.{ShortFields}
use Rattle.ddcmp_frame.specs.Naks.{reason_of, subtype_of}
use Rattle.ddcmp_frame.specs.Wire.{IsFrame}
use Rattle.ddcmp_core.specs.declared.input.Input.{Input}
use Rattle.ddcmp_core.specs.declared.input.Input.TheVariants as input
use Rattle.ddcmp_core.specs.Table.{Frame, Data, Acked, Naked, Rep, Strt, Stack, Maint, Received}
use Rattle.ddcmp_core.specs.Table.{Good, BadHeader, BadData, TooLong, BadFormat}

-- ---- as the table reads them

abbrev pub frame_of_control : ControlType → ShortFields → Frame
frame_of_control control.Ack h = Acked h.resp
frame_of_control control.Nak h = Naked (reason_of h.sub) h.resp
frame_of_control control.Rep h = Rep h.num
frame_of_control control.Strt h = Strt
frame_of_control control.Stack h = Stack

abbrev pub frame_of : Header → List ℕ → Frame
frame_of (header.Data h) message = Data h.resp h.num message
frame_of (header.Maint h) message = Maint message
frame_of (header.Control h) message = frame_of_control h.kind h

abbrev pub is_data_header : Header → Bool
is_data_header (header.Data h) = true
is_data_header (header.Maint h) = false
is_data_header (header.Control h) = false

abbrev pub received : Input → Received
received (input.Good h message) = Good (frame_of h message.now)
received input.HeaderCheck = BadHeader
received (input.DataCheck h) = BadData (is_data_header h)
received (input.TooLong h) = TooLong (is_data_header h)
received input.Format = BadFormat

-- the data of a good frame have the length COUNT, none with a control header, and are within the
-- limit
abbrev pub FitsHeader : ℕ → Input → Type 0
FitsHeader longest (input.Good h message) = IsFrame h message.now × (length message.now ≤ longest)
FitsHeader longest _ = Unit {0}

-- ---- as a station writes them

abbrev pub no_flags : Flags
no_flags = record { q = false; s = false }

abbrev pub both_flags : Flags
both_flags = record { q = true; s = true }

-- the headers that a station writes, all with the address 1
abbrev pub data_header : ℕ → ℕ → ℕ → Header
data_header count resp num =
    header.Data (record { count = count; flags = no_flags; resp = resp; num = num; addr = 1 })

abbrev pub maint_header : ℕ → Header
maint_header count =
    header.Maint (record { count = count; flags = both_flags; resp = 0; num = 0; addr = 1 })

abbrev pub control_header : ControlType → ℕ → Flags → ℕ → ℕ → Header
control_header kind sub flags resp num =
    header.Control (record {
      kind = kind;
      sub = sub;
      flags = flags;
      resp = resp;
      num = num;
      addr = 1;
    })

abbrev pub header_of : Frame → Header
header_of (Data resp num message) = data_header (length message) resp num
header_of (Acked resp) = control_header control.Ack 0 no_flags resp 0
header_of (Naked why resp) = control_header control.Nak (subtype_of why) no_flags resp 0
header_of (Rep num) = control_header control.Rep 0 no_flags 0 num
header_of Strt = control_header control.Strt 0 both_flags 0 0
header_of Stack = control_header control.Stack 0 both_flags 0 0
header_of (Maint message) = maint_header (length message)

abbrev pub message_of : Frame → List ℕ
message_of (Data resp num message) = message
message_of (Maint message) = message
message_of _ = []

-- the length of the data, if there is a frame
abbrev pub data_length : Option Frame → ℕ
data_length None = 0
data_length (Some f) = length (message_of f)

-- the header, and the length of the data
abbrev pub header_and_length : Frame → Header × ℕ
header_and_length f = (header_of f, length (message_of f))
