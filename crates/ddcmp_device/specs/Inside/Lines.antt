-- The kinds of line, and what an error of a call on one means.
use Rattle.std.specs.Prelude.{ℕ, Bool, true, false}
use Rattle.std.specs.declared.io.ErrorKind.{ErrorKind}
use Rattle.std.specs.declared.io.ErrorKind.TheVariants as kind
use Rattle.ddcmp_device.specs.declared.line.Heard.{Heard}
use Rattle.ddcmp_device.specs.declared.line.Heard.TheVariants as heard
use Rattle.ddcmp_device.specs.declared.line.Line.{Line}
use Rattle.ddcmp_device.specs.declared.line.Line.TheVariants.{Stream, Datagrams, Device}
use Rattle.ddcmp_io.specs.declared.line_kind.LineKind.{LineKind}
use Rattle.ddcmp_io.specs.declared.line_kind.LineKind.TheVariants as kinds
use Rattle.ddcmp_io.specs.declared.transfer.Down.TheVariants.{Failed}
use Rattle.ddcmp_io.specs.declared.transfer.Transfer.{Transfer}
use Rattle.ddcmp_io.specs.declared.transfer.Transfer.TheVariants.{Bytes, Nothing, Interrupted}
use Rattle.ddcmp_io.specs.declared.transfer.Transfer.TheVariants.{Ended}

-- whether each write arrives as a whole, or not at all
abbrev pub has_datagrams : Line → Bool
has_datagrams (Stream stream) = false
has_datagrams (Datagrams socket remote) = true
has_datagrams (Device file) = false

-- Only a call that was interrupted, or would block, leaves a line up.
abbrev pub moved_by_error : ErrorKind → Transfer
moved_by_error kind.WouldBlock = Nothing
moved_by_error kind.Interrupted = Interrupted
moved_by_error other = Ended (Failed other)

-- An error because the peer isn't there yet counts as an empty datagram; after other errors nothing
-- was received.
abbrev pub received_by_error : ErrorKind → Transfer
received_by_error kind.ConnectionRefused = Bytes 0
received_by_error kind.Interrupted = Interrupted
received_by_error _ = Nothing

-- A datagram whose sending fails is lost, unless the call was interrupted or would block.
abbrev pub sent_by_error : ℕ → ErrorKind → Transfer
sent_by_error length kind.WouldBlock = Nothing
sent_by_error length kind.Interrupted = Interrupted
sent_by_error length _ = Bytes length

-- A caller that may still send is up; after another error it is gone.
abbrev pub heard_by_error : ErrorKind → Heard
heard_by_error kind.WouldBlock = heard.Nothing
heard_by_error kind.Interrupted = heard.Nothing
heard_by_error _ = heard.Gone

-- whether a line is one of datagrams
abbrev pub is_datagrams : LineKind → Bool
is_datagrams kinds.Datagrams = true
is_datagrams _ = false
