-- The texts of the system's errors, and of a line that is down.
use Rattle.std.specs.Prelude.{ℕ, List, codes}
use Rattle.std.specs.declared.io.ErrorKind.{ErrorKind}
use Rattle.std.specs.declared.io.ErrorKind.TheVariants as kind
use Rattle.ddcmp_io.specs.declared.transfer.Down.{Down}
use Rattle.ddcmp_io.specs.declared.transfer.Down.TheVariants.{Closed, Failed}

-- why the system couldn't open something
abbrev pub cause_words : ErrorKind → List ℕ
cause_words kind.NotFound = codes "no such file"
cause_words kind.PermissionDenied = codes "permission denied"
cause_words kind.IsADirectory = codes "is a directory"
cause_words kind.NotADirectory = codes "not a directory"
cause_words kind.FilesystemLoop = codes "links in a circle"
cause_words kind.InvalidFilename = codes "name too long"
cause_words kind.ConnectionRefused = codes "connection refused"
cause_words kind.ConnectionReset = codes "connection reset"
cause_words kind.HostUnreachable = codes "host unreachable"
cause_words kind.NetworkUnreachable = codes "network unreachable"
cause_words kind.AddrInUse = codes "address in use"
cause_words kind.AddrNotAvailable = codes "address not available"
cause_words kind.TimedOut = codes "timed out"
cause_words kind.InvalidInput = codes "not an address"
cause_words kind.OutOfMemory = codes "out of memory"
cause_words _ = codes "it can't be opened"

-- Why an open line failed. A device that is gone has an error code of its own.
abbrev pub failure_words : ErrorKind → List ℕ
failure_words kind.BrokenPipe = codes "broken pipe"
failure_words kind.ConnectionRefused = cause_words kind.ConnectionRefused
failure_words kind.ConnectionReset = cause_words kind.ConnectionReset
failure_words kind.HostUnreachable = cause_words kind.HostUnreachable
failure_words kind.NetworkUnreachable = cause_words kind.NetworkUnreachable
failure_words kind.TimedOut = cause_words kind.TimedOut
failure_words kind.OutOfMemory = cause_words kind.OutOfMemory
failure_words _ = codes "input or output error"

-- why a line is down
abbrev pub down_text : Down → List ℕ
down_text Closed = codes "closed by the other end"
down_text (Failed kind) = failure_words kind
