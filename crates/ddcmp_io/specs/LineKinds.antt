-- What sets the kinds of line apart.
use Rattle.std.specs.Prelude.{Bool, true, false}
use Rattle.ddcmp_io.specs.declared.line_kind.LineKind.{LineKind}
use Rattle.ddcmp_io.specs.declared.line_kind.LineKind.TheVariants.{Connect, Datagrams, Listen}

-- each write to the line is a datagram
abbrev pub is_of_datagrams : LineKind → Bool
is_of_datagrams Datagrams = true
is_of_datagrams _ = false

-- there is a peer as soon as the line is open
abbrev pub is_connection : LineKind → Bool
is_connection Connect = true
is_connection Listen = true
is_connection _ = false
