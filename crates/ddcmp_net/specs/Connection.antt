-- The carrier over a connection.
use Rattle.std.specs.Prelude.{Bool}
use Rattle.ddcmp_net.specs.declared.sockets.Sockets.{Sockets}

-- a carry has failed
abbrev pub has_failed : Sockets → Bool
has_failed s = s.failed
