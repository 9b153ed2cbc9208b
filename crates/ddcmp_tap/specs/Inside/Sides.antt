-- Whether the last call at each side could do nothing.
use Rattle.std.specs.Prelude.{true}
use Rattle.ddcmp_ports.specs.declared.port.Port.{Port}
use Rattle.ddcmp_ports.specs.declared.port.Port.TheVariants.{Input, Output, Errors, First, Second}
use Rattle.ddcmp_ports.specs.LastCalls.{stuck_at}
use Rattle.ddcmp_ports.specs.Running.{Stuck}
use Rattle.ddcmp_tap.specs.declared.sockets.Sides.{Sides}

-- Standard input and output aren't used.
abbrev pub stuck_of : {S : Type 0} → Sides S → Port → Stuck
stuck_of s First = stuck_at s.caller.last
stuck_of s Second = stuck_at s.called.last
stuck_of s Input = record { read = true; write = true; opening = true }
stuck_of s Output = record { read = true; write = true; opening = true }
stuck_of s Errors = stuck_at s.errors
