-- Whether the last calls at two lines could do nothing.
use Rattle.std.specs.Prelude.{true}
use Rattle.ddcmp_ports.specs.declared.port.Port.{Port}
use Rattle.ddcmp_ports.specs.declared.port.Port.TheVariants.{Input, Output, Errors, First, Second}
use Rattle.ddcmp_ports.specs.LastCalls.{stuck_at}
use Rattle.ddcmp_ports.specs.Running.{Stuck}
use Rattle.ddcmp_ports.specs.declared.last_calls.LastCalls.{LastCalls}

abbrev pub stuck_of : LastCalls → LastCalls → Port → Stuck
stuck_of first second First = stuck_at first
stuck_of first second Second = stuck_at second
stuck_of first second Input = record { read = true; write = true; opening = true }
stuck_of first second Output = record { read = true; write = true; opening = true }
stuck_of first second Errors = record { read = true; write = true; opening = true }
