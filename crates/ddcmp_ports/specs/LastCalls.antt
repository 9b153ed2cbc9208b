-- What the last calls at a port could do.
use Rattle.ddcmp_ports.specs.Running.{Stuck}
use Rattle.ddcmp_ports.specs.declared.last_calls.LastCalls.{LastCalls}

abbrev pub stuck_at : LastCalls → Stuck
stuck_at l = record { read = l.read; write = l.write; opening = l.opening }
