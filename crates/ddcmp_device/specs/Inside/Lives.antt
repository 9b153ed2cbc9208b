-- The lines of a bridge, and whether the last call at each of its ports could do nothing.
use Rattle.std.specs.Prelude.{true}
use Rattle.ddcmp_device.specs.declared.live.Live.{Live}
use Rattle.ddcmp_device.specs.declared.live_line.LiveLine.{LiveLine}
use Rattle.ddcmp_bridge.specs.Crossing.{LinePlan, plan_of}
use Rattle.ddcmp_ports.specs.declared.port.Port.{Port}
use Rattle.ddcmp_ports.specs.declared.port.Port.TheVariants.{Input, Output, Errors, First, Second}
use Rattle.ddcmp_ports.specs.LastCalls.{stuck_at}
use Rattle.ddcmp_ports.specs.Running.{Stuck}

-- Standard input and output aren't used.
abbrev pub stuck_of : {S : Type 0} → Live S → Port → Stuck
stuck_of l First = stuck_at l.first_last
stuck_of l Second = stuck_at l.second_last
stuck_of l Errors = record { read = true; write = l.errors_last.write; opening = true }
stuck_of l Input = record { read = true; write = true; opening = true }
stuck_of l Output = record { read = true; write = true; opening = true }

-- the line that is opened
abbrev pub plan : LiveLine → LinePlan
plan l = plan_of l.opener.name l.baud
