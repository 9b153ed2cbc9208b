-- What is held for a machine.
use Rattle.std.specs.Prelude.{ℕ, List}
use Rattle.ddcmp_ports.specs.declared.port.Port.{Port}
use Rattle.ddcmp_ports.specs.declared.port.Port.TheVariants.{Input, Output, Errors, First, Second}
use Rattle.ddcmp_ports.specs.declared.buffers.Buffers.{Buffers}

abbrev pub held_of : Buffers → Port → List ℕ
held_of b Input = b.input
held_of b Output = b.output
held_of b Errors = b.errors
held_of b First = b.first
held_of b Second = b.second
