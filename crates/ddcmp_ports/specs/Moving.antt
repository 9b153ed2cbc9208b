-- What a call moves.
use Rattle.std.specs.Prelude.{ℕ}
use Rattle.ddcmp_ports.specs.declared.port.Transfer.{Transfer}
use Rattle.ddcmp_ports.specs.declared.port.Transfer.TheVariants.{Bytes, Nothing, Over}

abbrev pub count_moved : Transfer → ℕ
count_moved (Bytes n) = n
count_moved Nothing = 0
count_moved (Over why) = 0
