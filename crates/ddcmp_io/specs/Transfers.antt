-- What a read or a write that doesn't wait moves.
use Rattle.std.specs.Prelude.{ℕ}
use Rattle.ddcmp_io.specs.declared.transfer.Transfer.{Transfer}
use Rattle.ddcmp_io.specs.declared.transfer.Transfer.TheVariants.{Bytes, Nothing, Interrupted}
use Rattle.ddcmp_io.specs.declared.transfer.Transfer.TheVariants.{Ended}

-- how many bytes were moved
abbrev pub count_moved : Transfer → ℕ
count_moved (Bytes n) = n
count_moved Nothing = 0
count_moved Interrupted = 0
count_moved (Ended why) = 0
