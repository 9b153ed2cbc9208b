-- The two ends of a line.
use Rattle.ddcmp_io.specs.declared.carrier.End.{End}
use Rattle.ddcmp_io.specs.declared.carrier.End.TheVariants.{A, B}

abbrev pub other : End → End
other A = B
other B = A
