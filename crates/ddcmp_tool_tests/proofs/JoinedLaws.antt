-- Lines in memory over which nothing has passed.
use Rattle.std.proofs.Common.{◌≡◌, Some}
use Rattle.ddcmp_ports.specs.declared.port.Port.{Port}
use Rattle.ddcmp_ports.specs.declared.port.Port.TheVariants.{Input, Output, Errors, First, Second}
use Rattle.ddcmp_ports.specs.Running.{Passage, no_passage}
use Rattle.ddcmp_tool_tests.specs.Joined.{trace_of}

pub fresh-lines : (a b : Passage) → a ≡ no_passage → b ≡ no_passage → (p : Port) (t : Passage)
    → trace_of a b p ≡ Some t → t ≡ no_passage
fresh-lines a b x y First t e = cc
fresh-lines a b x y Second t e = cc
fresh-lines a b x y Input t e = cc
fresh-lines a b x y Output t e = cc
fresh-lines a b x y Errors t e = cc
