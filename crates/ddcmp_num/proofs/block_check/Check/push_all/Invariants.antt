use Rattle.std.proofs.Common.{◌≡◌, List, ℕ, ◌*◌, ◌++◌, take}
use Rattle.ddcmp_num.specs.Check.{check_of}
use Rattle.ddcmp_num.proofs.block_check.Check.push_all.Given as goal

abbrev pub invariant-loop-sixteen : goal.invariant-loop-sixteen
invariant-loop-sixteen l =
    (text : List ℕ) → l.self ≡ check_of text
    → l.check ≡ check_of (text ++ take (l.sixteen-index * 16) l.bytes)
