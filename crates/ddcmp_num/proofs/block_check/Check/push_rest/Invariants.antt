use Rattle.std.proofs.Common.{◌≡◌, List, ℕ, ◌*◌, ◌++◌, take}
use Rattle.ddcmp_num.specs.Check.{check_of}
use Rattle.ddcmp_num.proofs.block_check.Check.push_rest.Given as goal

abbrev pub invariant-loop-eight : goal.invariant-loop-eight
invariant-loop-eight l =
    (text : List ℕ) → l.self ≡ check_of text
    → l.check ≡ check_of (text ++ take (l.eight-index * 8) l.bytes)

abbrev pub invariant-loop-byte : goal.invariant-loop-byte
invariant-loop-byte l =
    (text : List ℕ) → l.initial.check ≡ check_of text
    → l.check ≡ check_of (text ++ take l.byte-index l.rest)
