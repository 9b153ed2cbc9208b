use Rattle.std.proofs.Common.{refl}
use Rattle.std.proofs.Math.Bool.{xor}
use Rattle.ddcmp_num.specs.Check.{low_bits, bits, add, divisor_rest, remainder, number, check_of}
use Rattle.ddcmp_laws.proofs.vectors.published_checks.Goals as goal

pub returns-clause-digits : goal.returns-clause-digits
unfolding low_bits bits add divisor_rest remainder number check_of xor
returns-clause-digits c = refl

pub returns-clause-letters : goal.returns-clause-letters
unfolding low_bits bits add divisor_rest remainder number check_of xor
returns-clause-letters c = refl

pub returns-clause-nothing : goal.returns-clause-nothing
unfolding low_bits bits add divisor_rest remainder number check_of xor
returns-clause-nothing c = refl
