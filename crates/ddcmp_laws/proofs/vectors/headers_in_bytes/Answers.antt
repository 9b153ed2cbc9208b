use Rattle.std.proofs.Common.{refl}
use Rattle.std.proofs.Math.Bool.{xor}
use Rattle.ddcmp_num.specs.Check.{low_bits, bits, add, divisor_rest, remainder, number, check_of}
use Rattle.ddcmp_frame.specs.Wire.{six_bytes}
use Rattle.ddcmp_frame.specs.Spelling.{is_check_right, parsed}
use Rattle.ddcmp_laws.proofs.vectors.headers_in_bytes.Goals as goal

pub returns-clause-ack : goal.returns-clause-ack
unfolding low_bits bits add divisor_rest remainder number check_of xor six_bytes is_check_right
    parsed
returns-clause-ack c = record { written = refl; read = refl }

pub returns-clause-nak : goal.returns-clause-nak
unfolding low_bits bits add divisor_rest remainder number check_of xor six_bytes is_check_right
    parsed
returns-clause-nak c = record { written = refl; read = refl }

pub returns-clause-rep : goal.returns-clause-rep
unfolding low_bits bits add divisor_rest remainder number check_of xor six_bytes is_check_right
    parsed
returns-clause-rep c = record { written = refl; read = refl }

pub returns-clause-strt : goal.returns-clause-strt
unfolding low_bits bits add divisor_rest remainder number check_of xor six_bytes is_check_right
    parsed
returns-clause-strt c = record { written = refl; read = refl }

pub returns-clause-stack : goal.returns-clause-stack
unfolding low_bits bits add divisor_rest remainder number check_of xor six_bytes is_check_right
    parsed
returns-clause-stack c = record { written = refl; read = refl }

pub returns-clause-message : goal.returns-clause-message
unfolding low_bits bits add divisor_rest remainder number check_of xor six_bytes is_check_right
    parsed
returns-clause-message c = record { written = refl; read = refl }

pub returns-clause-longest : goal.returns-clause-longest
unfolding low_bits bits add divisor_rest remainder number check_of xor six_bytes is_check_right
    parsed
returns-clause-longest c = record { written = refl; read = refl }

pub returns-clause-maintenance : goal.returns-clause-maintenance
unfolding low_bits bits add divisor_rest remainder number check_of xor six_bytes is_check_right
    parsed
returns-clause-maintenance c = record { written = refl; read = refl }
