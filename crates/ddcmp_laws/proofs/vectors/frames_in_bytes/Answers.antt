use Rattle.std.proofs.Common.{refl}
use Rattle.std.proofs.Math.Bool.{xor}
use Rattle.ddcmp_num.specs.Check.{low_bits, bits, add, divisor_rest, remainder, number, check_of}
use Rattle.ddcmp_frame.specs.Wire.{six_bytes, wire}
use Rattle.ddcmp_frame.specs.Spelling.{is_check_right, parsed}
use Rattle.ddcmp_frame.specs.Rows.{read_for, read_rows}
use Rattle.ddcmp_frame.specs.Reading.{is_data_right, row, read, items}
use Rattle.ddcmp_laws.proofs.vectors.frames_in_bytes.Goals as goal

pub returns-clause-strt : goal.returns-clause-strt
unfolding low_bits bits add divisor_rest remainder number check_of xor six_bytes wire is_check_right
    parsed read_for read_rows is_data_right row read items
returns-clause-strt c = record { written = refl; read = refl }

pub returns-clause-stack : goal.returns-clause-stack
unfolding low_bits bits add divisor_rest remainder number check_of xor six_bytes wire is_check_right
    parsed read_for read_rows is_data_right row read items
returns-clause-stack c = record { written = refl; read = refl }

pub returns-clause-ack : goal.returns-clause-ack
unfolding low_bits bits add divisor_rest remainder number check_of xor six_bytes wire is_check_right
    parsed read_for read_rows is_data_right row read items
returns-clause-ack c = record { written = refl; read = refl }

pub returns-clause-nak_header_check : goal.returns-clause-nak_header_check
unfolding low_bits bits add divisor_rest remainder number check_of xor six_bytes wire is_check_right
    parsed read_for read_rows is_data_right row read items
returns-clause-nak_header_check c = record { written = refl; read = refl }

pub returns-clause-nak_data_check : goal.returns-clause-nak_data_check
unfolding low_bits bits add divisor_rest remainder number check_of xor six_bytes wire is_check_right
    parsed read_for read_rows is_data_right row read items
returns-clause-nak_data_check c = record { written = refl; read = refl }

pub returns-clause-nak_reply_to_rep : goal.returns-clause-nak_reply_to_rep
unfolding low_bits bits add divisor_rest remainder number check_of xor six_bytes wire is_check_right
    parsed read_for read_rows is_data_right row read items
returns-clause-nak_reply_to_rep c = record { written = refl; read = refl }

pub returns-clause-nak_no_buffer : goal.returns-clause-nak_no_buffer
unfolding low_bits bits add divisor_rest remainder number check_of xor six_bytes wire is_check_right
    parsed read_for read_rows is_data_right row read items
returns-clause-nak_no_buffer c = record { written = refl; read = refl }

pub returns-clause-nak_overrun : goal.returns-clause-nak_overrun
unfolding low_bits bits add divisor_rest remainder number check_of xor six_bytes wire is_check_right
    parsed read_for read_rows is_data_right row read items
returns-clause-nak_overrun c = record { written = refl; read = refl }

pub returns-clause-nak_too_long : goal.returns-clause-nak_too_long
unfolding low_bits bits add divisor_rest remainder number check_of xor six_bytes wire is_check_right
    parsed read_for read_rows is_data_right row read items
returns-clause-nak_too_long c = record { written = refl; read = refl }

pub returns-clause-nak_format : goal.returns-clause-nak_format
unfolding low_bits bits add divisor_rest remainder number check_of xor six_bytes wire is_check_right
    parsed read_for read_rows is_data_right row read items
returns-clause-nak_format c = record { written = refl; read = refl }

pub returns-clause-rep : goal.returns-clause-rep
unfolding low_bits bits add divisor_rest remainder number check_of xor six_bytes wire is_check_right
    parsed read_for read_rows is_data_right row read items
returns-clause-rep c = record { written = refl; read = refl }

pub returns-clause-message : goal.returns-clause-message
unfolding low_bits bits add divisor_rest remainder number check_of xor six_bytes wire is_check_right
    parsed read_for read_rows is_data_right row read items
returns-clause-message c = record { written = refl; read = refl }

pub returns-clause-maintenance : goal.returns-clause-maintenance
unfolding low_bits bits add divisor_rest remainder number check_of xor six_bytes wire is_check_right
    parsed read_for read_rows is_data_right row read items
returns-clause-maintenance c = record { written = refl; read = refl }

pub returns-clause-fill : goal.returns-clause-fill
unfolding low_bits bits add divisor_rest remainder number check_of xor six_bytes wire
returns-clause-fill c = refl

pub returns-clause-fill_of_each : goal.returns-clause-fill_of_each
returns-clause-fill_of_each c = λ syn frame. refl
