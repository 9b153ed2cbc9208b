use Rattle.std.proofs.Common.{map, refl}
use Rattle.std.proofs.Math.Bool.{xor}
use Rattle.ddcmp_num.specs.Check.{low_bits, bits, add, divisor_rest, remainder, number, check_of}
use Rattle.ddcmp_frame.specs.Wire.{six_bytes, wire}
use Rattle.ddcmp_frame.specs.Spelling.{is_check_right, parsed}
use Rattle.ddcmp_frame.specs.Rows.{read_for, read_rows}
use Rattle.ddcmp_frame.specs.Reading.{is_data_right, row, read, items, good_frames_in}
use Rattle.ddcmp_core.specs.Table.{on, notice_of, next}
use Rattle.ddcmp_core.specs.Counting.{counters_on, counters_after_next}
use Rattle.ddcmp_proto.specs.Bytes.{after_items, notices_of_items}
use Rattle.ddcmp_pair.specs.Place.{first_index, place_from}
use Rattle.ddcmp_pair.specs.Run.{after_event, reply_to, run, new_pair}
use Rattle.ddcmp_laws.specs.Story.{default_sizes, tight, clear_run, event_in, replies_to}
use Rattle.ddcmp_laws.specs.Faithful.{bytes_of}
use Rattle.ddcmp_laws.proofs.ClearRuns.{begins, find_room, finds_room, is_faithful}
use Rattle.ddcmp_laws.proofs.ClearRuns.{stays_clear, stays_by}
use Rattle.ddcmp_laws.proofs.story.clear_run_is_answered.Goals as goal

pub returns-clause-clear : goal.returns-clause-clear
unfolding low_bits bits add divisor_rest remainder number check_of xor six_bytes wire is_check_right
    parsed read_for read_rows is_data_right row read items good_frames_in on notice_of next
    counters_on counters_after_next after_items notices_of_items first_index place_from after_event
    reply_to run replies_to bytes_of begins find_room finds_room is_faithful stays_clear
returns-clause-clear c =
    stays_by (map event_in clear_run) (new_pair default_sizes default_sizes) refl

pub returns-clause-one : goal.returns-clause-one
unfolding low_bits bits add divisor_rest remainder number check_of xor six_bytes wire is_check_right
    parsed read_for read_rows is_data_right row read items good_frames_in on notice_of next
    counters_on counters_after_next after_items notices_of_items first_index place_from after_event
    reply_to run replies_to bytes_of begins find_room finds_room is_faithful stays_clear
returns-clause-one c = stays_by (map event_in clear_run) (new_pair tight tight) refl

pub returns-clause-replies : goal.returns-clause-replies
unfolding low_bits bits add divisor_rest remainder number check_of xor six_bytes wire is_check_right
    parsed read_for read_rows is_data_right row read items good_frames_in on notice_of next
    counters_on counters_after_next after_items notices_of_items first_index place_from after_event
    reply_to run replies_to
returns-clause-replies c = refl

pub returns-clause-ends : goal.returns-clause-ends
unfolding low_bits bits add divisor_rest remainder number check_of xor six_bytes wire is_check_right
    parsed read_for read_rows is_data_right row read items good_frames_in on notice_of next
    counters_on counters_after_next after_items notices_of_items first_index place_from after_event
    reply_to run replies_to
returns-clause-ends c =
    record {
      honest = refl;
      clean = refl;
      done = refl;
      at_a = refl;
      at_b = refl;
      counted_at_a = refl;
      counted_at_b = refl;
    }
