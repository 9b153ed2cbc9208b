use Rattle.std.proofs.Common.{inl, refl, arith, []}
use Rattle.std.proofs.Math.Bool.{xor}
use Rattle.ddcmp_num.specs.Check.{low_bits, bits, add, divisor_rest, remainder, number, check_of}
use Rattle.ddcmp_frame.specs.Wire.{six_bytes, wire}
use Rattle.ddcmp_frame.specs.Spelling.{is_check_right, parsed}
use Rattle.ddcmp_frame.specs.Rows.{read_for, read_rows}
use Rattle.ddcmp_frame.specs.Reading.{is_data_right, row, read, items, good_frames_in}
use Rattle.ddcmp_core.specs.Table.{on, notice_of, next}
use Rattle.ddcmp_core.specs.Counting.{counters_on, counters_after_next}
use Rattle.ddcmp_proto.specs.Bytes.{after_items, notices_of_items}
use Rattle.ddcmp_station.specs.Linking.{after_frames}
use Rattle.ddcmp_pair.specs.Place.{first_index, place_from}
use Rattle.ddcmp_laws.specs.PairCalls.{run_calls}
use Rattle.ddcmp_laws.specs.Links.{after_steps, link_starts}
use Rattle.ddcmp_laws.specs.LinkLines.{calls_of_steps}
use Rattle.ddcmp_input.specs.Lengths.{after_bytes, entries_of_bytes}
use Rattle.ddcmp_session.specs.Text.{notices_text}
use Rattle.ddcmp_laws.specs.Sessions.{texts_of, frames_put, takes_put}
use Rattle.ddcmp_session.specs.Session.{after_takes}
use Rattle.ddcmp_laws.specs.Pipe.{after_sessions, link_steps_at, connects}
use Rattle.ddcmp_laws.specs.PipeStory.{steps_by}
use Rattle.ddcmp_laws.specs.Story.{strt_bytes, stack_bytes, first_bytes, ack_1_bytes}
use Rattle.ddcmp_laws.specs.Vectors.{abc}
use Rattle.ddcmp_laws.proofs.SessionStory.{completes, unless}
use Rattle.ddcmp_laws.proofs.pipe.a_message_comes_through.Goals as goal

pub returns-clause-once : goal.returns-clause-once
unfolding steps_by connects
returns-clause-once c = λ line other_line. record { at_a = omega arith; at_b = omega arith }

pub returns-clause-honest : goal.returns-clause-honest
unfolding low_bits bits add divisor_rest remainder number check_of xor six_bytes wire is_check_right
    parsed read_for read_rows is_data_right row read items good_frames_in on notice_of next
    counters_on counters_after_next after_items notices_of_items first_index place_from
    after_steps link_starts calls_of_steps run_calls after_frames after_bytes entries_of_bytes
    notices_text texts_of frames_put takes_put after_takes after_sessions link_steps_at steps_by
returns-clause-honest c = λ line other_line. refl

pub returns-clause-ends : goal.returns-clause-ends
unfolding low_bits bits add divisor_rest remainder number check_of xor six_bytes wire is_check_right
    parsed read_for read_rows is_data_right row read items good_frames_in on notice_of next
    counters_on counters_after_next after_items notices_of_items first_index place_from
    after_steps link_starts calls_of_steps run_calls after_frames after_bytes entries_of_bytes
    notices_text texts_of frames_put takes_put after_takes after_sessions link_steps_at steps_by
returns-clause-ends c = λ line other_line. record {
  input = refl;
  written = refl;
  over = refl;
}

pub returns-clause-streams : goal.returns-clause-streams
unfolding low_bits bits add divisor_rest remainder number check_of xor six_bytes wire is_check_right
    parsed read_for read_rows is_data_right row read items good_frames_in on notice_of next
    counters_on counters_after_next after_items notices_of_items after_frames after_bytes
    entries_of_bytes notices_text texts_of after_takes steps_by
returns-clause-streams c = λ line other_line. ((refl, refl, refl), record { to_a = ([], refl); to_b = ([], refl) }, ((refl, refl, refl), record { to_a = ([], refl); to_b = ([], refl) }, ((refl, inl (omega arith)), record { to_a = ([], refl); to_b = ([], refl) }, (refl, record { to_a = ([], refl); to_b = (strt_bytes, refl) }, (record { core = refl; syn = refl; link = refl; wanted = unless refl; wrote = record { waiting = refl; room = omega arith; size = refl; is_cut = refl }; course = refl; stays = refl }, record { to_a = ([], refl); to_b = ([], refl) }, ((refl, inl (omega arith)), record { to_a = ([], refl); to_b = ([], refl) }, (refl, record { to_a = (stack_bytes, refl); to_b = ([], refl) }, (record { core = refl; syn = refl; link = refl; wanted = unless refl; wrote = record { waiting = refl; room = omega arith; size = refl; is_cut = refl }; course = refl; stays = refl }, record { to_a = ([], refl); to_b = ([], refl) }, (record { state = refl; wanted = λ e. absurd (cc e); part = completes }, record { to_a = ([], refl); to_b = ([], refl) }, ((refl, inl (omega arith)), record { to_a = ([], refl); to_b = ([], refl) }, (refl, record { to_a = ([], refl); to_b = (first_bytes, refl) }, (record { core = refl; syn = refl; link = refl; wanted = unless refl; wrote = record { waiting = refl; room = omega arith; size = refl; is_cut = refl }; course = refl; stays = refl }, record { to_a = ([], refl); to_b = ([], refl) }, (record { wrote = (abc, refl, record { waiting = refl; room = omega arith; size = refl; is_cut = refl }); stays = refl }, record { to_a = ([], refl); to_b = ([], refl) }, (refl, record { to_a = ([], refl); to_b = ([], refl) }, ((refl, inl (omega arith)), record { to_a = ([], refl); to_b = ([], refl) }, (refl, record { to_a = (ack_1_bytes, refl); to_b = ([], refl) }, (record { core = refl; syn = refl; link = refl; wanted = unless refl; wrote = record { waiting = refl; room = omega arith; size = refl; is_cut = refl }; course = refl; stays = refl }, record { to_a = ([], refl); to_b = ([], refl) }, (refl, record { to_a = ([], refl); to_b = ([], refl) }, tt))))))))))))))))))
