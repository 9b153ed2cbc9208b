use Rattle.std.proofs.Common.{◌≡◌, ℕ, [], inl, refl, arith}
use Rattle.std.proofs.Math.Bool.{xor}
use Rattle.ddcmp_num.specs.Check.{low_bits, bits, add, divisor_rest, remainder, number, check_of}
use Rattle.ddcmp_frame.specs.Wire.{six_bytes, wire}
use Rattle.ddcmp_frame.specs.Spelling.{is_check_right, parsed}
use Rattle.ddcmp_frame.specs.Rows.{read_for, read_rows}
use Rattle.ddcmp_frame.specs.Reading.{is_data_right, row, read, items, good_frames_in}
use Rattle.ddcmp_core.specs.Table.{on, notice_of, next}
use Rattle.ddcmp_core.specs.Counting.{counters_on, counters_after_next}
use Rattle.ddcmp_proto.specs.Bytes.{after_items, notices_of_items}
use Rattle.ddcmp_station.specs.Linking.{after_frames}
use Rattle.ddcmp_pair.specs.Place.{first_index, place_from}
use Rattle.ddcmp_laws.specs.LinkRestarts.{calls_of_links}
use Rattle.ddcmp_laws.specs.StationRuns.{run_station_calls}
use Rattle.ddcmp_input.specs.InBinary.{told_in}
use Rattle.ddcmp_input.specs.Lengths.{after_bytes, entries_of_bytes}
use Rattle.ddcmp_session.specs.Text.{notices_text}
use Rattle.ddcmp_laws.specs.Sessions.{texts_of, frames_put, takes_put, mail_in, got_in}
use Rattle.ddcmp_session.specs.Session.{after_takes}
use Rattle.ddcmp_laws.specs.Connections.{after_steps, link_steps}
use Rattle.ddcmp_laws.specs.AnewStory.{steps_anew_by}
use Rattle.ddcmp_laws.specs.Story.{ack_1_bytes, first_bytes, stack_bytes, strt_bytes}
use Rattle.ddcmp_laws.specs.Vectors.{abc}
use Rattle.ddcmp_laws.specs.Connected.{connections_in}
use Rattle.ddcmp_laws.specs.Pipe.{connects}
use Rattle.ddcmp_laws.specs.SessionRuns.{calls_of}
use Rattle.ddcmp_laws.proofs.SessionStory.{completes, unless}
use Rattle.ddcmp_laws.proofs.pipe.a_message_comes_through_anew.Goals as goal

pub returns-clause-honest : goal.returns-clause-honest
unfolding low_bits bits add divisor_rest remainder number check_of xor six_bytes wire is_check_right
    parsed read_for read_rows is_data_right row read items good_frames_in on notice_of next
    counters_on counters_after_next after_items notices_of_items first_index place_from
    run_station_calls calls_of_links link_steps after_frames after_bytes entries_of_bytes
    notices_text texts_of frames_put takes_put after_takes steps_anew_by
returns-clause-honest c = λ line other_line. refl

pub returns-clause-clean : goal.returns-clause-clean
unfolding low_bits bits add divisor_rest remainder number check_of xor six_bytes wire is_check_right
    parsed read_for read_rows is_data_right row read items good_frames_in on notice_of next
    counters_on counters_after_next after_items notices_of_items first_index place_from
    run_station_calls calls_of_links link_steps after_frames after_bytes entries_of_bytes
    notices_text texts_of frames_put takes_put after_takes steps_anew_by
returns-clause-clean c = λ line other_line. refl

pub returns-clause-ends : goal.returns-clause-ends
unfolding low_bits bits add divisor_rest remainder number check_of xor six_bytes wire is_check_right
    parsed read_for read_rows is_data_right row read items good_frames_in on notice_of next
    counters_on counters_after_next after_items notices_of_items after_frames after_bytes
    entries_of_bytes notices_text texts_of after_takes mail_in got_in told_in after_steps steps_anew_by
returns-clause-ends c = λ line other_line. record { read = refl; delivered = refl; over = refl }

pub returns-clause-calls : goal.returns-clause-calls
unfolding low_bits bits add divisor_rest remainder number check_of xor six_bytes wire is_check_right
    parsed read_for read_rows is_data_right row read items good_frames_in on notice_of next
    counters_on counters_after_next after_items notices_of_items after_frames after_bytes
    entries_of_bytes notices_text texts_of after_takes steps_anew_by
returns-clause-calls c = λ line other_line. (refl, (refl, ((refl, inl (omega arith)), (refl, (record { link = refl; wrote = record { waiting = refl; room = omega arith; size = refl; is_cut = refl }; stays = refl }, (record { link = refl; wrote = record { waiting = refl; room = omega arith; size = refl; is_cut = refl }; stays = refl }, (refl, (refl, ((refl, inl (omega arith)), (refl, (record { core = refl; syn = refl; link = refl; wanted = unless refl; wrote = record { waiting = refl; room = omega arith; size = refl; is_cut = refl }; course = refl; stays = refl }, ((refl, inl (omega arith)), (refl, (record { core = refl; syn = refl; link = refl; wanted = unless refl; wrote = record { waiting = refl; room = omega arith; size = refl; is_cut = refl }; course = refl; stays = refl }, (record { state = refl; wanted = λ e. absurd (cc e); part = completes }, ((refl, inl (omega arith)), (refl, (record { core = refl; syn = refl; link = refl; wanted = unless refl; wrote = record { waiting = refl; room = omega arith; size = refl; is_cut = refl }; course = refl; stays = refl }, (record { wrote = (abc, refl, record { waiting = refl; room = omega arith; size = refl; is_cut = refl }); stays = refl }, (refl, ((refl, inl (omega arith)), (refl, (record { core = refl; syn = refl; link = refl; wanted = unless refl; wrote = record { waiting = refl; room = omega arith; size = refl; is_cut = refl }; course = refl; stays = refl }, (refl, tt))))))))))))))))))))))))

never : {P : Type 0} → ◌≡◌ {A = ℕ} 1 0 → P
never e = cc

pub returns-clause-ready_a : goal.returns-clause-ready_a
unfolding low_bits bits add divisor_rest remainder number check_of xor six_bytes wire is_check_right
    parsed read_for read_rows is_data_right row read items good_frames_in on notice_of next
    counters_on counters_after_next after_items notices_of_items after_frames after_bytes
    entries_of_bytes notices_text texts_of after_takes steps_anew_by calls_of connections_in connects
returns-clause-ready_a c = λ line other_line. (
  λ e. refl,
  (
    λ e. tt,
    (
      λ e. tt,
      (
        λ e. tt,
        (
          λ e. refl,
          (
            λ e. tt,
            (
              λ e. tt,
              (
                λ e. tt,
                (
                  λ e. tt,
                  (λ e. tt, (λ e. tt, (λ e. tt, (λ e. tt, tt)))),
                ),
              ),
            ),
          ),
        ),
      ),
    ),
  ),
)

pub returns-clause-ready_b : goal.returns-clause-ready_b
unfolding low_bits bits add divisor_rest remainder number check_of xor six_bytes wire is_check_right
    parsed read_for read_rows is_data_right row read items good_frames_in on notice_of next
    counters_on counters_after_next after_items notices_of_items after_frames after_bytes
    entries_of_bytes notices_text texts_of after_takes steps_anew_by calls_of connections_in connects
returns-clause-ready_b c = λ line other_line. (
  λ e. refl,
  (
    λ e. tt,
    (
      λ e. refl,
      (
        λ e. tt,
        (
          λ e. tt,
          (
            λ e. tt,
            (
              λ e. tt,
              (
                λ e. tt,
                (
                  λ e. tt,
                  (λ e. tt, (λ e. tt, tt)),
                ),
              ),
            ),
          ),
        ),
      ),
    ),
  ),
)

pub returns-clause-streams : goal.returns-clause-streams
unfolding low_bits bits add divisor_rest remainder number check_of xor six_bytes wire is_check_right
    parsed read_for read_rows is_data_right row read items good_frames_in on notice_of next
    counters_on counters_after_next after_items notices_of_items after_frames after_bytes
    entries_of_bytes notices_text texts_of after_takes steps_anew_by calls_of connections_in connects
returns-clause-streams c = λ line other_line. (λ d e. never d, (λ d e. never d, (λ d e. never d, (λ d e. never d, (λ d e. never d, (λ d e. never d, (λ d e. never e, (λ d e. record { to_a = ([], refl); to_b = ([], refl) }, (λ d e. record { to_a = ([], refl); to_b = ([], refl) }, (λ d e. record { to_a = ([], refl); to_b = (strt_bytes, refl) }, (λ d e. record { to_a = ([], refl); to_b = ([], refl) }, (λ d e. record { to_a = ([], refl); to_b = ([], refl) }, (λ d e. record { to_a = (stack_bytes, refl); to_b = ([], refl) }, (λ d e. record { to_a = ([], refl); to_b = ([], refl) }, (λ d e. record { to_a = ([], refl); to_b = ([], refl) }, (λ d e. record { to_a = ([], refl); to_b = ([], refl) }, (λ d e. record { to_a = ([], refl); to_b = (first_bytes, refl) }, (λ d e. record { to_a = ([], refl); to_b = ([], refl) }, (λ d e. record { to_a = ([], refl); to_b = ([], refl) }, (λ d e. record { to_a = ([], refl); to_b = ([], refl) }, (λ d e. record { to_a = ([], refl); to_b = ([], refl) }, (λ d e. record { to_a = (ack_1_bytes, refl); to_b = ([], refl) }, (λ d e. record { to_a = ([], refl); to_b = ([], refl) }, (λ d e. record { to_a = ([], refl); to_b = ([], refl) }, tt))))))))))))))))))))))))
