-- Two ends of any sizes start.
use Rattle.std.proofs.Common.{◌≡◌, ℕ, ◌≤◌, true, List, length, refl, ap, arith, Option, None}
use Rattle.std.specs.Prelude.{◌==◌}
use Rattle.std.proofs.Math.Bool.{xor}
use Rattle.ddcmp_num.specs.Check.{low_bits, bits, add, divisor_rest, remainder, number, check_of}
use Rattle.ddcmp_frame.specs.Wire.{six_bytes, wire}
use Rattle.ddcmp_frame.specs.Spelling.{is_check_right, parsed}
use Rattle.ddcmp_frame.specs.Rows.{read_for, read_rows}
use Rattle.ddcmp_frame.specs.Reading.{is_data_right, row, read, items, ending, good_frames_in}
use Rattle.ddcmp_window.specs.declared.sender.SendRefusal.{SendRefusal}
use Rattle.ddcmp_window.specs.Sender.{nothing_sent, accept_refusal, answer_unless}
use Rattle.ddcmp_core.specs.Seq.{Seq}
use Rattle.ddcmp_core.specs.Table.{on, notice_of, next}
use Rattle.ddcmp_core.specs.Counting.{counters_on, counters_after_next}
use Rattle.ddcmp_proto.specs.Bytes.{after_items, notices_of_items}
use Rattle.ddcmp_proto.specs.Config.{first_refusal}
use Rattle.ddcmp_proto.specs.declared.config.Config.{Config}
use Rattle.ddcmp_io.specs.declared.carrier.End.{End}
use Rattle.ddcmp_io.specs.declared.carrier.End.TheVariants.{A, B}
use Rattle.ddcmp_pair.specs.declared.event.Event.TheVariants as event
use Rattle.ddcmp_pair.specs.declared.event.Reply.TheVariants as reply
use Rattle.ddcmp_pair.specs.Place.{first_index, place_from}
use Rattle.ddcmp_pair.specs.Recovery.{is_ready}
use Rattle.ddcmp_pair.specs.Run.{at, after_event, reply_to, run, new_pair, accepted}
use Rattle.ddcmp_laws.specs.Starts.{both_start, started, IsUp}

pub ready_after_start : (first second : Config) → first.max ≡ second.max
    → is_ready (run both_start (new_pair first second)) ≡ true
unfolding low_bits bits add divisor_rest remainder number check_of xor six_bytes wire is_check_right
    parsed read_for read_rows is_data_right row read items ending good_frames_in on notice_of next
    counters_on counters_after_next after_items notices_of_items first_index place_from after_event
    reply_to run
ready_after_start first second e =
    let same : (first.max == second.max) ≡ true = grind (arith) in
    same

pub up_after_startup : (first second : Config) → IsUp (started first second)
unfolding low_bits bits add divisor_rest remainder number check_of xor six_bytes wire is_check_right
    parsed read_for read_rows is_data_right row read items ending good_frames_in on notice_of next
    counters_on counters_after_next after_items notices_of_items first_index place_from after_event
    reply_to run
up_after_startup first second = record { honest = refl; clean = refl; a_runs = refl; b_runs = refl }

-- a message in range, where nothing is kept yet
pub nothing_refused : (window longest : ℕ) (message : List ℕ) → 1 ≤ window → 1 ≤ length message
    → length message ≤ longest → accept_refusal window longest nothing_sent message ≡ None
nothing_refused window longest message room some short = grind (arith)

abbrev pub number_one : Seq
number_one = record { 0 = 1 }

first_accepted : (window longest : ℕ) (message : List ℕ) → 1 ≤ window → 1 ≤ length message
    → length message ≤ longest
    → accepted (answer_unless (accept_refusal window longest nothing_sent message) number_one)
    ≡ reply.Accepted number_one
first_accepted window longest message room some short =
    ap (λ (x : Option SendRefusal). accepted (answer_unless x number_one))
    (nothing_refused window longest message room some short)

pub some_window : (config : Config) → first_refusal config ≡ None → 1 ≤ config.window
some_window config e = grind (arith)

pub accepts_after_startup : (first second : Config) (end : End) (message : List ℕ)
    → first_refusal first ≡ None → first_refusal second ≡ None → 1 ≤ length message
    → length message ≤ (at end (started first second)).core.limits.longest
    → reply_to (event.Send end message) (started first second) ≡ reply.Accepted number_one
unfolding low_bits bits add divisor_rest remainder number check_of xor six_bytes wire is_check_right
    parsed read_for read_rows is_data_right row read items ending good_frames_in on notice_of next
    counters_on counters_after_next after_items notices_of_items first_index place_from after_event
    reply_to run
accepts_after_startup first second A message f g some short =
    first_accepted first.window first.max message (some_window first f) some short
accepts_after_startup first second B message f g some short =
    first_accepted second.window second.max message (some_window second g) some short
