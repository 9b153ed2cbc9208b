use Rattle.std.proofs.Common.{◌≡◌, ℕ, zero, suc, ◌+◌, List, [], ◌∷◌, ◌++◌, length, refl, arith}
use Rattle.std.proofs.Common.{sym, true, ap, inl, subst}
use Rattle.std.specs.Prelude.{replicate}
use Rattle.std.proofs.Math.Bool.{xor}
use Rattle.ddcmp_num.specs.Check.{low_bits, bits, add, divisor_rest, remainder, number, check_of}
use Rattle.ddcmp_frame.specs.Wire.{six_bytes, wire}
use Rattle.ddcmp_frame.specs.Spelling.{is_check_right, parsed}
use Rattle.ddcmp_frame.specs.Rows.{read_for, read_rows}
use Rattle.ddcmp_frame.specs.Reading.{is_data_right, row, read, items, good_frames_in}
use Rattle.ddcmp_core.specs.Table.{on, notice_of, next}
use Rattle.ddcmp_core.specs.Counting.{counters_on, counters_after_next}
use Rattle.ddcmp_proto.specs.Bytes.{after_items, notices_of_items}
use Rattle.ddcmp_io.specs.declared.carrier.End.TheVariants.{A, B}
use Rattle.ddcmp_pair.specs.declared.event.Event.{Event}
use Rattle.ddcmp_pair.specs.declared.event.Event.TheVariants as event
use Rattle.ddcmp_pair.specs.Place.{first_index, place_from}
use Rattle.ddcmp_pair.specs.Recovery.{both_expire, larger_window}
use Rattle.ddcmp_pair.specs.Run.{run, after_event, new_pair}
use Rattle.ddcmp_laws.specs.LossFree.{Line, IsLossFree, run_on_line, IsWhole, empty_line, IsEarly}
use Rattle.ddcmp_laws.specs.Price.{price, added}
use Rattle.ddcmp_laws.specs.Delivers.{IsAtRest, runs_out}
use Rattle.ddcmp_laws.specs.Sweeps.{OnlyCarries, bytes_brought, is_asked, IsSweep, AreSweeps}
use Rattle.ddcmp_laws.specs.Sweeps.{in_a_row, AreEnough, after_round}
use Rattle.ddcmp_laws.specs.SweepStory.{until_loss, after_loss, quiet, at_first}
use Rattle.ddcmp_laws.specs.Vectors.{small}
use Rattle.ddcmp_laws.specs.SweepStory.{then_both_run, then_it_arrives}
use Rattle.ddcmp_core.specs.Core.{IsSound}
use Rattle.ddcmp_frame.specs.Reading.{ReadItem, open_at_end, ending}
use Rattle.ddcmp_laws.proofs.FaithfulLaws.{sound_made}
use Rattle.ddcmp_laws.specs.Story.{stack_bytes, ack_0_bytes, rep_1_bytes, nak_3_bytes}
use Rattle.ddcmp_laws.specs.Story.{first_bytes, ack_1_bytes}
use Rattle.ddcmp_proto.proofs.FeedLaws.{items_added-none}
use Rattle.ddcmp_pair.specs.Run.{EndState, PairState}
use Rattle.ddcmp_laws.specs.LossFree.{ComesWhole}
use Rattle.ddcmp_laws.proofs.Settling.{whole_again, nothing_comes}
use Rattle.ddcmp_laws.proofs.SweepRounds.{run-pair}
use Rattle.ddcmp_laws.proofs.Ways.{Receivable}
use Rattle.ddcmp_laws.proofs.InStep.{loss-append}
use Rattle.ddcmp_laws.proofs.Sweeping.{rest-stays, early-along}
use Rattle.ddcmp_laws.proofs.sweeps.a_lost_message_arrives.Goals as goal

-- ---- sweeps in which nothing happens

quiet-free : (n : ℕ) (l : Line) → IsLossFree (in_a_row (replicate n quiet)) l
unfolding in_a_row
quiet-free zero l = tt
quiet-free (suc n) l = (tt, (tt, quiet-free n _))

sweep-by : (events : List Event) (l : Line) → OnlyCarries events
    → length l.to_a ≡ bytes_brought A events → length l.to_b ≡ bytes_brought B events
    → is_asked A events ≡ true → is_asked B events ≡ true → IsSweep events l
sweep-by events l c a b p q = record {
  carries = c;
  all_to_a = omega (arith, a);
  all_to_b = omega (arith, b);
  asked_a = p;
  asked_b = q;
}

is-quiet : (l : Line) → IsAtRest l → IsSweep quiet l
unfolding bytes_brought is_asked
is-quiet l r = sweep-by quiet l tt (ap length r.none_to_a) (ap length r.none_to_b) refl refl

quiet-sweeps : (n : ℕ) (l : Line) → IsEarly l.pair → IsAtRest l → AreSweeps (replicate n quiet) l
quiet-sweeps zero l h r = tt
quiet-sweeps (suc n) l h r = (
  is-quiet l r,
  quiet-sweeps n (run_on_line quiet l) (early-along quiet l h)
      (rest-stays quiet l tt (tt, (tt, tt)) h r),
)

-- ---- the story

waking : Line
waking = run_on_line both_expire (run_on_line (in_a_row at_first) after_loss)

waking-again : Line
waking-again =
    run_on_line both_expire
    (after_round both_expire then_both_run (run_on_line (in_a_row at_first) after_loss))

first-enough : AreEnough at_first after_loss
unfolding low_bits bits add divisor_rest remainder number check_of xor six_bytes wire is_check_right
    parsed read_for read_rows is_data_right row read items good_frames_in on notice_of next
    counters_on counters_after_next after_items notices_of_items first_index place_from run
    after_event run_on_line in_a_row
    bytes_brought is_asked added waking waking-again
first-enough = record {
  each = (sweep-by _ _ tt refl refl refl refl, (sweep-by _ _ tt refl refl refl refl, tt));
  enough =
      let e : price (larger_window after_loss.pair) after_loss
      + added (larger_window after_loss.pair) (in_a_row at_first) after_loss.pair ≡ 0 = refl in
      omega (arith, e);
}

abbrev second_of_both : List Event
second_of_both = event.Arrive B rep_1_bytes ∷ event.Arrive A stack_bytes ∷ quiet

abbrev third_of_both : List Event
third_of_both = event.Arrive B ack_0_bytes ∷ quiet

w1 : Line
w1 = run_on_line quiet waking

w2 : Line
w2 = run_on_line second_of_both w1

w3 : Line
w3 = run_on_line third_of_both w2

b1 : IsSweep quiet waking
unfolding low_bits bits add divisor_rest remainder number check_of xor six_bytes wire is_check_right
    parsed read_for read_rows is_data_right row read items good_frames_in on notice_of next
    counters_on counters_after_next after_items notices_of_items first_index place_from run
    after_event run_on_line in_a_row
    bytes_brought is_asked waking
b1 = sweep-by quiet waking tt refl refl refl refl

b2 : IsSweep second_of_both w1
unfolding low_bits bits add divisor_rest remainder number check_of xor six_bytes wire is_check_right
    parsed read_for read_rows is_data_right row read items good_frames_in on notice_of next
    counters_on counters_after_next after_items notices_of_items first_index place_from run
    after_event run_on_line in_a_row
    bytes_brought is_asked waking w1
b2 = sweep-by second_of_both w1 tt refl refl refl refl

b3 : IsSweep third_of_both w2
unfolding low_bits bits add divisor_rest remainder number check_of xor six_bytes wire is_check_right
    parsed read_for read_rows is_data_right row read items good_frames_in on notice_of next
    counters_on counters_after_next after_items notices_of_items first_index place_from run
    after_event run_on_line in_a_row
    bytes_brought is_asked waking w1 w2
b3 = sweep-by third_of_both w2 tt refl refl refl refl

both-rest : IsAtRest w3
unfolding low_bits bits add divisor_rest remainder number check_of xor six_bytes wire is_check_right
    parsed read_for read_rows is_data_right row read items good_frames_in on notice_of next
    counters_on counters_after_next after_items notices_of_items first_index place_from run
    after_event run_on_line in_a_row waking w1 w2 w3
both-rest = record { none_to_a = refl; none_to_b = refl; idle_a = refl; idle_b = refl }

both-early : IsEarly w3.pair
unfolding low_bits bits add divisor_rest remainder number check_of xor six_bytes wire is_check_right
    parsed read_for read_rows is_data_right row read items good_frames_in on notice_of next
    counters_on counters_after_next after_items notices_of_items first_index place_from run
    after_event run_on_line in_a_row waking w1 w2 w3
both-early = record { a = refl; b = refl }

both-each : AreSweeps then_both_run waking
unfolding w1 w2 w3
both-each = (b1, (b2, (b3, quiet-sweeps 11 w3 both-early both-rest)))

both-count : price (larger_window waking.pair) waking
    + added (larger_window waking.pair) (in_a_row then_both_run) waking.pair ≡ 6
unfolding low_bits bits add divisor_rest remainder number check_of xor six_bytes wire is_check_right
    parsed read_for read_rows is_data_right row read items good_frames_in on notice_of next
    counters_on counters_after_next after_items notices_of_items first_index place_from run
    after_event run_on_line in_a_row added waking
both-count = refl

both-enough : AreEnough then_both_run waking
both-enough = record { each = both-each; enough = omega (arith, both-count) }

abbrev asked_again : List Event
asked_again = event.Arrive B rep_1_bytes ∷ quiet

abbrev refused_it : List Event
refused_it = event.Arrive A nak_3_bytes ∷ quiet

abbrev took_it : List Event
took_it = event.Arrive B first_bytes ∷ event.Take B ∷ quiet

abbrev told_it : List Event
told_it = event.Arrive A ack_1_bytes ∷ quiet

v1 : Line
v1 = run_on_line quiet waking-again

v2 : Line
v2 = run_on_line asked_again v1

v3 : Line
v3 = run_on_line refused_it v2

v4 : Line
v4 = run_on_line took_it v3

v5 : Line
v5 = run_on_line told_it v4

c1 : IsSweep quiet waking-again
unfolding low_bits bits add divisor_rest remainder number check_of xor six_bytes wire is_check_right
    parsed read_for read_rows is_data_right row read items good_frames_in on notice_of next
    counters_on counters_after_next after_items notices_of_items first_index place_from run
    after_event run_on_line in_a_row
    bytes_brought is_asked waking-again
c1 = sweep-by quiet waking-again tt refl refl refl refl

c2 : IsSweep asked_again v1
unfolding low_bits bits add divisor_rest remainder number check_of xor six_bytes wire is_check_right
    parsed read_for read_rows is_data_right row read items good_frames_in on notice_of next
    counters_on counters_after_next after_items notices_of_items first_index place_from run
    after_event run_on_line in_a_row
    bytes_brought is_asked waking-again v1
c2 = sweep-by asked_again v1 tt refl refl refl refl

c3 : IsSweep refused_it v2
unfolding low_bits bits add divisor_rest remainder number check_of xor six_bytes wire is_check_right
    parsed read_for read_rows is_data_right row read items good_frames_in on notice_of next
    counters_on counters_after_next after_items notices_of_items first_index place_from run
    after_event run_on_line in_a_row
    bytes_brought is_asked waking-again v1 v2
c3 = sweep-by refused_it v2 tt refl refl refl refl

c4 : IsSweep took_it v3
unfolding low_bits bits add divisor_rest remainder number check_of xor six_bytes wire is_check_right
    parsed read_for read_rows is_data_right row read items good_frames_in on notice_of next
    counters_on counters_after_next after_items notices_of_items first_index place_from run
    after_event run_on_line in_a_row
    bytes_brought is_asked waking-again v1 v2 v3
c4 = sweep-by took_it v3 tt refl refl refl refl

c5 : IsSweep told_it v4
unfolding low_bits bits add divisor_rest remainder number check_of xor six_bytes wire is_check_right
    parsed read_for read_rows is_data_right row read items good_frames_in on notice_of next
    counters_on counters_after_next after_items notices_of_items first_index place_from run
    after_event run_on_line in_a_row
    bytes_brought is_asked waking-again v1 v2 v3 v4
c5 = sweep-by told_it v4 tt refl refl refl refl

last-rest : IsAtRest v5
unfolding low_bits bits add divisor_rest remainder number check_of xor six_bytes wire is_check_right
    parsed read_for read_rows is_data_right row read items good_frames_in on notice_of next
    counters_on counters_after_next after_items notices_of_items first_index place_from run
    after_event run_on_line in_a_row waking-again v1 v2 v3 v4 v5
last-rest = record { none_to_a = refl; none_to_b = refl; idle_a = refl; idle_b = refl }

last-early : IsEarly v5.pair
unfolding low_bits bits add divisor_rest remainder number check_of xor six_bytes wire is_check_right
    parsed read_for read_rows is_data_right row read items good_frames_in on notice_of next
    counters_on counters_after_next after_items notices_of_items first_index place_from run
    after_event run_on_line in_a_row waking-again v1 v2 v3 v4 v5
last-early = record { a = refl; b = refl }

last-each : AreSweeps then_it_arrives waking-again
unfolding v1 v2 v3 v4 v5
last-each = (c1, (c2, (c3, (c4, (c5, quiet-sweeps 5 v5 last-early last-rest)))))

last-count : price (larger_window waking-again.pair) waking-again
    + added (larger_window waking-again.pair) (in_a_row then_it_arrives) waking-again.pair ≡ 4
unfolding low_bits bits add divisor_rest remainder number check_of xor six_bytes wire is_check_right
    parsed read_for read_rows is_data_right row read items good_frames_in on notice_of next
    counters_on counters_after_next after_items notices_of_items first_index place_from run
    after_event run_on_line in_a_row added waking-again
last-count = refl

last-enough : AreEnough then_it_arrives waking-again
last-enough = record { each = last-each; enough = omega (arith, last-count) }

free-1 : IsLossFree (in_a_row at_first) after_loss
unfolding in_a_row
free-1 = (tt, (tt, (tt, (tt, tt))))

free-2 : IsLossFree (in_a_row then_both_run) waking
unfolding low_bits bits add divisor_rest remainder number check_of xor six_bytes wire is_check_right
    parsed read_for read_rows is_data_right row read items good_frames_in on notice_of next
    counters_on counters_after_next after_items notices_of_items first_index place_from run
    after_event run_on_line in_a_row waking
free-2 = (
  tt,
  (
    tt,
    (
      ([], refl),
      (
        ([], refl),
        (
          tt,
          (
            tt,
            (
              ([], refl),
              (
                tt,
                (
                  tt,
                  quiet-free 11 waking,
                ),
              ),
            ),
          ),
        ),
      ),
    ),
  ),
)

free-3 : IsLossFree (in_a_row then_it_arrives) waking-again
unfolding low_bits bits add divisor_rest remainder number check_of xor six_bytes wire is_check_right
    parsed read_for read_rows is_data_right row read items good_frames_in on notice_of next
    counters_on counters_after_next after_items notices_of_items first_index place_from run
    after_event run_on_line in_a_row waking-again
free-3 = (
  tt,
  (
    tt,
    (
      ([], refl),
      (
        tt,
        (
          tt,
          (
            ([], refl),
            (
              tt,
              (
                tt,
                (
                  ([], refl),
                  (
                    tt,
                    (
                      tt,
                      (
                        tt,
                        (([], refl), (tt, (tt, quiet-free 5 waking))),
                      ),
                    ),
                  ),
                ),
              ),
            ),
          ),
        ),
      ),
    ),
  ),
)

-- ---- until the loss nothing was lost

began : IsWhole (empty_line (new_pair small small))
began = record {
  sound_a = sound_made small refl;
  sound_b = sound_made small refl;
  same = refl;
  whole_a = nothing_comes small;
  whole_b = nothing_comes small;
  early = record { a = refl; b = refl };
}

until-free : IsLossFree until_loss (empty_line (new_pair small small))
unfolding low_bits bits add divisor_rest remainder number check_of xor six_bytes wire is_check_right
    parsed read_for read_rows is_data_right row read items good_frames_in on notice_of next
    counters_on counters_after_next after_items notices_of_items first_index place_from run
    after_event run_on_line in_a_row
until-free = (tt, (tt, (tt, (([], refl), (tt, (([], refl), (tt, (tt, tt))))))))

until-whole : IsWhole (run_on_line until_loss (empty_line (new_pair small small)))
until-whole = whole_again until_loss (empty_line (new_pair small small)) began until-free

until-pair : (run_on_line until_loss (empty_line (new_pair small small))).pair
    ≡ run until_loss (new_pair small small)
until-pair = run-pair until_loss (empty_line (new_pair small small))

closed-a : open_at_end after_loss.pair.a.core.limits.longest (after_loss.pair.a.arrived ++ []) ≡ 0
unfolding low_bits bits add divisor_rest remainder number check_of xor six_bytes wire is_check_right
    parsed read_for read_rows is_data_right row read items good_frames_in on notice_of next
    counters_on counters_after_next after_items notices_of_items first_index place_from run
    after_event run_on_line in_a_row ending
closed-a = refl

closed-b : open_at_end after_loss.pair.b.core.limits.longest (after_loss.pair.b.arrived ++ []) ≡ 0
unfolding low_bits bits add divisor_rest remainder number check_of xor six_bytes wire is_check_right
    parsed read_for read_rows is_data_right row read items good_frames_in on notice_of next
    counters_on counters_after_next after_items notices_of_items first_index place_from run
    after_event run_on_line in_a_row ending
closed-b = refl

none-comes : (x : EndState) → open_at_end x.core.limits.longest (x.arrived ++ []) ≡ 0
    → ComesWhole x []
none-comes x e = record {
  closed = e;
  receivable =
      subst (λ (g : List ReadItem). Receivable x.core.limits g)
      (sym (items_added-none x.core.limits.longest x.arrived))
      (λ i d below. absurd (omega (arith, below)));
}

pub returns-clause-whole : goal.returns-clause-whole
returns-clause-whole c = record {
  sound_a =
      subst (λ (p : PairState). IsSound p.a.core.limits p.a.core.station) until-pair
      until-whole.sound_a;
  sound_b =
      subst (λ (p : PairState). IsSound p.b.core.limits p.b.core.station) until-pair
      until-whole.sound_b;
  same =
      subst (λ (p : PairState). p.a.core.limits.longest ≡ p.b.core.limits.longest) until-pair
      until-whole.same;
  whole_a = none-comes after_loss.pair.a closed-a;
  whole_b = none-comes after_loss.pair.b closed-b;
  early = subst (λ (p : PairState). IsEarly p) until-pair until-whole.early;
}

pub returns-clause-under_way : goal.returns-clause-under_way
unfolding low_bits bits add divisor_rest remainder number check_of xor six_bytes wire is_check_right
    parsed read_for read_rows is_data_right row read items good_frames_in on notice_of next
    counters_on counters_after_next after_items notices_of_items first_index place_from run
    after_event run_on_line in_a_row
returns-clause-under_way c = record {
  honest = refl;
  clean = refl;
  awake_a = λ e. absurd (cc e);
  awake_b = λ e. absurd (cc e);
  sent_a = refl;
  sent_b = refl;
}

pub returns-clause-loss_free : goal.returns-clause-loss_free
unfolding waking waking-again
returns-clause-loss_free c =
    loss-append (in_a_row at_first)
    (both_expire ++ (in_a_row then_both_run ++ (both_expire ++ in_a_row then_it_arrives)))
    after_loss free-1
    (loss-append both_expire
    (in_a_row then_both_run ++ (both_expire ++ in_a_row then_it_arrives))
    (run_on_line (in_a_row at_first) after_loss) (tt, (tt, tt))
    (loss-append (in_a_row then_both_run) (both_expire ++ in_a_row then_it_arrives) waking free-2
    (loss-append both_expire (in_a_row then_it_arrives)
    (after_round both_expire then_both_run (run_on_line (in_a_row at_first) after_loss))
    (tt, (tt, tt)) free-3)))

pub returns-clause-recovers : goal.returns-clause-recovers
unfolding runs_out waking waking-again
returns-clause-recovers c = record {
  sweeps = at_first;
  once = both_expire;
  more = then_both_run;
  twice = both_expire;
  last = then_it_arrives;
  events_are = refl;
  enough = first-enough;
  first_round =
      record { goes_on = tt; timer_a = inl refl; timer_b = inl refl; enough = both-enough };
  second_round =
      record { goes_on = tt; timer_a = inl refl; timer_b = inl refl; enough = last-enough };
}

pub returns-clause-arrives : goal.returns-clause-arrives
unfolding low_bits bits add divisor_rest remainder number check_of xor six_bytes wire is_check_right
    parsed read_for read_rows is_data_right row read items good_frames_in on notice_of next
    counters_on counters_after_next after_items notices_of_items first_index place_from run
    after_event run_on_line in_a_row
returns-clause-arrives c = refl
