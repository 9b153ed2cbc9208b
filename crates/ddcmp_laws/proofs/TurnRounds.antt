-- A recovery of turns is a recovery by sweeps.
use Rattle.std.proofs.Common.{◌≡◌, inl, inr, ℕ, Bool, true, false, cond, List, [], ◌∷◌, ◌++◌}
use Rattle.std.proofs.Common.{length, zero, suc, replicate, refl, sym, ◌∙◌, ap, subst, append_assoc}
use Rattle.std.proofs.Common.{None}
use Rattle.std.specs.Prelude.{◌&&◌, ◌||◌}
use Rattle.ddcmp_core.specs.Table.{is_on, may_send}
use Rattle.ddcmp_proto.specs.Bytes.{after_piece}
use Rattle.ddcmp_proto.specs.Config.{first_refusal}
use Rattle.ddcmp_proto.specs.declared.config.Config.{Config}
use Rattle.ddcmp_station.specs.Driving.{is_due, core_after_take_arm, before_offer}
use Rattle.ddcmp_io.specs.declared.carrier.End.{End}
use Rattle.ddcmp_io.specs.declared.carrier.End.TheVariants.{A, B}
use Rattle.ddcmp_pair.specs.declared.event.Event.{Event}
use Rattle.ddcmp_pair.specs.declared.event.Event.TheVariants as event
use Rattle.ddcmp_pair.specs.Run.{PairState, run, new_pair}
use Rattle.ddcmp_pair.proofs.Runs.{run-append}
use Rattle.ddcmp_laws.specs.LossFree.{Line, IsLossFree, run_on_line, IsWhole}
use Rattle.ddcmp_laws.specs.Rests.{GoesOn, IsUnderWay}
use Rattle.ddcmp_laws.specs.Delivers.{is_expiry, runs_out}
use Rattle.ddcmp_laws.specs.Sweeps.{in_a_row, AreEnough, AreInTime, RunsOutOrIsOff}
use Rattle.ddcmp_laws.specs.Sweeps.{IsRoundBySweeps, after_round, IsRecoveryBySweeps}
use Rattle.ddcmp_laws.proofs.InStep.{goes-append}
use Rattle.ddcmp_laws.specs.PairCalls.{Send, Poll, Expire, Take, Arm, events_in}
use Rattle.ddcmp_laws.specs.DrivenSweeps.{TurnPart, Writes, Reads, Again, DrivenEnd, DrivenLine}
use Rattle.ddcmp_laws.specs.DrivenSweeps.{driven_at, after_on_driven, run_on_driven}
use Rattle.ddcmp_laws.specs.DrivenSweeps.{TurnsLoseNothing, calls_of_part, events_of_parts}
use Rattle.ddcmp_laws.specs.DrivenSweeps.{line_of_driven, new_driven, driven_after, pair_after}
use Rattle.ddcmp_laws.specs.DrivenSweeps.{DrivenAreDone, turns_in_a_row, events_of_sweeps}
use Rattle.ddcmp_laws.specs.DrivenSweeps.{AreEnoughTurns, expires_by, expires_in, ExpiresOrIsOff}
use Rattle.ddcmp_laws.specs.DrivenSweeps.{IsRoundOfTurns, IsRecoveryOfTurns}
use Rattle.ddcmp_laws.proofs.InTurn.{at_one}
use Rattle.ddcmp_laws.proofs.Sleeping.{same_off}
use Rattle.ddcmp_laws.proofs.TurnTies.{due, Tied}
use Rattle.ddcmp_laws.proofs.TurnSweeps.{or-three, armed-is-on}
use Rattle.ddcmp_laws.proofs.TurnRooms.{Rooms, rooms-stay, turns-split, in-time-there}
use Rattle.ddcmp_laws.proofs.TurnRooms.{roomy-so-far}
use Rattle.ddcmp_laws.proofs.DrivenRecovery.{ties, follows, tied-so-far, recover}

-- ---- no end starts or halts

takes-go : (end : End) (n : ℕ) → GoesOn (events_in (at_one end (replicate n Take)))
unfolding events_in
takes-go end zero = tt
takes-go end (suc n) = takes-go end n

writes-go : (end : End) (b c : Bool) (m : List ℕ)
    → GoesOn (events_in (at_one end ((Arm ∷ cond b (Expire ∷ []) [])
    ++ (cond c (Send m ∷ []) [] ++ Poll ∷ []))))
unfolding events_in
writes-go end true true m = tt
writes-go end true false m = tt
writes-go end false true m = tt
writes-go end false false m = tt

part-goes : (end : End) (part : TurnPart) (x : DrivenEnd)
    → GoesOn (events_in (at_one end (calls_of_part part x)))
unfolding events_in
part-goes end (Writes turn) x =
    let k = core_after_take_arm x.driving.core in
    let n = before_offer x.milliseconds turn x.driving in
    writes-go end (is_on k.station.timer && is_due turn.now (due turn.now x))
    (may_send n.limits n.station turn.offered) turn.offered
part-goes end (Reads came) x =
    takes-go end (length (after_piece x.driving.text came x.driving.core).station.inbox)
part-goes end Again x = tt

parts-go : (parts : List (End × TurnPart)) (l : DrivenLine) → GoesOn (events_of_parts parts l)
unfolding events_of_parts
parts-go [] l = tt
parts-go (step ∷ rest) l =
    let m = after_on_driven step.0 step.1 l in
    goes-append (events_in (at_one step.0 (calls_of_part step.1 (driven_at step.0 l))))
    (events_of_parts rest m) (part-goes step.0 step.1 (driven_at step.0 l)) (parts-go rest m)

-- ---- a timer that is due in a turn expires

runs-append : (end : End) (first second : List Event)
    → runs_out end (first ++ second) ≡ (runs_out end first || runs_out end second)
unfolding runs_out
runs-append end [] second = refl
runs-append end (e ∷ first) second =
    ap (λ b. is_expiry end e || b) (runs-append end first second)
    ∙ or-three (is_expiry end e) (runs_out end first) (runs_out end second)

either : (a b c d : Bool) → (a ≡ true → c ≡ true) → (b ≡ true → d ≡ true) → (a || b) ≡ true
    → (c || d) ≡ true
either true b c d f g e = ap (λ x. x || d) (f refl)
either false b true d f g e = refl
either false b false d f g e = g e

writes-run : (end : End) (b c : Bool) (m : List ℕ) → b ≡ true
    → runs_out end (events_in (at_one end ((Arm ∷ cond b (Expire ∷ []) [])
    ++ (cond c (Send m ∷ []) [] ++ Poll ∷ [])))) ≡ true
unfolding events_in runs_out
writes-run A true c m e = refl
writes-run B true c m e = refl
writes-run end false c m e = absurd (cc e)

part-runs : (end other : End) (part : TurnPart) (x : DrivenEnd)
    → expires_by end other part x ≡ true
    → runs_out end (events_in (at_one other (calls_of_part part x))) ≡ true
part-runs A A (Writes turn) x e =
    let n = before_offer x.milliseconds turn x.driving in
    writes-run A _ (may_send n.limits n.station turn.offered) turn.offered
    (ap (λ b. b && is_due turn.now (due turn.now x)) (armed-is-on x.driving.core.station.timer) ∙ e)
part-runs B B (Writes turn) x e =
    let n = before_offer x.milliseconds turn x.driving in
    writes-run B _ (may_send n.limits n.station turn.offered) turn.offered
    (ap (λ b. b && is_due turn.now (due turn.now x)) (armed-is-on x.driving.core.station.timer) ∙ e)
part-runs A B (Writes turn) x e = absurd (cc e)
part-runs B A (Writes turn) x e = absurd (cc e)
part-runs A A (Reads came) x e = absurd (cc e)
part-runs A B (Reads came) x e = absurd (cc e)
part-runs B A (Reads came) x e = absurd (cc e)
part-runs B B (Reads came) x e = absurd (cc e)
part-runs A A Again x e = absurd (cc e)
part-runs A B Again x e = absurd (cc e)
part-runs B A Again x e = absurd (cc e)
part-runs B B Again x e = absurd (cc e)

parts-run : (end : End) (parts : List (End × TurnPart)) (l : DrivenLine)
    → expires_in end parts l ≡ true → runs_out end (events_of_parts parts l) ≡ true
unfolding events_of_parts expires_in
parts-run end [] l e = absurd (cc e)
parts-run end (step ∷ rest) l e =
    let m = after_on_driven step.0 step.1 l in
    let es = events_in (at_one step.0 (calls_of_part step.1 (driven_at step.0 l))) in
    runs-append end es (events_of_parts rest m)
    ∙ either (expires_by end step.0 step.1 (driven_at step.0 l)) (expires_in end rest m)
    (runs_out end es) (runs_out end (events_of_parts rest m))
    (part-runs end step.0 step.1 (driven_at step.0 l)) (parts-run end rest m) e

timers-a : (parts : List (End × TurnPart)) (q : PairState) (l : DrivenLine) → Tied q l.a l.b
    → ExpiresOrIsOff A parts l → RunsOutOrIsOff A (events_of_parts parts l) q
timers-a parts q l t (inl e) = inl (parts-run A parts l e)
timers-a parts q l t (inr o) =
    inr
    (same_off t.p.a.core.station.timer q.a.core.station.timer
    (ap (λ (r : PairState). r.a.core.station.timer) t.noted_same)
    (sym (ap (λ (d : DrivenEnd). d.driving.core.station.timer) t.at_a.is) ∙ o))

timers-b : (parts : List (End × TurnPart)) (q : PairState) (l : DrivenLine) → Tied q l.a l.b
    → ExpiresOrIsOff B parts l → RunsOutOrIsOff B (events_of_parts parts l) q
timers-b parts q l t (inl e) = inl (parts-run B parts l e)
timers-b parts q l t (inr o) =
    inr
    (same_off t.p.b.core.station.timer q.b.core.station.timer
    (ap (λ (r : PairState). r.b.core.station.timer) t.noted_same)
    (sym (ap (λ (d : DrivenEnd). d.driving.core.station.timer) t.at_b.is) ∙ o))

-- ---- parts one after another

driven-append : (first second : List (End × TurnPart)) (l : DrivenLine)
    → run_on_driven (first ++ second) l ≡ run_on_driven second (run_on_driven first l)
unfolding run_on_driven
driven-append [] second l = refl
driven-append (step ∷ first) second l =
    driven-append first second (after_on_driven step.0 step.1 l)

parts-append : (first second : List (End × TurnPart)) (l : DrivenLine)
    → events_of_parts (first ++ second) l
    ≡ events_of_parts first l ++ events_of_parts second (run_on_driven first l)
unfolding events_of_parts run_on_driven
parts-append [] second l = refl
parts-append (step ∷ first) second l =
    let m = after_on_driven step.0 step.1 l in
    let es = events_in (at_one step.0 (calls_of_part step.1 (driven_at step.0 l))) in
    ap (λ more. es ++ more) (parts-append first second m)
    ∙ sym
    (append_assoc es (events_of_parts first m) (events_of_parts second (run_on_driven first m)))

rows-are : (rows : List (List (End × TurnPart))) (l : DrivenLine)
    → events_of_parts (turns_in_a_row rows) l ≡ in_a_row (events_of_sweeps rows l)
unfolding events_of_parts events_of_sweeps turns_in_a_row in_a_row
rows-are [] l = refl
rows-are (row ∷ rest) l =
    parts-append row (turns_in_a_row rest) l
    ∙ ap (λ es. events_of_parts row l ++ es) (rows-are rest (run_on_driven row l))

-- ---- along the way

module _ (one two : Config) (f : first_refusal one ≡ None) (g : first_refusal two ≡ None)
    (in_time : (first second : Config) (before : List Event) (sweeps : List (List Event)) (l : Line)
    → first_refusal first ≡ None → first_refusal second ≡ None
    → run before (new_pair first second) ≡ l.pair → IsWhole l → IsUnderWay l
    → IsLossFree (in_a_row sweeps) l → AreInTime sweeps l → AreEnough sweeps l)
    (stays : (first second : Config) (before events : List Event) (l : Line)
    → first_refusal first ≡ None → first_refusal second ≡ None
    → run before (new_pair first second) ≡ l.pair → IsWhole l → IsUnderWay l
    → GoesOn events → IsLossFree events l → IsUnderWay (run_on_line events l))
    (whole : (events : List Event) (l : Line) → IsWhole l → IsLossFree events l
    → IsWhole (run_on_line events l)) where
  record Here (q : PairState) (l : DrivenLine) : Type 0 where
    events : List Event
    leads : run events (new_pair one two) ≡ q
    tied : Tied q l.a l.b
    rooms : Rooms q
    is_whole : IsWhole (line_of_driven q l)
    under_way : IsUnderWay (line_of_driven q l)

  go : (parts : List (End × TurnPart)) (q : PairState) (l : DrivenLine) → Here q l
      → TurnsLoseNothing parts l → Here (run (events_of_parts parts l) q) (run_on_driven parts l)
  go parts q l h n =
      let es = events_of_parts parts l in
      let w = follows parts q l h.tied n in
      record {
        events = h.events ++ es;
        leads =
            run-append h.events es (new_pair one two) ∙ ap (λ (r : PairState). run es r) h.leads;
        tied = ties parts q l h.tied;
        rooms = rooms-stay es q h.rooms;
        is_whole =
            subst (λ (k : Line). IsWhole k) w.leads
            (whole es (line_of_driven q l) h.is_whole w.loss_free);
        under_way =
            subst (λ (k : Line). IsUnderWay k) w.leads
            (stays one two h.events es (line_of_driven q l) f g h.leads h.is_whole h.under_way
            (parts-go parts l) w.loss_free);
      }

  enough : (rows : List (List (End × TurnPart))) (q : PairState) (l : DrivenLine) → Here q l
      → TurnsLoseNothing (turns_in_a_row rows) l → AreEnoughTurns rows l
      → AreEnough (events_of_sweeps rows l) (line_of_driven q l)
  enough rows q l h n e =
      in_time one two h.events (events_of_sweeps rows l) (line_of_driven q l) f g h.leads h.is_whole
      h.under_way
      (subst (λ es. IsLossFree es (line_of_driven q l)) (rows-are rows l)
      (follows (turns_in_a_row rows) q l h.tied n).loss_free)
      (in-time-there q l h.tied h.rooms rows n e)

  swept : (rows : List (List (End × TurnPart))) (q : PairState) (l : DrivenLine) → Here q l
      → TurnsLoseNothing (turns_in_a_row rows) l
      → run_on_line (in_a_row (events_of_sweeps rows l)) (line_of_driven q l)
      ≡ line_of_driven (run (events_of_parts (turns_in_a_row rows) l) q)
      (run_on_driven (turns_in_a_row rows) l)
  swept rows q l h n =
      ap (λ es. run_on_line es (line_of_driven q l)) (sym (rows-are rows l))
      ∙ (follows (turns_in_a_row rows) q l h.tied n).leads

  round : (waking : List (End × TurnPart)) (rows : List (List (End × TurnPart))) (q : PairState)
      (l : DrivenLine) → Here q l → TurnsLoseNothing waking l
      → TurnsLoseNothing (turns_in_a_row rows) (run_on_driven waking l)
      → IsRoundOfTurns waking rows l
      → IsRoundBySweeps (events_of_parts waking l) (events_of_sweeps rows (run_on_driven waking l))
      (line_of_driven q l)
  round waking rows q l h n m r =
      let es = events_of_parts waking l in
      let l' = run_on_driven waking l in
      record {
        goes_on = parts-go waking l;
        timer_a = timers-a waking q l h.tied r.timer_a;
        timer_b = timers-b waking q l h.tied r.timer_b;
        enough =
            subst (λ (k : Line). AreEnough (events_of_sweeps rows l') k)
            (sym (follows waking q l h.tied n).leads)
            (enough rows (run es q) l' (go waking q l h n) m r.enough);
      }

  by-sweeps : (parts : List (End × TurnPart)) (q : PairState) (l : DrivenLine) → Here q l
      → TurnsLoseNothing parts l → IsRecoveryOfTurns parts l
      → IsRecoveryBySweeps (events_of_parts parts l) (line_of_driven q l)
  by-sweeps parts q l h n z =
      let row = turns_in_a_row z.sweeps in
      let row' = turns_in_a_row z.more in
      let end = turns_in_a_row z.last in
      let s = turns-split row (z.once ++ (row' ++ (z.twice ++ end))) l
      (subst (λ ps. TurnsLoseNothing ps l) z.parts_are n) in
      let l1 = run_on_driven row l in
      let q1 = run (events_of_parts row l) q in
      let h1 = go row q l h s.0 in
      let s1 = turns-split z.once (row' ++ (z.twice ++ end)) l1 s.1 in
      let l2 = run_on_driven z.once l1 in
      let q2 = run (events_of_parts z.once l1) q1 in
      let h2 = go z.once q1 l1 h1 s1.0 in
      let s2 = turns-split row' (z.twice ++ end) l2 s1.1 in
      let l3 = run_on_driven row' l2 in
      let q3 = run (events_of_parts row' l2) q2 in
      let h3 = go row' q2 l2 h2 s2.0 in
      let s3 = turns-split z.twice end l3 s2.1 in
      let l4 = run_on_driven z.twice l3 in
      let there : run_on_driven (row ++ (z.once ++ row')) l ≡ l3 =
      driven-append row (z.once ++ row') l ∙ driven-append z.once row' l1 in
      let second =
      subst (λ (k : DrivenLine). IsRoundOfTurns z.twice z.last k) there z.second_round in
      let one' = swept z.sweeps q l h s.0 in
      let rounded : after_round (events_of_parts z.once l1) (events_of_sweeps z.more l2)
      (run_on_line (in_a_row (events_of_sweeps z.sweeps l)) (line_of_driven q l))
      ≡ line_of_driven q3 l3 =
      ap
      (λ (k : Line). after_round (events_of_parts z.once l1) (events_of_sweeps z.more l2) k) one'
      ∙ ap (λ (k : Line). run_on_line (in_a_row (events_of_sweeps z.more l2)) k)
      (follows z.once q1 l1 h1.tied s1.0).leads
      ∙ swept z.more q2 l2 h2 s2.0 in
      record {
        sweeps = events_of_sweeps z.sweeps l;
        once = events_of_parts z.once l1;
        more = events_of_sweeps z.more l2;
        twice = events_of_parts z.twice l3;
        last = events_of_sweeps z.last l4;
        events_are =
            ap (λ ps. events_of_parts ps l) z.parts_are
            ∙ parts-append row (z.once ++ (row' ++ (z.twice ++ end))) l
            ∙ ap (λ es. es ++ events_of_parts (z.once ++ (row' ++ (z.twice ++ end))) l1)
            (rows-are z.sweeps l)
            ∙ ap (λ es. in_a_row (events_of_sweeps z.sweeps l) ++ es)
            (parts-append z.once (row' ++ (z.twice ++ end)) l1
            ∙ ap (λ es. events_of_parts z.once l1 ++ es)
            (parts-append row' (z.twice ++ end) l2
            ∙ ap (λ es. es ++ events_of_parts (z.twice ++ end) l3) (rows-are z.more l2)
            ∙ ap (λ es. in_a_row (events_of_sweeps z.more l2) ++ es)
            (parts-append z.twice end l3
            ∙ ap (λ es. events_of_parts z.twice l3 ++ es) (rows-are z.last l4))));
        enough = enough z.sweeps q l h s.0 z.enough;
        first_round =
            subst
            (λ (k : Line). IsRoundBySweeps (events_of_parts z.once l1)
            (events_of_sweeps z.more l2) k)
            (sym one') (round z.once z.more q1 l1 h1 s1.0 s2.0 z.first_round);
        second_round =
            subst
            (λ (k : Line). IsRoundBySweeps (events_of_parts z.twice l3)
            (events_of_sweeps z.last l4) k)
            (sym rounded) (round z.twice z.last q3 l3 h3 s3.0 s3.1 second);
      }

  pub recover-in-turns : (ms other_ms : ℕ) (before : List (End × TurnPart)) (to_a to_b : List ℕ)
      → IsWhole (line_of_driven (pair_after one two before (new_driven one ms two other_ms))
      (driven_after before (new_driven one ms two other_ms) to_a to_b))
      → IsUnderWay (line_of_driven (pair_after one two before (new_driven one ms two other_ms))
      (driven_after before (new_driven one ms two other_ms) to_a to_b))
      → (parts : List (End × TurnPart))
      → TurnsLoseNothing parts (driven_after before (new_driven one ms two other_ms) to_a to_b)
      → IsRecoveryOfTurns parts (driven_after before (new_driven one ms two other_ms) to_a to_b)
      → DrivenAreDone
      (run_on_driven parts (driven_after before (new_driven one ms two other_ms) to_a to_b))
  recover-in-turns ms other_ms before to_a to_b h u parts n z =
      let fresh = new_driven one ms two other_ms in
      let q = pair_after one two before fresh in
      let l = driven_after before fresh to_a to_b in
      recover one two ms other_ms before to_a to_b f g h u parts n
      (by-sweeps parts q l
      (record {
        events = event.Start A ∷ event.Start B ∷ events_of_parts before fresh;
        leads = refl;
        tied = tied-so-far one two ms other_ms before to_a to_b f g;
        rooms = roomy-so-far one two ms other_ms before to_a to_b f g;
        is_whole = h;
        under_way = u;
      }) n z)
