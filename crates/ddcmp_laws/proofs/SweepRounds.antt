-- Sweeps enough end a round, and two such rounds deliver.
use Rattle.std.proofs.Common.{◌≡◌, inl, inr, Bool, true, false, cond, List, [], ◌∷◌, ◌++◌}
use Rattle.std.proofs.Common.{refl, sym, ap, ◌∙◌, subst, arith, append_assoc}
use Rattle.std.specs.Prelude.{◌||◌}
use Rattle.ddcmp_core.specs.declared.state.Timer.{Timer}
use Rattle.ddcmp_core.specs.declared.state.Timer.TheVariants.{Off, Fresh, On}
use Rattle.ddcmp_core.specs.Counting.{count_plus}
use Rattle.ddcmp_core.specs.Table.{after_expire_with, is_on}
use Rattle.ddcmp_io.specs.declared.carrier.End.{End}
use Rattle.ddcmp_io.specs.declared.carrier.End.TheVariants.{A, B}
use Rattle.ddcmp_pair.specs.declared.event.Event.{Event}
use Rattle.ddcmp_pair.specs.declared.event.Event.TheVariants as event
use Rattle.ddcmp_pair.specs.Pairs.{IsRun}
use Rattle.ddcmp_pair.specs.Recovery.{IsDone, larger_window}
use Rattle.ddcmp_pair.specs.Run.{EndState, PairState, at, after_expire_here, after_event, run}
use Rattle.ddcmp_laws.specs.LossFree.{Line, after_on_line, IsLossFree, run_on_line, IsWhole}
use Rattle.ddcmp_laws.specs.Rests.{GoesOn, IsUnderWay}
use Rattle.ddcmp_laws.specs.Delivers.{IsAtRest, is_expiry, runs_out, IsRoundInAnyOrder}
use Rattle.ddcmp_laws.specs.Sweeps.{AreSweeps, in_a_row, AreEnough}
use Rattle.ddcmp_laws.specs.Sweeps.{RunsOutOrIsOff, IsRoundBySweeps, after_round}
use Rattle.ddcmp_laws.specs.Sweeps.{IsRecoveryBySweeps}
use Rattle.ddcmp_laws.proofs.Settling.{begins, whole_again, pair_is}
use Rattle.ddcmp_laws.proofs.Resting.{Gone, all_under}
use Rattle.ddcmp_laws.proofs.InStep.{goes-append, line-append}
use Rattle.ddcmp_laws.proofs.Rounding.{delivered}
use Rattle.ddcmp_laws.proofs.Sweeping.{come-to-rest, added-is, loss-parts}
use Rattle.ddcmp_laws.proofs.Timely.{row-carries, carried-on}

pub rests : (sweeps : List (List Event)) (l : Line) → IsWhole l → IsLossFree (in_a_row sweeps) l
    → AreEnough sweeps l → IsAtRest (run_on_line (in_a_row sweeps) l)
rests sweeps l h f e =
    let w = larger_window l.pair in
    let n = e.enough in
    let i = added-is w (in_a_row sweeps) l in
    come-to-rest w false sweeps l f e.each (begins l h) (λ p. absurd (cc p)) (omega (arith, n, i))

still-expires : (e : End) (first second : List Event) → runs_out e first ≡ true
    → runs_out e (first ++ second) ≡ true
unfolding runs_out
still-expires e [] second p = absurd (cc p)
still-expires e (x ∷ first) second p =
    more (is_expiry e x) (runs_out e first) (runs_out e (first ++ second))
    (still-expires e first second) p
  where
    more : (b c d : Bool) → (c ≡ true → d ≡ true) → (b || c) ≡ true → (b || d) ≡ true
    more true c d h q = refl
    more false c d h q = h q

-- ---- what is known of a line along the way

record Known (l : Line) : Type 0 where
  whole : IsWhole l
  gone : Gone l

goes-by : (events : List Event) (l : Line) → GoesOn events → IsLossFree events l → Known l
    → Known (run_on_line events l)
goes-by events l g n k =
    record {
      whole = whole_again events l k.whole n;
      gone =
          all_under (larger_window l.pair) events l g n k.gone.is_run (begins l k.whole)
          k.gone.under_way;
    }

swept : (sweeps : List (List Event)) (l : Line) → AreSweeps sweeps l
    → IsLossFree (in_a_row sweeps) l → Known l → Known (run_on_line (in_a_row sweeps) l)
swept sweeps l s f k =
    goes-by (in_a_row sweeps) l (carried-on (in_a_row sweeps) (row-carries sweeps l s)) f k

-- ---- a timer that is off may run out and changes nothing

expired-off : (x : EndState) → x.core.station.timer ≡ Off → after_expire_here x ≡ x
expired-off x o = λ i. record x {
  core = record x.core {
    station = station x.core.station.timer o i;
    counters = record x.core.counters { expiries = count x.core.station.timer o i };
  };
}
  where
    station : (t : Timer) → t ≡ Off → after_expire_with t x.core.station ≡ x.core.station
    station Off e = refl
    station Fresh e = absurd (cc e)
    station On e = absurd (cc e)

    count : (t : Timer) → t ≡ Off
        → cond (is_on t) (count_plus x.core.counters.expiries 1) x.core.counters.expiries
        ≡ x.core.counters.expiries
    count Off e = refl
    count Fresh e = absurd (cc e)
    count On e = absurd (cc e)

nothing-expires : (e : End) (l : Line) → (at e l.pair).core.station.timer ≡ Off
    → after_on_line (event.Expire e) l ≡ l
unfolding after_event
nothing-expires A l o = λ i. record l { pair = record l.pair { a = expired-off l.pair.a o i } }
nothing-expires B l o = λ i. record l { pair = record l.pair { b = expired-off l.pair.b o i } }

-- ---- a round

-- these events lead from one line to another
record Leads (events : List Event) (l m : Line) : Type 0 where
  goes_on : GoesOn events
  loss_free : IsLossFree events l
  leads : run_on_line events l ≡ m

expires-first : (e : End) (events : List Event) (l m : Line)
    → (at e l.pair).core.station.timer ≡ Off → Leads events l m
    → Leads (event.Expire e ∷ events) l m
unfolding run_on_line
expires-first e events l m o h =
    let s = nothing-expires e l o in
    record {
      goes_on = h.goes_on;
      loss_free = (tt, subst (λ (n : Line). IsLossFree events n) (sym s) h.loss_free);
      leads = ap (λ (n : Line). run_on_line events n) s ∙ h.leads;
    }

record Rounded (l m : Line) : Type 0 where
  events : List Event
  is_round : IsRoundInAnyOrder events l
  leads : run_on_line events l ≡ m

round-of : (events : List Event) (l m : Line) → Leads events l m → IsAtRest m
    → runs_out A events ≡ true → runs_out B events ≡ true → Rounded l m
round-of events l m h r a b = record {
  events = events;
  is_round =
      record {
        goes_on = h.goes_on;
        loss_free = h.loss_free;
        expires_a = a;
        expires_b = b;
        rests = subst (λ (n : Line). IsAtRest n) (sym h.leads) r;
      };
  leads = h.leads;
}

by-timers : (events : List Event) (l m : Line) → Leads events l m → IsAtRest m
    → RunsOutOrIsOff A events l.pair → RunsOutOrIsOff B events l.pair → Rounded l m
unfolding runs_out
by-timers events l m h r (inl a) (inl b) = round-of events l m h r a b
by-timers events l m h r (inl a) (inr o) =
    round-of (event.Expire B ∷ events) l m (expires-first B events l m o h) r a refl
by-timers events l m h r (inr o) (inl b) =
    round-of (event.Expire A ∷ events) l m (expires-first A events l m o h) r refl b
by-timers events l m h r (inr o) (inr p) =
    round-of (event.Expire A ∷ event.Expire B ∷ events) l m
    (expires-first A (event.Expire B ∷ events) l m o (expires-first B events l m p h)) r refl refl

still-out : (e : End) (first second : List Event) (p : PairState) → RunsOutOrIsOff e first p
    → RunsOutOrIsOff e (first ++ second) p
still-out e first second p (inl r) = inl (still-expires e first second r)
still-out e first second p (inr o) = inr o

rounded : (waking : List Event) (sweeps : List (List Event)) (l : Line) → Known l
    → IsLossFree (waking ++ in_a_row sweeps) l → IsRoundBySweeps waking sweeps l
    → Rounded l (after_round waking sweeps l)
rounded waking sweeps l k f r =
    let m = run_on_line waking l in
    let s = r.enough.each in
    let row = in_a_row sweeps in
    let p = loss-parts waking row l f in
    by-timers (waking ++ row) l (run_on_line row m)
    (record {
      goes_on = goes-append waking row r.goes_on (carried-on row (row-carries sweeps m s));
      loss_free = f;
      leads = line-append waking row l;
    }) (rests sweeps m (whole_again waking l k.whole p.0) p.1 r.enough)
    (still-out A waking row l.pair r.timer_a) (still-out B waking row l.pair r.timer_b)

deliver-by : (once twice : List Event) (sweeps more last : List (List Event)) (l : Line)
    → IsRun l.pair → IsWhole l → IsUnderWay l
    → IsLossFree (in_a_row sweeps ++ ((once ++ in_a_row more) ++ (twice ++ in_a_row last))) l
    → AreEnough sweeps l → IsRoundBySweeps once more (run_on_line (in_a_row sweeps) l)
    → IsRoundBySweeps twice last (after_round once more (run_on_line (in_a_row sweeps) l))
    → IsDone (after_round twice last
    (after_round once more (run_on_line (in_a_row sweeps) l))).pair
deliver-by once twice sweeps more last l r h u n e o t =
    let first = once ++ in_a_row more in
    let second = twice ++ in_a_row last in
    let a = loss-parts (in_a_row sweeps) (first ++ second) l n in
    let m = run_on_line (in_a_row sweeps) l in
    let b = loss-parts first second m a.1 in
    let k =
    swept sweeps l e.each a.0 (record { whole = h; gone = record { under_way = u; is_run = r } })
    in
    let f = rounded once more m k b.0 o in
    let g = f.is_round in
    let k' = goes-by f.events m g.goes_on g.loss_free k in
    let same : run_on_line first m ≡ run_on_line f.events m =
    line-append once (in_a_row more) m ∙ sym f.leads in
    let t' : IsRoundBySweeps twice last (run_on_line f.events m) =
    subst (λ (n : Line). IsRoundBySweeps twice last n) (sym f.leads) t in
    let n' : IsLossFree second (run_on_line f.events m) =
    subst (λ (n : Line). IsLossFree second n) same b.1 in
    let s = rounded twice last (run_on_line f.events m) k' n' t' in
    let d =
    delivered f.events s.events m k.gone.is_run k.whole k.gone.under_way (rests sweeps l h a.0 e) g
    s.is_round in
    subst (λ (n : Line). IsDone n.pair)
    (s.leads ∙ ap (λ (n : Line). after_round twice last n) f.leads) d

two-rounds : (a b c d e : List Event) → a ++ (b ++ (c ++ (d ++ e))) ≡ a ++ ((b ++ c) ++ (d ++ e))
two-rounds a b c d e = ap (λ z. a ++ z) (sym (append_assoc b c (d ++ e)))

rounds-lead : (a b c d e : List Event) (l : Line)
    → run_on_line (a ++ ((b ++ c) ++ (d ++ e))) l
    ≡ run_on_line e (run_on_line d (run_on_line c (run_on_line b (run_on_line a l))))
rounds-lead a b c d e l =
    line-append a ((b ++ c) ++ (d ++ e)) l
    ∙ line-append (b ++ c) (d ++ e) (run_on_line a l)
    ∙ ap (λ (m : Line). run_on_line (d ++ e) m) (line-append b c (run_on_line a l))
    ∙ line-append d e (run_on_line c (run_on_line b (run_on_line a l)))

pub deliver : (events : List Event) (l : Line) → IsRun l.pair → IsWhole l → IsUnderWay l
    → IsLossFree events l → IsRecoveryBySweeps events l → IsDone (run_on_line events l).pair
deliver events l r h u n z =
    let row = in_a_row z.sweeps in
    let parts = row ++ ((z.once ++ in_a_row z.more) ++ (z.twice ++ in_a_row z.last)) in
    let same : events ≡ parts =
    z.events_are ∙ two-rounds row z.once (in_a_row z.more) z.twice (in_a_row z.last) in
    subst (λ (n : Line). IsDone n.pair)
    (sym
    (ap (λ es. run_on_line es l) same
    ∙ rounds-lead row z.once (in_a_row z.more) z.twice (in_a_row z.last) l))
    (deliver-by z.once z.twice z.sweeps z.more z.last l r h u
    (subst (λ es. IsLossFree es l) same n) z.enough z.first_round z.second_round)

-- the pair of a line after some events
pub run-pair : (events : List Event) (l : Line) → (run_on_line events l).pair ≡ run events l.pair
unfolding run_on_line run
run-pair [] l = refl
run-pair (e ∷ rest) l =
    run-pair rest (after_on_line e l) ∙ ap (λ (p : PairState). run rest p) (pair_is e l)
