-- Two driven stations over lines that lose nothing are a line that loses nothing.
use Rattle.std.proofs.Common.{◌≡◌, ℕ, Bool, true, false, cond, List, [], ◌∷◌, ◌++◌, length}
use Rattle.std.proofs.Common.{zero, suc, replicate, refl, sym, ◌∙◌, ap, subst, append-nil, None}
use Rattle.std.specs.Prelude.{◌&&◌}
use Rattle.ddcmp_core.specs.Table.{is_on, may_send}
use Rattle.ddcmp_proto.specs.Bytes.{after_piece}
use Rattle.ddcmp_proto.specs.Config.{first_refusal}
use Rattle.ddcmp_proto.specs.declared.config.Config.{Config}
use Rattle.ddcmp_station.specs.Driving.{is_due, core_after_take_arm}
use Rattle.ddcmp_station.specs.Driving.{before_offer}
use Rattle.ddcmp_io.specs.declared.carrier.End.{End}
use Rattle.ddcmp_io.specs.declared.carrier.End.TheVariants.{A, B}
use Rattle.ddcmp_pair.specs.declared.event.Event.{Event}
use Rattle.ddcmp_pair.specs.declared.event.Event.TheVariants as event
use Rattle.ddcmp_pair.specs.Pairs.{IsRun}
use Rattle.ddcmp_pair.specs.Recovery.{IsDelivered, IsDone}
use Rattle.ddcmp_pair.specs.Run.{EndState, PairState, line_bytes, run, after_event, new_pair}
use Rattle.ddcmp_pair.proofs.Runs.{run-append}
use Rattle.ddcmp_laws.specs.LossFree.{Line, bytes_or_none}
use Rattle.ddcmp_laws.specs.LossFree.{IsLossFree, run_on_line, IsWhole}
use Rattle.ddcmp_laws.specs.Rests.{IsUnderWay}
use Rattle.ddcmp_laws.specs.Sweeps.{IsRecoveryBySweeps}
use Rattle.ddcmp_laws.proofs.InStep.{loss-append, line-append}
use Rattle.ddcmp_laws.proofs.SweepRounds.{deliver, run-pair}
use Rattle.ddcmp_laws.specs.PairCalls.{Call, Start, Send, Poll, Expire, Arm, Take, after_call}
use Rattle.ddcmp_laws.specs.PairCalls.{events_in}
use Rattle.ddcmp_laws.specs.Driven.{accepted_from, handed_to, acknowledged_to, begun}
use Rattle.ddcmp_laws.specs.DrivenSweeps.{TurnPart, Writes, Reads, Again, DrivenEnd}
use Rattle.ddcmp_laws.specs.DrivenSweeps.{DrivenLine, driven_at}
use Rattle.ddcmp_laws.specs.DrivenSweeps.{after_on_driven, run_on_driven, ReadsTheFirst}
use Rattle.ddcmp_laws.specs.DrivenSweeps.{TurnsLoseNothing, calls_of_part, events_of_parts}
use Rattle.ddcmp_laws.specs.DrivenSweeps.{line_of_driven, new_driven, driven_after, pair_after}
use Rattle.ddcmp_laws.specs.DrivenSweeps.{DrivenIsDelivered, DrivenAreDone}
use Rattle.ddcmp_laws.proofs.InTurn.{at_one}
use Rattle.ddcmp_laws.proofs.Sleeping.{delivered_same}
use Rattle.ddcmp_laws.proofs.TurnTies.{due, IsDrivenEnd}
use Rattle.ddcmp_laws.proofs.TurnTies.{Tied, framed-a, framed-b, part-a, part-b, bytes-are}

-- ---- what a part of a turn does to the line

-- by these events nothing is lost, and then so many bytes are in flight
record Does (events : List Event) (l m : Line) : Type 0 where
  loss_free : IsLossFree events l
  to_a : (run_on_line events l).to_a ≡ m.to_a
  to_b : (run_on_line events l).to_b ≡ m.to_b

takes-a : (n : ℕ) (l : Line) → Does (events_in (at_one A (replicate n Take))) l l
unfolding events_in run_on_line
takes-a zero l = record { loss_free = tt; to_a = refl; to_b = refl }
takes-a (suc n) l =
    let d = takes-a n (run_on_line (event.Take A ∷ []) l) in
    record { loss_free = (tt, d.loss_free); to_a = d.to_a; to_b = d.to_b }

takes-b : (n : ℕ) (l : Line) → Does (events_in (at_one B (replicate n Take))) l l
unfolding events_in run_on_line
takes-b zero l = record { loss_free = tt; to_a = refl; to_b = refl }
takes-b (suc n) l =
    let d = takes-b n (run_on_line (event.Take B ∷ []) l) in
    record { loss_free = (tt, d.loss_free); to_a = d.to_a; to_b = d.to_b }

-- events before a poll: an expiry, a message
abbrev first : Bool → List Call
first b = Arm ∷ cond b (Expire ∷ []) []

abbrev second : List ℕ → Bool → List Call
second m c = cond c (Send m ∷ []) []

writes-a : (b c : Bool) (m bytes : List ℕ) (q r : PairState) (l : DrivenLine)
    → bytes_or_none (line_bytes (run (events_in (at_one A (first b ++ second m c))) q).a) ≡ bytes
    → Does (events_in (at_one A (first b ++ (second m c ++ Poll ∷ [])))) (line_of_driven q l)
    (record { pair = r; to_a = l.to_a; to_b = l.to_b ++ bytes })
unfolding events_in run_on_line run
writes-a true true m bytes q r l e = record {
  loss_free = (tt, (tt, (tt, tt)));
  to_a = refl;
  to_b = ap (λ y. l.to_b ++ y) e;
}
writes-a true false m bytes q r l e = record {
  loss_free = (tt, (tt, tt));
  to_a = refl;
  to_b = ap (λ y. l.to_b ++ y) e;
}
writes-a false true m bytes q r l e = record {
  loss_free = (tt, (tt, tt));
  to_a = refl;
  to_b = ap (λ y. l.to_b ++ y) e;
}
writes-a false false m bytes q r l e = record {
  loss_free = (tt, tt);
  to_a = refl;
  to_b = ap (λ y. l.to_b ++ y) e;
}

writes-b : (b c : Bool) (m bytes : List ℕ) (q r : PairState) (l : DrivenLine)
    → bytes_or_none (line_bytes (run (events_in (at_one B (first b ++ second m c))) q).b) ≡ bytes
    → Does (events_in (at_one B (first b ++ (second m c ++ Poll ∷ [])))) (line_of_driven q l)
    (record { pair = r; to_a = l.to_a ++ bytes; to_b = l.to_b })
unfolding events_in run_on_line run
writes-b true true m bytes q r l e = record {
  loss_free = (tt, (tt, (tt, tt)));
  to_a = ap (λ y. l.to_a ++ y) e;
  to_b = refl;
}
writes-b true false m bytes q r l e = record {
  loss_free = (tt, (tt, tt));
  to_a = ap (λ y. l.to_a ++ y) e;
  to_b = refl;
}
writes-b false true m bytes q r l e = record {
  loss_free = (tt, (tt, tt));
  to_a = ap (λ y. l.to_a ++ y) e;
  to_b = refl;
}
writes-b false false m bytes q r l e = record {
  loss_free = (tt, tt);
  to_a = ap (λ y. l.to_a ++ y) e;
  to_b = refl;
}

part-does-a : (part : TurnPart) (q r : PairState) (l : DrivenLine) → Tied q l.a l.b
    → ReadsTheFirst A part l
    → Does (events_in (at_one A (calls_of_part part l.a))) (line_of_driven q l)
    (line_of_driven r (after_on_driven A part l))
unfolding events_in run_on_line
part-does-a (Writes turn) q r l t u =
    let k = core_after_take_arm l.a.driving.core in
    let n = before_offer l.a.milliseconds turn l.a.driving in
    let w = framed-a turn q l.a l.b t in
    let d =
    writes-a (is_on k.station.timer && is_due turn.now (due turn.now l.a))
    (may_send n.limits n.station turn.offered) turn.offered _ q r l
    (bytes-are w.p.a _ _ w.at_a (ap (λ (p : PairState). p.a) w.noted_same)) in
    record { loss_free = d.loss_free; to_a = d.to_a; to_b = d.to_b }
part-does-a (Reads came) q r l t u =
    let n = length (after_piece l.a.driving.text came l.a.driving.core).station.inbox in
    let d = takes-a n (run_on_line (event.Arrive A came ∷ []) (line_of_driven q l)) in
    record { loss_free = (u, d.loss_free); to_a = d.to_a; to_b = d.to_b ∙ sym (append-nil l.to_b) }
part-does-a Again q r l t u =
    record { loss_free = tt; to_a = refl; to_b = sym (append-nil l.to_b) }

part-does-b : (part : TurnPart) (q r : PairState) (l : DrivenLine) → Tied q l.a l.b
    → ReadsTheFirst B part l
    → Does (events_in (at_one B (calls_of_part part l.b))) (line_of_driven q l)
    (line_of_driven r (after_on_driven B part l))
unfolding events_in run_on_line
part-does-b (Writes turn) q r l t u =
    let k = core_after_take_arm l.b.driving.core in
    let n = before_offer l.b.milliseconds turn l.b.driving in
    let w = framed-b turn q l.a l.b t in
    let d =
    writes-b (is_on k.station.timer && is_due turn.now (due turn.now l.b))
    (may_send n.limits n.station turn.offered) turn.offered _ q r l
    (bytes-are w.p.b _ _ w.at_b (ap (λ (p : PairState). p.b) w.noted_same)) in
    record { loss_free = d.loss_free; to_a = d.to_a; to_b = d.to_b }
part-does-b (Reads came) q r l t u =
    let n = length (after_piece l.b.driving.text came l.b.driving.core).station.inbox in
    let d = takes-b n (run_on_line (event.Arrive B came ∷ []) (line_of_driven q l)) in
    record { loss_free = (u, d.loss_free); to_a = d.to_a ∙ sym (append-nil l.to_a); to_b = d.to_b }
part-does-b Again q r l t u =
    record { loss_free = tt; to_a = sym (append-nil l.to_a); to_b = refl }

part-does : (end : End) (part : TurnPart) (q r : PairState) (l : DrivenLine) → Tied q l.a l.b
    → ReadsTheFirst end part l
    → Does (events_in (at_one end (calls_of_part part (driven_at end l)))) (line_of_driven q l)
    (line_of_driven r (after_on_driven end part l))
part-does A part q r l t u = part-does-a part q r l t u
part-does B part q r l t u = part-does-b part q r l t u

pub part-ties : (end : End) (part : TurnPart) (q : PairState) (l : DrivenLine) → Tied q l.a l.b
    → Tied (run (events_in (at_one end (calls_of_part part (driven_at end l)))) q)
    (after_on_driven end part l).a (after_on_driven end part l).b
part-ties A part q l t = part-a part q l.a l.b t
part-ties B part q l t = part-b part q l.a l.b t

-- ---- any parts

pub ties : (parts : List (End × TurnPart)) (q : PairState) (l : DrivenLine) → Tied q l.a l.b
    → Tied (run (events_of_parts parts l) q) (run_on_driven parts l).a (run_on_driven parts l).b
unfolding events_of_parts run_on_driven run
ties [] q l t = t
ties (step ∷ rest) q l t =
    let es = events_in (at_one step.0 (calls_of_part step.1 (driven_at step.0 l))) in
    let m = after_on_driven step.0 step.1 l in
    subst
    (λ (r : PairState). Tied r (run_on_driven rest m).a (run_on_driven rest m).b)
    (sym (run-append es (events_of_parts rest m) q))
    (ties rest (run es q) m (part-ties step.0 step.1 q l t))

pub record Follows (parts : List (End × TurnPart)) (q : PairState) (l : DrivenLine) : Type 0 where
  pub loss_free : IsLossFree (events_of_parts parts l) (line_of_driven q l)
  pub leads : run_on_line (events_of_parts parts l) (line_of_driven q l)
      ≡ line_of_driven (run (events_of_parts parts l) q) (run_on_driven parts l)

line-is : (n : Line) (q : PairState) (l : DrivenLine) → n.pair ≡ q → n.to_a ≡ l.to_a
    → n.to_b ≡ l.to_b → n ≡ line_of_driven q l
line-is n q l e f g = λ i. record { pair = e i; to_a = f i; to_b = g i }

pub follows : (parts : List (End × TurnPart)) (q : PairState) (l : DrivenLine) → Tied q l.a l.b
    → TurnsLoseNothing parts l → Follows parts q l
unfolding events_of_parts run_on_line run_on_driven run
follows [] q l t n = record { loss_free = tt; leads = refl }
follows (step ∷ rest) q l t n = by (follows rest q' m (part-ties step.0 step.1 q l t) n.1)
  where
    es : List Event
    es = events_in (at_one step.0 (calls_of_part step.1 (driven_at step.0 l)))

    q' : PairState
    q' = run es q

    m : DrivenLine
    m = after_on_driven step.0 step.1 l

    does : Does es (line_of_driven q l) (line_of_driven q' m)
    does = part-does step.0 step.1 q q' l t n.0

    here : run_on_line es (line_of_driven q l) ≡ line_of_driven q' m
    here =
        line-is (run_on_line es (line_of_driven q l)) q' m (run-pair es (line_of_driven q l))
        does.to_a does.to_b

    more : List Event
    more = events_of_parts rest m

    by : Follows rest q' m → Follows (step ∷ rest) q l
    by f = record {
      loss_free =
          loss-append es more (line_of_driven q l) does.loss_free
          (subst (λ (k : Line). IsLossFree more k) (sym here) f.loss_free);
      leads =
          line-append es more (line_of_driven q l)
          ∙ ap (λ (k : Line). run_on_line more k) here
          ∙ f.leads
          ∙ ap (λ (r : PairState). line_of_driven r (run_on_driven rest m))
          (sym (run-append es more q));
    }

-- ---- what the users see

delivered : (x y : EndState) (c d : DrivenEnd) → IsDrivenEnd x c → IsDrivenEnd y d
    → IsDelivered x y → DrivenIsDelivered c.driving d.driving
delivered x y c d s t e = record {
  runs = ap (λ (k : DrivenEnd). k.driving.core.station.state) s.is ∙ e.runs;
  handed =
      ap (λ (k : DrivenEnd). handed_to k.driving.seen) t.is
      ∙ sym t.taken
      ∙ sym (ap (λ ms. y.taken ++ ms) t.no_mail ∙ append-nil y.taken)
      ∙ sym e.handed_up
      ∙ s.given
      ∙ sym (ap (λ (k : DrivenEnd). accepted_from k.driving.seen) s.is);
  acknowledged =
      ap (λ (k : DrivenEnd). acknowledged_to k.driving.seen) s.is
      ∙ sym s.acknowledged
      ∙ e.acknowledged
      ∙ ap length s.given
      ∙ sym (ap (λ (k : DrivenEnd). length (accepted_from k.driving.seen)) s.is);
}

-- ---- from two new stations

begun-is : (config : Config) (ms : ℕ)
    → IsDrivenEnd (after_call A Start (new_pair config config)).a
    (record { milliseconds = ms; syn = config.syn; driving = begun config })
begun-is config ms = record {
  milliseconds = ms;
  deadline = None;
  before = [];
  seen = [];
  is = refl;
  given = refl;
  taken = refl;
  acknowledged = refl;
  no_mail = refl;
}

module _ (one two : Config) (ms other_ms : ℕ) (before : List (End × TurnPart))
    (to_a to_b : List ℕ) (f : first_refusal one ≡ None) (g : first_refusal two ≡ None) where
  abbrev started : PairState
  started = after_call B Start (after_call A Start (new_pair one two))

  abbrev fresh : DrivenLine
  fresh = new_driven one ms two other_ms

  abbrev q : PairState
  q = pair_after one two before fresh

  abbrev l : DrivenLine
  l = driven_after before fresh to_a to_b

  starts : run (event.Start A ∷ event.Start B ∷ []) (new_pair one two) ≡ started
  unfolding run after_event
  starts = refl

  pub tied-so-far : Tied q l.a l.b
  tied-so-far =
      subst
      (λ (r : PairState). Tied r (run_on_driven before fresh).a (run_on_driven before fresh).b)
      (ap (λ (r : PairState). run (events_of_parts before fresh) r) (sym starts)
      ∙ sym
      (run-append (event.Start A ∷ event.Start B ∷ []) (events_of_parts before fresh)
      (new_pair one two)))
      (ties before started fresh
      (record {
        p = started;
        at_a = begun-is one ms;
        at_b = begun-is two other_ms;
        noted_same = refl;
      }))

  pub is_run : IsRun q
  is_run = record {
    first = one;
    second = two;
    first_made = f;
    second_made = g;
    events = event.Start A ∷ event.Start B ∷ events_of_parts before fresh;
    leads = refl;
  }

  pub loss-free : (parts : List (End × TurnPart)) → TurnsLoseNothing parts l
      → IsLossFree (events_of_parts parts l) (line_of_driven q l)
  loss-free parts n = (follows parts q l tied-so-far n).loss_free

  pub leads : (parts : List (End × TurnPart)) → TurnsLoseNothing parts l
      → run_on_line (events_of_parts parts l) (line_of_driven q l)
      ≡ line_of_driven (run (events_of_parts parts l) q) (run_on_driven parts l)
  leads parts n = (follows parts q l tied-so-far n).leads

  pub recover : IsWhole (line_of_driven q l) → IsUnderWay (line_of_driven q l)
      → (parts : List (End × TurnPart)) → TurnsLoseNothing parts l
      → IsRecoveryBySweeps (events_of_parts parts l) (line_of_driven q l)
      → DrivenAreDone (run_on_driven parts l)
  recover h u parts n z =
      let es = events_of_parts parts l in
      let r = run es q in
      let t = ties parts q l tied-so-far in
      let c = (run_on_driven parts l).a in
      let d = (run_on_driven parts l).b in
      let done : IsDone r =
      subst (λ (k : PairState). IsDone k) (run-pair es (line_of_driven q l))
      (deliver es (line_of_driven q l) is_run h u (loss-free parts n) z) in
      let a = ap (λ (k : PairState). k.a) t.noted_same in
      let b = ap (λ (k : PairState). k.b) t.noted_same in
      record {
        from_a =
            delivered t.p.a t.p.b c d t.at_a t.at_b
            (delivered_same t.p.a t.p.b r.a r.b a b done.from_a);
        from_b =
            delivered t.p.b t.p.a d c t.at_b t.at_a
            (delivered_same t.p.b t.p.a r.b r.a b a done.from_b);
      }
