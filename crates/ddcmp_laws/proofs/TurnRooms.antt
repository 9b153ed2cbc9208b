-- Each turn delivers all mail, so there is room whenever bytes are read.
use Rattle.std.proofs.Common.{◌≡◌, ℕ, ◌+◌, ◌*◌, ◌≤◌, Bool, true, false, cond, List, [], ◌∷◌, ◌++◌}
use Rattle.std.proofs.Common.{length, zero, suc, replicate, refl, sym, ◌∙◌, ap, subst, arith, None}
use Rattle.std.specs.Prelude.{◌&&◌, nat_lt, max}
use Rattle.ddcmp_core.specs.Table.{Limits, is_on, may_send}
use Rattle.ddcmp_proto.specs.Bytes.{after_piece, items_added}
use Rattle.ddcmp_proto.specs.Config.{first_refusal}
use Rattle.ddcmp_proto.specs.declared.config.Config.{Config}
use Rattle.ddcmp_station.specs.Driving.{is_due, core_after_take_arm, before_offer}
use Rattle.ddcmp_io.specs.declared.carrier.End.{End}
use Rattle.ddcmp_io.specs.declared.carrier.End.TheVariants.{A, B}
use Rattle.ddcmp_pair.specs.declared.event.Event.{Event}
use Rattle.ddcmp_pair.specs.declared.event.Event.TheVariants as event
use Rattle.ddcmp_pair.specs.Run.{PairState, run, after_event, new_pair}
use Rattle.ddcmp_pair.proofs.Limits.{run-limits}
use Rattle.ddcmp_laws.specs.LossFree.{Line}
use Rattle.ddcmp_laws.specs.Sweeps.{AreSweeps, in_a_row, AreTakenInTime, AreInTime}
use Rattle.ddcmp_laws.specs.PairCalls.{Send, Poll, Expire, Take, Arm, events_in}
use Rattle.ddcmp_laws.specs.DrivenSweeps.{TurnPart, Writes, Reads, Again, DrivenEnd, DrivenLine}
use Rattle.ddcmp_laws.specs.DrivenSweeps.{driven_at, after_on_driven, run_on_driven}
use Rattle.ddcmp_laws.specs.DrivenSweeps.{TurnsLoseNothing, calls_of_part, events_of_parts}
use Rattle.ddcmp_laws.specs.DrivenSweeps.{line_of_driven, new_driven, driven_after, pair_after}
use Rattle.ddcmp_laws.specs.DrivenSweeps.{AreSweepsOfTurns, turns_in_a_row, events_of_sweeps}
use Rattle.ddcmp_laws.specs.DrivenSweeps.{AreEnoughTurns}
use Rattle.ddcmp_laws.proofs.InTurn.{at_one}
use Rattle.ddcmp_laws.proofs.TurnTies.{due, Tied}
use Rattle.ddcmp_laws.proofs.TurnSweeps.{sweeps}
use Rattle.ddcmp_laws.proofs.DrivenRecovery.{part-ties, ties, follows, tied-so-far}

-- ---- room for a message

pub record Rooms (q : PairState) : Type 0 where
  pub a : 1 ≤ q.a.core.limits.room
  pub b : 1 ≤ q.b.core.limits.room

pub rooms-stay : (events : List Event) (q : PairState) → Rooms q → Rooms (run events q)
rooms-stay events q r = record {
  a = subst (λ (k : Limits). 1 ≤ k.room) (sym (run-limits events q A)) r.a;
  b = subst (λ (k : Limits). 1 ≤ k.room) (sym (run-limits events q B)) r.b;
}

finds : (room : ℕ) (inbox : List (List ℕ)) → 1 ≤ room → inbox ≡ []
    → nat_lt (length inbox) room ≡ true
finds room inbox r e = ap (λ (ms : List (List ℕ)). nat_lt (length ms) room) e ∙ by
  where
    by : nat_lt 0 room ≡ true
    by = grind (arith, r)

-- ---- events one after another

time-append : (first second : List Event) (q : PairState) → AreTakenInTime first q
    → AreTakenInTime second (run first q) → AreTakenInTime (first ++ second) q
unfolding run
time-append [] second q f g = g
time-append (e ∷ first) second q f g =
    (f.0, time-append first second (after_event e q) f.1 g)

takes-time : (end : End) (n : ℕ) (q : PairState)
    → AreTakenInTime (events_in (at_one end (replicate n Take))) q
unfolding events_in
takes-time end zero q = tt
takes-time end (suc n) q = (tt, takes-time end n (after_event (event.Take end) q))

writes-time : (end : End) (b c : Bool) (m : List ℕ) (q : PairState)
    → AreTakenInTime (events_in (at_one end ((Arm ∷ cond b (Expire ∷ []) [])
    ++ (cond c (Send m ∷ []) [] ++ Poll ∷ [])))) q
unfolding events_in
writes-time end true true m q = (tt, (tt, (tt, tt)))
writes-time end true false m q = (tt, (tt, tt))
writes-time end false true m q = (tt, (tt, tt))
writes-time end false false m q = (tt, tt)

-- ---- a part of a turn

part-time : (end : End) (part : TurnPart) (q : PairState) (l : DrivenLine) → Tied q l.a l.b
    → Rooms q → AreTakenInTime (events_in (at_one end (calls_of_part part (driven_at end l)))) q
unfolding events_in
part-time end (Writes turn) q l t r =
    let x = driven_at end l in
    let k = core_after_take_arm x.driving.core in
    let n = before_offer x.milliseconds turn x.driving in
    writes-time end (is_on k.station.timer && is_due turn.now (due turn.now x))
    (may_send n.limits n.station turn.offered) turn.offered q
part-time A (Reads came) q l t r = (
  finds q.a.core.limits.room q.a.core.station.inbox r.a
      (sym (ap (λ (p : PairState). p.a.core.station.inbox) t.noted_same) ∙ t.at_a.no_mail),
  takes-time A (length (after_piece l.a.driving.text came l.a.driving.core).station.inbox)
      (after_event (event.Arrive A came) q),
)
part-time B (Reads came) q l t r = (
  finds q.b.core.limits.room q.b.core.station.inbox r.b
      (sym (ap (λ (p : PairState). p.b.core.station.inbox) t.noted_same) ∙ t.at_b.no_mail),
  takes-time B (length (after_piece l.b.driving.text came l.b.driving.core).station.inbox)
      (after_event (event.Arrive B came) q),
)
part-time end Again q l t r = tt

parts-time : (parts : List (End × TurnPart)) (q : PairState) (l : DrivenLine) → Tied q l.a l.b
    → Rooms q → AreTakenInTime (events_of_parts parts l) q
unfolding events_of_parts
parts-time [] q l t r = tt
parts-time (step ∷ rest) q l t r =
    let es = events_in (at_one step.0 (calls_of_part step.1 (driven_at step.0 l))) in
    let m = after_on_driven step.0 step.1 l in
    time-append es (events_of_parts rest m) q (part-time step.0 step.1 q l t r)
    (parts-time rest (run es q) m (part-ties step.0 step.1 q l t) (rooms-stay es q r))

-- ---- sweeps

pub turns-split : (first second : List (End × TurnPart)) (l : DrivenLine)
    → TurnsLoseNothing (first ++ second) l
    → TurnsLoseNothing first l × TurnsLoseNothing second (run_on_driven first l)
unfolding run_on_driven
turns-split [] second l n = (tt, n)
turns-split (step ∷ first) second l n =
    let r = turns-split first second (after_on_driven step.0 step.1 l) n.1 in ((n.0, r.0), r.1)

record AreRows (rows : List (List (End × TurnPart))) (q : PairState) (l : DrivenLine) : Type 0 where
  each : AreSweeps (events_of_sweeps rows l) (line_of_driven q l)
  taken : AreTakenInTime (in_a_row (events_of_sweeps rows l)) q

are-rows : (rows : List (List (End × TurnPart))) (q : PairState) (l : DrivenLine) → Tied q l.a l.b
    → Rooms q → TurnsLoseNothing (turns_in_a_row rows) l → AreSweepsOfTurns rows l
    → AreRows rows q l
unfolding events_of_sweeps turns_in_a_row in_a_row
are-rows [] q l t r n s = record { each = tt; taken = tt }
are-rows (row ∷ rest) q l t r n s =
    let es = events_of_parts row l in
    let m = run_on_driven row l in
    let k = turns-split row (turns_in_a_row rest) l n in
    let f = follows row q l t k.0 in
    let more = are-rows rest (run es q) m (ties row q l t) (rooms-stay es q r) k.1 s.1 in
    record {
      each = (
        sweeps row q l s.0,
        subst (λ (j : Line). AreSweeps (events_of_sweeps rest m) j) (sym f.leads) more.each,
      );
      taken =
          time-append es (in_a_row (events_of_sweeps rest m)) q (parts-time row q l t r) more.taken;
    }

as-many : (rows : List (List (End × TurnPart))) (l : DrivenLine)
    → length (events_of_sweeps rows l) ≡ length rows
unfolding events_of_sweeps
as-many [] l = refl
as-many (row ∷ rest) l = ap (λ n. suc n) (as-many rest (run_on_driven row l))

-- ---- how many

needed : Limits → Limits → List ℕ → List ℕ → List ℕ → List ℕ → ℕ
needed k m x y to_a to_b =
    8 * max k.window m.window * max k.window m.window + 32 * max k.window m.window + 26
    + (4 * max k.window m.window + 2)
    * (length (items_added k.longest x to_a) + length (items_added m.longest y to_b))

has-inbox : (config : Config) → first_refusal config ≡ None → 1 ≤ config.inbox
has-inbox config f = grind (arith, f)

-- ---- anywhere

module _ (q : PairState) (l : DrivenLine) (tied : Tied q l.a l.b) (roomy : Rooms q) where
  limits-a : l.a.driving.core.limits ≡ q.a.core.limits
  limits-a =
      ap (λ (d : DrivenEnd). d.driving.core.limits) tied.at_a.is
      ∙ ap (λ (p : PairState). p.a.core.limits) tied.noted_same

  limits-b : l.b.driving.core.limits ≡ q.b.core.limits
  limits-b =
      ap (λ (d : DrivenEnd). d.driving.core.limits) tied.at_b.is
      ∙ ap (λ (p : PairState). p.b.core.limits) tied.noted_same

  text-a : l.a.driving.text ≡ q.a.arrived
  text-a =
      ap (λ (d : DrivenEnd). d.driving.text) tied.at_a.is
      ∙ ap (λ (p : PairState). p.a.arrived) tied.noted_same

  text-b : l.b.driving.text ≡ q.b.arrived
  text-b =
      ap (λ (d : DrivenEnd). d.driving.text) tied.at_b.is
      ∙ ap (λ (p : PairState). p.b.arrived) tied.noted_same

  pub in-time-there : (rows : List (List (End × TurnPart)))
      → TurnsLoseNothing (turns_in_a_row rows) l
      → AreEnoughTurns rows l → AreInTime (events_of_sweeps rows l) (line_of_driven q l)
  unfolding needed
  in-time-there rows n e =
      let r = are-rows rows q l tied roomy n e.each in
      let same : needed l.a.driving.core.limits l.b.driving.core.limits l.a.driving.text
      l.b.driving.text l.to_a l.to_b
      ≡ needed q.a.core.limits q.b.core.limits q.a.arrived q.b.arrived l.to_a l.to_b =
      λ i. needed (limits-a i) (limits-b i) (text-a i) (text-b i) l.to_a l.to_b in
      record {
        each = r.each;
        taken = r.taken;
        enough =
            subst
            (λ m. needed q.a.core.limits q.b.core.limits q.a.arrived q.b.arrived l.to_a l.to_b ≤ m)
            (sym (as-many rows l)) (subst (λ m. m ≤ length rows) same e.enough);
      }

-- ---- from two new stations

module _ (one two : Config) (ms other_ms : ℕ) (before : List (End × TurnPart))
    (to_a to_b : List ℕ) (f : first_refusal one ≡ None) (g : first_refusal two ≡ None) where
  abbrev fresh : DrivenLine
  fresh = new_driven one ms two other_ms

  abbrev q : PairState
  q = pair_after one two before fresh

  abbrev l : DrivenLine
  l = driven_after before fresh to_a to_b

  pub roomy-so-far : Rooms q
  roomy-so-far =
      rooms-stay (event.Start A ∷ event.Start B ∷ events_of_parts before fresh) (new_pair one two)
      (record { a = has-inbox one f; b = has-inbox two g })

  pub in-time : (rows : List (List (End × TurnPart))) → TurnsLoseNothing (turns_in_a_row rows) l
      → AreEnoughTurns rows l → AreInTime (events_of_sweeps rows l) (line_of_driven q l)
  in-time rows n e =
      in-time-there q l (tied-so-far one two ms other_ms before to_a to_b f g) roomy-so-far rows n e
