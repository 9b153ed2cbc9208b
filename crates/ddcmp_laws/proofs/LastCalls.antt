-- What calls of a link do to a pair that neither begin it nor feed it.
use Rattle.std.proofs.Common.{◌≡◌, ◌∙◌, ap, sym, subst, refl, Bool, true, false, cond, List, []}
use Rattle.std.proofs.Common.{◌∷◌, ◌++◌, map}
use Rattle.std.specs.Prelude.{◌≤◌, ◌&&◌}
use Rattle.ddcmp_core.proofs.Sound.{sound_armed}
use Rattle.ddcmp_core.specs.Table.{is_on}
use Rattle.ddcmp_proto.specs.StationCalls.{StationCall}
use Rattle.ddcmp_io.specs.Ends.{other}
use Rattle.ddcmp_io.specs.declared.carrier.End.{End}
use Rattle.ddcmp_io.specs.declared.carrier.End.TheVariants.{A, B}
use Rattle.ddcmp_pair.specs.declared.event.Event.TheVariants as event
use Rattle.ddcmp_pair.specs.Run.{EndState, PairState, at}
use Rattle.ddcmp_station.specs.Driving.{core_after_take_arm, deadline_at, is_due}
use Rattle.ddcmp_station.specs.Linking.{LinkView, polls}
use Rattle.ddcmp_laws.proofs.FaithfulLaws.{IsWell, well_event}
use Rattle.ddcmp_laws.specs.PairCalls.{Arm, Arrive, Ask, Call, Expire, Halt, Poll, Send, Start}
use Rattle.ddcmp_laws.specs.PairCalls.{Take}
use Rattle.ddcmp_laws.specs.PairCalls.{after_call_here, after_calls_here}
use Rattle.ddcmp_laws.specs.Links.{BeginsAnew, Feeds, FillsOne, Halts, IsSameEnd, IsSent}
use Rattle.ddcmp_laws.specs.Links.{LinkCall, LinkHistory, LinkStep, Links, Offers, Starts, Takes}
use Rattle.ddcmp_laws.specs.Links.{Wakes, station_calls}
use Rattle.ddcmp_laws.specs.LinkRestarts.{all_calls, at_end, calls_of_links, history_by}
use Rattle.ddcmp_laws.specs.StationRuns.{after_station_call, run_station_calls, station_call}
use Rattle.ddcmp_laws.proofs.LinkRestarts.{after_all_here, all-here, step-same}
use Rattle.ddcmp_laws.proofs.StationRuns.{Kept, kept-run}
use Rattle.ddcmp_laws.specs.Pipe.{steps_at_end}
use Rattle.ddcmp_laws.proofs.Anew.{AreDone, after_done}

-- ---- an end that isn't begun again

pub record IsFinal (x : EndState) : Type 0 where
  pub well : IsWell x
  pub once : x.starts ≤ 1

-- what a call leaves of an end
pub record Leaves (x y : EndState) : Type 0 where
  pub final : IsFinal x → IsFinal y
  pub limits : y.core.limits ≡ x.core.limits

abbrev pub IsCalmCall : Call → Type 0
IsCalmCall Start = ⊥
IsCalmCall (Arrive bytes) = ⊥
IsCalmCall _ = Unit {0}

abbrev pub AreCalmCalls : List Call → Type 0
AreCalmCalls [] = Unit {0}
AreCalmCalls (c ∷ rest) = IsCalmCall c × AreCalmCalls rest

well-final : (x y : EndState) → y.starts ≡ x.starts → (IsWell x → IsWell y) → IsFinal x
    → IsFinal y
well-final x y starts well f =
    record { well = well f.well; once = subst (λ n. n ≤ 1) (sym starts) f.once }

calm-here : (c : Call) → IsCalmCall c → (x : EndState) → Leaves x (after_call_here c x)
calm-here Start i x = absurd i
calm-here (Arrive bytes) i x = absurd i
calm-here Halt i x = record {
  final = well-final x (after_call_here Halt x) refl (well_event (event.Halt A) x tt);
  limits = refl;
}
calm-here (Send message) i x = record {
  final =
      well-final x (after_call_here (Send message) x) refl (well_event (event.Send A message) x tt);
  limits = refl;
}
calm-here Poll i x = record {
  final = well-final x (after_call_here Poll x) refl (well_event (event.Poll A) x tt);
  limits = refl;
}
calm-here Expire i x = record {
  final = well-final x (after_call_here Expire x) refl (well_event (event.Expire A) x tt);
  limits = refl;
}
calm-here Take i x = record {
  final = well-final x (after_call_here Take x) refl (well_event (event.Take A) x tt);
  limits = refl;
}
calm-here Arm i x = record {
  final =
      well-final x (after_call_here Arm x) refl
      (λ w. record {
        sound = sound_armed x.core.limits x.core.station w.sound;
        sent = w.sent;
      });
  limits = refl;
}
calm-here Ask i x = record { final = λ f. f; limits = refl }

leaves-then : (x y z : EndState) → Leaves x y → Leaves y z → Leaves x z
leaves-then x y z l m =
    record { final = λ f. m.final (l.final f); limits = m.limits ∙ l.limits }

calm-all : (cs : List Call) → AreCalmCalls cs → (x : EndState) → Leaves x (after_calls_here cs x)
unfolding after_calls_here
calm-all [] i x = record { final = λ f. f; limits = refl }
calm-all (c ∷ rest) i x =
    leaves-then x (after_call_here c x) (after_calls_here rest (after_call_here c x))
    (calm-here c i.0 x) (calm-all rest i.1 (after_call_here c x))

-- ---- a pair

-- One end goes to this, the other stays, and the line is as honest.
pub record Moves (e : End) (p q : PairState) (x : EndState) : Type 0 where
  pub own : at e q ≡ x
  pub rest : at (other e) q ≡ at (other e) p
  pub honest : q.honest ≡ p.honest

calm-call : (e : End) (c : Call) → IsCalmCall c → (p : PairState)
    → Moves e p (after_station_call e (station_call c) p) (after_call_here c (at e p))
calm-call e Start i p = absurd i
calm-call e (Arrive bytes) i p = absurd i
calm-call A Halt i p = record { own = refl; rest = refl; honest = refl }
calm-call A (Send message) i p = record { own = refl; rest = refl; honest = refl }
calm-call A Poll i p = record { own = refl; rest = refl; honest = refl }
calm-call A Expire i p = record { own = refl; rest = refl; honest = refl }
calm-call A Take i p = record { own = refl; rest = refl; honest = refl }
calm-call A Arm i p = record { own = refl; rest = refl; honest = refl }
calm-call A Ask i p = record { own = refl; rest = refl; honest = refl }
calm-call B Halt i p = record { own = refl; rest = refl; honest = refl }
calm-call B (Send message) i p = record { own = refl; rest = refl; honest = refl }
calm-call B Poll i p = record { own = refl; rest = refl; honest = refl }
calm-call B Expire i p = record { own = refl; rest = refl; honest = refl }
calm-call B Take i p = record { own = refl; rest = refl; honest = refl }
calm-call B Arm i p = record { own = refl; rest = refl; honest = refl }
calm-call B Ask i p = record { own = refl; rest = refl; honest = refl }

calm-calls : (e : End) (cs : List Call) → AreCalmCalls cs → (p : PairState)
    → Moves e p (run_station_calls (at_end e (map station_call cs)) p)
    (after_calls_here cs (at e p))
unfolding run_station_calls after_calls_here
calm-calls e [] i p = record { own = refl; rest = refl; honest = refl }
calm-calls e (c ∷ rest) i p =
    let q = after_station_call e (station_call c) p in
    let m = calm-call e c i.0 p in
    let n = calm-calls e rest i.1 q in
    record {
      own = n.own ∙ ap (after_calls_here rest) m.own;
      rest = n.rest ∙ m.rest;
      honest = n.honest ∙ m.honest;
    }

-- ---- a link

abbrev pub IsCalmLink : LinkCall → Type 0
IsCalmLink Starts = ⊥
IsCalmLink BeginsAnew = ⊥
IsCalmLink (Feeds used) = ⊥
IsCalmLink _ = Unit {0}

abbrev pub AreCalmSteps : List LinkStep → Type 0
AreCalmSteps [] = Unit {0}
AreCalmSteps (x ∷ xs) = IsCalmLink x.call × AreCalmSteps xs

abbrev CalmBy : LinkCall → LinkView → Type 0
CalmBy call d =
    (all_calls call d ≡ map station_call (station_calls call d))
    × AreCalmCalls (station_calls call d)

calm-if : (b : Bool) (c : Call) → IsCalmCall c → AreCalmCalls (cond b (c ∷ []) [])
calm-if true c i = (i, tt)
calm-if false c i = tt

calm-link : (call : LinkCall) → IsCalmLink call → (d : LinkView) → CalmBy call d
calm-link Starts i d = absurd i
calm-link BeginsAnew i d = absurd i
calm-link (Feeds used) i d = absurd i
calm-link Halts i d = (refl, (tt, tt))
calm-link (Wakes now) i d =
    let due = deadline_at d.milliseconds now d.station.core.station.timer d.deadline in (
      refl,
      (
        tt,
        calm-if (is_on (core_after_take_arm d.station.core).station.timer && is_due now due)
            Expire tt,
      ),
    )
calm-link (Offers message) i d = (refl, (tt, tt))
calm-link FillsOne i d = (refl, calm-if (polls d) Poll tt)
calm-link (IsSent n) i d = (refl, tt)
calm-link Takes i d = (refl, (tt, tt))

-- the pair after calls of one link
unfoldable pub pair-after : End → List LinkStep → LinkHistory → PairState → PairState
pair-after e [] l p = p
pair-after e (x ∷ xs) l p =
    pair-after e xs (history_by x.call x l)
    (run_station_calls (at_end e (all_calls x.call l.link)) p)

-- One end goes calmly to this history.
pub record Calmly (e : End) (p q : PairState) (l : LinkHistory) : Type 0 where
  pub same : IsSameEnd (at e q) l
  pub leaves : Leaves (at e p) (at e q)
  pub rest : at (other e) q ≡ at (other e) p
  pub honest : q.honest ≡ p.honest

one-calm : (e : End) (x : LinkStep) (l : LinkHistory) (p : PairState) → IsCalmLink x.call
    → AreDone (x ∷ []) l → IsSameEnd (at e p) l
    → Calmly e p (run_station_calls (at_end e (all_calls x.call l.link)) p)
    (history_by x.call x l)
one-calm e x l p i done s =
    let calm = calm-link x.call i l.link in
    let cs = station_calls x.call l.link in
    let m : Moves e p (run_station_calls (at_end e (all_calls x.call l.link)) p)
    (after_calls_here cs (at e p)) =
    subst
    (λ zs. Moves e p (run_station_calls (at_end e zs) p) (after_calls_here cs (at e p)))
    (sym calm.0) (calm-calls e cs calm.1 p) in
    let here : after_all_here (all_calls x.call l.link) (at e p) ≡ after_calls_here cs (at e p) =
    ap (λ zs. after_all_here zs (at e p)) calm.0 ∙ all-here cs (at e p) in
    record {
      same =
          subst (λ y. IsSameEnd y (history_by x.call x l)) (here ∙ sym m.own)
          (step-same x.call x.link l (at e p) done.0 s);
      leaves = subst (Leaves (at e p)) (sym m.own) (calm-all cs calm.1 (at e p));
      rest = m.rest;
      honest = m.honest;
    }

pub steps-calm : (e : End) (xs : List LinkStep) (l : LinkHistory) (p : PairState)
    → AreCalmSteps xs → AreDone xs l → IsSameEnd (at e p) l
    → Calmly e p (pair-after e xs l p) (after_done xs l)
unfolding pair-after after_done
steps-calm e [] l p i done s = record {
  same = s;
  leaves = record { final = λ f. f; limits = refl };
  rest = refl;
  honest = refl;
}
steps-calm e (x ∷ xs) l p i done s =
    let q = run_station_calls (at_end e (all_calls x.call l.link)) p in
    let one = one-calm e x l p i.0 (done.0, tt) s in
    let r = steps-calm e xs (history_by x.call x l) q i.1 done.1 one.same in
    record {
      same = r.same;
      leaves = leaves-then (at e p) (at e q) _ one.leaves r.leaves;
      rest = r.rest ∙ one.rest;
      honest = r.honest ∙ one.honest;
    }

-- ---- whatever they are

pub steps-kept : (e : End) (xs : List LinkStep) (l : LinkHistory) (p : PairState) → Kept p
    → Kept (pair-after e xs l p)
unfolding pair-after
steps-kept e [] l p k = k
steps-kept e (x ∷ xs) l p k =
    steps-kept e xs (history_by x.call x l)
    (run_station_calls (at_end e (all_calls x.call l.link)) p)
    (kept-run (at_end e (all_calls x.call l.link)) p k)

run-then : (xs ys : List (End × StationCall)) (p : PairState)
    → run_station_calls (xs ++ ys) p ≡ run_station_calls ys (run_station_calls xs p)
unfolding run_station_calls
run-then [] ys p = refl
run-then (x ∷ xs) ys p = run-then xs ys (after_station_call x.0 x.1 p)

pub leads-a : (xs : List LinkStep) (ys : List (End × LinkStep)) (q : Links) (p : PairState)
    → run_station_calls (calls_of_links (steps_at_end A xs ++ ys) q) p
    ≡ run_station_calls
    (calls_of_links ys (record { a = after_done xs q.a; b = q.b })) (pair-after A xs q.a p)
unfolding calls_of_links pair-after after_done
leads-a [] ys q p = refl
leads-a (x ∷ xs) ys q p =
    run-then (at_end A (all_calls x.call q.a.link))
    (calls_of_links (steps_at_end A xs ++ ys) (record { a = history_by x.call x q.a; b = q.b })) p
    ∙ leads-a xs ys (record { a = history_by x.call x q.a; b = q.b })
    (run_station_calls (at_end A (all_calls x.call q.a.link)) p)

pub leads-b : (xs : List LinkStep) (ys : List (End × LinkStep)) (q : Links) (p : PairState)
    → run_station_calls (calls_of_links (steps_at_end B xs ++ ys) q) p
    ≡ run_station_calls
    (calls_of_links ys (record { a = q.a; b = after_done xs q.b })) (pair-after B xs q.b p)
unfolding calls_of_links pair-after after_done
leads-b [] ys q p = refl
leads-b (x ∷ xs) ys q p =
    run-then (at_end B (all_calls x.call q.b.link))
    (calls_of_links (steps_at_end B xs ++ ys) (record { a = q.a; b = history_by x.call x q.b })) p
    ∙ leads-b xs ys (record { a = q.a; b = history_by x.call x q.b })
    (run_station_calls (at_end B (all_calls x.call q.b.link)) p)
