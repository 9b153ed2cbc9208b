-- What is promised of runs holds of calls.
use Rattle.std.proofs.Common.{◌≡◌, ℕ, ◌+◌, ◌≤◌, Bool, true, false, cond, ◌&&◌, List, [], ◌∷◌, ◌++◌}
use Rattle.std.proofs.Common.{refl, sym, ◌∙◌, ap, subst, arith, None, Some}
use Rattle.std.specs.Prelude.{nat_le}
use Rattle.std.specs.List.{All}
use Rattle.std.proofs.lemmas.List.Elements.{All-head, All-tail}
use Rattle.std.proofs.lemmas.List.Sums.{sum_by-cons}
use Rattle.ddcmp_core.specs.declared.notice.Notice.{Notice}
use Rattle.ddcmp_core.specs.declared.notice.Notice.TheVariants as notice
use Rattle.ddcmp_core.specs.Counting.{count_plus}
use Rattle.ddcmp_core.specs.Laws.{tells_restart}
use Rattle.ddcmp_core.specs.Table.{may_start}
use Rattle.ddcmp_proto.specs.Config.{first_refusal}
use Rattle.ddcmp_proto.specs.declared.config.Config.{Config}
use Rattle.ddcmp_io.specs.declared.carrier.End.{End}
use Rattle.ddcmp_io.specs.declared.carrier.End.TheVariants.{A, B}
use Rattle.ddcmp_pair.specs.declared.event.Event.{Event}
use Rattle.ddcmp_pair.specs.declared.event.Event.TheVariants as event
use Rattle.ddcmp_pair.specs.InOrder.{Delivers, IsInOrder, IsLink}
use Rattle.ddcmp_pair.specs.Run.{EndState, PairState, at, notices_at, restarts_by, restarts_in}
use Rattle.ddcmp_pair.specs.Run.{after_event, reply_to, run, new_pair, is_clean}
use Rattle.ddcmp_pair.proofs.Runs.{run-append}
use Rattle.ddcmp_pair.proofs.Ordered.{Holds, holds-after, holds-in-order, holds-linked, holds-new}
use Rattle.ddcmp_pair.proofs.Ordered.{none-at}
use Rattle.ddcmp_laws.specs.PairCalls.{Call, Start, Halt, Send, Poll, Arrive, Expire, Take, Arm}
use Rattle.ddcmp_laws.specs.PairCalls.{Ask}
use Rattle.ddcmp_laws.specs.PairCalls.{after_arm_here, after_call_here, after_call, run_calls}
use Rattle.ddcmp_laws.specs.PairCalls.{calls_if, calls_at, starts_by, starts_in, IsStartedOnce}
use Rattle.ddcmp_laws.specs.PairCalls.{events_of, events_in, noted}
use Rattle.ddcmp_laws.proofs.Calling.{notices_armed, call_same, arm_same, ask_same}

-- ---- calls do what their events do

pub one_same : (end : End) (c : Call) (p q : PairState) → noted p ≡ noted q
    → noted (after_call end c p) ≡ noted (run (events_of end c) q)
unfolding run after_event
one_same A Start p q e = call_same A Start p q e
one_same A Halt p q e = call_same A Halt p q e
one_same A (Send message) p q e = call_same A (Send message) p q e
one_same A Poll p q e = call_same A Poll p q e
one_same A (Arrive bytes) p q e = call_same A (Arrive bytes) p q e
one_same A Expire p q e = call_same A Expire p q e
one_same A Take p q e = call_same A Take p q e
one_same B Start p q e = call_same B Start p q e
one_same B Halt p q e = call_same B Halt p q e
one_same B (Send message) p q e = call_same B (Send message) p q e
one_same B Poll p q e = call_same B Poll p q e
one_same B (Arrive bytes) p q e = call_same B (Arrive bytes) p q e
one_same B Expire p q e = call_same B Expire p q e
one_same B Take p q e = call_same B Take p q e
one_same end Arm p q e = arm_same end p ∙ e
one_same end Ask p q e = ask_same end p ∙ e

pub run_same : (calls : List (End × Call)) (p q : PairState) → noted p ≡ noted q
    → noted (run_calls calls p) ≡ noted (run (events_in calls) q)
unfolding run_calls events_in run
run_same [] p q e = e
run_same (step ∷ rest) p q e =
    run_same rest (after_call step.0 step.1 p) (run (events_of step.0 step.1) q)
    (one_same step.0 step.1 p q e)
    ∙ sym (ap noted (run-append (events_of step.0 step.1) (events_in rest) q))

-- ---- what a pair promises another promises that is the same but for Arm

abbrev pub InBoth : PairState → Type 0
InBoth p = Delivers p.a p.b × Delivers p.b p.a

armed_delivers : (x y : EndState) → Delivers x y → Delivers (after_arm_here x) (after_arm_here y)
armed_delivers x y d = record { order = d.order; acknowledged = d.acknowledged }

delivers_armed : (x y : EndState) → Delivers (after_arm_here x) (after_arm_here y) → Delivers x y
delivers_armed x y d = record { order = d.order; acknowledged = d.acknowledged }

delivers_same : (p q : PairState) → noted p ≡ noted q → Delivers q.a q.b → Delivers p.a p.b
delivers_same p q e d =
    delivers_armed p.a p.b
    (subst (λ (r : PairState). Delivers r.a r.b) (sym e) (armed_delivers q.a q.b d))

delivers_back : (p q : PairState) → noted p ≡ noted q → Delivers q.b q.a → Delivers p.b p.a
delivers_back p q e d =
    delivers_armed p.b p.a
    (subst (λ (r : PairState). Delivers r.b r.a) (sym e) (armed_delivers q.b q.a d))

pub honest_same : (p q : PairState) → noted p ≡ noted q → p.honest ≡ q.honest
honest_same p q e = ap (λ (r : PairState). r.honest) e

pub clean_same : (p q : PairState) → noted p ≡ noted q → is_clean p ≡ is_clean q
clean_same p q e = ap is_clean e

pub order_same : (p q : PairState) → noted p ≡ noted q → IsInOrder q → IsInOrder p
order_same p q e o = record {
  where_clean =
      λ h c. let d =
      o.where_clean (sym (honest_same p q e) ∙ h) (sym (clean_same p q e) ∙ c) in record {
        a_to_b = delivers_same p q e d.a_to_b;
        b_to_a = delivers_back p q e d.b_to_a;
      };
}

armed_link : (x y : EndState) → IsLink x y → IsLink (after_arm_here x) (after_arm_here y)
armed_link x y l =
    record { sent = l.sent; forward = l.forward; back = l.back; is_reached = l.is_reached }

link_armed : (x y : EndState) → IsLink (after_arm_here x) (after_arm_here y) → IsLink x y
link_armed x y l =
    record { sent = l.sent; forward = l.forward; back = l.back; is_reached = l.is_reached }

pub links_same : (p q : PairState) → noted p ≡ noted q → IsLink q.a q.b × IsLink q.b q.a
    → IsLink p.a p.b × IsLink p.b p.a
links_same p q e l = (
  link_armed p.a p.b (subst (λ (r : PairState). IsLink r.a r.b) (sym e) (armed_link q.a q.b l.0)),
  link_armed p.b p.a (subst (λ (r : PairState). IsLink r.b r.a) (sym e) (armed_link q.b q.a l.1)),
)

abbrev pub Quiet : List Notice → Type 0
Quiet notices = All (λ n. tells_restart n ≡ false) notices

pub notices_same : (p q : PairState) (end : End) (bytes : List ℕ) → noted p ≡ noted q
    → notices_at bytes (at end p) ≡ notices_at bytes (at end q)
notices_same p q A bytes e =
    notices_armed bytes p.a ∙ ap (λ (r : PairState). notices_at bytes r.a) e
    ∙ sym (notices_armed bytes q.a)
notices_same p q B bytes e =
    notices_armed bytes p.b ∙ ap (λ (r : PairState). notices_at bytes r.b) e
    ∙ sym (notices_armed bytes q.b)

-- a run leaves what holds of two stations
pub holds_run : (events : List Event) (p : PairState) → Holds p → Holds (run events p)
unfolding run
holds_run [] p h = h
holds_run (e ∷ rest) p h = holds_run rest (after_event e p) (holds-after e p h)

run_quiet : (end : End) (bytes : List ℕ) (q : PairState) → Holds q → is_clean q ≡ true
    → (run (event.Arrive end bytes ∷ []) q).honest ≡ true → Quiet (notices_at bytes (at end q))
unfolding run after_event reply_to
run_quiet A bytes q r c h = none-at (Some A) (event.Arrive A bytes) q r c h
run_quiet B bytes q r c h = none-at (Some B) (event.Arrive B bytes) q r c h

quiet_same : (end : End) (bytes : List ℕ) (p q : PairState) → noted p ≡ noted q → Holds q
    → is_clean p ≡ true → (after_call end (Arrive bytes) p).honest ≡ true
    → Quiet (notices_at bytes (at end p))
quiet_same end bytes p q e r c h =
    let f = one_same end (Arrive bytes) p q e in
    let z =
    run_quiet end bytes q r (sym (clean_same p q e) ∙ c)
    (sym (honest_same (after_call end (Arrive bytes) p) (run (event.Arrive end bytes ∷ []) q) f)
    ∙ h) in
    subst Quiet (sym (notices_same p q end bytes e)) z

-- ---- each end is started at most once

honest_if : (x h : Bool) → (x && h) ≡ true → h ≡ true
honest_if true h e = e
honest_if false h e = absurd (cc e)

honest_call : (end : End) (c : Call) (p : PairState) → (after_call end c p).honest ≡ true
    → p.honest ≡ true
honest_call A c p h = honest_if _ p.honest h
honest_call B c p h = honest_if _ p.honest h

honest_before : (calls : List (End × Call)) (p : PairState) → (run_calls calls p).honest ≡ true
    → p.honest ≡ true
unfolding run_calls
honest_before [] p h = h
honest_before (step ∷ rest) p h =
    honest_call step.0 step.1 p (honest_before rest (after_call step.0 step.1 p) h)

no_restarts : (n : Notice) → tells_restart n ≡ false → restarts_by n ≡ 0
no_restarts (notice.Restarted dropped) e = absurd (cc e)
no_restarts n e = refl

pub none_restart : (notices : List Notice) → Quiet notices → restarts_in notices ≡ 0
none_restart [] q = refl
none_restart (n ∷ notices) q =
    let e = no_restarts n (All-head (λ n. tells_restart n ≡ false) n notices q) in
    let f = none_restart notices (All-tail (λ n. tells_restart n ≡ false) n notices q) in
    sum_by-cons restarts_by n notices ∙ omega (arith, e, f)

once_more : (b : Bool) (n r : ℕ) → n + (1 + r) ≤ 1 → cond b (count_plus n 1) n + r ≤ 1
once_more true n r e = omega (arith, e)
once_more false n r e = omega (arith, e)

stays_once : (c : Call) (x : EndState) (r : ℕ) → x.starts + (starts_by c + r) ≤ 1
    → ((bytes : List ℕ) → c ≡ Arrive bytes → Quiet (notices_at bytes x))
    → (after_call_here c x).starts + r ≤ 1
stays_once Start x r e q = once_more (may_start x.core.station) x.starts r e
stays_once Halt x r e q = omega (arith, e)
stays_once (Send message) x r e q = omega (arith, e)
stays_once Poll x r e q = omega (arith, e)
stays_once (Arrive bytes) x r e q =
    let z = none_restart (notices_at bytes x) (q bytes refl) in omega (arith, e, z)
stays_once Expire x r e q = omega (arith, e)
stays_once Take x r e q = omega (arith, e)
stays_once Arm x r e q = omega (arith, e)
stays_once Ask x r e q = omega (arith, e)

counted : (c : Call) (rest : List Call) (n : ℕ) → n + starts_in (c ∷ rest) ≤ 1
    → n + (starts_by c + starts_in rest) ≤ 1
counted c rest n h = let e = sum_by-cons starts_by c rest in omega (arith, e, h)

pub both_clean : (n m : ℕ) → n ≤ 1 → m ≤ 1 → (nat_le n 1 && nat_le m 1) ≡ true
both_clean n m e f = grind (arith)

clean_calls : (calls : List (End × Call)) (p q : PairState) → noted p ≡ noted q → Holds q
    → p.a.starts + starts_in (calls_at A calls) ≤ 1 → p.b.starts + starts_in (calls_at B calls) ≤ 1
    → (run_calls calls p).honest ≡ true → is_clean (run_calls calls p) ≡ true
unfolding run_calls calls_at
clean_calls [] p q e r f g h =
    both_clean p.a.starts p.b.starts (omega (arith, f)) (omega (arith, g))
clean_calls (step ∷ rest) p q e r f g h = by step.0 step.1 (λ t u. clean_calls rest t u) f g h
  where
    quiet : (end : End) (c : Call) → p.a.starts ≤ 1 → p.b.starts ≤ 1
        → (after_call end c p).honest ≡ true → (bytes : List ℕ) → c ≡ Arrive bytes
        → Quiet (notices_at bytes (at end p))
    quiet end c m n k bytes is =
        quiet_same end bytes p q e r (both_clean p.a.starts p.b.starts m n)
        (subst (λ d. (after_call end d p).honest ≡ true) is k)

    by : (end : End) (c : Call)
        → ((t u : PairState) → noted t ≡ noted u → Holds u
        → t.a.starts + starts_in (calls_at A rest) ≤ 1
        → t.b.starts + starts_in (calls_at B rest) ≤ 1 → (run_calls rest t).honest ≡ true
        → is_clean (run_calls rest t) ≡ true)
        → p.a.starts + starts_in (calls_if A end c ++ calls_at A rest) ≤ 1
        → p.b.starts + starts_in (calls_if B end c ++ calls_at B rest) ≤ 1
        → (run_calls rest (after_call end c p)).honest ≡ true
        → is_clean (run_calls rest (after_call end c p)) ≡ true
    by A c more f g h =
        more (after_call A c p) (run (events_of A c) q) (one_same A c p q e)
        (holds_run (events_of A c) q r)
        (stays_once c p.a (starts_in (calls_at A rest)) (counted c (calls_at A rest) p.a.starts f)
        (quiet A c (omega (arith, f)) (omega (arith, g))
        (honest_before rest (after_call A c p) h)))
        g h
    by B c more f g h =
        more (after_call B c p) (run (events_of B c) q) (one_same B c p q e)
        (holds_run (events_of B c) q r)
        f
        (stays_once c p.b (starts_in (calls_at B rest)) (counted c (calls_at B rest) p.b.starts g)
        (quiet B c (omega (arith, f)) (omega (arith, g))
        (honest_before rest (after_call B c p) h)))
        h

-- ---- from two stations

module _ (start : PairState) (holds : Holds start) (calls : List (End × Call)) where
  pub in_order : IsInOrder (run_calls calls start)
  in_order =
      order_same _ _ (run_same calls start start refl)
      (holds-in-order _ (holds_run (events_in calls) start holds))

  pub linked_calls : (run_calls calls start).honest ≡ true
      → is_clean (run_calls calls start) ≡ true
      → IsLink (run_calls calls start).a (run_calls calls start).b
      × IsLink (run_calls calls start).b (run_calls calls start).a
  linked_calls h c =
      let p = run_calls calls start in
      let q = run (events_in calls) start in
      let e = run_same calls start start refl in
      links_same p q e
      (holds-linked q (holds_run (events_in calls) start holds) (sym (honest_same p q e) ∙ h)
      (sym (clean_same p q e) ∙ c))

  pub quiet_calls : (end : End) (bytes : List ℕ) → is_clean (run_calls calls start) ≡ true
      → (after_call end (Arrive bytes) (run_calls calls start)).honest ≡ true
      → All (λ n. tells_restart n ≡ false) (notices_at bytes (at end (run_calls calls start)))
  quiet_calls end bytes c h =
      quiet_same end bytes (run_calls calls start) (run (events_in calls) start)
      (run_same calls start start refl) (holds_run (events_in calls) start holds) c h

  pub once_clean : start.a.starts + starts_in (calls_at A calls) ≤ 1
      → start.b.starts + starts_in (calls_at B calls) ≤ 1
      → (run_calls calls start).honest ≡ true → is_clean (run_calls calls start) ≡ true
  once_clean at_a at_b h = clean_calls calls start start refl holds at_a at_b h

-- ---- from two new stations

pub calls_in_order : (first second : Config) (calls : List (End × Call))
    → first_refusal first ≡ None → first_refusal second ≡ None
    → IsInOrder (run_calls calls (new_pair first second))
calls_in_order first second calls f g =
    in_order (new_pair first second) (holds-new first second f g) calls

pub calls_linked : (first second : Config) (calls : List (End × Call)) → first_refusal first ≡ None
    → first_refusal second ≡ None → (run_calls calls (new_pair first second)).honest ≡ true
    → is_clean (run_calls calls (new_pair first second)) ≡ true
    → IsLink (run_calls calls (new_pair first second)).a (run_calls calls (new_pair first second)).b
    × IsLink (run_calls calls (new_pair first second)).b
    (run_calls calls (new_pair first second)).a
calls_linked first second calls f g h c =
    linked_calls (new_pair first second) (holds-new first second f g) calls h c

pub calls_quiet : (first second : Config) (calls : List (End × Call)) (end : End) (bytes : List ℕ)
    → first_refusal first ≡ None → first_refusal second ≡ None
    → is_clean (run_calls calls (new_pair first second)) ≡ true
    → (after_call end (Arrive bytes) (run_calls calls (new_pair first second))).honest ≡ true
    → All (λ n. tells_restart n ≡ false)
    (notices_at bytes (at end (run_calls calls (new_pair first second))))
calls_quiet first second calls end bytes f g c h =
    quiet_calls (new_pair first second) (holds-new first second f g) calls end bytes c h

pub calls_clean : (first second : Config) (calls : List (End × Call)) → first_refusal first ≡ None
    → first_refusal second ≡ None → IsStartedOnce calls
    → (run_calls calls (new_pair first second)).honest ≡ true
    → is_clean (run_calls calls (new_pair first second)) ≡ true
calls_clean first second calls f g once h =
    once_clean (new_pair first second) (holds-new first second f g) calls
    (omega (arith, once.at_a)) (omega (arith, once.at_b)) h
