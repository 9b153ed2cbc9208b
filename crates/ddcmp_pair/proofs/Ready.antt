-- Every pair that a run leads to is repaired where it is ready.
use Rattle.std.proofs.Common.{◌≡◌, ◌≢◌, ℕ, ◌≤◌, Bool, true, List, [], ◌++◌, refl, ap, subst, arith}
use Rattle.std.specs.Prelude.{◌&&◌, nat_le, is_some}
use Rattle.ddcmp_core.specs.declared.state.State.{State}
use Rattle.ddcmp_core.specs.declared.state.State.TheVariants.{Halted, IStart, AStart, Running}
use Rattle.ddcmp_core.specs.declared.state.State.TheVariants.{Maintenance}
use Rattle.ddcmp_core.specs.Table.{is_starting}
use Rattle.ddcmp_core.specs.Core.{IsSound}
use Rattle.ddcmp_io.specs.declared.carrier.End.TheVariants.{A, B}
use Rattle.ddcmp_pair.specs.Choices.{Chooses}
use Rattle.ddcmp_pair.specs.Pairs.{new_pair_by, IsRun, IsRunBy}
use Rattle.ddcmp_pair.specs.Recovery.{is_ready, larger_window, IsRepaired}
use Rattle.ddcmp_pair.specs.Run.{EndState, PairState, after_event}
use Rattle.ddcmp_pair.proofs.Reached.{reached-in-order, reached-counts}
use Rattle.ddcmp_pair.proofs.Relation.{face, StateFits}
use Rattle.ddcmp_pair.proofs.Sendings.{awake}
use Rattle.ddcmp_pair.proofs.Linked.{Linked, linked-turned}
use Rattle.ddcmp_pair.proofs.Ordered.{Holds, holds-after, run-holds, run-event}
use Rattle.ddcmp_pair.proofs.Alone.{Alone, BothAlone, alone-act, alone-after, alone-run}
use Rattle.ddcmp_pair.proofs.Alone.{alone-begun}
use Rattle.ddcmp_pair.proofs.Steady.{Shows, IsKept}
use Rattle.ddcmp_pair.proofs.Rounds.{Recovers}
use Rattle.ddcmp_pair.proofs.Repairs.{ready-recovers, ready-repaired}

nothing-given : (p : State) (given : List (List ℕ)) → is_starting p ≡ true → StateFits p given
    → given ≡ []
nothing-given Halted given e f = absurd (cc e)
nothing-given IStart given e f = f
nothing-given AStart given e f = f
nothing-given Running given e f = absurd (cc e)
nothing-given Maintenance given e f = absurd f

never-maintenance : (p : State) (given : List (List ℕ)) → StateFits p given → p ≢ Maintenance
never-maintenance p given f e = let z = subst (λ q. StateFits q given) e f in z

shows-of : (x y : EndState) → Linked x y → Alone x → x.starts ≤ 1 → x.core.station.state ≢ Halted
    → Shows x y
shows-of x y l a once w =
    let f = l.related.fits in
    let g = awake (face x) f.sent f.next w f.stands in
    let u = reached-counts _ _ f.reached in
    record {
      sent = f.sent;
      next = f.next;
      numbers = g.counts;
      low = u.0;
      high = u.1;
      prefix = reached-in-order _ _ f.reached;
      fresh = λ e. nothing-given x.core.station.state x.given e g.state;
      young = λ e. (let z = a.young once e in λ i. z.0 i ++ z.1 i);
      no_maintenance = never-maintenance x.core.station.state x.given g.state;
      apart = λ e. (l.related.here.runs e).1;
      placed = ap is_some l.there_is;
    }

run-alone : {by_user : Bool} (p : PairState) → IsRunBy by_user p → BothAlone p
run-alone {by_user} p r =
    subst (λ (q : PairState). BothAlone q) r.leads
    (alone-run r.events (new_pair_by by_user r.first r.second)
    (alone-act (Chooses B by_user) _
    (alone-act (Chooses A by_user) _ (alone-begun r.first r.second))))

began-once : (m n : ℕ) → (nat_le m 1 && nat_le n 1) ≡ true → (m ≤ 1) × (n ≤ 1)
began-once m n c = (grind (arith, c), grind (arith, c))

pub kept : IsKept (λ p. IsRun p)
kept = record {
  event = λ e p r. run-event e p (after_event e p) refl r;
  from_a =
      λ p r honest clean w. shows-of p.a p.b ((run-holds p r).linked honest clean) (run-alone p r).a
      (began-once p.a.starts p.b.starts clean).0 w.a;
  from_b =
      λ p r honest clean w. shows-of p.b p.a
      (linked-turned p.a p.b ((run-holds p r).linked honest clean)) (run-alone p r).b
      (began-once p.a.starts p.b.starts clean).1 w.b;
}

-- the same if users choose when their stations acknowledge
pub record Holding (p : PairState) : Type 0 where
  pub holds : Holds p
  pub alone : BothAlone p

pub holding-kept : IsKept (λ p. Holding p)
holding-kept = record {
  event = λ e p h. record { holds = holds-after e p h.holds; alone = alone-after e p h.alone };
  from_a =
      λ p h honest clean w. shows-of p.a p.b (h.holds.linked honest clean) h.alone.a
      (began-once p.a.starts p.b.starts clean).0 w.a;
  from_b =
      λ p h honest clean w. shows-of p.b p.a (linked-turned p.a p.b (h.holds.linked honest clean))
      h.alone.b (began-once p.a.starts p.b.starts clean).1 w.b;
}

pub holding-repaired : (p : PairState) → Holding p → IsSound p.a.core.limits p.a.core.station
    → IsSound p.b.core.limits p.b.core.station → is_ready p ≡ true → IsRepaired p
holding-repaired p h a b e = ready-repaired (λ q. Holding q) holding-kept p h h.alone a b e

pub run-repaired : {by_user : Bool} (p : PairState) → IsRunBy by_user p
    → IsSound p.a.core.limits p.a.core.station → IsSound p.b.core.limits p.b.core.station
    → is_ready p ≡ true → IsRepaired p
run-repaired p r a b e =
    holding-repaired p (record { holds = run-holds p r; alone = run-alone p r }) a b e

pub run-recovers : (p : PairState) → IsRun p → IsSound p.a.core.limits p.a.core.station
    → IsSound p.b.core.limits p.b.core.station → is_ready p ≡ true
    → Recovers (λ q. IsRun q) kept (larger_window p) p
run-recovers p r a b e = ready-recovers (λ q. IsRun q) kept p r (run-alone p r) a b e
