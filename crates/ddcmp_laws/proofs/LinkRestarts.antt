-- Links that restart.
use Rattle.std.proofs.Common.{◌≡◌, ℕ, true, List, [], ◌∷◌, ◌++◌, length, map, refl, sym}
use Rattle.std.proofs.Common.{◌∙◌, ap, subst, arith}
use Rattle.std.specs.Prelude.{◌==◌, if◌then◌else◌}
use Rattle.ddcmp_core.specs.Core.{CoreView}
use Rattle.ddcmp_core.specs.Counting.{count_plus}
use Rattle.ddcmp_core.specs.Table.{after_halt, may_start}
use Rattle.ddcmp_proto.specs.StationCalls.{StationCall}
use Rattle.ddcmp_station.specs.Linking.{LinkView, started, anew, delivered}
use Rattle.ddcmp_io.specs.declared.carrier.End.{End}
use Rattle.ddcmp_io.specs.declared.carrier.End.TheVariants.{A, B}
use Rattle.ddcmp_pair.specs.InOrder.{DeliversBothWays}
use Rattle.ddcmp_pair.specs.Run.{EndState, PairState, new_pair, is_clean}
use Rattle.ddcmp_laws.specs.Faithful.{bytes_of}
use Rattle.ddcmp_laws.specs.PairCalls.{Call, Start, Halt, Send, Poll, Arrive, Expire, Take, Arm}
use Rattle.ddcmp_laws.specs.PairCalls.{Ask}
use Rattle.ddcmp_laws.specs.PairCalls.{after_call_here, after_calls_here}
use Rattle.ddcmp_laws.specs.Links.{LinkCall, Starts, BeginsAnew, Halts, Wakes, Offers, FillsOne}
use Rattle.ddcmp_laws.specs.Links.{IsSent, Feeds, Takes, station_calls, HasDone, LinkHistory}
use Rattle.ddcmp_laws.specs.Links.{LinkStep, after_step, IsSameEnd, Links, new_links}
use Rattle.ddcmp_laws.specs.Links.{LinkReaches, received}
use Rattle.ddcmp_laws.specs.LinkRestarts.{Does, all_calls, begun_with, history_by, history_at}
use Rattle.ddcmp_laws.specs.LinkRestarts.{AreCallsOfLinks, at_end, calls_of_links, after_links}
use Rattle.ddcmp_laws.specs.LinkRestarts.{IsKeptAnew}
use Rattle.ddcmp_laws.specs.StationRuns.{after_station_call_here, after_station_call}
use Rattle.ddcmp_laws.specs.StationRuns.{run_station_calls, station_call, has_heard_none}
use Rattle.ddcmp_laws.proofs.LinkCalls.{step_same, new_same}
use Rattle.ddcmp_laws.proofs.Acknowledged.{AllTaken, IsAcknowledged}
use Rattle.ddcmp_laws.proofs.ByUser.{by_user_after_all}
use Rattle.ddcmp_laws.proofs.StationRuns.{Kept, kept-acknowledged, kept-calls, kept-in-order}
use Rattle.ddcmp_laws.proofs.StationRuns.{kept-taken}
use Rattle.ddcmp_laws.proofs.TwoLinks.{AreSame, AreTaken, NoneOut, acknowledged_all, are_taken}
use Rattle.ddcmp_laws.proofs.TwoLinks.{none_out, reaches}

-- ---- calls at one end

unfoldable pub after_all_here : List StationCall → EndState → EndState
after_all_here [] x = x
after_all_here (c ∷ rest) x = after_all_here rest (after_station_call_here c x)

is-here : (c : Call) (x : EndState)
    → after_station_call_here (station_call c) x ≡ after_call_here c x
is-here Start x = refl
is-here Halt x = refl
is-here (Send message) x = refl
is-here Poll x = refl
is-here (Arrive bytes) x = refl
is-here Expire x = refl
is-here Take x = refl
is-here Arm x = refl
is-here Ask x = refl

pub all-here : (calls : List Call) (x : EndState)
    → after_all_here (map station_call calls) x ≡ after_calls_here calls x
unfolding after_all_here after_calls_here
all-here [] x = refl
all-here (c ∷ calls) x =
    ap (after_all_here (map station_call calls)) (is-here c x)
    ∙ all-here calls (after_call_here c x)

-- ---- each call of a link

abbrev pub step_of : LinkCall → LinkView → LinkStep
step_of call new = record { call = call; link = new }

as-before : (call : LinkCall) (new : LinkView) (h : LinkHistory) (x : EndState)
    → HasDone call h.used h.link new → IsSameEnd x h
    → IsSameEnd (after_all_here (map station_call (station_calls call h.link)) x)
    (after_step (step_of call new) h)
as-before call new h x e s =
    subst (λ y. IsSameEnd y (after_step (step_of call new) h))
    (sym (all-here (station_calls call h.link) x)) (step_same (step_of call new) h x e s)

begins-anew : (new : LinkView) (h : LinkHistory) (x : EndState)
    → new ≡ anew new.station.line h.link → IsSameEnd x h
    → IsSameEnd (after_all_here (all_calls BeginsAnew h.link) x) (begun_with new)
unfolding after_all_here bytes_of
begins-anew new h x e s = record {
  core =
      ap (λ (k : CoreView). record k { station = started (after_halt k.station) }) s.core
      ∙ sym (ap (λ (d : LinkView). d.station.core) e);
  syn = s.syn ∙ sym (ap (λ (d : LinkView). d.station.syn) e);
  arrived = refl;
  wrote = sym (ap (λ (d : LinkView). d.outbox.waiting) e);
  given = refl;
  taken = refl;
  acknowledged = refl;
}

pub step-same : (call : LinkCall) (new : LinkView) (h : LinkHistory) (x : EndState)
    → Does call h.used h.link new → IsSameEnd x h
    → IsSameEnd (after_all_here (all_calls call h.link) x)
    (history_by call (step_of call new) h)
step-same BeginsAnew new h x e s = begins-anew new h x e s
step-same Starts new h x e s = as-before Starts new h x e s
step-same Halts new h x e s = as-before Halts new h x e s
step-same (Wakes now) new h x e s = as-before (Wakes now) new h x e s
step-same (Offers message) new h x e s = as-before (Offers message) new h x e s
step-same FillsOne new h x e s = as-before FillsOne new h x e s
step-same (IsSent n) new h x e s = as-before (IsSent n) new h x e s
step-same (Feeds used) new h x e s = as-before (Feeds used) new h x e s
step-same Takes new h x e s = as-before Takes new h x e s

-- ---- both links

runs-a : (P : PairState → Type 0) (calls : List StationCall) (rest : List (End × StationCall))
    (p : PairState)
    → ((q : PairState) → q.a ≡ after_all_here calls p.a → q.b ≡ p.b → P (run_station_calls rest q))
    → P (run_station_calls (at_end A calls ++ rest) p)
unfolding run_station_calls after_all_here
runs-a P [] rest p more = more p refl refl
runs-a P (c ∷ calls) rest p more = runs-a P calls rest (after_station_call A c p) more

runs-b : (P : PairState → Type 0) (calls : List StationCall) (rest : List (End × StationCall))
    (p : PairState)
    → ((q : PairState) → q.b ≡ after_all_here calls p.b → q.a ≡ p.a → P (run_station_calls rest q))
    → P (run_station_calls (at_end B calls ++ rest) p)
unfolding run_station_calls after_all_here
runs-b P [] rest p more = more p refl refl
runs-b P (c ∷ calls) rest p more = runs-b P calls rest (after_station_call B c p) more

links-same : (steps : List (End × LinkStep)) (q : Links) (p : PairState) → AreSame p q
    → AreCallsOfLinks steps q
    → AreSame (run_station_calls (calls_of_links steps q) p) (after_links steps q)
unfolding calls_of_links run_station_calls after_links
links-same [] q p s o = s
links-same ((A, step) ∷ rest) q p s o =
    let u = step-same step.call step.link q.a p.a o.0 s.a in
    runs-a (λ r. AreSame r (after_links rest (history_at A step q)))
    (all_calls step.call q.a.link) (calls_of_links rest (history_at A step q)) p
    (λ r g k. links-same rest (history_at A step q) r
    (record {
      a = subst (λ y. IsSameEnd y (history_by step.call step q.a)) (sym g) u;
      b = subst (λ y. IsSameEnd y q.b) (sym k) s.b;
    }) o.1)
links-same ((B, step) ∷ rest) q p s o =
    let u = step-same step.call step.link q.b p.b o.0 s.b in
    runs-b (λ r. AreSame r (after_links rest (history_at B step q)))
    (all_calls step.call q.b.link) (calls_of_links rest (history_at B step q)) p
    (λ r g k. links-same rest (history_at B step q) r
    (record {
      b = subst (λ y. IsSameEnd y (history_by step.call step q.b)) (sym g) u;
      a = subst (λ y. IsSameEnd y q.a) (sym k) s.a;
    }) o.1)

module _ (start : PairState) (links : Links) (same : AreSame start links) (kept : Kept start)
    (steps : List (End × LinkStep)) (o : AreCallsOfLinks steps links)
    (honest : (run_station_calls (calls_of_links steps links) start).honest ≡ true)
    (clean : is_clean (run_station_calls (calls_of_links steps links) start) ≡ true) where
  abbrev calls : List (End × StationCall)
  calls = calls_of_links steps links

  ends : AreSame (run_station_calls calls start) (after_links steps links)
  ends = links-same steps links start same o

  both : DeliversBothWays (run_station_calls calls start)
  both = (kept-in-order start kept calls).where_clean honest clean

  pub anew-to-b : LinkReaches (after_links steps links).a (after_links steps links).b
  anew-to-b = reaches _ _ _ _ ends.a ends.b both.a_to_b

  pub anew-to-a : LinkReaches (after_links steps links).b (after_links steps links).a
  anew-to-a = reaches _ _ _ _ ends.b ends.a both.b_to_a

  told : IsAcknowledged (run_station_calls calls start).a
      × IsAcknowledged (run_station_calls calls start).b
  told = kept-acknowledged start kept calls honest clean

  pub anew-acknowledged-to-b : NoneOut (after_links steps links).a
      → received (after_links steps links).b ≡ (after_links steps links).a.accepted
  anew-acknowledged-to-b = acknowledged_all _ _ _ _ ends.a ends.b both.a_to_b told.0

  pub anew-acknowledged-to-a : NoneOut (after_links steps links).b
      → received (after_links steps links).a ≡ (after_links steps links).b.accepted
  anew-acknowledged-to-a = acknowledged_all _ _ _ _ ends.b ends.a both.b_to_a told.1

  taken : AllTaken (run_station_calls calls start)
  taken = kept-taken start kept calls honest clean

  pub anew-taken-from-b : start.b.core.station.by_user ≡ true
      → AreTaken (after_links steps links).a (after_links steps links).b
  anew-taken-from-b e =
      are_taken _ _ _ _ ends.a ends.b both.a_to_b told.0
      (taken.0 (by_user_after_all B calls start ∙ e))

  pub anew-taken-from-a : start.a.core.station.by_user ≡ true
      → AreTaken (after_links steps links).b (after_links steps links).a
  anew-taken-from-a e =
      are_taken _ _ _ _ ends.b ends.a both.b_to_a told.1
      (taken.1 (by_user_after_all A calls start ∙ e))

  pub anew-all-to-b : delivered (after_links steps links).a.link ≡ true
      → received (after_links steps links).b ≡ (after_links steps links).a.accepted
  anew-all-to-b e = anew-acknowledged-to-b (none_out (after_links steps links).a e)

  pub anew-all-to-a : delivered (after_links steps links).b.link ≡ true
      → received (after_links steps links).a ≡ (after_links steps links).b.accepted
  anew-all-to-a e = anew-acknowledged-to-a (none_out (after_links steps links).b e)

-- what holds of links that restart
abbrev pub FromKept : (Links → Type 0) → Type 0
FromKept Promise = (start : PairState) (links : Links) → AreSame start links → Kept start
    → (steps : List (End × LinkStep)) → AreCallsOfLinks steps links
    → (run_station_calls (calls_of_links steps links) start).honest ≡ true
    → is_clean (run_station_calls (calls_of_links steps links) start) ≡ true
    → Promise (after_links steps links)

pub from_kept : (Promise : Links → Type 0) → FromKept Promise → IsKeptAnew Promise
unfolding run_station_calls
from_kept Promise promise first second ms other_ms line other_line steps f g o honest clean =
    promise (new_pair first second) (new_links first ms line second other_ms other_line)
    (record { a = new_same first ms line; b = new_same second other_ms other_line })
    (kept-calls first second [] f g) steps o honest clean

-- ---- a link that restarts on a line that the other end hasn't heard

-- how often an end with this inbox was started after it restarted
abbrev pub starts_anew : EndState → List (List ℕ) → ℕ
starts_anew x inbox =
    let s = record (after_halt x.core.station) { inbox = inbox } in
    let n = if length inbox == 0 then 0 else 2 in
    if may_start s then count_plus n 1 else n

pub once-anew : (x : EndState) → x.core.station.inbox ≡ [] → starts_anew x x.core.station.inbox ≡ 1
once-anew x e = ap (starts_anew x) e ∙ omega arith

pub again-a : (p : PairState) (d : LinkView) → p.a.core.station.inbox ≡ []
    → has_heard_none p.b ≡ true
    → ((run_station_calls (at_end A (all_calls BeginsAnew d)) p).honest ≡ true)
    × ((run_station_calls (at_end A (all_calls BeginsAnew d)) p).a.starts ≡ 1)
    × ((run_station_calls (at_end A (all_calls BeginsAnew d)) p).b ≡ p.b)
unfolding run_station_calls
again-a p d e h = (h, once-anew p.a e, refl)

pub again-b : (p : PairState) (d : LinkView) → p.b.core.station.inbox ≡ []
    → has_heard_none p.a ≡ true
    → ((run_station_calls (at_end B (all_calls BeginsAnew d)) p).honest ≡ true)
    × ((run_station_calls (at_end B (all_calls BeginsAnew d)) p).b.starts ≡ 1)
    × ((run_station_calls (at_end B (all_calls BeginsAnew d)) p).a ≡ p.a)
unfolding run_station_calls
again-b p d e h = (h, once-anew p.b e, refl)
