-- Two links, over honest lines and over streams.
use Rattle.std.proofs.Common.{length-append, ◌≡◌, ℕ, ◌+◌, ◌≤◌, Bool, true, false, cond, List, [], ◌∷◌}
use Rattle.std.proofs.Common.{◌++◌, length}
use Rattle.std.proofs.Common.{refl, sym, ◌∙◌, ap, append_assoc, subst, arith, None}
use Rattle.std.specs.Prelude.{◌&&◌}
use Rattle.std.proofs.lemmas.List.Sums.{sum_by-append}
use Rattle.ddcmp_frame.specs.Reader.{ReaderView}
use Rattle.ddcmp_core.specs.Table.{is_on}
use Rattle.ddcmp_proto.specs.Config.{first_refusal}
use Rattle.ddcmp_proto.specs.declared.config.Config.{Config}
use Rattle.ddcmp_station.specs.Driving.{deadline_at, is_due, core_after_take_arm}
use Rattle.ddcmp_core.specs.Core.{CoreView}
use Rattle.ddcmp_station.specs.Linking.{LinkView, polls, delivered}
use Rattle.ddcmp_io.specs.declared.carrier.End.{End}
use Rattle.ddcmp_io.specs.declared.carrier.End.TheVariants.{A, B}
use Rattle.ddcmp_pair.specs.InOrder.{Delivers, DeliversBothWays}
use Rattle.ddcmp_pair.specs.Prefix.{IsPrefixOf}
use Rattle.ddcmp_pair.specs.Run.{EndState, PairState, new_pair, is_clean}
use Rattle.ddcmp_pair.proofs.Ready.{Holding}
use Rattle.ddcmp_laws.specs.Faithful.{written, IsFaithful}
use Rattle.ddcmp_laws.specs.Prefix.{Begins}
use Rattle.ddcmp_laws.specs.PairCalls.{Call, Poll, Expire, after_calls_here, after_call, run_calls}
use Rattle.ddcmp_laws.specs.PairCalls.{calls_at, starts_by, starts_in}
use Rattle.ddcmp_laws.specs.Streams.{OverStreams}
use Rattle.ddcmp_laws.specs.Links.{LinkCall, Starts, BeginsAnew, Halts, Wakes, Offers, FillsOne}
use Rattle.ddcmp_laws.specs.Links.{IsSent, Feeds, Takes, station_calls, HasDone, LinkHistory}
use Rattle.ddcmp_laws.specs.Links.{LinkStep, after_step, IsSameEnd, Links, link_at}
use Rattle.ddcmp_laws.specs.Links.{after_step_at, AreStreams, LinkOverStreams, after_steps}
use Rattle.ddcmp_laws.specs.Links.{starts_in_call, count_if, link_starts, AreStartedOnce}
use Rattle.ddcmp_laws.specs.Links.{new_links, received, LinkReaches, IsKeptOverStreams}
use Rattle.ddcmp_laws.specs.LinkLines.{AreLinkCalls, calls_of_steps, IsKeptOverHonestLines}
use Rattle.ddcmp_laws.proofs.PairCallLaws.{in_order, once_clean}
use Rattle.ddcmp_laws.proofs.Acknowledged.{IsAcknowledged, acknowledged_calls, all_up}
use Rattle.ddcmp_laws.proofs.Acknowledged.{first_of_three, taken_calls}
use Rattle.ddcmp_laws.proofs.ByUser.{by_user_after}
use Rattle.ddcmp_laws.proofs.FaithfulLaws.{IsStraight, well_new}
use Rattle.ddcmp_laws.proofs.Streaming.{streams_straight}
use Rattle.ddcmp_laws.proofs.Waiting.{new_holding}
use Rattle.ddcmp_laws.proofs.InTurn.{at_one, own_a, own_b, other_a, other_b, begins_more, over_a}
use Rattle.ddcmp_laws.proofs.InTurn.{over_b}
use Rattle.ddcmp_laws.proofs.LinkCalls.{step_same, new_same}

pub record AreSame (p : PairState) (q : Links) : Type 0 where
  pub a : IsSameEnd p.a q.a
  pub b : IsSameEnd p.b q.b

-- what a link's line took, its station had written
gone_written : (x : EndState) (h : LinkHistory) → IsSameEnd x h → Begins h.gone (written x)
gone_written x h s = (h.link.outbox.waiting, sym s.wrote)

reads : (x y : EndState) (h k : LinkHistory) → IsSameEnd x h → IsSameEnd y k → Begins h.used k.gone
    → Begins x.arrived (written y)
reads x y h k s t b =
    subst (λ ys. Begins ys (written y)) (sym s.arrived)
    (begins_more h.used k.gone (written y) b (gone_written y k t))

-- ---- over streams

over_steps : (steps : List (End × LinkStep)) (q : Links) (p : PairState) → AreSame p q
    → IsFaithful p → LinkOverStreams steps q → OverStreams (calls_of_steps steps q) p
unfolding calls_of_steps
over_steps [] q p s f o = tt
over_steps (step ∷ rest) q p s f o =
    by step.0 step.1 o.0 o.1 (over_steps rest (after_step_at step.0 step.1 q)) o.2
  where
    by : (end : End) (one : LinkStep)
        → HasDone one.call (link_at end q).used (link_at end q).link one.link
        → AreStreams (after_step_at end one q)
        → ((r : PairState) → AreSame r (after_step_at end one q) → IsFaithful r
        → LinkOverStreams rest (after_step_at end one q)
        → OverStreams (calls_of_steps rest (after_step_at end one q)) r)
        → LinkOverStreams rest (after_step_at end one q)
        → OverStreams
        (at_one end (station_calls one.call (link_at end q).link)
        ++ calls_of_steps rest (after_step_at end one q)) p
    by A one e streams more later =
        let calls = station_calls one.call q.a.link in
        let x = after_calls_here calls p.a in
        let u : IsSameEnd x (after_step one q.a) = step_same one q.a p.a e s.a in
        over_a calls (calls_of_steps rest (after_step_at A one q)) p
        (reads x p.b (after_step one q.a) q.b u s.b streams.to_a) f.to_b
        (λ r g k ff. more r
        (record {
          a = subst (λ y. IsSameEnd y (after_step one q.a)) (sym g) u;
          b = subst (λ y. IsSameEnd y q.b) (sym k) s.b;
        }) ff later) f
    by B one e streams more later =
        let calls = station_calls one.call q.b.link in
        let x = after_calls_here calls p.b in
        let u : IsSameEnd x (after_step one q.b) = step_same one q.b p.b e s.b in
        over_b calls (calls_of_steps rest (after_step_at B one q)) p
        (reads x p.a (after_step one q.b) q.a u s.a streams.to_b) f.to_a
        (λ r g k ff. more r
        (record {
          b = subst (λ y. IsSameEnd y (after_step one q.b)) (sym g) u;
          a = subst (λ y. IsSameEnd y q.a) (sym k) s.a;
        }) ff later) f

-- ---- where they lead

runs_a : (P : PairState → Type 0) (calls : List Call) (rest : List (End × Call)) (p : PairState)
    → ((q : PairState) → q.a ≡ after_calls_here calls p.a → q.b ≡ p.b → P (run_calls rest q))
    → P (run_calls (at_one A calls ++ rest) p)
unfolding run_calls after_calls_here
runs_a P [] rest p more = more p refl refl
runs_a P (c ∷ calls) rest p more = runs_a P calls rest (after_call A c p) more

runs_b : (P : PairState → Type 0) (calls : List Call) (rest : List (End × Call)) (p : PairState)
    → ((q : PairState) → q.b ≡ after_calls_here calls p.b → q.a ≡ p.a → P (run_calls rest q))
    → P (run_calls (at_one B calls ++ rest) p)
unfolding run_calls after_calls_here
runs_b P [] rest p more = more p refl refl
runs_b P (c ∷ calls) rest p more = runs_b P calls rest (after_call B c p) more

pub steps_same : (steps : List (End × LinkStep)) (q : Links) (p : PairState) → AreSame p q
    → AreLinkCalls steps q → AreSame (run_calls (calls_of_steps steps q) p) (after_steps steps q)
unfolding calls_of_steps run_calls after_steps
steps_same [] q p s o = s
steps_same (step ∷ rest) q p s o =
    by step.0 step.1 o.0 (steps_same rest (after_step_at step.0 step.1 q)) o.1
  where
    by : (end : End) (one : LinkStep)
        → HasDone one.call (link_at end q).used (link_at end q).link one.link
        → ((r : PairState) → AreSame r (after_step_at end one q)
        → AreLinkCalls rest (after_step_at end one q)
        → AreSame (run_calls (calls_of_steps rest (after_step_at end one q)) r)
        (after_steps rest (after_step_at end one q)))
        → AreLinkCalls rest (after_step_at end one q)
        → AreSame
        (run_calls
        (at_one end (station_calls one.call (link_at end q).link)
        ++ calls_of_steps rest (after_step_at end one q)) p)
        (after_steps rest (after_step_at end one q))
    by A one e more later =
        let u = step_same one q.a p.a e s.a in
        runs_a (λ r. AreSame r (after_steps rest (after_step_at A one q)))
        (station_calls one.call q.a.link) (calls_of_steps rest (after_step_at A one q)) p
        (λ r g k. more r
        (record {
          a = subst (λ y. IsSameEnd y (after_step one q.a)) (sym g) u;
          b = subst (λ y. IsSameEnd y q.b) (sym k) s.b;
        }) later)
    by B one e more later =
        let u = step_same one q.b p.b e s.b in
        runs_b (λ r. AreSame r (after_steps rest (after_step_at B one q)))
        (station_calls one.call q.b.link) (calls_of_steps rest (after_step_at B one q)) p
        (λ r g k. more r
        (record {
          b = subst (λ y. IsSameEnd y (after_step one q.b)) (sym g) u;
          a = subst (λ y. IsSameEnd y q.a) (sym k) s.a;
        }) later)

-- ---- each is started as often as its link

starts_if : (b : Bool) (c : Call) → starts_by c ≡ 0 → starts_in (cond b (c ∷ []) []) ≡ 0
starts_if true c e = omega (arith, e)
starts_if false c e = refl

call_starts : (c : LinkCall) (d : LinkView) → starts_in (station_calls c d) ≡ starts_in_call c
call_starts Starts d = refl
call_starts BeginsAnew d = refl
call_starts Halts d = refl
call_starts (Wakes now) d =
    let due = deadline_at d.milliseconds now d.station.core.station.timer d.deadline in
    starts_if (is_on (core_after_take_arm d.station.core).station.timer && is_due now due)
    Expire refl
call_starts (Offers message) d = refl
call_starts FillsOne d = starts_if (polls d) Poll refl
call_starts (IsSent n) d = refl
call_starts (Feeds used) d = refl
call_starts Takes d = refl

starts_a : (steps : List (End × LinkStep)) (q : Links)
    → starts_in (calls_at A (calls_of_steps steps q)) ≡ link_starts A steps
unfolding calls_of_steps calls_at link_starts
starts_a [] q = refl
starts_a (step ∷ rest) q = by step.0 step.1 (starts_a rest (after_step_at step.0 step.1 q))
  where
    by : (end : End) (one : LinkStep)
        → starts_in (calls_at A (calls_of_steps rest (after_step_at end one q)))
        ≡ link_starts A rest
        → starts_in
        (calls_at A
        (at_one end (station_calls one.call (link_at end q).link)
        ++ calls_of_steps rest (after_step_at end one q)))
        ≡ count_if A end (starts_in_call one.call) + link_starts A rest
    by A one e =
        let calls = station_calls one.call q.a.link in
        let more = calls_at A (calls_of_steps rest (after_step_at A one q)) in
        let f = call_starts one.call q.a.link in
        let g = sum_by-append starts_by calls more in
        ap starts_in (own_a calls (calls_of_steps rest (after_step_at A one q)))
        ∙ omega (arith, e, f, g)
    by B one e =
        ap starts_in
        (other_a (station_calls one.call q.b.link) (calls_of_steps rest (after_step_at B one q)))
        ∙ omega (arith, e)

starts_b : (steps : List (End × LinkStep)) (q : Links)
    → starts_in (calls_at B (calls_of_steps steps q)) ≡ link_starts B steps
unfolding calls_of_steps calls_at link_starts
starts_b [] q = refl
starts_b (step ∷ rest) q = by step.0 step.1 (starts_b rest (after_step_at step.0 step.1 q))
  where
    by : (end : End) (one : LinkStep)
        → starts_in (calls_at B (calls_of_steps rest (after_step_at end one q)))
        ≡ link_starts B rest
        → starts_in
        (calls_at B
        (at_one end (station_calls one.call (link_at end q).link)
        ++ calls_of_steps rest (after_step_at end one q)))
        ≡ count_if B end (starts_in_call one.call) + link_starts B rest
    by A one e =
        ap starts_in
        (other_b (station_calls one.call q.a.link) (calls_of_steps rest (after_step_at A one q)))
        ∙ omega (arith, e)
    by B one e =
        let calls = station_calls one.call q.b.link in
        let more = calls_at B (calls_of_steps rest (after_step_at B one q)) in
        let f = call_starts one.call q.b.link in
        let g = sum_by-append starts_by calls more in
        ap starts_in (own_b calls (calls_of_steps rest (after_step_at B one q)))
        ∙ omega (arith, e, f, g)

-- ---- from two new links

-- no message is left to be acknowledged
abbrev pub NoneOut : LinkHistory → Type 0
NoneOut h = length h.link.station.core.station.out ≡ 0

pub acknowledged_all : (x y : EndState) (h k : LinkHistory) → IsSameEnd x h → IsSameEnd y k
    → Delivers x y → IsAcknowledged x → NoneOut h → received k ≡ h.accepted
acknowledged_all x y h k s t d told e =
    let none : length x.core.station.out ≡ 0 =
    ap (λ (c : CoreView). length c.station.out) s.core ∙ e in
    sym
    (ap (λ ys. ys ++ y.core.station.inbox) t.taken
    ∙ ap (λ (c : CoreView). k.taken ++ c.station.inbox) t.core)
    ∙ all_up x y d (omega (arith, told, none)) ∙ s.given

pub counted_all : (x y : EndState) (h : LinkHistory) → IsSameEnd x h → Delivers x y
    → IsAcknowledged x → NoneOut h → h.acknowledged ≡ length h.accepted
counted_all x y h s d told e =
    let none : length x.core.station.out ≡ 0 =
    ap (λ (c : CoreView). length c.station.out) s.core ∙ e in
    let up = y.taken ++ y.core.station.inbox in
    let least = d.acknowledged in
    let all : length up + length d.order.0 ≡ length x.given =
    sym (length-append up d.order.0) ∙ ap length d.order.1 in
    let count = s.acknowledged in
    let given : length x.given ≡ length h.accepted = ap length s.given in
    omega (arith, told, none, least, all, count, given)

pub none_out : (h : LinkHistory) → delivered h.link ≡ true → NoneOut h
none_out h e = first_of_three (length h.link.station.core.station.out) _ _ e

pub reaches : (x y : EndState) (h k : LinkHistory) → IsSameEnd x h → IsSameEnd y k → Delivers x y
    → LinkReaches h k
reaches x y h k s t d =
    let up : y.taken ++ y.core.station.inbox ≡ k.taken ++ k.link.station.core.station.inbox =
    ap (λ ys. ys ++ y.core.station.inbox) t.taken ∙ ap (λ c. k.taken ++ c.station.inbox) t.core in
    record {
      order = (d.order.0, ap (λ ys. ys ++ d.order.0) (sym up) ∙ d.order.1 ∙ s.given);
      acknowledged =
          let e = ap length up in let f = s.acknowledged in let g = d.acknowledged in
          omega (arith, e, f, g);
    }

-- Of the messages that one accepted all but those that it keeps were taken from the other.
pub record AreTaken (giver taker : LinkHistory) : Type 0 where
  pub order : IsPrefixOf taker.taken giver.accepted
  pub few : length giver.accepted ≤ length taker.taken + length giver.link.station.core.station.out

pub are_taken : (x y : EndState) (h k : LinkHistory) → IsSameEnd x h → IsSameEnd y k
    → Delivers x y → IsAcknowledged x → x.acknowledged ≤ length y.taken → AreTaken h k
are_taken x y h k s t d told taken =
    let inbox = y.core.station.inbox in
    record {
      order = (
        inbox ++ d.order.0,
        ap (λ ms. ms ++ (inbox ++ d.order.0)) (sym t.taken)
            ∙ sym (append_assoc y.taken inbox d.order.0) ∙ d.order.1 ∙ s.given,
      );
      few =
          let given : length x.given ≡ length h.accepted = ap length s.given in
          let count : length y.taken ≡ length k.taken = ap length t.taken in
          let out : length x.core.station.out ≡ length h.link.station.core.station.out =
          ap (λ (c : CoreView). length c.station.out) s.core in
          omega (arith, told, taken, given, count, out);
    }

-- two stations and their links, of which neither has started
pub record IsStart (p : PairState) (q : Links) : Type 0 where
  pub same : AreSame p q
  pub holding : Holding p
  pub none_a : p.a.starts ≡ 0
  pub none_b : p.b.starts ≡ 0

module _ (start : PairState) (links : Links) (is : IsStart start links)
    (steps : List (End × LinkStep)) (o : AreLinkCalls steps links)
    (honest : (run_calls (calls_of_steps steps links) start).honest ≡ true)
    (once : AreStartedOnce steps) where
  abbrev calls : List (End × Call)
  calls = calls_of_steps steps links

  pub clean : is_clean (run_calls calls start) ≡ true
  clean =
      once_clean start is.holding.holds calls
      (let e = starts_a steps links in let h = once.at_a in let n = is.none_a in
      omega (arith, e, h, n))
      (let e = starts_b steps links in let h = once.at_b in let n = is.none_b in
      omega (arith, e, h, n)) honest

  pub ends : AreSame (run_calls calls start) (after_steps steps links)
  ends = steps_same steps links start is.same o

  both : DeliversBothWays (run_calls calls start)
  both = (in_order start is.holding.holds calls).where_clean honest clean

  pub reaches_b : LinkReaches (after_steps steps links).a (after_steps steps links).b
  reaches_b = reaches _ _ _ _ ends.a ends.b both.a_to_b

  pub reaches_a : LinkReaches (after_steps steps links).b (after_steps steps links).a
  reaches_a = reaches _ _ _ _ ends.b ends.a both.b_to_a

  pub acknowledged_to_b : NoneOut (after_steps steps links).a
      → received (after_steps steps links).b ≡ (after_steps steps links).a.accepted
  acknowledged_to_b =
      acknowledged_all _ _ _ _ ends.a ends.b both.a_to_b
      (acknowledged_calls start is.holding.holds calls honest clean).0

  pub acknowledged_to_a : NoneOut (after_steps steps links).b
      → received (after_steps steps links).a ≡ (after_steps steps links).b.accepted
  acknowledged_to_a =
      acknowledged_all _ _ _ _ ends.b ends.a both.b_to_a
      (acknowledged_calls start is.holding.holds calls honest clean).1

  pub taken_from_b : start.b.core.station.by_user ≡ true
      → AreTaken (after_steps steps links).a (after_steps steps links).b
  taken_from_b e =
      are_taken _ _ _ _ ends.a ends.b both.a_to_b
      (acknowledged_calls start is.holding.holds calls honest clean).0
      ((taken_calls start is.holding.holds calls honest clean).0
      (by_user_after B calls start ∙ e))

  pub taken_from_a : start.a.core.station.by_user ≡ true
      → AreTaken (after_steps steps links).b (after_steps steps links).a
  taken_from_a e =
      are_taken _ _ _ _ ends.b ends.a both.b_to_a
      (acknowledged_calls start is.holding.holds calls honest clean).1
      ((taken_calls start is.holding.holds calls honest clean).1
      (by_user_after A calls start ∙ e))

  pub all_acknowledged_a : NoneOut (after_steps steps links).a
      → (after_steps steps links).a.acknowledged ≡ length (after_steps steps links).a.accepted
  all_acknowledged_a =
      counted_all _ _ _ ends.a both.a_to_b
      (acknowledged_calls start is.holding.holds calls honest clean).0

  pub all_acknowledged_b : NoneOut (after_steps steps links).b
      → (after_steps steps links).b.acknowledged ≡ length (after_steps steps links).b.accepted
  all_acknowledged_b =
      counted_all _ _ _ ends.b both.b_to_a
      (acknowledged_calls start is.holding.holds calls honest clean).1

  pub all_to_b : delivered (after_steps steps links).a.link ≡ true
      → received (after_steps steps links).b ≡ (after_steps steps links).a.accepted
  all_to_b e = acknowledged_to_b (none_out (after_steps steps links).a e)

  pub all_to_a : delivered (after_steps steps links).b.link ≡ true
      → received (after_steps steps links).a ≡ (after_steps steps links).b.accepted
  all_to_a e = acknowledged_to_a (none_out (after_steps steps links).b e)

-- two new ones
pub new_start : (first second : Config) (ms other_ms : ℕ) (line other_line : ReaderView)
    → first_refusal first ≡ None → first_refusal second ≡ None
    → IsStart (new_pair first second) (new_links first ms line second other_ms other_line)
new_start first second ms other_ms line other_line f g = record {
  same = record { a = new_same first ms line; b = new_same second other_ms other_line };
  holding = new_holding first second f g;
  none_a = refl;
  none_b = refl;
}

-- what holds of links over honest lines
abbrev pub FromStart : (Links → Type 0) → Type 0
FromStart Promise = (start : PairState) (links : Links) → IsStart start links
    → (steps : List (End × LinkStep)) → AreLinkCalls steps links
    → (run_calls (calls_of_steps steps links) start).honest ≡ true → AreStartedOnce steps
    → Promise (after_steps steps links)

pub from_new : (Promise : Links → Type 0) → FromStart Promise → IsKeptOverHonestLines Promise
from_new Promise promise first second ms other_ms line other_line steps f g o honest once =
    promise (new_pair first second) (new_links first ms line second other_ms other_line)
    (new_start first second ms other_ms line other_line f g) steps o honest once

-- ---- a stream is an honest line

pub stream_calls : (steps : List (End × LinkStep)) (q : Links) → LinkOverStreams steps q
    → AreLinkCalls steps q
stream_calls [] q o = tt
stream_calls (step ∷ rest) q o =
    (o.0, stream_calls rest (after_step_at step.0 step.1 q) o.2)

-- over streams, from two sound stations whose links have moved no bytes
pub record IsFreshStart (p : PairState) (q : Links) : Type 0 where
  pub is : IsStart p q
  pub straight : IsStraight p
  pub to_a : Begins p.a.arrived (written p.b)
  pub to_b : Begins p.b.arrived (written p.a)

abbrev pub StreamsFrom : (Links → Type 0) → Type 0
StreamsFrom Promise = (start : PairState) (links : Links) → IsFreshStart start links
    → (steps : List (End × LinkStep)) → LinkOverStreams steps links → AreStartedOnce steps
    → Promise (after_steps steps links)

pub stream_honest : (start : PairState) (links : Links) → IsFreshStart start links
    → (steps : List (End × LinkStep)) → LinkOverStreams steps links
    → (run_calls (calls_of_steps steps links) start).honest ≡ true
stream_honest start links fresh steps o =
    streams_straight start fresh.straight (calls_of_steps steps links)
    (over_steps steps links start fresh.is.same
    (record { to_a = fresh.to_a; to_b = fresh.to_b }) o)

pub streams_from : (Promise : Links → Type 0) → FromStart Promise → StreamsFrom Promise
streams_from Promise promise start links fresh steps o once =
    promise start links fresh.is steps (stream_calls steps links o)
    (stream_honest start links fresh steps o) once

pub new_fresh : (first second : Config) (ms other_ms : ℕ) (line other_line : ReaderView)
    → first_refusal first ≡ None → first_refusal second ≡ None
    → IsFreshStart (new_pair first second) (new_links first ms line second other_ms other_line)
new_fresh first second ms other_ms line other_line f g = record {
  is = new_start first second ms other_ms line other_line f g;
  straight = record { a = well_new first f; b = well_new second g; honest = refl };
  to_a = (written (new_pair first second).b, refl);
  to_b = (written (new_pair first second).a, refl);
}

pub kept : (P : Links → Type 0) → FromStart P → IsKeptOverStreams P
kept P promise first second ms other_ms line other_line steps f g o once =
    streams_from P promise (new_pair first second)
    (new_links first ms line second other_ms other_line)
    (new_fresh first second ms other_ms line other_line f g) steps o once
