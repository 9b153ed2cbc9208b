-- Two links over lines that lose nothing are a line that loses nothing.
use Rattle.std.proofs.Common.{◌≡◌, ℕ, Bool, true, false, cond, List, [], ◌∷◌, ◌++◌, length, take}
use Rattle.std.proofs.Common.{drop, refl, sym, ◌∙◌, ap, subst, arith, append_assoc, append-nil}
use Rattle.std.proofs.Common.{Option}
use Rattle.std.proofs.Common.{Some, None}
use Rattle.std.specs.Prelude.{option_map, ◌&&◌, nat_le, ◌≤◌}
use Rattle.ddcmp_core.specs.declared.state.Timer.{Timer}
use Rattle.ddcmp_core.specs.declared.state.Timer.TheVariants.{On}
use Rattle.ddcmp_core.specs.Table.{is_fresh}
use Rattle.std.proofs.lemmas.List.{take-append-drop}
use Rattle.ddcmp_frame.specs.Reader.{ReaderView}
use Rattle.ddcmp_core.specs.Core.{CoreView}
use Rattle.ddcmp_core.specs.Table.{Frame, next, next_frame, is_on, may_send}
use Rattle.ddcmp_core.specs.Table.{after_accept}
use Rattle.ddcmp_proto.specs.Bytes.{frame_on_line}
use Rattle.ddcmp_proto.specs.Config.{first_refusal}
use Rattle.ddcmp_proto.specs.declared.config.Config.{Config}
use Rattle.ddcmp_station.specs.Driving.{deadline_at, is_due, core_after_take_arm}
use Rattle.ddcmp_station.specs.Linking.{LinkView, OutboxView, frame_of_link, polls}
use Rattle.ddcmp_station.specs.Driving.{frame_bytes}
use Rattle.ddcmp_station.specs.Linking.{after_polled, with_state, total_plus}
use Rattle.ddcmp_io.specs.declared.carrier.End.{End}
use Rattle.ddcmp_io.specs.declared.carrier.End.TheVariants.{A, B}
use Rattle.ddcmp_pair.specs.declared.event.Event.{Event}
use Rattle.ddcmp_pair.specs.Pairs.{IsRun}
use Rattle.ddcmp_pair.specs.Recovery.{IsDone}
use Rattle.ddcmp_pair.specs.Run.{EndState, PairState, line_bytes, run, new_pair}
use Rattle.ddcmp_pair.proofs.Runs.{run-append}
use Rattle.ddcmp_laws.specs.LossFree.{Line, bytes_or_none, ComesFirst}
use Rattle.ddcmp_laws.specs.LossFree.{IsLossFree, run_on_line, IsWhole}
use Rattle.ddcmp_laws.specs.Rests.{IsUnderWay}
use Rattle.ddcmp_laws.specs.Sweeps.{IsRecoveryBySweeps}
use Rattle.ddcmp_laws.proofs.InStep.{loss-append, line-append}
use Rattle.ddcmp_laws.proofs.SweepRounds.{deliver, run-pair}
use Rattle.ddcmp_laws.specs.PairCalls.{Call, Poll, Expire, Arm, after_arm_here, run_calls, noted}
use Rattle.ddcmp_laws.specs.PairCalls.{events_of, events_in}
use Rattle.ddcmp_laws.specs.Links.{LinkCall, Starts, BeginsAnew, Halts, Wakes, Offers, FillsOne}
use Rattle.ddcmp_laws.specs.Links.{IsSent, Feeds, Takes, station_calls, HasDone, LinkHistory}
use Rattle.ddcmp_laws.specs.Links.{LinkStep, IsSameEnd, Links, link_at, after_step_at}
use Rattle.ddcmp_laws.specs.Links.{after_steps, new_links}
use Rattle.ddcmp_laws.specs.LinkLines.{AreLinkCalls, calls_of_steps}
use Rattle.ddcmp_laws.specs.LinkSweeps.{LinkLine, after_on_links, run_on_links, UsesTheFirst}
use Rattle.ddcmp_laws.specs.LinkSweeps.{LinksLoseNothing, events_of_steps, line_of, LinksAreDone}
use Rattle.ddcmp_laws.proofs.PairCallLaws.{run_same}
use Rattle.ddcmp_laws.proofs.Stations.{frame_armed}
use Rattle.ddcmp_laws.proofs.InTurn.{at_one}
use Rattle.ddcmp_laws.proofs.LinkCalls.{new_same}
use Rattle.ddcmp_laws.proofs.TwoLinks.{AreSame, steps_same}
use Rattle.ddcmp_laws.proofs.Sleeping.{delivered_same, delivered_links}

-- ---- lists

pub events-append : (a b : List (End × Call)) → events_in (a ++ b) ≡ events_in a ++ events_in b
unfolding events_in
events-append [] b = refl
events-append (c ∷ a) b =
    ap (λ es. events_of c.0 c.1 ++ es) (events-append a b)
    ∙ sym (append_assoc (events_of c.0 c.1) (events_in a) (events_in b))

drop-front : (xs ys zs : List ℕ)
    → drop (length xs) ((xs ++ ys) ++ zs) ≡ drop (length xs) (xs ++ ys) ++ zs
drop-front [] ys zs = refl
drop-front (x ∷ xs) ys zs = drop-front xs ys zs

-- ---- a pair and two links that are the same, but that one may know of a started timer

record Tied (q : PairState) (links : Links) : Type 0 where
  p : PairState
  same : AreSame p links
  noted_same : noted p ≡ noted q

module _ (x y : EndState) (h : LinkHistory) (s : IsSameEnd x h)
    (e : after_arm_here x ≡ after_arm_here y) where
  frame-is : next_frame (next y.core.station) ≡ frame_of_link h.link
  frame-is =
      frame_armed y.core.station
      ∙ sym (ap (λ (z : EndState). next_frame (next z.core.station)) e)
      ∙ sym (frame_armed x.core.station)
      ∙ ap (λ (c : CoreView). next_frame (next c.station)) s.core

  syn-is : y.syn ≡ h.link.station.syn
  syn-is = sym (ap (λ (z : EndState). z.syn) e) ∙ s.syn

  put : (f : Option Frame)
      → bytes_or_none (option_map (frame_on_line h.link.station.syn) f)
      ≡ frame_bytes h.link.station.syn f
  put None = refl
  put (Some f) = refl

  bytes-are : bytes_or_none (line_bytes y) ≡ frame_bytes h.link.station.syn (frame_of_link h.link)
  bytes-are =
      ap (λ n. bytes_or_none (option_map (frame_on_line n) (next_frame (next y.core.station))))
      syn-is
      ∙ ap (λ f. bytes_or_none (option_map (frame_on_line h.link.station.syn) f)) frame-is
      ∙ put (frame_of_link h.link)

-- ---- what waits in an outbox

waits : LinkView → List ℕ
waits d = d.outbox.waiting

abbrev offer_made : LinkView → List ℕ → Bool → LinkView
offer_made d m b =
    cond b (record (with_state (after_accept d.station.core.station m) d)
    { totals = record d.totals { sent = total_plus d.totals.sent 1 } }) d

offered-waits : (d : LinkView) (m : List ℕ) (b : Bool) → (offer_made d m b).outbox ≡ d.outbox
offered-waits d m true = refl
offered-waits d m false = refl

-- ways stay, but for what an outbox gives the line
record Ways (l m : Line) : Type 0 where
  to_a : l.to_a ≡ m.to_a
  to_b : l.to_b ≡ m.to_b

-- by these events nothing is lost, and then so many bytes are in flight
record Does (events : List Event) (l m : Line) : Type 0 where
  loss_free : IsLossFree events l
  ways : Ways (run_on_line events l) m

unmoved : (way waiting : List ℕ) (old new : OutboxView) → new ≡ old → old.waiting ≡ waiting
    → way ++ waiting ≡ (way ++ []) ++ new.waiting
unmoved way waiting old new e f =
    ap (λ xs. way ++ xs) (sym f ∙ sym (ap (λ (o : OutboxView). o.waiting) e))
    ∙ ap (λ xs. xs ++ new.waiting) (sym (append-nil way))

moved : (n : ℕ) (way waiting : List ℕ) → way ++ waiting ≡ (way ++ take n waiting) ++ drop n waiting
moved n way waiting =
    ap (λ xs. way ++ xs) (sym (take-append-drop n waiting))
    ∙ sym (append_assoc way (take n waiting) (drop n waiting))

put-behind : (way waiting bytes put : List ℕ) → bytes ≡ put
    → (way ++ waiting) ++ bytes ≡ (way ++ []) ++ (waiting ++ put)
put-behind way waiting bytes put e =
    append_assoc way waiting bytes ∙ ap (λ xs. way ++ (waiting ++ xs)) e
    ∙ ap (λ xs. xs ++ (waiting ++ put)) (sym (append-nil way))

comes-first : (used way waiting : List ℕ) → ComesFirst used way → ComesFirst used (way ++ waiting)
comes-first used way waiting c =
    (c.0 ++ waiting, sym (append_assoc used c.0 waiting) ∙ ap (λ xs. xs ++ waiting) c.1)

fed : (used way waiting : List ℕ) → ComesFirst used way
    → drop (length used) (way ++ waiting) ≡ drop (length used) way ++ waiting
fed used way waiting c =
    ap (λ xs. drop (length used) (xs ++ waiting)) (sym c.1)
    ∙ drop-front used c.0 waiting
    ∙ ap (λ xs. drop (length used) xs ++ waiting) c.1

-- ---- a call of A

module _ (q : PairState) (l : LinkLine) (t : Tied q l.links) where
  abbrev Call_a : LinkCall → LinkView → Type 0
  Call_a c new =
      Does (events_in (at_one A (station_calls c l.links.a.link))) (line_of q l)
      (line_of q (after_on_links A (record { call = c; link = new }) l))

  call-a : (c : LinkCall) (new : LinkView) → HasDone c l.links.a.used l.links.a.link new
      → UsesTheFirst A c l → Call_a c new
  unfolding events_in run_on_line
  call-a Starts new e u =
      record {
        loss_free = (tt, tt);
        ways = record {
          to_a = refl;
          to_b = unmoved l.to_b _ l.links.a.link.outbox new.outbox
              (ap (λ (d : LinkView). d.outbox) e) refl;
        };
      }
  call-a BeginsAnew new e u =
      record {
        loss_free = (tt, (tt, tt));
        ways = record {
          to_a = refl;
          to_b = unmoved l.to_b _ (record { waiting = []; room = new.outbox.room }) new.outbox
              (ap (λ (d : LinkView). record { waiting = d.outbox.waiting; room = new.outbox.room })
              e.0) (sym e.2);
        };
      }
  call-a Halts new e u =
      record {
        loss_free = (tt, tt);
        ways = record {
          to_a = refl;
          to_b = unmoved l.to_b _ l.links.a.link.outbox new.outbox
              (ap (λ (d : LinkView). d.outbox) e) refl;
        };
      }
  call-a (Wakes now) new e u =
      by (is_on (core_after_take_arm d.station.core).station.timer
      && is_due now (deadline_at d.milliseconds now d.station.core.station.timer d.deadline))
    where
      d : LinkView
      d = l.links.a.link

      by : (b : Bool) → Does (events_in (at_one A (cond b (Expire ∷ []) []))) (line_of q l)
          (line_of q (after_on_links A (record { call = Wakes now; link = new }) l))
      by true =
          record {
            loss_free = (tt, tt);
            ways = record {
              to_a = refl;
              to_b = unmoved l.to_b _ l.links.a.link.outbox new.outbox
                  (ap (λ (d : LinkView). d.outbox) e) refl;
            };
          }
      by false =
          record {
            loss_free = tt;
            ways = record {
              to_a = refl;
              to_b = unmoved l.to_b _ l.links.a.link.outbox new.outbox
                  (ap (λ (d : LinkView). d.outbox) e) refl;
            };
          }
  call-a (Offers m) new e u =
      record {
        loss_free = (tt, tt);
        ways = record {
          to_a = refl;
          to_b = unmoved l.to_b _ l.links.a.link.outbox new.outbox
              (ap (λ (d : LinkView). d.outbox) e
              ∙ offered-waits l.links.a.link m
              (may_send l.links.a.link.station.core.limits l.links.a.link.station.core.station m))
              refl;
        };
      }
  call-a FillsOne new e u = by (polls l.links.a.link) (ap (λ (d : LinkView). d.outbox) e)
    where
      by : (b : Bool) → new.outbox ≡ (cond b (after_polled l.links.a.link) l.links.a.link).outbox
          → Does (events_in (at_one A (cond b (Poll ∷ []) []))) (line_of q l)
          (line_of q (after_on_links A (record { call = FillsOne; link = new }) l))
      by true f =
          record {
            loss_free = (tt, tt);
            ways = record {
              to_a = refl;
              to_b =
                  put-behind l.to_b l.links.a.link.outbox.waiting (bytes_or_none (line_bytes q.a)) _
                  (bytes-are t.p.a q.a l.links.a t.same.a
                  (ap (λ (r : PairState). r.a) t.noted_same))
                  ∙ ap (λ (o : OutboxView). (l.to_b ++ []) ++ o.waiting) (sym f);
            };
          }
      by false f =
          record {
            loss_free = tt;
            ways = record {
              to_a = refl;
              to_b = unmoved l.to_b _ l.links.a.link.outbox new.outbox f refl;
            };
          }
  call-a (IsSent n) new e u =
      record {
        loss_free = tt;
        ways = record {
          to_a = refl;
          to_b =
              moved n l.to_b l.links.a.link.outbox.waiting
              ∙ ap
              (λ (d : LinkView).
              (l.to_b ++ take n l.links.a.link.outbox.waiting) ++ d.outbox.waiting)
              (sym e);
        };
      }
  call-a (Feeds used) new e u =
      record {
        loss_free = (comes-first used l.to_a l.links.b.link.outbox.waiting u, tt);
        ways = record {
          to_a = fed used l.to_a l.links.b.link.outbox.waiting u;
          to_b = unmoved l.to_b _ l.links.a.link.outbox new.outbox
              (ap (λ (d : LinkView). d.outbox) e.stays) refl;
        };
      }
  call-a Takes new e u =
      record {
        loss_free = (tt, tt);
        ways = record {
          to_a = refl;
          to_b = unmoved l.to_b _ l.links.a.link.outbox new.outbox
              (ap (λ (d : LinkView). d.outbox) e) refl;
        };
      }

-- ---- a call of B

module _ (q : PairState) (l : LinkLine) (t : Tied q l.links) where
  abbrev Call_b : LinkCall → LinkView → Type 0
  Call_b c new =
      Does (events_in (at_one B (station_calls c l.links.b.link))) (line_of q l)
      (line_of q (after_on_links B (record { call = c; link = new }) l))

  call-b : (c : LinkCall) (new : LinkView) → HasDone c l.links.b.used l.links.b.link new
      → UsesTheFirst B c l → Call_b c new
  unfolding events_in run_on_line
  call-b Starts new e u =
      record {
        loss_free = (tt, tt);
        ways = record {
          to_b = refl;
          to_a = unmoved l.to_a _ l.links.b.link.outbox new.outbox
              (ap (λ (d : LinkView). d.outbox) e) refl;
        };
      }
  call-b BeginsAnew new e u =
      record {
        loss_free = (tt, (tt, tt));
        ways = record {
          to_b = refl;
          to_a = unmoved l.to_a _ (record { waiting = []; room = new.outbox.room }) new.outbox
              (ap (λ (d : LinkView). record { waiting = d.outbox.waiting; room = new.outbox.room })
              e.0) (sym e.2);
        };
      }
  call-b Halts new e u =
      record {
        loss_free = (tt, tt);
        ways = record {
          to_b = refl;
          to_a = unmoved l.to_a _ l.links.b.link.outbox new.outbox
              (ap (λ (d : LinkView). d.outbox) e) refl;
        };
      }
  call-b (Wakes now) new e u =
      by (is_on (core_after_take_arm d.station.core).station.timer
      && is_due now (deadline_at d.milliseconds now d.station.core.station.timer d.deadline))
    where
      d : LinkView
      d = l.links.b.link

      by : (b : Bool) → Does (events_in (at_one B (cond b (Expire ∷ []) []))) (line_of q l)
          (line_of q (after_on_links B (record { call = Wakes now; link = new }) l))
      by true =
          record {
            loss_free = (tt, tt);
            ways = record {
              to_b = refl;
              to_a = unmoved l.to_a _ l.links.b.link.outbox new.outbox
                  (ap (λ (d : LinkView). d.outbox) e) refl;
            };
          }
      by false =
          record {
            loss_free = tt;
            ways = record {
              to_b = refl;
              to_a = unmoved l.to_a _ l.links.b.link.outbox new.outbox
                  (ap (λ (d : LinkView). d.outbox) e) refl;
            };
          }
  call-b (Offers m) new e u =
      record {
        loss_free = (tt, tt);
        ways = record {
          to_b = refl;
          to_a = unmoved l.to_a _ l.links.b.link.outbox new.outbox
              (ap (λ (d : LinkView). d.outbox) e
              ∙ offered-waits l.links.b.link m
              (may_send l.links.b.link.station.core.limits l.links.b.link.station.core.station m))
              refl;
        };
      }
  call-b FillsOne new e u = by (polls l.links.b.link) (ap (λ (d : LinkView). d.outbox) e)
    where
      by : (b : Bool) → new.outbox ≡ (cond b (after_polled l.links.b.link) l.links.b.link).outbox
          → Does (events_in (at_one B (cond b (Poll ∷ []) []))) (line_of q l)
          (line_of q (after_on_links B (record { call = FillsOne; link = new }) l))
      by true f =
          record {
            loss_free = (tt, tt);
            ways = record {
              to_b = refl;
              to_a =
                  put-behind l.to_a l.links.b.link.outbox.waiting (bytes_or_none (line_bytes q.b)) _
                  (bytes-are t.p.b q.b l.links.b t.same.b
                  (ap (λ (r : PairState). r.b) t.noted_same))
                  ∙ ap (λ (o : OutboxView). (l.to_a ++ []) ++ o.waiting) (sym f);
            };
          }
      by false f =
          record {
            loss_free = tt;
            ways = record {
              to_b = refl;
              to_a = unmoved l.to_a _ l.links.b.link.outbox new.outbox f refl;
            };
          }
  call-b (IsSent n) new e u =
      record {
        loss_free = tt;
        ways = record {
          to_b = refl;
          to_a =
              moved n l.to_a l.links.b.link.outbox.waiting
              ∙ ap
              (λ (d : LinkView).
              (l.to_a ++ take n l.links.b.link.outbox.waiting) ++ d.outbox.waiting)
              (sym e);
        };
      }
  call-b (Feeds used) new e u =
      record {
        loss_free = (comes-first used l.to_b l.links.a.link.outbox.waiting u, tt);
        ways = record {
          to_b = fed used l.to_b l.links.a.link.outbox.waiting u;
          to_a = unmoved l.to_a _ l.links.b.link.outbox new.outbox
              (ap (λ (d : LinkView). d.outbox) e.stays) refl;
        };
      }
  call-b Takes new e u =
      record {
        loss_free = (tt, tt);
        ways = record {
          to_b = refl;
          to_a = unmoved l.to_a _ l.links.b.link.outbox new.outbox
              (ap (λ (d : LinkView). d.outbox) e) refl;
        };
      }

-- ---- any calls

at-end : (q : PairState) (l : LinkLine) → Tied q l.links → (end : End) (one : LinkStep)
    → HasDone one.call (link_at end l.links).used (link_at end l.links).link one.link
    → UsesTheFirst end one.call l
    → Does (events_in (at_one end (station_calls one.call (link_at end l.links).link)))
    (line_of q l)
    (line_of q (after_on_links end one l))
at-end q l t A one e u = call-a q l t one.call one.link e u
at-end q l t B one e u = call-b q l t one.call one.link e u

links-on : (end : End) (one : LinkStep) (l : LinkLine)
    → (after_on_links end one l).links ≡ after_step_at end one l.links
links-on A one l = refl
links-on B one l = refl

line-is : (n : Line) (q : PairState) (l : LinkLine) → n.pair ≡ q → n.to_a ≡ (line_of q l).to_a
    → n.to_b ≡ (line_of q l).to_b → n ≡ line_of q l
line-is n q l e f g = λ i. record { pair = e i; to_a = f i; to_b = g i }

-- a pair and links after a step stay tied
ties : (end : End) (one : LinkStep) (q : PairState) (links : Links) → Tied q links
    → HasDone one.call (link_at end links).used (link_at end links).link one.link
    → Tied (run (events_in (at_one end (station_calls one.call (link_at end links).link))) q)
    (after_step_at end one links)
unfolding after_steps calls_of_steps
ties end one q links t e =
    let calls = at_one end (station_calls one.call (link_at end links).link) in
    let s = steps_same ((end, one) ∷ []) links t.p t.same (e, tt) in
    record {
      p = run_calls calls t.p;
      same =
          subst (λ cs. AreSame (run_calls cs t.p) (after_step_at end one links))
          (append-nil calls) s;
      noted_same = run_same calls t.p q t.noted_same;
    }

record Follows (steps : List (End × LinkStep)) (q : PairState) (l : LinkLine) : Type 0 where
  loss_free : IsLossFree (events_of_steps steps l.links) (line_of q l)
  leads : run_on_line (events_of_steps steps l.links) (line_of q l)
      ≡ line_of (run (events_of_steps steps l.links) q) (run_on_links steps l)

follows : (steps : List (End × LinkStep)) (q : PairState) (l : LinkLine) → Tied q l.links
    → LinksLoseNothing steps l → Follows steps q l
unfolding calls_of_steps events_in run_on_line run_on_links run
follows [] q l t n = record { loss_free = tt; leads = refl }
follows (step ∷ rest) q l t n = by (follows rest q' m tied n.2)
  where
    calls : List (End × Call)
    calls = at_one step.0 (station_calls step.1.call (link_at step.0 l.links).link)

    q' : PairState
    q' = run (events_in calls) q

    m : LinkLine
    m = after_on_links step.0 step.1 l

    tied : Tied q' m.links
    tied =
        subst (λ (k : Links). Tied q' k) (sym (links-on step.0 step.1 l))
        (ties step.0 step.1 q l.links t n.0)

    does : Does (events_in calls) (line_of q l) (line_of q m)
    does = at-end q l t step.0 step.1 n.0 n.1

    here : run_on_line (events_in calls) (line_of q l) ≡ line_of q' m
    here =
        line-is (run_on_line (events_in calls) (line_of q l)) q' m
        (run-pair (events_in calls) (line_of q l)) does.ways.to_a does.ways.to_b

    more : List (End × Call)
    more = calls_of_steps rest (after_step_at step.0 step.1 l.links)

    same : events_of_steps rest m.links ≡ events_in more
    same = ap (λ (k : Links). events_of_steps rest k) (links-on step.0 step.1 l)

    parts : events_in (calls ++ more) ≡ events_in calls ++ events_of_steps rest m.links
    parts = events-append calls more ∙ ap (λ es. events_in calls ++ es) (sym same)

    by : Follows rest q' m → Follows (step ∷ rest) q l
    by f = record {
      loss_free =
          subst (λ es. IsLossFree es (line_of q l)) (sym parts)
          (loss-append (events_in calls) (events_of_steps rest m.links) (line_of q l) does.loss_free
          (subst (λ (k : Line). IsLossFree (events_of_steps rest m.links) k) (sym here)
          f.loss_free));
      leads =
          ap (λ es. run_on_line es (line_of q l)) parts
          ∙ line-append (events_in calls) (events_of_steps rest m.links) (line_of q l)
          ∙ ap (λ (k : Line). run_on_line (events_of_steps rest m.links) k) here
          ∙ f.leads
          ∙ ap (λ (r : PairState). line_of r (run_on_links rest m))
          (sym (run-append (events_in calls) (events_of_steps rest m.links) q)
          ∙ ap (λ es. run es q) (sym parts));
    }

calls-of : (steps : List (End × LinkStep)) (l : LinkLine) → LinksLoseNothing steps l
    → AreLinkCalls steps l.links
calls-of [] l n = tt
calls-of (step ∷ rest) l n = (
  n.0,
  subst (λ (k : Links). AreLinkCalls rest k) (links-on step.0 step.1 l)
      (calls-of rest (after_on_links step.0 step.1 l) n.2),
)

-- ---- from two new links

module _ (first second : Config) (ms other_ms : ℕ) (line other_line : ReaderView)
    (before : List (End × LinkStep)) (to_a to_b : List ℕ) (f : first_refusal first ≡ None)
    (g : first_refusal second ≡ None)
    (o : AreLinkCalls before (new_links first ms line second other_ms other_line)) where
  abbrev begun : Links
  begun = new_links first ms line second other_ms other_line

  abbrev q : PairState
  q = run (events_of_steps before begun) (new_pair first second)

  abbrev l : LinkLine
  l = record { links = after_steps before begun; to_a = to_a; to_b = to_b }

  tied-so-far : Tied q l.links
  tied-so-far =
      record {
        p = run_calls (calls_of_steps before begun) (new_pair first second);
        same =
            steps_same before begun (new_pair first second)
            (record { a = new_same first ms line; b = new_same second other_ms other_line }) o;
        noted_same =
            run_same (calls_of_steps before begun) (new_pair first second) (new_pair first second)
            refl;
      }

  is_run : IsRun q
  is_run = record {
    first = first;
    second = second;
    first_made = f;
    second_made = g;
    events = events_of_steps before begun;
    leads = refl;
  }

  pub loss-free : (steps : List (End × LinkStep)) → LinksLoseNothing steps l
      → IsLossFree (events_of_steps steps l.links) (line_of q l)
  loss-free steps n = (follows steps q l tied-so-far n).loss_free

  pub leads : (steps : List (End × LinkStep)) → LinksLoseNothing steps l
      → run_on_line (events_of_steps steps l.links) (line_of q l)
      ≡ line_of (run (events_of_steps steps l.links) q) (run_on_links steps l)
  leads steps n = (follows steps q l tied-so-far n).leads

  pub recover : IsWhole (line_of q l) → IsUnderWay (line_of q l)
      → (steps : List (End × LinkStep)) → LinksLoseNothing steps l
      → IsRecoveryBySweeps (events_of_steps steps l.links) (line_of q l)
      → LinksAreDone (after_steps steps l.links)
  recover h u steps n z =
      let t = tied-so-far in
      let es = events_of_steps steps l.links in
      let calls = calls_of_steps steps l.links in
      let links = after_steps steps l.links in
      let p = run_calls calls t.p in
      let r = run es q in
      let s = steps_same steps l.links t.p t.same (calls-of steps l n) in
      let e = run_same calls t.p q t.noted_same in
      let d : IsDone r =
      subst (λ (k : PairState). IsDone k) (run-pair es (line_of q l))
      (deliver es (line_of q l) is_run h u (loss-free steps n) z) in
      let a = ap (λ (k : PairState). k.a) e in
      let b = ap (λ (k : PairState). k.b) e in
      record {
        from_a =
            delivered_links p.a p.b links.a links.b s.a s.b
            (delivered_same p.a p.b r.a r.b a b d.from_a);
        from_b =
            delivered_links p.b p.a links.b links.a s.b s.a
            (delivered_same p.b p.a r.b r.a b a d.from_b);
      }

-- ---- a timer at its moment

pub woken : (d : LinkView) (moment now : ℕ) → d.station.core.station.timer ≡ On
    → d.deadline ≡ Some moment → moment ≤ now
    → station_calls (Wakes now) d ≡ Arm ∷ Expire ∷ []
woken d moment now t e n =
    by d.station.core.station.timer d.deadline t e
  where
    due : nat_le moment now ≡ true
    due = grind (arith, n)

    by : (u : Timer) (deadline : Option ℕ) → u ≡ On → deadline ≡ Some moment
        → Arm ∷ cond (is_on (cond (is_fresh u) On u)
        && is_due now (deadline_at d.milliseconds now u deadline)) (Expire ∷ []) []
        ≡ Arm ∷ Expire ∷ []
    by u deadline t e =
        ap (λ (v : Timer × Option ℕ). Arm ∷ cond (is_on (cond (is_fresh v.0) On v.0)
        && is_due now (deadline_at d.milliseconds now v.0 v.1)) (Expire ∷ []) [])
        (λ i. (t i, e i))
        ∙ ap (λ b. Arm ∷ cond b (Expire ∷ []) []) due
