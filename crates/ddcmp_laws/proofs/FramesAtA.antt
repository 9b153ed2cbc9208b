-- Calls of A, of two sessions that are each connected at most once, over a line that may lose, cut
-- and damage what it carries: what each has received has no good frames but those that the other
-- has written.
use Rattle.std.proofs.Common.{◌≡◌, ◌∙◌, ap, sym, subst, ℕ}
use Rattle.std.proofs.Common.{true, false, List, [], ◌∷◌, ◌++◌, Some, None, arith}
use Rattle.ddcmp_frame.specs.Reading.{good_frames}
use Rattle.ddcmp_core.specs.Core.{CoreView}
use Rattle.ddcmp_core.specs.Table.{Limits}
use Rattle.ddcmp_proto.specs.Config.{first_refusal, limits_of}
use Rattle.ddcmp_proto.specs.StationCalls.{ClearsLine, Feeds as FeedsStation, Halts as HaltsStation}
use Rattle.ddcmp_proto.specs.StationCalls.{Starts as StartsStation}
use Rattle.ddcmp_proto.proofs.FeedLaws.{after_piece-limits}
use Rattle.ddcmp_io.specs.declared.carrier.End.TheVariants.{A}
use Rattle.ddcmp_pair.specs.Place.{IsSubsequence}
use Rattle.ddcmp_pair.specs.declared.event.Event.TheVariants as event
use Rattle.ddcmp_pair.specs.Run.{EndState, PairState, after_event, notices_at, run}
use Rattle.ddcmp_pair.proofs.Ordered.{none-at}
use Rattle.ddcmp_laws.proofs.FaithfulLaws.{IsStraight}
use Rattle.ddcmp_laws.specs.PairCalls.{Arrive}
use Rattle.ddcmp_laws.specs.Links.{BeginsAnew, Feeds, IsSameEnd, LinkStep}
use Rattle.ddcmp_laws.specs.LinkRestarts.{at_end}
use Rattle.ddcmp_laws.specs.StationRuns.{after_station_call, run_station_calls}
use Rattle.ddcmp_laws.proofs.LinkRestarts.{after_all_here, once-anew, step-same}
use Rattle.ddcmp_laws.proofs.PairCallLaws.{Quiet, both_clean, clean_same, honest_same, none_restart}
use Rattle.ddcmp_laws.proofs.PairCallLaws.{notices_same, one_same}
use Rattle.ddcmp_session.specs.Session.{SessionView, starts}
use Rattle.ddcmp_session.specs.Calls.{Closed, Connected, Delivered, Filled, InputEnded, LineEnded}
use Rattle.ddcmp_session.specs.Calls.{LineTook, OutputTook, Received, SessionCall, SessionStep}
use Rattle.ddcmp_session.specs.Calls.{TimePassed, TimedOut, InputRead}
use Rattle.ddcmp_session.specs.Connections.{after_step}
use Rattle.ddcmp_laws.specs.Connections.{Connections, after_step_at}
use Rattle.ddcmp_laws.specs.LastConnection.{StartsIf}
use Rattle.ddcmp_laws.specs.Pipe.{Made}
use Rattle.ddcmp_laws.specs.Sessions.{link_step, link_steps_of}
use Rattle.ddcmp_laws.proofs.Anew.{Rest, Follows, after_done, since}
use Rattle.ddcmp_laws.proofs.LastCalls.{AreCalmSteps, IsFinal, pair-after, steps-calm}
use Rattle.ddcmp_laws.proofs.LastCalls.{steps-kept}
use Rattle.ddcmp_laws.proofs.LastSteps.{calm-steps, sound-anew, starts-empty}
use Rattle.ddcmp_laws.proofs.NoisyReads.{among-more, none-good, straight-at-a}
use Rattle.ddcmp_laws.proofs.FrameSteps.{AreFrames, Inv, among-sent, heard-none}

module _ (first second : Made) (call : SessionCall) (new : SessionView)
    (c : Connections) (p : PairState) (j k : Rest)
    (inv : Inv first second c p j k)
    (f : Follows first (link_steps_of call c.a.history.session new.link) c.a j
    (after_step (record { call = call; session = new }) c.a)) where
  abbrev one-sa : SessionStep
  one-sa = record { call = call; session = new }

  abbrev xs-sa : List LinkStep
  xs-sa = link_steps_of call c.a.history.session new.link

  abbrev q-sa : PairState
  q-sa = pair-after A xs-sa (since first c.a j) p

  pub calm-frames-a : AreCalmSteps xs-sa
      → Inv first second (after_step_at A one-sa c) q-sa f.1.0 k
  calm-frames-a calm =
      let m = steps-calm A xs-sa (since first c.a j) p calm f.0 inv.same.a in
      record {
        same = record {
          a = subst (IsSameEnd q-sa.a) f.1.1 m.same;
          b = subst (λ y. IsSameEnd y (since second c.b k)) (sym m.rest) inv.same.b;
        };
        kept = steps-kept A xs-sa (since first c.a j) p inv.kept;
        limits_a = m.leaves.limits ∙ inv.limits_a;
        limits_b = ap (λ (x : EndState). x.core.limits) m.rest ∙ inv.limits_b;
        final_a = m.leaves.final inv.final_a;
        final_b = subst IsFinal (sym m.rest) inv.final_b;
        honest = m.honest ∙ inv.honest;
      }

module _ (first second : Made) (used : List ℕ) (new : SessionView)
    (c : Connections) (p : PairState) (j k : Rest)
    (inv : Inv first second c p j k)
    (f : Follows first (link_step (Feeds used) new.link ∷ []) c.a j
    (after_step (record { call = Received used; session = new }) c.a))
    (over : AreFrames first second
    (after_step_at A (record { call = Received used; session = new }) c)) where
  abbrev one-fa : SessionStep
  one-fa = record { call = Received used; session = new }

  abbrev next-fa : Connections
  next-fa = after_step_at A one-fa c

  abbrev q-fa : PairState
  q-fa = after_station_call A (FeedsStation used) p

  end-fa : IsSameEnd q-fa.a (since first next-fa.a f.1.0)
  unfolding after_done after_all_here
  end-fa =
      subst (IsSameEnd q-fa.a) f.1.1
      (step-same (Feeds used) new.link (since first c.a j) p.a f.0.0 inv.same.a)

  among-fa : IsSubsequence (good_frames p.a.core.limits.longest (p.a.arrived ++ used)) p.b.sent
  among-fa =
      subst (λ (l : Limits). IsSubsequence (good_frames l.longest (p.a.arrived ++ used)) p.b.sent)
      (sym inv.limits_a)
      (subst
      (λ t. IsSubsequence (good_frames first.options.config.max t) p.b.sent) (sym end-fa.arrived)
      (among-more (good_frames first.options.config.max next-fa.a.history.used)
      (good_frames first.options.config.max c.b.history.gone) p.b.sent over.to_a
      (among-sent (limits_of first.options.config) p.b (since second c.b k) inv.same.b
      inv.final_b)))

  straight-fa : IsStraight q-fa
  unfolding after_event
  straight-fa =
      straight-at-a used p among-fa
      (record { a = inv.final_a.well; b = inv.final_b.well; honest = inv.honest })

  quiet-fa : Quiet (notices_at used p.a)
  unfolding run after_event
  quiet-fa =
      let kp = inv.kept in
      let same-after = one_same A (Arrive used) p kp.pair kp.same in
      subst Quiet (sym (notices_same p kp.pair A used kp.same))
      (none-at (Some A) (event.Arrive A used) kp.pair kp.keeps.holds
      (sym (clean_same p kp.pair kp.same)
      ∙ both_clean p.a.starts p.b.starts inv.final_a.once inv.final_b.once)
      (sym (honest_same q-fa (run (event.Arrive A used ∷ []) kp.pair) same-after)
      ∙ straight-fa.honest))

  fed-fa : IsFinal q-fa.a
  fed-fa = record {
    well = straight-fa.a;
    once =
        let z = none_restart (notices_at used p.a) quiet-fa in let h = inv.final_a.once in
        omega (arith, z, h);
  }

  pub fed-frames-a : Inv first second next-fa
      (pair-after A (link_step (Feeds used) new.link ∷ []) (since first c.a j) p) f.1.0 k
  unfolding pair-after run_station_calls
  fed-frames-a = record {
    same = record { a = end-fa; b = inv.same.b };
    kept = steps-kept A (link_step (Feeds used) new.link ∷ []) (since first c.a j) p inv.kept;
    limits_a = after_piece-limits p.a.arrived used p.a.core ∙ inv.limits_a;
    limits_b = inv.limits_b;
    final_a = fed-fa;
    final_b = inv.final_b;
    honest = straight-fa.honest;
  }

module _ (first second : Made) (new : SessionView)
    (c : Connections) (p : PairState) (j k : Rest)
    (inv : Inv first second c p j k)
    (f : Follows first (link_step BeginsAnew new.link ∷ []) c.a j
    (after_step (record { call = Connected; session = new }) c.a))
    (over : AreFrames first second
    (after_step_at A (record { call = Connected; session = new }) c))
    (in_range : first_refusal first.options.config ≡ None)
    (ready : starts c.a.history.session ≡ true) where
  abbrev one-ba : SessionStep
  one-ba = record { call = Connected; session = new }

  abbrev next-ba : Connections
  next-ba = after_step_at A one-ba c

  abbrev q-ba : PairState
  q-ba = run_station_calls (at_end A (HaltsStation ∷ ClearsLine ∷ StartsStation ∷ [])) p

  end-ba : IsSameEnd q-ba.a (since first next-ba.a f.1.0)
  unfolding after_done after_all_here run_station_calls
  end-ba =
      subst (IsSameEnd q-ba.a) f.1.1
      (step-same BeginsAnew new.link (since first c.a j) p.a f.0.0 inv.same.a)

  begun-ba : IsFinal q-ba.a
  unfolding run_station_calls
  begun-ba =
      let empty : p.a.core.station.inbox ≡ [] =
      ap (λ (v : CoreView). v.station.inbox) inv.same.a.core
      ∙ starts-empty c.a.history.session ready in
      record {
        well = record {
          sound = sound-anew first p.a in_range inv.limits_a empty;
          sent = tt;
        };
        once = let e = once-anew p.a empty in omega (arith, e);
      }

  pub begun-frames-a : Inv first second next-ba
      (pair-after A (link_step BeginsAnew new.link ∷ []) (since first c.a j) p) f.1.0 k
  unfolding pair-after run_station_calls
  begun-frames-a = record {
    same = record { a = end-ba; b = inv.same.b };
    kept = steps-kept A (link_step BeginsAnew new.link ∷ []) (since first c.a j) p inv.kept;
    limits_a = inv.limits_a;
    limits_b = inv.limits_b;
    final_a = begun-ba;
    final_b = inv.final_b;
    honest =
        heard-none p.b second.options.config c.b.history.used inv.limits_b inv.same.b.arrived
        (none-good second.options.config.max c.b.history.used over.to_b);
  }

pub frames-a : (first second : Made) (call : SessionCall) (new : SessionView)
    (c : Connections) (p : PairState) (j k : Rest)
    → Inv first second c p j k
    → (f : Follows first (link_steps_of call c.a.history.session new.link) c.a j
    (after_step (record { call = call; session = new }) c.a))
    → AreFrames first second (after_step_at A (record { call = call; session = new }) c)
    → first_refusal first.options.config ≡ None
    → StartsIf call c.a.history.session
    → Inv first second (after_step_at A (record { call = call; session = new }) c)
    (pair-after A (link_steps_of call c.a.history.session new.link) (since first c.a j) p) f.1.0 k
frames-a first second Connected new c p j k inv f over in_range ready =
    begun-frames-a first second new c p j k inv f over in_range ready
frames-a first second (Received used) new c p j k inv f over in_range ready =
    fed-frames-a first second used new c p j k inv f over
frames-a first second (InputRead used) new c p j k inv f over in_range ready =
    calm-frames-a first second (InputRead used) new c p j k inv f
    (calm-steps (InputRead used) tt c.a.history.session new.link)
frames-a first second InputEnded new c p j k inv f over in_range ready =
    calm-frames-a first second InputEnded new c p j k inv f
    (calm-steps InputEnded tt c.a.history.session new.link)
frames-a first second (LineEnded how r) new c p j k inv f over in_range ready =
    calm-frames-a first second (LineEnded how r) new c p j k inv f
    (calm-steps (LineEnded how r) tt c.a.history.session new.link)
frames-a first second (Filled n) new c p j k inv f over in_range ready =
    calm-frames-a first second (Filled n) new c p j k inv f
    (calm-steps (Filled n) tt c.a.history.session new.link)
frames-a first second (LineTook n) new c p j k inv f over in_range ready =
    calm-frames-a first second (LineTook n) new c p j k inv f
    (calm-steps (LineTook n) tt c.a.history.session new.link)
frames-a first second (TimedOut now) new c p j k inv f over in_range ready =
    calm-frames-a first second (TimedOut now) new c p j k inv f
    (calm-steps (TimedOut now) tt c.a.history.session new.link)
frames-a first second TimePassed new c p j k inv f over in_range ready =
    calm-frames-a first second TimePassed new c p j k inv f
    (calm-steps TimePassed tt c.a.history.session new.link)
frames-a first second (Delivered true) new c p j k inv f over in_range ready =
    calm-frames-a first second (Delivered true) new c p j k inv f
    (calm-steps (Delivered true) tt c.a.history.session new.link)
frames-a first second (Delivered false) new c p j k inv f over in_range ready =
    calm-frames-a first second (Delivered false) new c p j k inv f
    (calm-steps (Delivered false) tt c.a.history.session new.link)
frames-a first second (OutputTook n) new c p j k inv f over in_range ready =
    calm-frames-a first second (OutputTook n) new c p j k inv f
    (calm-steps (OutputTook n) tt c.a.history.session new.link)
frames-a first second (Closed left over' r) new c p j k inv f over in_range ready =
    calm-frames-a first second (Closed left over' r) new c p j k inv f
    (calm-steps (Closed left over' r) tt c.a.history.session new.link)
