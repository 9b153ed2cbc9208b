-- Calls of B, of two sessions that are each connected at most once, over a line that may lose, cut
-- and damage what it carries: what each has received has no good frames but those that the other
-- has written.
use Rattle.std.proofs.Common.{◌≡◌, ◌∙◌, ap, sym, subst, ℕ}
use Rattle.std.proofs.Common.{true, false, List, [], ◌∷◌, ◌++◌, Some, None, arith}
use Rattle.ddcmp_frame.specs.Reading.{good_frames}
use Rattle.ddcmp_core.specs.Core.{CoreView}
use Rattle.ddcmp_core.specs.Table.{Limits}
use Rattle.ddcmp_proto.specs.Config.{first_refusal, limits_of}
use Rattle.ddcmp_proto.specs.StationCalls.{ClearsLine, Feeds as FeedsStation, Halts as HaltsStation}
use Rattle.ddcmp_proto.specs.StationCalls.{Starts as StartsStation}
use Rattle.ddcmp_proto.proofs.FeedLaws.{after_piece-limits}
use Rattle.ddcmp_io.specs.declared.carrier.End.TheVariants.{B}
use Rattle.ddcmp_pair.specs.Place.{IsSubsequence}
use Rattle.ddcmp_pair.specs.declared.event.Event.TheVariants as event
use Rattle.ddcmp_pair.specs.Run.{EndState, PairState, after_event, notices_at, run}
use Rattle.ddcmp_pair.proofs.Ordered.{none-at}
use Rattle.ddcmp_laws.proofs.FaithfulLaws.{IsStraight}
use Rattle.ddcmp_laws.specs.PairCalls.{Arrive}
use Rattle.ddcmp_laws.specs.Links.{BeginsAnew, Feeds, IsSameEnd, LinkStep}
use Rattle.ddcmp_laws.specs.LinkRestarts.{at_end}
use Rattle.ddcmp_laws.specs.StationRuns.{after_station_call, run_station_calls}
use Rattle.ddcmp_laws.proofs.LinkRestarts.{after_all_here, once-anew, step-same}
use Rattle.ddcmp_laws.proofs.PairCallLaws.{Quiet, both_clean, clean_same, honest_same, none_restart}
use Rattle.ddcmp_laws.proofs.PairCallLaws.{notices_same, one_same}
use Rattle.ddcmp_session.specs.Session.{SessionView, starts}
use Rattle.ddcmp_session.specs.Calls.{Closed, Connected, Delivered, Filled, InputEnded, LineEnded}
use Rattle.ddcmp_session.specs.Calls.{LineTook, OutputTook, Received, SessionCall, SessionStep}
use Rattle.ddcmp_session.specs.Calls.{TimePassed, TimedOut, InputRead}
use Rattle.ddcmp_session.specs.Connections.{after_step}
use Rattle.ddcmp_laws.specs.Connections.{Connections, after_step_at}
use Rattle.ddcmp_laws.specs.LastConnection.{StartsIf}
use Rattle.ddcmp_laws.specs.Pipe.{Made}
use Rattle.ddcmp_laws.specs.Sessions.{link_step, link_steps_of}
use Rattle.ddcmp_laws.proofs.Anew.{Rest, Follows, after_done, since}
use Rattle.ddcmp_laws.proofs.LastCalls.{AreCalmSteps, IsFinal, pair-after, steps-calm}
use Rattle.ddcmp_laws.proofs.LastCalls.{steps-kept}
use Rattle.ddcmp_laws.proofs.LastSteps.{calm-steps, sound-anew, starts-empty}
use Rattle.ddcmp_laws.proofs.NoisyReads.{among-more, none-good, straight-at-b}
use Rattle.ddcmp_laws.proofs.FrameSteps.{AreFrames, Inv, among-sent, heard-none}

module _ (first second : Made) (call : SessionCall) (new : SessionView)
    (c : Connections) (p : PairState) (j k : Rest)
    (inv : Inv first second c p j k)
    (f : Follows second (link_steps_of call c.b.history.session new.link) c.b k
    (after_step (record { call = call; session = new }) c.b)) where
  abbrev one-sb : SessionStep
  one-sb = record { call = call; session = new }

  abbrev xs-sb : List LinkStep
  xs-sb = link_steps_of call c.b.history.session new.link

  abbrev q-sb : PairState
  q-sb = pair-after B xs-sb (since second c.b k) p

  pub calm-frames-b : AreCalmSteps xs-sb
      → Inv first second (after_step_at B one-sb c) q-sb j f.1.0
  calm-frames-b calm =
      let m = steps-calm B xs-sb (since second c.b k) p calm f.0 inv.same.b in
      record {
        same = record {
          b = subst (IsSameEnd q-sb.b) f.1.1 m.same;
          a = subst (λ y. IsSameEnd y (since first c.a j)) (sym m.rest) inv.same.a;
        };
        kept = steps-kept B xs-sb (since second c.b k) p inv.kept;
        limits_b = m.leaves.limits ∙ inv.limits_b;
        limits_a = ap (λ (x : EndState). x.core.limits) m.rest ∙ inv.limits_a;
        final_b = m.leaves.final inv.final_b;
        final_a = subst IsFinal (sym m.rest) inv.final_a;
        honest = m.honest ∙ inv.honest;
      }

module _ (first second : Made) (used : List ℕ) (new : SessionView)
    (c : Connections) (p : PairState) (j k : Rest)
    (inv : Inv first second c p j k)
    (f : Follows second (link_step (Feeds used) new.link ∷ []) c.b k
    (after_step (record { call = Received used; session = new }) c.b))
    (over : AreFrames first second
    (after_step_at B (record { call = Received used; session = new }) c)) where
  abbrev one-fb : SessionStep
  one-fb = record { call = Received used; session = new }

  abbrev next-fb : Connections
  next-fb = after_step_at B one-fb c

  abbrev q-fb : PairState
  q-fb = after_station_call B (FeedsStation used) p

  end-fb : IsSameEnd q-fb.b (since second next-fb.b f.1.0)
  unfolding after_done after_all_here
  end-fb =
      subst (IsSameEnd q-fb.b) f.1.1
      (step-same (Feeds used) new.link (since second c.b k) p.b f.0.0 inv.same.b)

  among-fb : IsSubsequence (good_frames p.b.core.limits.longest (p.b.arrived ++ used)) p.a.sent
  among-fb =
      subst (λ (l : Limits). IsSubsequence (good_frames l.longest (p.b.arrived ++ used)) p.a.sent)
      (sym inv.limits_b)
      (subst
      (λ t. IsSubsequence (good_frames second.options.config.max t) p.a.sent) (sym end-fb.arrived)
      (among-more (good_frames second.options.config.max next-fb.b.history.used)
      (good_frames second.options.config.max c.a.history.gone) p.a.sent over.to_b
      (among-sent (limits_of second.options.config) p.a (since first c.a j) inv.same.a
      inv.final_a)))

  straight-fb : IsStraight q-fb
  unfolding after_event
  straight-fb =
      straight-at-b used p among-fb
      (record { b = inv.final_b.well; a = inv.final_a.well; honest = inv.honest })

  quiet-fb : Quiet (notices_at used p.b)
  unfolding run after_event
  quiet-fb =
      let kp = inv.kept in
      let same-after = one_same B (Arrive used) p kp.pair kp.same in
      subst Quiet (sym (notices_same p kp.pair B used kp.same))
      (none-at (Some B) (event.Arrive B used) kp.pair kp.keeps.holds
      (sym (clean_same p kp.pair kp.same)
      ∙ both_clean p.a.starts p.b.starts inv.final_a.once inv.final_b.once)
      (sym (honest_same q-fb (run (event.Arrive B used ∷ []) kp.pair) same-after)
      ∙ straight-fb.honest))

  fed-fb : IsFinal q-fb.b
  fed-fb = record {
    well = straight-fb.b;
    once =
        let z = none_restart (notices_at used p.b) quiet-fb in let h = inv.final_b.once in
        omega (arith, z, h);
  }

  pub fed-frames-b : Inv first second next-fb
      (pair-after B (link_step (Feeds used) new.link ∷ []) (since second c.b k) p) j f.1.0
  unfolding pair-after run_station_calls
  fed-frames-b = record {
    same = record { b = end-fb; a = inv.same.a };
    kept = steps-kept B (link_step (Feeds used) new.link ∷ []) (since second c.b k) p inv.kept;
    limits_b = after_piece-limits p.b.arrived used p.b.core ∙ inv.limits_b;
    limits_a = inv.limits_a;
    final_b = fed-fb;
    final_a = inv.final_a;
    honest = straight-fb.honest;
  }

module _ (first second : Made) (new : SessionView)
    (c : Connections) (p : PairState) (j k : Rest)
    (inv : Inv first second c p j k)
    (f : Follows second (link_step BeginsAnew new.link ∷ []) c.b k
    (after_step (record { call = Connected; session = new }) c.b))
    (over : AreFrames first second
    (after_step_at B (record { call = Connected; session = new }) c))
    (in_range : first_refusal second.options.config ≡ None)
    (ready : starts c.b.history.session ≡ true) where
  abbrev one-bb : SessionStep
  one-bb = record { call = Connected; session = new }

  abbrev next-bb : Connections
  next-bb = after_step_at B one-bb c

  abbrev q-bb : PairState
  q-bb = run_station_calls (at_end B (HaltsStation ∷ ClearsLine ∷ StartsStation ∷ [])) p

  end-bb : IsSameEnd q-bb.b (since second next-bb.b f.1.0)
  unfolding after_done after_all_here run_station_calls
  end-bb =
      subst (IsSameEnd q-bb.b) f.1.1
      (step-same BeginsAnew new.link (since second c.b k) p.b f.0.0 inv.same.b)

  begun-bb : IsFinal q-bb.b
  unfolding run_station_calls
  begun-bb =
      let empty : p.b.core.station.inbox ≡ [] =
      ap (λ (v : CoreView). v.station.inbox) inv.same.b.core
      ∙ starts-empty c.b.history.session ready in
      record {
        well = record {
          sound = sound-anew second p.b in_range inv.limits_b empty;
          sent = tt;
        };
        once = let e = once-anew p.b empty in omega (arith, e);
      }

  pub begun-frames-b : Inv first second next-bb
      (pair-after B (link_step BeginsAnew new.link ∷ []) (since second c.b k) p) j f.1.0
  unfolding pair-after run_station_calls
  begun-frames-b = record {
    same = record { b = end-bb; a = inv.same.a };
    kept = steps-kept B (link_step BeginsAnew new.link ∷ []) (since second c.b k) p inv.kept;
    limits_b = inv.limits_b;
    limits_a = inv.limits_a;
    final_b = begun-bb;
    final_a = inv.final_a;
    honest =
        heard-none p.a first.options.config c.a.history.used inv.limits_a inv.same.a.arrived
        (none-good first.options.config.max c.a.history.used over.to_a);
  }

pub frames-b : (first second : Made) (call : SessionCall) (new : SessionView)
    (c : Connections) (p : PairState) (j k : Rest)
    → Inv first second c p j k
    → (f : Follows second (link_steps_of call c.b.history.session new.link) c.b k
    (after_step (record { call = call; session = new }) c.b))
    → AreFrames first second (after_step_at B (record { call = call; session = new }) c)
    → first_refusal second.options.config ≡ None
    → StartsIf call c.b.history.session
    → Inv first second (after_step_at B (record { call = call; session = new }) c)
    (pair-after B (link_steps_of call c.b.history.session new.link) (since second c.b k) p) j f.1.0
frames-b first second Connected new c p j k inv f over in_range ready =
    begun-frames-b first second new c p j k inv f over in_range ready
frames-b first second (Received used) new c p j k inv f over in_range ready =
    fed-frames-b first second used new c p j k inv f over
frames-b first second (InputRead used) new c p j k inv f over in_range ready =
    calm-frames-b first second (InputRead used) new c p j k inv f
    (calm-steps (InputRead used) tt c.b.history.session new.link)
frames-b first second InputEnded new c p j k inv f over in_range ready =
    calm-frames-b first second InputEnded new c p j k inv f
    (calm-steps InputEnded tt c.b.history.session new.link)
frames-b first second (LineEnded how r) new c p j k inv f over in_range ready =
    calm-frames-b first second (LineEnded how r) new c p j k inv f
    (calm-steps (LineEnded how r) tt c.b.history.session new.link)
frames-b first second (Filled n) new c p j k inv f over in_range ready =
    calm-frames-b first second (Filled n) new c p j k inv f
    (calm-steps (Filled n) tt c.b.history.session new.link)
frames-b first second (LineTook n) new c p j k inv f over in_range ready =
    calm-frames-b first second (LineTook n) new c p j k inv f
    (calm-steps (LineTook n) tt c.b.history.session new.link)
frames-b first second (TimedOut now) new c p j k inv f over in_range ready =
    calm-frames-b first second (TimedOut now) new c p j k inv f
    (calm-steps (TimedOut now) tt c.b.history.session new.link)
frames-b first second TimePassed new c p j k inv f over in_range ready =
    calm-frames-b first second TimePassed new c p j k inv f
    (calm-steps TimePassed tt c.b.history.session new.link)
frames-b first second (Delivered true) new c p j k inv f over in_range ready =
    calm-frames-b first second (Delivered true) new c p j k inv f
    (calm-steps (Delivered true) tt c.b.history.session new.link)
frames-b first second (Delivered false) new c p j k inv f over in_range ready =
    calm-frames-b first second (Delivered false) new c p j k inv f
    (calm-steps (Delivered false) tt c.b.history.session new.link)
frames-b first second (OutputTook n) new c p j k inv f over in_range ready =
    calm-frames-b first second (OutputTook n) new c p j k inv f
    (calm-steps (OutputTook n) tt c.b.history.session new.link)
frames-b first second (Closed left over' r) new c p j k inv f over in_range ready =
    calm-frames-b first second (Closed left over' r) new c p j k inv f
    (calm-steps (Closed left over' r) tt c.b.history.session new.link)
