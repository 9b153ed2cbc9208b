-- Calls of B over one connection after the other: as those of A.
use Rattle.std.proofs.Common.{◌≡◌, ◌∙◌, ◌⊎◌, inl, inr, ap, sym, subst, refl, ℕ}
use Rattle.std.proofs.Common.{true, false, List, [], ◌∷◌, Some, None, arith}
use Rattle.ddcmp_core.specs.Core.{CoreView}
use Rattle.ddcmp_proto.specs.Config.{first_refusal}
use Rattle.ddcmp_proto.specs.StationCalls.{ClearsLine, Feeds as FeedsStation, Halts as HaltsStation}
use Rattle.ddcmp_proto.specs.StationCalls.{Starts as StartsStation}
use Rattle.ddcmp_proto.proofs.FeedLaws.{after_piece-limits}
use Rattle.ddcmp_io.specs.declared.carrier.End.{End}
use Rattle.ddcmp_io.specs.declared.carrier.End.TheVariants.{A, B}
use Rattle.ddcmp_pair.specs.declared.event.Event.TheVariants as event
use Rattle.ddcmp_pair.specs.Run.{EndState, PairState, after_arrival_here, after_event, notices_at}
use Rattle.ddcmp_pair.specs.Run.{run}
use Rattle.ddcmp_pair.proofs.Ordered.{none-at}
use Rattle.ddcmp_laws.specs.Faithful.{IsFaithful}
use Rattle.ddcmp_laws.proofs.FaithfulLaws.{IsStraight, straight_event}
use Rattle.ddcmp_laws.specs.PairCalls.{Arrive}
use Rattle.ddcmp_laws.specs.Links.{BeginsAnew, Feeds, IsSameEnd, LinkStep}
use Rattle.ddcmp_laws.specs.LinkRestarts.{at_end}
use Rattle.ddcmp_laws.specs.StationRuns.{after_station_call, run_station_calls}
use Rattle.ddcmp_laws.proofs.LinkRestarts.{after_all_here, once-anew, step-same}
use Rattle.ddcmp_laws.proofs.PairCallLaws.{Quiet, both_clean, clean_same, honest_same, none_restart}
use Rattle.ddcmp_laws.proofs.PairCallLaws.{notices_same, one_same}
use Rattle.ddcmp_session.specs.Session.{SessionView, starts}
use Rattle.ddcmp_session.specs.Calls.{Closed, Connected, Delivered, Filled, InputEnded, LineEnded}
use Rattle.ddcmp_session.specs.Calls.{LineTook, OutputTook, Received, SessionCall, SessionStep}
use Rattle.ddcmp_session.specs.Calls.{TimePassed, TimedOut, InputRead, used_in}
use Rattle.ddcmp_session.specs.Connections.{Connection, after_step}
use Rattle.ddcmp_laws.specs.Connections.{Connections, after_step_at}
use Rattle.ddcmp_laws.specs.LastConnection.{EndOverStreams, StartsIf}
use Rattle.ddcmp_laws.specs.Pipe.{Made, connects, connects_in_call}
use Rattle.ddcmp_laws.specs.Sessions.{link_step, link_steps_of}
use Rattle.ddcmp_laws.proofs.Anew.{Rest, Follows, after_done, since}
use Rattle.ddcmp_laws.proofs.LastCalls.{AreCalmSteps, IsFinal, pair-after, steps-calm}
use Rattle.ddcmp_laws.proofs.LastCalls.{steps-kept}
use Rattle.ddcmp_laws.proofs.LastSteps.{Inv, after-same, arrive-none, back-none, calm-steps}
use Rattle.ddcmp_laws.proofs.LastSteps.{front-none, gone-anew, none-heard, reads, sound-anew}
use Rattle.ddcmp_laws.proofs.LastSteps.{starts-empty, zero-or}

quiet-b : (steps : List (End × SessionStep)) (c : Connections) → connects B steps ≡ 0
    → (connects A steps ≡ 0 → ⊥) → EndOverStreams steps c → c.b.history.used ≡ []
unfolding connects
quiet-b [] c e n over = absurd (n refl)
quiet-b ((A, one) ∷ rest) c e n over =
    by (zero-or (connects A rest))
    (λ m. quiet-b rest (after_step_at A one c) (omega (arith, e)) m over.1)
  where
    by : (connects A rest ≡ 0) ⊎ (connects A rest ≡ 0 → ⊥)
        → ((connects A rest ≡ 0 → ⊥) → c.b.history.used ≡ []) → c.b.history.used ≡ []
    by (inl f) more =
        let s = over.0 f (omega (arith, e)) in
        front-none c.b.history.used s.to_b.0
        (s.to_b.1
        ∙ gone-anew one.call one.session c.a (λ z. n (omega (arith, z, f))))
    by (inr m) more = more m
quiet-b ((B, one) ∷ rest) c e n over =
    let z : connects_in_call one.call ≡ 0 = omega (arith, e) in
    front-none c.b.history.used (used_in one.call)
    (sym (ap (λ (x : Connection). x.history.used) (after-same one.call one.session c.b z))
    ∙ quiet-b rest (after_step_at B one c) (omega (arith, e)) (λ f. n (omega (arith, f))) over.1)

module _ (first second : Made) (call : SessionCall) (new : SessionView)
    (rest : List (End × SessionStep)) (c : Connections) (p : PairState) (j k : Rest)
    (inv : Inv first second ((B, record { call = call; session = new }) ∷ rest) c p j k)
    (f : Follows second (link_steps_of call c.b.history.session new.link) c.b k
    (after_step (record { call = call; session = new }) c.b)) where
  abbrev one-sb : SessionStep
  one-sb = record { call = call; session = new }

  abbrev xs-sb : List LinkStep
  xs-sb = link_steps_of call c.b.history.session new.link

  abbrev q-sb : PairState
  q-sb = pair-after B xs-sb (since second c.b k) p

  abbrev Next-sb : Type 0
  Next-sb = Inv first second rest (after_step_at B one-sb c) q-sb j f.1.0

  pub calm-next-b : connects_in_call call ≡ 0 → AreCalmSteps xs-sb → Next-sb
  unfolding connects
  calm-next-b none calm =
      let m = steps-calm B xs-sb (since second c.b k) p calm f.0 inv.same.b in
      record {
        same = record {
          b = subst (IsSameEnd q-sb.b) f.1.1 m.same;
          a = subst (λ y. IsSameEnd y (since first c.a j)) (sym m.rest) inv.same.a;
        };
        kept = steps-kept B xs-sb (since second c.b k) p inv.kept;
        limits_b = m.leaves.limits ∙ inv.limits_b;
        limits_a = ap (λ (x : EndState). x.core.limits) m.rest ∙ inv.limits_a;
        final_b = λ e. m.leaves.final (inv.final_b (omega (arith, none, e)));
        final_a = λ e. subst IsFinal (sym m.rest) (inv.final_a (omega (arith, e)));
        honest = λ e d. m.honest ∙ inv.honest (omega (arith, e)) (omega (arith, none, d));
      }

module _ (first second : Made) (used : List ℕ) (new : SessionView)
    (rest : List (End × SessionStep)) (c : Connections) (p : PairState) (j k : Rest)
    (inv : Inv first second ((B, record { call = Received used; session = new }) ∷ rest) c p j k)
    (f : Follows second (link_step (Feeds used) new.link ∷ []) c.b k
    (after_step (record { call = Received used; session = new }) c.b))
    (over : EndOverStreams ((B, record { call = Received used; session = new }) ∷ rest) c) where
  abbrev one-fb : SessionStep
  one-fb = record { call = Received used; session = new }

  abbrev next-fb : Connections
  next-fb = after_step_at B one-fb c

  abbrev q-fb : PairState
  q-fb = after_station_call B (FeedsStation used) p

  end-fb : IsSameEnd q-fb.b (since second next-fb.b f.1.0)
  unfolding after_done after_all_here
  end-fb =
      subst (IsSameEnd q-fb.b) f.1.1
      (step-same (Feeds used) new.link (since second c.b k) p.b f.0.0 inv.same.b)

  module _ (d : connects B rest ≡ 0) (e : connects A rest ≡ 0) where
    own-fb : IsFinal p.b
    unfolding connects
    own-fb = inv.final_b (omega (arith, d))

    theirs-fb : IsFinal p.a
    unfolding connects
    theirs-fb = inv.final_a (omega (arith, e))

    was-fb : p.honest ≡ true
    unfolding connects
    was-fb = inv.honest (omega (arith, e)) (omega (arith, d))

    faithful-fb : IsFaithful q-fb
    faithful-fb =
        let s = over.0 e d in
        record {
          to_b =
              reads q-fb.b p.a (since second next-fb.b f.1.0) (since first c.a j)
              end-fb inv.same.a s.to_b;
          to_a =
              reads p.a q-fb.b (since first c.a j) (since second next-fb.b f.1.0)
              inv.same.a end-fb s.to_a;
        }

    straight-fb : IsStraight q-fb
    unfolding after_event
    straight-fb =
        straight_event (event.Arrive B used) p faithful-fb
        (record { b = own-fb.well; a = theirs-fb.well; honest = was-fb })

    quiet-fb : Quiet (notices_at used p.b)
    unfolding run after_event
    quiet-fb =
        let kp = inv.kept in
        let same-after = one_same B (Arrive used) p kp.pair kp.same in
        subst Quiet (sym (notices_same p kp.pair B used kp.same))
        (none-at (Some B) (event.Arrive B used) kp.pair kp.keeps.holds
        (sym (clean_same p kp.pair kp.same)
        ∙ both_clean p.a.starts p.b.starts theirs-fb.once own-fb.once)
        (sym (honest_same q-fb (run (event.Arrive B used ∷ []) kp.pair) same-after)
        ∙ straight-fb.honest))

    fed-fb : IsFinal q-fb.b
    fed-fb = record {
      well = straight-fb.b;
      once =
          let z = none_restart (notices_at used p.b) quiet-fb in let h = own-fb.once in
          omega (arith, z, h);
    }

  fed-none-fb : connects B rest ≡ 0 → (connects A rest ≡ 0 → ⊥) → IsFinal q-fb.b
  unfolding connects
  fed-none-fb d n =
      let none : used ≡ [] =
      back-none c.b.history.used used (quiet-b rest next-fb d n over.1) in
      subst (λ u. IsFinal (after_arrival_here u p.b)) (sym none)
      (arrive-none p.b (inv.final_b (omega (arith, d))))

  pub fed-next-b : Inv first second rest next-fb
      (pair-after B (link_step (Feeds used) new.link ∷ []) (since second c.b k) p) j f.1.0
  unfolding pair-after run_station_calls connects
  fed-next-b = record {
    same = record { b = end-fb; a = inv.same.a };
    kept = steps-kept B (link_step (Feeds used) new.link ∷ []) (since second c.b k) p inv.kept;
    limits_b = after_piece-limits p.b.arrived used p.b.core ∙ inv.limits_b;
    limits_a = inv.limits_a;
    final_b = λ d. final d (zero-or (connects A rest));
    final_a = λ e. inv.final_a (omega (arith, e));
    honest = λ e d. (straight-fb d e).honest;
  }
    where
      final : connects B rest ≡ 0 → (connects A rest ≡ 0) ⊎ (connects A rest ≡ 0 → ⊥)
          → IsFinal q-fb.b
      final d (inl e) = fed-fb d e
      final d (inr n) = fed-none-fb d n

module _ (first second : Made) (new : SessionView)
    (rest : List (End × SessionStep)) (c : Connections) (p : PairState) (j k : Rest)
    (inv : Inv first second ((B, record { call = Connected; session = new }) ∷ rest) c p j k)
    (f : Follows second (link_step BeginsAnew new.link ∷ []) c.b k
    (after_step (record { call = Connected; session = new }) c.b))
    (over : EndOverStreams ((B, record { call = Connected; session = new }) ∷ rest) c)
    (in_range : first_refusal second.options.config ≡ None)
    (ready : connects B rest ≡ 0 → starts c.b.history.session ≡ true) where
  abbrev one-bb : SessionStep
  one-bb = record { call = Connected; session = new }

  abbrev next-bb : Connections
  next-bb = after_step_at B one-bb c

  abbrev q-bb : PairState
  q-bb = run_station_calls (at_end B (HaltsStation ∷ ClearsLine ∷ StartsStation ∷ [])) p

  end-bb : IsSameEnd q-bb.b (since second next-bb.b f.1.0)
  unfolding after_done after_all_here run_station_calls
  end-bb =
      subst (IsSameEnd q-bb.b) f.1.1
      (step-same BeginsAnew new.link (since second c.b k) p.b f.0.0 inv.same.b)

  begun-bb : connects B rest ≡ 0 → IsFinal q-bb.b
  unfolding run_station_calls
  begun-bb d =
      let empty : p.b.core.station.inbox ≡ [] =
      ap (λ (v : CoreView). v.station.inbox) inv.same.b.core
      ∙ starts-empty c.b.history.session (ready d) in
      record {
        well = record {
          sound = sound-anew second p.b in_range inv.limits_b empty;
          sent = tt;
        };
        once = let e = once-anew p.b empty in omega (arith, e);
      }

  pub begun-next-b : Inv first second rest next-bb
      (pair-after B (link_step BeginsAnew new.link ∷ []) (since second c.b k) p) j f.1.0
  unfolding pair-after run_station_calls connects
  begun-next-b = record {
    same = record { b = end-bb; a = inv.same.a };
    kept = steps-kept B (link_step BeginsAnew new.link ∷ []) (since second c.b k) p inv.kept;
    limits_b = inv.limits_b;
    limits_a = inv.limits_a;
    final_b = begun-bb;
    final_a = λ e. inv.final_a (omega (arith, e));
    honest = λ e d.
        none-heard p.a
        (inv.same.a.arrived ∙ front-none c.a.history.used (over.0 e d).to_a.0 (over.0 e d).to_a.1);
  }

pub step-b : (first second : Made) (call : SessionCall) (new : SessionView)
    (rest : List (End × SessionStep)) (c : Connections) (p : PairState) (j k : Rest)
    → Inv first second ((B, record { call = call; session = new }) ∷ rest) c p j k
    → (f : Follows second (link_steps_of call c.b.history.session new.link) c.b k
    (after_step (record { call = call; session = new }) c.b))
    → EndOverStreams ((B, record { call = call; session = new }) ∷ rest) c
    → first_refusal second.options.config ≡ None
    → (connects B rest ≡ 0 → StartsIf call c.b.history.session)
    → Inv first second rest (after_step_at B (record { call = call; session = new }) c)
    (pair-after B (link_steps_of call c.b.history.session new.link) (since second c.b k) p) j f.1.0
step-b first second Connected new rest c p j k inv f over in_range ready =
    begun-next-b first second new rest c p j k inv f over in_range ready
step-b first second (Received used) new rest c p j k inv f over in_range ready =
    fed-next-b first second used new rest c p j k inv f over
step-b first second (InputRead used) new rest c p j k inv f over in_range ready =
    calm-next-b first second (InputRead used) new rest c p j k inv f refl
    (calm-steps (InputRead used) tt c.b.history.session new.link)
step-b first second InputEnded new rest c p j k inv f over in_range ready =
    calm-next-b first second InputEnded new rest c p j k inv f refl
    (calm-steps InputEnded tt c.b.history.session new.link)
step-b first second (LineEnded how r) new rest c p j k inv f over in_range ready =
    calm-next-b first second (LineEnded how r) new rest c p j k inv f refl
    (calm-steps (LineEnded how r) tt c.b.history.session new.link)
step-b first second (Filled n) new rest c p j k inv f over in_range ready =
    calm-next-b first second (Filled n) new rest c p j k inv f refl
    (calm-steps (Filled n) tt c.b.history.session new.link)
step-b first second (LineTook n) new rest c p j k inv f over in_range ready =
    calm-next-b first second (LineTook n) new rest c p j k inv f refl
    (calm-steps (LineTook n) tt c.b.history.session new.link)
step-b first second (TimedOut now) new rest c p j k inv f over in_range ready =
    calm-next-b first second (TimedOut now) new rest c p j k inv f refl
    (calm-steps (TimedOut now) tt c.b.history.session new.link)
step-b first second TimePassed new rest c p j k inv f over in_range ready =
    calm-next-b first second TimePassed new rest c p j k inv f refl
    (calm-steps TimePassed tt c.b.history.session new.link)
step-b first second (Delivered true) new rest c p j k inv f over in_range ready =
    calm-next-b first second (Delivered true) new rest c p j k inv f refl
    (calm-steps (Delivered true) tt c.b.history.session new.link)
step-b first second (Delivered false) new rest c p j k inv f over in_range ready =
    calm-next-b first second (Delivered false) new rest c p j k inv f refl
    (calm-steps (Delivered false) tt c.b.history.session new.link)
step-b first second (OutputTook n) new rest c p j k inv f over in_range ready =
    calm-next-b first second (OutputTook n) new rest c p j k inv f refl
    (calm-steps (OutputTook n) tt c.b.history.session new.link)
step-b first second (Closed left over' r) new rest c p j k inv f over in_range ready =
    calm-next-b first second (Closed left over' r) new rest c p j k inv f refl
    (calm-steps (Closed left over' r) tt c.b.history.session new.link)
