-- Calls of A over one connection after the other.
use Rattle.std.proofs.Common.{◌≡◌, ◌∙◌, ◌⊎◌, inl, inr, ap, sym, subst, refl, ℕ}
use Rattle.std.proofs.Common.{true, false, List, [], ◌∷◌, Some, None, arith}
use Rattle.ddcmp_core.specs.Core.{CoreView}
use Rattle.ddcmp_proto.specs.Config.{first_refusal}
use Rattle.ddcmp_proto.specs.StationCalls.{ClearsLine, Feeds as FeedsStation, Halts as HaltsStation}
use Rattle.ddcmp_proto.specs.StationCalls.{Starts as StartsStation}
use Rattle.ddcmp_proto.proofs.FeedLaws.{after_piece-limits}
use Rattle.ddcmp_io.specs.declared.carrier.End.{End}
use Rattle.ddcmp_io.specs.declared.carrier.End.TheVariants.{A, B}
use Rattle.ddcmp_pair.specs.declared.event.Event.TheVariants as event
use Rattle.ddcmp_pair.specs.Run.{EndState, PairState, after_arrival_here, after_event, notices_at}
use Rattle.ddcmp_pair.specs.Run.{run}
use Rattle.ddcmp_pair.proofs.Ordered.{none-at}
use Rattle.ddcmp_laws.specs.Faithful.{IsFaithful}
use Rattle.ddcmp_laws.proofs.FaithfulLaws.{IsStraight, straight_event}
use Rattle.ddcmp_laws.specs.PairCalls.{Arrive}
use Rattle.ddcmp_laws.specs.Links.{BeginsAnew, Feeds, IsSameEnd, LinkStep}
use Rattle.ddcmp_laws.specs.LinkRestarts.{at_end}
use Rattle.ddcmp_laws.specs.StationRuns.{after_station_call, run_station_calls}
use Rattle.ddcmp_laws.proofs.LinkRestarts.{after_all_here, once-anew, step-same}
use Rattle.ddcmp_laws.proofs.PairCallLaws.{Quiet, both_clean, clean_same, honest_same, none_restart}
use Rattle.ddcmp_laws.proofs.PairCallLaws.{notices_same, one_same}
use Rattle.ddcmp_session.specs.Session.{SessionView, starts}
use Rattle.ddcmp_session.specs.Calls.{Closed, Connected, Delivered, Filled, InputEnded, LineEnded}
use Rattle.ddcmp_session.specs.Calls.{LineTook, OutputTook, Received, SessionCall, SessionStep}
use Rattle.ddcmp_session.specs.Calls.{TimePassed, TimedOut, InputRead, used_in}
use Rattle.ddcmp_session.specs.Connections.{Connection, after_step}
use Rattle.ddcmp_laws.specs.Connections.{Connections, after_step_at}
use Rattle.ddcmp_laws.specs.LastConnection.{EndOverStreams, StartsIf}
use Rattle.ddcmp_laws.specs.Pipe.{Made, connects, connects_in_call}
use Rattle.ddcmp_laws.specs.Sessions.{link_step, link_steps_of}
use Rattle.ddcmp_laws.proofs.Anew.{Rest, Follows, after_done, since}
use Rattle.ddcmp_laws.proofs.LastCalls.{AreCalmSteps, IsFinal, pair-after, steps-calm}
use Rattle.ddcmp_laws.proofs.LastCalls.{steps-kept}
use Rattle.ddcmp_laws.proofs.LastSteps.{Inv, after-same, arrive-none, back-none, calm-steps}
use Rattle.ddcmp_laws.proofs.LastSteps.{front-none, gone-anew, none-heard, reads, sound-anew}
use Rattle.ddcmp_laws.proofs.LastSteps.{starts-empty, zero-or}

quiet-a : (steps : List (End × SessionStep)) (c : Connections) → connects A steps ≡ 0
    → (connects B steps ≡ 0 → ⊥) → EndOverStreams steps c → c.a.history.used ≡ []
unfolding connects
quiet-a [] c e n over = absurd (n refl)
quiet-a ((B, one) ∷ rest) c e n over =
    by (zero-or (connects B rest))
    (λ m. quiet-a rest (after_step_at B one c) (omega (arith, e)) m over.1)
  where
    by : (connects B rest ≡ 0) ⊎ (connects B rest ≡ 0 → ⊥)
        → ((connects B rest ≡ 0 → ⊥) → c.a.history.used ≡ []) → c.a.history.used ≡ []
    by (inl f) more =
        let s = over.0 (omega (arith, e)) f in
        front-none c.a.history.used s.to_a.0
        (s.to_a.1
        ∙ gone-anew one.call one.session c.b (λ z. n (omega (arith, z, f))))
    by (inr m) more = more m
quiet-a ((A, one) ∷ rest) c e n over =
    let z : connects_in_call one.call ≡ 0 = omega (arith, e) in
    front-none c.a.history.used (used_in one.call)
    (sym (ap (λ (x : Connection). x.history.used) (after-same one.call one.session c.a z))
    ∙ quiet-a rest (after_step_at A one c) (omega (arith, e)) (λ f. n (omega (arith, f))) over.1)

module _ (first second : Made) (call : SessionCall) (new : SessionView)
    (rest : List (End × SessionStep)) (c : Connections) (p : PairState) (j k : Rest)
    (inv : Inv first second ((A, record { call = call; session = new }) ∷ rest) c p j k)
    (f : Follows first (link_steps_of call c.a.history.session new.link) c.a j
    (after_step (record { call = call; session = new }) c.a)) where
  abbrev one-sa : SessionStep
  one-sa = record { call = call; session = new }

  abbrev xs-sa : List LinkStep
  xs-sa = link_steps_of call c.a.history.session new.link

  abbrev q-sa : PairState
  q-sa = pair-after A xs-sa (since first c.a j) p

  abbrev Next-sa : Type 0
  Next-sa = Inv first second rest (after_step_at A one-sa c) q-sa f.1.0 k

  pub calm-next-a : connects_in_call call ≡ 0 → AreCalmSteps xs-sa → Next-sa
  unfolding connects
  calm-next-a none calm =
      let m = steps-calm A xs-sa (since first c.a j) p calm f.0 inv.same.a in
      record {
        same = record {
          a = subst (IsSameEnd q-sa.a) f.1.1 m.same;
          b = subst (λ y. IsSameEnd y (since second c.b k)) (sym m.rest) inv.same.b;
        };
        kept = steps-kept A xs-sa (since first c.a j) p inv.kept;
        limits_a = m.leaves.limits ∙ inv.limits_a;
        limits_b = ap (λ (x : EndState). x.core.limits) m.rest ∙ inv.limits_b;
        final_a = λ e. m.leaves.final (inv.final_a (omega (arith, none, e)));
        final_b = λ e. subst IsFinal (sym m.rest) (inv.final_b (omega (arith, e)));
        honest = λ d e. m.honest ∙ inv.honest (omega (arith, none, d)) (omega (arith, e));
      }

module _ (first second : Made) (used : List ℕ) (new : SessionView)
    (rest : List (End × SessionStep)) (c : Connections) (p : PairState) (j k : Rest)
    (inv : Inv first second ((A, record { call = Received used; session = new }) ∷ rest) c p j k)
    (f : Follows first (link_step (Feeds used) new.link ∷ []) c.a j
    (after_step (record { call = Received used; session = new }) c.a))
    (over : EndOverStreams ((A, record { call = Received used; session = new }) ∷ rest) c) where
  abbrev one-fa : SessionStep
  one-fa = record { call = Received used; session = new }

  abbrev next-fa : Connections
  next-fa = after_step_at A one-fa c

  abbrev q-fa : PairState
  q-fa = after_station_call A (FeedsStation used) p

  end-fa : IsSameEnd q-fa.a (since first next-fa.a f.1.0)
  unfolding after_done after_all_here
  end-fa =
      subst (IsSameEnd q-fa.a) f.1.1
      (step-same (Feeds used) new.link (since first c.a j) p.a f.0.0 inv.same.a)

  module _ (d : connects A rest ≡ 0) (e : connects B rest ≡ 0) where
    own-fa : IsFinal p.a
    unfolding connects
    own-fa = inv.final_a (omega (arith, d))

    theirs-fa : IsFinal p.b
    unfolding connects
    theirs-fa = inv.final_b (omega (arith, e))

    was-fa : p.honest ≡ true
    unfolding connects
    was-fa = inv.honest (omega (arith, d)) (omega (arith, e))

    faithful-fa : IsFaithful q-fa
    faithful-fa =
        let s = over.0 d e in
        record {
          to_a =
              reads q-fa.a p.b (since first next-fa.a f.1.0) (since second c.b k)
              end-fa inv.same.b s.to_a;
          to_b =
              reads p.b q-fa.a (since second c.b k) (since first next-fa.a f.1.0)
              inv.same.b end-fa s.to_b;
        }

    straight-fa : IsStraight q-fa
    unfolding after_event
    straight-fa =
        straight_event (event.Arrive A used) p faithful-fa
        (record { a = own-fa.well; b = theirs-fa.well; honest = was-fa })

    quiet-fa : Quiet (notices_at used p.a)
    unfolding run after_event
    quiet-fa =
        let kp = inv.kept in
        let same-after = one_same A (Arrive used) p kp.pair kp.same in
        subst Quiet (sym (notices_same p kp.pair A used kp.same))
        (none-at (Some A) (event.Arrive A used) kp.pair kp.keeps.holds
        (sym (clean_same p kp.pair kp.same)
        ∙ both_clean p.a.starts p.b.starts own-fa.once theirs-fa.once)
        (sym (honest_same q-fa (run (event.Arrive A used ∷ []) kp.pair) same-after)
        ∙ straight-fa.honest))

    fed-fa : IsFinal q-fa.a
    fed-fa = record {
      well = straight-fa.a;
      once =
          let z = none_restart (notices_at used p.a) quiet-fa in let h = own-fa.once in
          omega (arith, z, h);
    }

  fed-none-fa : connects A rest ≡ 0 → (connects B rest ≡ 0 → ⊥) → IsFinal q-fa.a
  unfolding connects
  fed-none-fa d n =
      let none : used ≡ [] =
      back-none c.a.history.used used (quiet-a rest next-fa d n over.1) in
      subst (λ u. IsFinal (after_arrival_here u p.a)) (sym none)
      (arrive-none p.a (inv.final_a (omega (arith, d))))

  pub fed-next-a : Inv first second rest next-fa
      (pair-after A (link_step (Feeds used) new.link ∷ []) (since first c.a j) p) f.1.0 k
  unfolding pair-after run_station_calls connects
  fed-next-a = record {
    same = record { a = end-fa; b = inv.same.b };
    kept = steps-kept A (link_step (Feeds used) new.link ∷ []) (since first c.a j) p inv.kept;
    limits_a = after_piece-limits p.a.arrived used p.a.core ∙ inv.limits_a;
    limits_b = inv.limits_b;
    final_a = λ d. final d (zero-or (connects B rest));
    final_b = λ e. inv.final_b (omega (arith, e));
    honest = λ d e. (straight-fa d e).honest;
  }
    where
      final : connects A rest ≡ 0 → (connects B rest ≡ 0) ⊎ (connects B rest ≡ 0 → ⊥)
          → IsFinal q-fa.a
      final d (inl e) = fed-fa d e
      final d (inr n) = fed-none-fa d n

module _ (first second : Made) (new : SessionView)
    (rest : List (End × SessionStep)) (c : Connections) (p : PairState) (j k : Rest)
    (inv : Inv first second ((A, record { call = Connected; session = new }) ∷ rest) c p j k)
    (f : Follows first (link_step BeginsAnew new.link ∷ []) c.a j
    (after_step (record { call = Connected; session = new }) c.a))
    (over : EndOverStreams ((A, record { call = Connected; session = new }) ∷ rest) c)
    (in_range : first_refusal first.options.config ≡ None)
    (ready : connects A rest ≡ 0 → starts c.a.history.session ≡ true) where
  abbrev one-ba : SessionStep
  one-ba = record { call = Connected; session = new }

  abbrev next-ba : Connections
  next-ba = after_step_at A one-ba c

  abbrev q-ba : PairState
  q-ba = run_station_calls (at_end A (HaltsStation ∷ ClearsLine ∷ StartsStation ∷ [])) p

  end-ba : IsSameEnd q-ba.a (since first next-ba.a f.1.0)
  unfolding after_done after_all_here run_station_calls
  end-ba =
      subst (IsSameEnd q-ba.a) f.1.1
      (step-same BeginsAnew new.link (since first c.a j) p.a f.0.0 inv.same.a)

  begun-ba : connects A rest ≡ 0 → IsFinal q-ba.a
  unfolding run_station_calls
  begun-ba d =
      let empty : p.a.core.station.inbox ≡ [] =
      ap (λ (v : CoreView). v.station.inbox) inv.same.a.core
      ∙ starts-empty c.a.history.session (ready d) in
      record {
        well = record {
          sound = sound-anew first p.a in_range inv.limits_a empty;
          sent = tt;
        };
        once = let e = once-anew p.a empty in omega (arith, e);
      }

  pub begun-next-a : Inv first second rest next-ba
      (pair-after A (link_step BeginsAnew new.link ∷ []) (since first c.a j) p) f.1.0 k
  unfolding pair-after run_station_calls connects
  begun-next-a = record {
    same = record { a = end-ba; b = inv.same.b };
    kept = steps-kept A (link_step BeginsAnew new.link ∷ []) (since first c.a j) p inv.kept;
    limits_a = inv.limits_a;
    limits_b = inv.limits_b;
    final_a = begun-ba;
    final_b = λ e. inv.final_b (omega (arith, e));
    honest = λ d e.
        none-heard p.b
        (inv.same.b.arrived ∙ front-none c.b.history.used (over.0 d e).to_b.0 (over.0 d e).to_b.1);
  }

pub step-a : (first second : Made) (call : SessionCall) (new : SessionView)
    (rest : List (End × SessionStep)) (c : Connections) (p : PairState) (j k : Rest)
    → Inv first second ((A, record { call = call; session = new }) ∷ rest) c p j k
    → (f : Follows first (link_steps_of call c.a.history.session new.link) c.a j
    (after_step (record { call = call; session = new }) c.a))
    → EndOverStreams ((A, record { call = call; session = new }) ∷ rest) c
    → first_refusal first.options.config ≡ None
    → (connects A rest ≡ 0 → StartsIf call c.a.history.session)
    → Inv first second rest (after_step_at A (record { call = call; session = new }) c)
    (pair-after A (link_steps_of call c.a.history.session new.link) (since first c.a j) p) f.1.0 k
step-a first second Connected new rest c p j k inv f over in_range ready =
    begun-next-a first second new rest c p j k inv f over in_range ready
step-a first second (Received used) new rest c p j k inv f over in_range ready =
    fed-next-a first second used new rest c p j k inv f over
step-a first second (InputRead used) new rest c p j k inv f over in_range ready =
    calm-next-a first second (InputRead used) new rest c p j k inv f refl
    (calm-steps (InputRead used) tt c.a.history.session new.link)
step-a first second InputEnded new rest c p j k inv f over in_range ready =
    calm-next-a first second InputEnded new rest c p j k inv f refl
    (calm-steps InputEnded tt c.a.history.session new.link)
step-a first second (LineEnded how r) new rest c p j k inv f over in_range ready =
    calm-next-a first second (LineEnded how r) new rest c p j k inv f refl
    (calm-steps (LineEnded how r) tt c.a.history.session new.link)
step-a first second (Filled n) new rest c p j k inv f over in_range ready =
    calm-next-a first second (Filled n) new rest c p j k inv f refl
    (calm-steps (Filled n) tt c.a.history.session new.link)
step-a first second (LineTook n) new rest c p j k inv f over in_range ready =
    calm-next-a first second (LineTook n) new rest c p j k inv f refl
    (calm-steps (LineTook n) tt c.a.history.session new.link)
step-a first second (TimedOut now) new rest c p j k inv f over in_range ready =
    calm-next-a first second (TimedOut now) new rest c p j k inv f refl
    (calm-steps (TimedOut now) tt c.a.history.session new.link)
step-a first second TimePassed new rest c p j k inv f over in_range ready =
    calm-next-a first second TimePassed new rest c p j k inv f refl
    (calm-steps TimePassed tt c.a.history.session new.link)
step-a first second (Delivered true) new rest c p j k inv f over in_range ready =
    calm-next-a first second (Delivered true) new rest c p j k inv f refl
    (calm-steps (Delivered true) tt c.a.history.session new.link)
step-a first second (Delivered false) new rest c p j k inv f over in_range ready =
    calm-next-a first second (Delivered false) new rest c p j k inv f refl
    (calm-steps (Delivered false) tt c.a.history.session new.link)
step-a first second (OutputTook n) new rest c p j k inv f over in_range ready =
    calm-next-a first second (OutputTook n) new rest c p j k inv f refl
    (calm-steps (OutputTook n) tt c.a.history.session new.link)
step-a first second (Closed left over' r) new rest c p j k inv f over in_range ready =
    calm-next-a first second (Closed left over' r) new rest c p j k inv f refl
    (calm-steps (Closed left over' r) tt c.a.history.session new.link)
