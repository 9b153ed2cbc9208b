-- Two runs, each connected at most once, over a line that may lose, cut and damage what it carries:
-- the line is honest, and the run clean.
use Rattle.std.proofs.Common.{◌≡◌, ◌∙◌, ap, sym, subst, refl, List, [], ◌∷◌, None, arith}
use Rattle.ddcmp_proto.specs.Config.{first_refusal}
use Rattle.ddcmp_io.specs.declared.carrier.End.{End}
use Rattle.ddcmp_io.specs.declared.carrier.End.TheVariants.{A, B}
use Rattle.ddcmp_pair.specs.Run.{PairState}
use Rattle.ddcmp_laws.specs.LinkRestarts.{calls_of_links}
use Rattle.ddcmp_laws.specs.Links.{IsSameEnd, Links}
use Rattle.ddcmp_laws.specs.StationRuns.{run_station_calls}
use Rattle.ddcmp_laws.specs.Connected.{IsConnectedOnce}
use Rattle.ddcmp_laws.specs.Connections.{AreCalls, Connections, after_step_at, first_connection}
use Rattle.ddcmp_laws.specs.Connections.{first_connections, link_steps}
use Rattle.ddcmp_laws.specs.LastConnection.{StartsEach}
use Rattle.ddcmp_laws.specs.Pipe.{Made, links_made, pair_made}
use Rattle.ddcmp_laws.specs.SessionRuns.{Ran, RanTogether, calls_of}
use Rattle.ddcmp_laws.specs.Sessions.{link_steps_of}
use Rattle.ddcmp_laws.proofs.Anew.{none_yet, Rest, Stays, both, follows, since, since_first, stays_first}
use Rattle.ddcmp_laws.proofs.FrameSteps.{AreOverFrames, Inv}
use Rattle.ddcmp_laws.proofs.FramesAtA.{frames-a}
use Rattle.ddcmp_laws.proofs.FramesAtB.{frames-b}
use Rattle.ddcmp_laws.proofs.LastCalls.{leads-a, leads-b, pair-after}
use Rattle.ddcmp_laws.proofs.LastConnection.{Out}
use Rattle.ddcmp_laws.proofs.PairCallLaws.{both_clean}
use Rattle.ddcmp_laws.proofs.RunLaws.{ordered}
use Rattle.ddcmp_laws.proofs.Outcomes.{chosen_sound, made_kept, made_start}
use Rattle.ddcmp_laws.proofs.ConnectionLaws.{starts-each}
use Rattle.ddcmp_session.specs.Connections.{AreDone}
use Rattle.ddcmp_session.specs.Calls.{SessionStep}

frames-run : (first second : Made) (steps : List (End × SessionStep)) (c : Connections)
    (p : PairState) (j k : Rest) → first_refusal first.options.config ≡ None
    → first_refusal second.options.config ≡ None → Inv first second c p j k
    → AreCalls steps c → Stays first c.a → Stays second c.b → AreOverFrames first second steps c
    → StartsEach (calls_of A steps) c.a → StartsEach (calls_of B steps) c.b
    → Out (run_station_calls (calls_of_links (link_steps steps c) (both first second c j k)) p)
unfolding run_station_calls calls_of_links link_steps calls_of
frames-run first second [] c p j k f g inv does sa sb over ready_a ready_b =
    (inv.honest, inv.final_a.once, inv.final_b.once)
frames-run first second ((A, one) ∷ rest) c p j k f g inv does sa sb over ready_a ready_b =
    let fol = follows first one c.a j does.0 sa in
    let xs = link_steps_of one.call c.a.history.session one.session.link in
    let next = after_step_at A one c in
    let q = pair-after A xs (since first c.a j) p in
    let ys = link_steps rest next in
    let then =
    frames-a first second one.call one.session c p j k inv fol over.0 f ready_a.0 in
    subst Out
    (sym
    (leads-a xs ys (both first second c j k) p
    ∙ ap (λ l. run_station_calls (calls_of_links ys (record { a = l; b = since second c.b k })) q)
    fol.1.1))
    (frames-run first second rest next q fol.1.0 k f g then does.1 fol.2 sb over.1 ready_a.1
    ready_b)
frames-run first second ((B, one) ∷ rest) c p j k f g inv does sa sb over ready_a ready_b =
    let fol = follows second one c.b k does.0 sb in
    let xs = link_steps_of one.call c.b.history.session one.session.link in
    let next = after_step_at B one c in
    let q = pair-after B xs (since second c.b k) p in
    let ys = link_steps rest next in
    let then =
    frames-b first second one.call one.session c p j k inv fol over.0 g ready_b.0 in
    subst Out
    (sym
    (leads-b xs ys (both first second c j k) p
    ∙ ap (λ l. run_station_calls (calls_of_links ys (record { a = since first c.a j; b = l })) q)
    fol.1.1))
    (frames-run first second rest next q j fol.1.0 f g then does.1 sa fol.2 over.1 ready_a
    ready_b.1)

-- Two runs in an order of their calls, over such a line.
pub record RanOverFrames (a b : Ran) : Type 0 where
  pub steps : List (End × SessionStep)
  pub of_a : calls_of A steps ≡ a.steps
  pub of_b : calls_of B steps ≡ b.steps
  pub frames : AreOverFrames a.made b.made steps (first_connections a.made b.made)

begins-so : (first second : Made) → first_refusal first.options.config ≡ None
    → first_refusal second.options.config ≡ None
    → Inv first second (first_connections first second)
    (pair_made first second) none_yet none_yet
unfolding run_station_calls
begins-so first second f g =
    let start = made_start first second f g in
    record {
      same = record {
        a = subst (IsSameEnd (pair_made first second).a) (since_first first) start.is.same.a;
        b = subst (IsSameEnd (pair_made first second).b) (since_first second) start.is.same.b;
      };
      kept = made_kept first second f g;
      limits_a = refl;
      limits_b = refl;
      final_a = record { well = chosen_sound first f; once = omega arith };
      final_b = record { well = chosen_sound second g; once = omega arith };
      honest = refl;
    }

pub frames-together : (a b : Ran) → first_refusal a.made.options.config ≡ None
    → first_refusal b.made.options.config ≡ None → AreDone a.steps (first_connection a.made)
    → AreDone b.steps (first_connection b.made) → IsConnectedOnce a → IsConnectedOnce b
    → RanOverFrames a b → RanTogether a b
frames-together a b f g done_a done_b once_a once_b ran =
    let steps = ran.steps in
    let p = first_connections a.made b.made in
    let order =
    ordered steps p (subst (λ xs. AreDone xs p.a) (sym ran.of_a) done_a)
    (subst (λ xs. AreDone xs p.b) (sym ran.of_b) done_b) in
    let start = pair_made a.made b.made in
    let made : links_made a.made b.made ≡ both a.made b.made p none_yet none_yet =
    λ i. record { a = since_first a.made i; b = since_first b.made i } in
    let out : Out (run_station_calls
    (calls_of_links (link_steps steps p) (links_made a.made b.made)) start) =
    subst (λ (q : Links). Out (run_station_calls (calls_of_links (link_steps steps p) q) start))
    (sym made)
    (frames-run a.made b.made steps p start none_yet none_yet f g (begins-so a.made b.made f g) order.0
    (stays_first a.made) (stays_first b.made) ran.frames
    (subst (λ xs. StartsEach xs p.a) (sym ran.of_a) (starts-each a done_a once_a))
    (subst (λ xs. StartsEach xs p.b) (sym ran.of_b) (starts-each b done_b once_b))) in
    record {
      steps = steps;
      of_a = ran.of_a;
      of_b = ran.of_b;
      honest = out.0;
      clean = both_clean _ _ out.1 out.2;
    }
