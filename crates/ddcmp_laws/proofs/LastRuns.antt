-- Two runs over one connection after the other are runs over an honest line, in a clean run.
use Rattle.std.proofs.Common.{◌≡◌, sym, subst, refl, List, None, arith}
use Rattle.ddcmp_proto.specs.Config.{first_refusal}
use Rattle.ddcmp_io.specs.declared.carrier.End.{End}
use Rattle.ddcmp_laws.specs.LinkRestarts.{calls_of_links}
use Rattle.ddcmp_laws.specs.Links.{IsSameEnd, Links}
use Rattle.ddcmp_laws.specs.StationRuns.{run_station_calls}
use Rattle.ddcmp_laws.proofs.PairCallLaws.{both_clean}
use Rattle.ddcmp_laws.proofs.Outcomes.{chosen_sound, made_kept, made_start}
use Rattle.ddcmp_session.specs.Calls.{SessionStep}
use Rattle.ddcmp_session.specs.Connections.{AreDone}
use Rattle.ddcmp_laws.specs.Connections.{first_connection, first_connections, link_steps}
use Rattle.ddcmp_laws.specs.LastConnection.{RanOverConnections, StartsLast}
use Rattle.ddcmp_laws.specs.Pipe.{Made, links_made, pair_made}
use Rattle.ddcmp_laws.specs.SessionRuns.{Ran, RanTogether}
use Rattle.ddcmp_laws.proofs.Anew.{none_yet, both, since_first, stays_first}
use Rattle.ddcmp_laws.proofs.LastConnection.{Out, last-run}
use Rattle.ddcmp_laws.proofs.LastSteps.{Inv}
use Rattle.ddcmp_laws.proofs.RunLaws.{ordered}

begins-so : (first second : Made) (steps : List (End × SessionStep))
    → first_refusal first.options.config ≡ None → first_refusal second.options.config ≡ None
    → Inv first second steps (first_connections first second)
    (pair_made first second) none_yet none_yet
unfolding run_station_calls
begins-so first second steps f g =
    let start = made_start first second f g in
    record {
      same = record {
        a = subst (IsSameEnd (pair_made first second).a) (since_first first) start.is.same.a;
        b = subst (IsSameEnd (pair_made first second).b) (since_first second) start.is.same.b;
      };
      kept = made_kept first second f g;
      limits_a = refl;
      limits_b = refl;
      final_a = λ e. record { well = chosen_sound first f; once = omega arith };
      final_b = λ e. record { well = chosen_sound second g; once = omega arith };
      honest = λ d e. refl;
    }

pub runs-together : (a b : Ran) → first_refusal a.made.options.config ≡ None
    → first_refusal b.made.options.config ≡ None → AreDone a.steps (first_connection a.made)
    → AreDone b.steps (first_connection b.made) → StartsLast a.steps (first_connection a.made)
    → StartsLast b.steps (first_connection b.made) → RanOverConnections a b → RanTogether a b
runs-together a b f g done_a done_b ready_a ready_b ran =
    let steps = ran.steps in
    let p = first_connections a.made b.made in
    let order =
    ordered steps p (subst (λ xs. AreDone xs p.a) (sym ran.of_a) done_a)
    (subst (λ xs. AreDone xs p.b) (sym ran.of_b) done_b) in
    let start = pair_made a.made b.made in
    let made : links_made a.made b.made ≡ both a.made b.made p none_yet none_yet =
    λ i. record { a = since_first a.made i; b = since_first b.made i } in
    let out : Out (run_station_calls
    (calls_of_links (link_steps steps p) (links_made a.made b.made)) start) =
    subst (λ (q : Links). Out (run_station_calls (calls_of_links (link_steps steps p) q) start))
    (sym made)
    (last-run a.made b.made steps p start none_yet none_yet f g (begins-so a.made b.made steps f g) order.0
    (stays_first a.made) (stays_first b.made) ran.streams
    (subst (λ xs. StartsLast xs p.a) (sym ran.of_a) ready_a)
    (subst (λ xs. StartsLast xs p.b) (sym ran.of_b) ready_b)) in
    record {
      steps = steps;
      of_a = ran.of_a;
      of_b = ran.of_b;
      honest = out.0;
      clean = both_clean _ _ out.1 out.2;
    }
