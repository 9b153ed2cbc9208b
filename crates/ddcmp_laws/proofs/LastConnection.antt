-- A run over one connection after the other: since both ends were connected last, the line is
-- honest and neither is started again, if it is a stream each way.
use Rattle.std.proofs.Common.{◌≡◌, ◌∙◌, ap, sym, subst, refl, true, List, [], ◌∷◌, None, arith}
use Rattle.std.specs.Prelude.{◌≤◌}
use Rattle.ddcmp_proto.specs.Config.{first_refusal}
use Rattle.ddcmp_io.specs.declared.carrier.End.{End}
use Rattle.ddcmp_io.specs.declared.carrier.End.TheVariants.{A, B}
use Rattle.ddcmp_pair.specs.Run.{PairState}
use Rattle.ddcmp_laws.specs.LinkRestarts.{calls_of_links}
use Rattle.ddcmp_laws.specs.StationRuns.{run_station_calls}
use Rattle.ddcmp_session.specs.Calls.{SessionStep}
use Rattle.ddcmp_laws.specs.Connected.{connections_in}
use Rattle.ddcmp_laws.specs.Connections.{AreCalls, Connections, after_step_at, link_steps}
use Rattle.ddcmp_laws.specs.LastConnection.{EndOverStreams, StartsLast}
use Rattle.ddcmp_laws.specs.Pipe.{Made, connects}
use Rattle.ddcmp_laws.specs.SessionRuns.{calls_of}
use Rattle.ddcmp_laws.specs.Sessions.{link_steps_of}
use Rattle.ddcmp_laws.proofs.Anew.{Rest, Stays, both, follows, since}
use Rattle.ddcmp_laws.proofs.LastCalls.{leads-a, leads-b, pair-after}
use Rattle.ddcmp_laws.proofs.LastSteps.{Inv}
use Rattle.ddcmp_laws.proofs.LastAtA.{step-a}
use Rattle.ddcmp_laws.proofs.LastAtB.{step-b}

abbrev pub Out : PairState → Type 0
Out p = (p.honest ≡ true) × (p.a.starts ≤ 1) × (p.b.starts ≤ 1)

pub connected-at : (e : End) (steps : List (End × SessionStep))
    → connections_in (calls_of e steps) ≡ connects e steps
unfolding connects connections_in calls_of
connected-at e [] = refl
connected-at A ((A, step) ∷ rest) = let e = connected-at A rest in omega (arith, e)
connected-at A ((B, step) ∷ rest) = let e = connected-at A rest in omega (arith, e)
connected-at B ((A, step) ∷ rest) = let e = connected-at B rest in omega (arith, e)
connected-at B ((B, step) ∷ rest) = let e = connected-at B rest in omega (arith, e)

pub last-run : (first second : Made) (steps : List (End × SessionStep)) (c : Connections)
    (p : PairState) (j k : Rest) → first_refusal first.options.config ≡ None
    → first_refusal second.options.config ≡ None → Inv first second steps c p j k
    → AreCalls steps c → Stays first c.a → Stays second c.b → EndOverStreams steps c
    → StartsLast (calls_of A steps) c.a → StartsLast (calls_of B steps) c.b
    → Out (run_station_calls (calls_of_links (link_steps steps c) (both first second c j k)) p)
unfolding run_station_calls calls_of_links link_steps connects calls_of
last-run first second [] c p j k f g inv does sa sb over ready_a ready_b =
    (inv.honest refl refl, (inv.final_a refl).once, (inv.final_b refl).once)
last-run first second ((A, one) ∷ rest) c p j k f g inv does sa sb over ready_a ready_b =
    let fol = follows first one c.a j does.0 sa in
    let xs = link_steps_of one.call c.a.history.session one.session.link in
    let next = after_step_at A one c in
    let q = pair-after A xs (since first c.a j) p in
    let ys = link_steps rest next in
    let then = step-a first second one.call one.session rest c p j k inv fol over f
    (λ e. ready_a.0 (connected-at A rest ∙ e)) in
    subst Out
    (sym
    (leads-a xs ys (both first second c j k) p
    ∙ ap (λ l. run_station_calls (calls_of_links ys (record { a = l; b = since second c.b k })) q)
    fol.1.1))
    (last-run first second rest next q fol.1.0 k f g then does.1 fol.2 sb over.1 ready_a.1 ready_b)
last-run first second ((B, one) ∷ rest) c p j k f g inv does sa sb over ready_a ready_b =
    let fol = follows second one c.b k does.0 sb in
    let xs = link_steps_of one.call c.b.history.session one.session.link in
    let next = after_step_at B one c in
    let q = pair-after B xs (since second c.b k) p in
    let ys = link_steps rest next in
    let then = step-b first second one.call one.session rest c p j k inv fol over g
    (λ e. ready_b.0 (connected-at B rest ∙ e)) in
    subst Out
    (sym
    (leads-b xs ys (both first second c j k) p
    ∙ ap (λ l. run_station_calls (calls_of_links ys (record { a = since first c.a j; b = l })) q)
    fol.1.1))
    (last-run first second rest next q j fol.1.0 f g then does.1 sa fol.2 over.1 ready_a ready_b.1)
