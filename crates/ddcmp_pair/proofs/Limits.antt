-- The limits of both ends stay whatever happens.
use Rattle.std.proofs.Common.{◌≡◌, List, [], ◌∷◌, refl, ◌∙◌, ap, Option, Some, None}
use Rattle.std.specs.Prelude.{Result, Ok, Err, IsOk, OnErr}
use Rattle.ddcmp_core.specs.declared.station_core.StartRefusal.{StartRefusal}
use Rattle.ddcmp_proto.proofs.FeedLaws.{after_piece-limits}
use Rattle.ddcmp_io.specs.declared.carrier.End.{End}
use Rattle.ddcmp_io.specs.declared.carrier.End.TheVariants.{A, B}
use Rattle.ddcmp_pair.specs.declared.event.Event.{Event}
use Rattle.ddcmp_pair.specs.declared.event.Event.TheVariants as event
use Rattle.ddcmp_pair.specs.Run.{EndState, PairState, at, after_event_here, after_event_at}
use Rattle.ddcmp_pair.specs.Run.{after_clear_by, clear_refusal, end_of, after_event, run}
use Rattle.ddcmp_pair.specs.Settle.{WantsMemory}

here : (e : Event) (x : EndState) → (after_event_here e x).core.limits ≡ x.core.limits
here (event.Start e) x = refl
here (event.Halt e) x = refl
here (event.Send e message) x = refl
here (event.Poll e) x = refl
here (event.Arrive e bytes) x = after_piece-limits x.arrived bytes x.core
here (event.Expire e) x = refl
here (event.Take e) x = refl
here event.Clear x = refl

cleared-limits : (refusal : Option StartRefusal) (p : PairState) (end : End)
    → (at end (after_clear_by refusal p)).core.limits ≡ (at end p).core.limits
cleared-limits (Some refusal) p end = refl
cleared-limits None p A = refl
cleared-limits None p B = refl

event-limits : (o : Option End) (e : Event) (p : PairState) (end : End)
    → (at end (after_event_at o e p)).core.limits ≡ (at end p).core.limits
event-limits (Some A) e p A = here e p.a
event-limits (Some A) e p B = refl
event-limits (Some B) e p A = refl
event-limits (Some B) e p B = here e p.b
event-limits None e p end = cleared-limits (clear_refusal p) p end

pub after-limits : (e : Event) (p : PairState) (end : End)
    → (at end (after_event e p)).core.limits ≡ (at end p).core.limits
unfolding after_event
after-limits e p end = event-limits (end_of e) e p end

pub run-limits : (events : List Event) (p : PairState) (end : End)
    → (at end (run events p)).core.limits ≡ (at end p).core.limits
unfolding run
run-limits [] p end = refl
run-limits (e ∷ rest) p end = run-limits rest (after_event e p) end ∙ after-limits e p end

-- an event that was done, or wasn't
pub step-limits : {T E : Type 0} (answer : Result T E) (e : Event) (p q : PairState) (end : End)
    → (IsOk answer → q ≡ after_event e p)
    → OnErr answer (q ≡ p) → (at end q).core.limits ≡ (at end p).core.limits
step-limits (Ok a) e p q end done same =
    ap (λ t. (at end t).core.limits) (done refl) ∙ after-limits e p end
step-limits (Err f) e p q end done same = ap (λ t. (at end t).core.limits) same

-- events that were all done, or some of them
pub part-limits : {T E : Type 0} (answer : Result T E) (events : List Event) (p q : PairState)
    (end : End) → (IsOk answer → q ≡ run events p)
    → OnErr answer (WantsMemory events p q) → (at end q).core.limits ≡ (at end p).core.limits
part-limits (Ok a) events p q end done wanted =
    ap (λ t. (at end t).core.limits) (done refl) ∙ run-limits events p end
part-limits (Err f) events p q end done wanted =
    ap (λ t. (at end t).core.limits) wanted.state ∙ run-limits wanted.done p end
