-- Over streams every arrival is honest.
use Rattle.std.proofs.Common.{◌≡◌, true, List, [], ◌∷◌, ◌++◌, refl, ◌∙◌, ap, subst, None}
use Rattle.ddcmp_proto.specs.Config.{first_refusal}
use Rattle.ddcmp_proto.specs.declared.config.Config.{Config}
use Rattle.ddcmp_io.specs.declared.carrier.End.{End}
use Rattle.ddcmp_pair.specs.declared.event.Event.{Event}
use Rattle.ddcmp_pair.specs.Run.{PairState, after_event, run, new_pair}
use Rattle.ddcmp_laws.specs.Faithful.{IsFaithful, StaysFaithful}
use Rattle.ddcmp_laws.proofs.FaithfulLaws.{IsStraight, straight_run, well_new}
use Rattle.ddcmp_laws.specs.PairCalls.{Call, Start, Halt, Send, Poll, Arrive, Expire, Take, Arm}
use Rattle.ddcmp_laws.specs.PairCalls.{Ask}
use Rattle.ddcmp_laws.specs.PairCalls.{after_call, run_calls, events_of, events_in, noted}
use Rattle.ddcmp_laws.specs.Streams.{OverStreams}
use Rattle.ddcmp_laws.proofs.PairCallLaws.{one_same, run_same}

faithful_noted : (p : PairState) → IsFaithful p → IsFaithful (noted p)
faithful_noted p f = record { to_a = f.to_a; to_b = f.to_b }

noted_faithful : (p : PairState) → IsFaithful (noted p) → IsFaithful p
noted_faithful p f = record { to_a = f.to_a; to_b = f.to_b }

faithful_same : (p q : PairState) → noted p ≡ noted q → IsFaithful p → IsFaithful q
faithful_same p q e f = noted_faithful q (subst IsFaithful e (faithful_noted p f))

stays_then : (a b : List Event) (p : PairState) → StaysFaithful a p → StaysFaithful b (run a p)
    → StaysFaithful (a ++ b) p
unfolding run
stays_then [] b p f g = g
stays_then (e ∷ a) b p f g = (f.0, stays_then a b (after_event e p) f.1 g)

one_faithful : (end : End) (c : Call) (q : PairState) → IsFaithful (run (events_of end c) q)
    → StaysFaithful (events_of end c) q
unfolding run
one_faithful end Start q f = (f, tt)
one_faithful end Halt q f = (f, tt)
one_faithful end (Send message) q f = (f, tt)
one_faithful end Poll q f = (f, tt)
one_faithful end (Arrive bytes) q f = (f, tt)
one_faithful end Expire q f = (f, tt)
one_faithful end Take q f = (f, tt)
one_faithful end Arm q f = tt
one_faithful end Ask q f = tt

stays_faithful : (calls : List (End × Call)) (p q : PairState) → noted p ≡ noted q
    → OverStreams calls p → StaysFaithful (events_in calls) q
unfolding events_in
stays_faithful [] p q e o = tt
stays_faithful (step ∷ rest) p q e o =
    let f = one_same step.0 step.1 p q e in
    stays_then (events_of step.0 step.1) (events_in rest) q
    (one_faithful step.0 step.1 q
    (faithful_same (after_call step.0 step.1 p) (run (events_of step.0 step.1) q) f o.0))
    (stays_faithful rest (after_call step.0 step.1 p) (run (events_of step.0 step.1) q) f o.1)

pub streams_straight : (start : PairState) → IsStraight start → (calls : List (End × Call))
    → OverStreams calls start → (run_calls calls start).honest ≡ true
streams_straight start straight calls o =
    ap (λ (p : PairState). p.honest) (run_same calls start start refl)
    ∙ (straight_run (events_in calls) start (stays_faithful calls start start refl o)
    straight).honest

pub streams_honest : (first second : Config) (calls : List (End × Call))
    → first_refusal first ≡ None → first_refusal second ≡ None
    → OverStreams calls (new_pair first second)
    → (run_calls calls (new_pair first second)).honest ≡ true
streams_honest first second calls f g o =
    streams_straight (new_pair first second)
    (record { a = well_new first f; b = well_new second g; honest = refl }) calls o
