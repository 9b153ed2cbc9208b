use Rattle.std.proofs.Common.{◌≡◌, List, None}
use Rattle.ddcmp_proto.specs.Config.{first_refusal}
use Rattle.ddcmp_proto.specs.declared.config.Config.{Config}
use Rattle.ddcmp_pair.specs.declared.event.Event.{Event}
use Rattle.std.proofs.Common.{subst}
use Rattle.ddcmp_pair.proofs.Ready.{Holding}
use Rattle.ddcmp_pair.specs.Run.{PairState, new_pair, run}
use Rattle.ddcmp_laws.proofs.Waiting.{holding_run, new_holding, sleeps-a, sleeps-b}
use Rattle.ddcmp_laws.proofs.sleep.nobody_waits_for_nothing.Goals as goal

led : (first second : Config) (events : List Event) (p : PairState) → first_refusal first ≡ None
    → first_refusal second ≡ None → run events (new_pair first second) ≡ p → Holding p
led first second events p f g e =
    subst (λ q. Holding q) e
    (holding_run events (new_pair first second) (new_holding first second f g))

pub returns-clause-from_a : goal.returns-clause-from_a
returns-clause-from_a c = λ first second events p f g e h cl u z.
    sleeps-a p (led first second events p f g e) h cl u.a u.b z.no_frame z.no_timer

pub returns-clause-from_b : goal.returns-clause-from_b
returns-clause-from_b c = λ first second events p f g e h cl u z.
    sleeps-b p (led first second events p f g e) h cl u.a u.b z.no_frame z.no_timer
