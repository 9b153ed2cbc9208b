-- Whether nothing is left to be done, as an answer.
use Rattle.std.proofs.Common.{◌≡◌, refl, Decides}
use Rattle.std.proofs.lemmas.Bool.Decides.{Decides-and, Decides-like, Decides-eqb}
use Rattle.std.proofs.lemmas.Slice.Eq.{slice_eq-Decides, bytes_eq-Decides}
use Rattle.ddcmp_core.specs.declared.state.State.{State}
use Rattle.ddcmp_core.specs.declared.state.State.TheVariants.{Halted, IStart, AStart, Running}
use Rattle.ddcmp_core.specs.declared.state.State.TheVariants.{Maintenance}
use Rattle.ddcmp_core.specs.Table.{is_running}
use Rattle.ddcmp_pair.specs.Run.{EndState, PairState, handed_up}
use Rattle.ddcmp_pair.specs.Recovery.{IsDelivered, IsDone, is_delivered, is_done}

running : (s : State) → Decides (is_running s) (s ≡ Running)
running Running = (λ _. refl, λ _. refl)
running Halted = (λ e. absurd (cc), λ e. absurd (cc))
running IStart = (λ e. absurd (cc), λ e. absurd (cc))
running AStart = (λ e. absurd (cc), λ e. absurd (cc))
running Maintenance = (λ e. absurd (cc), λ e. absurd (cc))

delivered : (x y : EndState) → Decides (is_delivered x y) (IsDelivered x y)
delivered x y = Decides-like _
    (λ d. record { runs = d.0; handed_up = d.1.0; acknowledged = d.1.1 })
    (λ d. (d.runs, (d.handed_up, d.acknowledged)))
    (Decides-and _ _ (running x.core.station.state)
    (Decides-and _ _ (slice_eq-Decides bytes_eq-Decides x.given (handed_up y) _ refl)
    (Decides-eqb _ _)))

pub done-decides : (p : PairState) → Decides (is_done p) (IsDone p)
done-decides p = Decides-like _
    (λ d. record { from_a = d.0; from_b = d.1 }) (λ d. (d.from_a, d.from_b))
    (Decides-and _ _ (delivered p.a p.b) (delivered p.b p.a))
