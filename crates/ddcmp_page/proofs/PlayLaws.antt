-- What a script begins with.
use Rattle.std.proofs.Common.{◌≡◌, ◌∙◌, ap}
use Rattle.ddcmp_io.specs.declared.carrier.End.TheVariants.{A, B}
use Rattle.ddcmp_pair.specs.declared.event.Event.TheVariants as event
use Rattle.ddcmp_pair.specs.Run.{PairState, after_event, run}
use Rattle.ddcmp_pair.specs.Settle.{settled}
use Rattle.ddcmp_page.specs.Played.{begins}

-- both ends were started, and then all was exchanged
pub begun : (p q r s : PairState) → q ≡ after_event (event.Start A) p
    → r ≡ after_event (event.Start B) q → s ≡ settled r → s ≡ begins p
unfolding run
begun p q r s e f g = g ∙ ap settled (f ∙ ap (after_event (event.Start B)) e)
