-- What fits a state.
use Rattle.std.proofs.Common.{◌≡◌, ◌≢◌, true, false}
use Rattle.ddcmp_core.specs.declared.state.State.TheVariants.{Maintenance}
use Rattle.ddcmp_core.specs.Table.{StationState, is_starting}
use Rattle.ddcmp_core.specs.Core.{FitsState, is_sent_reply}

-- in the states that say nothing of the numbers and lists
pub fits_any : (s : StationState) → is_starting s.state ≡ false → s.state ≢ Maintenance
    → is_sent_reply s.reply ≡ true → FitsState s
fits_any s e m r =
    record {
      starting_r = λ p. absurd (cc (p, e));
      starting_out = λ p. absurd (cc (p, e));
      starting_inbox = λ p. absurd (cc (p, e));
      maintenance_n = λ p. absurd (m p);
      maintenance_t = λ p. absurd (m p);
      sent_reply = r;
    }
