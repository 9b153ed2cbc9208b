-- What an end's numbers stand for, read off its station.
use Rattle.std.proofs.Common.{◌≡◌, ℕ, ◌+◌, ◌-◌, List, length, ap, ◌∙◌, arith, length-drop}
use Rattle.ddcmp_core.specs.Sequence.{distance}
use Rattle.ddcmp_core.specs.Table.{StationState, before_next}
use Rattle.ddcmp_pair.proofs.Relation.{Counts}
use Rattle.ddcmp_pair.proofs.Numbers.{before-is}

module _ (s : StationState) (w : ℕ) (given : List (List ℕ)) (acked sent next up : ℕ)
    (c : Counts s w given acked sent next up) where
  pub sent_is : acked + distance s.a s.n ≡ sent
  sent_is = omega (arith, c.a_is, c.n_is, c.acked_given, c.sent_given, c.window, c.small)

  pub next_is : acked + 1 + before_next s ≡ next
  next_is = omega (arith, before-is s w given acked sent next up c, c.t_low)

  pub out_length : length s.out ≡ length given - acked
  out_length = ap length c.out_is ∙ length-drop acked given
