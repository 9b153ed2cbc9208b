use Rattle.ddcmp_laws.proofs.TurnRounds.{recover-in-turns}
use Rattle.ddcmp_laws.proofs.drives_recover.driven_recover_in_turns.Goals as goal

pub returns : goal.returns
returns c = λ one two ms other before to_a to_b f g.
    recover-in-turns one two f g c.comes_to_rest.ensures.in_time
    c.is_ready_in_any_order.ensures.stays c.settles_in_any_order.ensures.whole ms other before
    to_a to_b
