use Rattle.ddcmp_laws.proofs.TurnRooms.{in-time}
use Rattle.ddcmp_laws.proofs.drives_recover.turns_are_in_time.Goals as goal

pub returns : goal.returns
returns c = λ one two ms other before to_a to_b f g h u.
    in-time one two ms other before to_a to_b f g
