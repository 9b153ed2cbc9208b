use Rattle.ddcmp_io.specs.declared.carrier.End.TheVariants.{A, B}
use Rattle.ddcmp_laws.specs.Streams.{drives_at}
use Rattle.ddcmp_laws.proofs.Delivery.{reaches_a, reaches_b}
use Rattle.ddcmp_laws.proofs.Streaming.{streams_honest}
use Rattle.ddcmp_laws.proofs.InTurn.{all_calls, all_driven, all_over}
use Rattle.ddcmp_laws.proofs.streams.driven_in_turn.Goals as goal

pub returns-clause-to_b : goal.returns-clause-to_b
returns-clause-to_b c = λ first second drives f g h.
    reaches_b first second (drives_at A drives) (drives_at B drives)
    (all_calls first second drives h) f g (all_driven first second drives h)
    (streams_honest first second (all_calls first second drives h) f g
    (all_over first second drives h))

pub returns-clause-to_a : goal.returns-clause-to_a
returns-clause-to_a c = λ first second drives f g h.
    reaches_a first second (drives_at A drives) (drives_at B drives)
    (all_calls first second drives h) f g (all_driven first second drives h)
    (streams_honest first second (all_calls first second drives h) f g
    (all_over first second drives h))
