use Rattle.ddcmp_laws.proofs.Delivery.{reaches_a, reaches_b}
use Rattle.ddcmp_laws.proofs.Streaming.{streams_honest}
use Rattle.ddcmp_laws.proofs.streams.over_a_stream.Goals as goal

pub returns-clause-to_b : goal.returns-clause-to_b
returns-clause-to_b c =
    λ first second a b calls f g h o. reaches_b first second a b calls f g h
    (streams_honest first second calls f g o)

pub returns-clause-to_a : goal.returns-clause-to_a
returns-clause-to_a c =
    λ first second a b calls f g h o. reaches_a first second a b calls f g h
    (streams_honest first second calls f g o)
