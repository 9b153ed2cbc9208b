use Rattle.ddcmp_laws.proofs.InStep.{two-rounds}
use Rattle.ddcmp_laws.proofs.delivers.a_recovery_is_two_rounds.Goals as goal

pub returns : goal.returns
returns c = λ first second events p f g e a b r.
    two-rounds p
    (record {
      first = first;
      second = second;
      first_made = f;
      second_made = g;
      events = events;
      leads = e;
    }) a b r
