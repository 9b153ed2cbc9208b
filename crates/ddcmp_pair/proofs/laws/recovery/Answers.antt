use Rattle.ddcmp_pair.proofs.Ready.{run-repaired}
use Rattle.ddcmp_pair.proofs.Recoveries.{recovering-state}
use Rattle.ddcmp_pair.proofs.laws.recovery.Goals as goal

pub returns-clause-repaired : goal.returns-clause-repaired
returns-clause-repaired c = λ first second events p f g e a b ready.
    run-repaired p
    (record {
      first = first;
      second = second;
      first_made = f;
      second_made = g;
      events = events;
      leads = e;
    }) a b ready

pub returns-clause-events : goal.returns-clause-events
returns-clause-events c = recovering-state
