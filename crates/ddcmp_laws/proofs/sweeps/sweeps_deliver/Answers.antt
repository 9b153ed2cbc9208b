use Rattle.ddcmp_laws.proofs.SweepRounds.{deliver}
use Rattle.ddcmp_laws.proofs.sweeps.sweeps_deliver.Goals as goal

pub returns : goal.returns
returns c = λ first second before events l f g e h u n r.
    deliver events l
    (record {
      first = first;
      second = second;
      first_made = f;
      second_made = g;
      events = before;
      leads = e;
    }) h u n r
