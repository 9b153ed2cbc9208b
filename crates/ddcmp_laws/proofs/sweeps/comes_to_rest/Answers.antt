use Rattle.ddcmp_laws.proofs.Sweeping.{sweeps-stay}
use Rattle.ddcmp_laws.proofs.SweepRounds.{rests}
use Rattle.ddcmp_laws.proofs.Timely.{at-once, in-time}
use Rattle.ddcmp_laws.proofs.sweeps.comes_to_rest.Goals as goal

pub returns-clause-rests : goal.returns-clause-rests
returns-clause-rests c = rests

pub returns-clause-stays : goal.returns-clause-stays
returns-clause-stays c = sweeps-stay

pub returns-clause-at_once : goal.returns-clause-at_once
returns-clause-at_once c = at-once

pub returns-clause-in_time : goal.returns-clause-in_time
returns-clause-in_time c = λ first second before sweeps l f g e h u n t.
    in-time sweeps l
    (record {
      first = first;
      second = second;
      first_made = f;
      second_made = g;
      events = before;
      leads = e;
    }) h u n t
