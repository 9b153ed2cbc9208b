use Rattle.ddcmp_laws.proofs.Resting.{stays, ready, repaired}
use Rattle.ddcmp_laws.proofs.rests.is_ready_in_any_order.Goals as goal

pub returns-clause-stays : goal.returns-clause-stays
returns-clause-stays c = λ first second before events l f g e h u on n.
    stays events l
    (record {
      first = first;
      second = second;
      first_made = f;
      second_made = g;
      events = before;
      leads = e;
    }) h u on n

pub returns-clause-ready : goal.returns-clause-ready
returns-clause-ready c = λ first second before events l f g e h u on n a b.
    ready events l
    (record {
      first = first;
      second = second;
      first_made = f;
      second_made = g;
      events = before;
      leads = e;
    }) h u on n a b

pub returns-clause-repaired : goal.returns-clause-repaired
returns-clause-repaired c = λ first second before events l f g e h u on n a b.
    repaired events l
    (record {
      first = first;
      second = second;
      first_made = f;
      second_made = g;
      events = before;
      leads = e;
    }) h u on n a b
