use Rattle.ddcmp_laws.proofs.Rounding.{told, delivered}
use Rattle.ddcmp_laws.proofs.delivers.delivers_in_any_order.Goals as goal

pub returns-clause-told : goal.returns-clause-told
returns-clause-told c = λ first second before once l f g e h u o r.
    told once l
    (record {
      first = first;
      second = second;
      first_made = f;
      second_made = g;
      events = before;
      leads = e;
    }) h u o r

pub returns-clause-delivered : goal.returns-clause-delivered
returns-clause-delivered c = λ first second before once twice l f g e h u o r s.
    delivered once twice l
    (record {
      first = first;
      second = second;
      first_made = f;
      second_made = g;
      events = before;
      leads = e;
    }) h u o r s
