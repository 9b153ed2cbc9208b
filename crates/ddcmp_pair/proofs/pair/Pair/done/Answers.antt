use Rattle.std.proofs.Common.{sym, ◌∙◌}
use Rattle.std.specs.Bool.{one_answer}
use Rattle.ddcmp_pair.proofs.Done.{done-decides}
use Rattle.ddcmp_pair.proofs.pair.Pair.done.Goals as goal

pub returns-then-is_delivered-clause-answer : goal.returns-then-is_delivered-clause-answer
returns-then-is_delivered-clause-answer c = one_answer _ _ (
  λ t. record {
    from_a = c.is_delivered.ensures.0 c.if-is_delivered.true;
    from_b = c.is_delivered-then-is_delivered.ensures.0 t;
  },
  λ d. c.is_delivered-then-is_delivered.ensures.1 d.from_b,
)
    (done-decides c.args.self.now)

pub returns-else-is_delivered-clause-answer : goal.returns-else-is_delivered-clause-answer
returns-else-is_delivered-clause-answer c = one_answer _ _ (
  λ t. absurd (let no = sym c.if-is_delivered.false ∙ t in cc),
  λ d. c.is_delivered.ensures.1 d.from_a,
)
    (done-decides c.args.self.now)
