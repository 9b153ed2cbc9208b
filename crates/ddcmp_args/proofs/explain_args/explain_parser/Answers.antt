use Rattle.ddcmp_args.specs.Inside.Making.{with_rules}
use Rattle.ddcmp_args.proofs.explain_args.explain_parser.Goals as goal

pub returns : goal.returns
unfolding with_rules
returns c = c.with_options.ensures _ c.begun.ensures
