use Rattle.ddcmp_args.specs.Inside.Making.{with_rules}
use Rattle.ddcmp_args.proofs.script_args.script_parser.Goals as goal

pub returns : goal.returns
unfolding with_rules
returns c =
    c.with_options.ensures _
    (c.with_options-sized.ensures _ (c.with_options-scripted.ensures _ c.begun.ensures))
