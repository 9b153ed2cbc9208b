use Rattle.std.proofs.Common.{arith, map, subst}
use Rattle.std.proofs.lemmas.List.{take_all}
use Rattle.ddcmp_args.specs.Inside.Making.{IsMade, rule_of_option, with_rules}
use Rattle.ddcmp_args.proofs.MakingLaws.{made_by, with-none, with-more}
use Rattle.ddcmp_args.proofs.parser.with_options.Goals as goal

pub loop-option-init : goal.loop-option-init
loop-option-init c = λ app start. with-none _ app start

pub loop-option-preserved : goal.loop-option-preserved
loop-option-preserved c = λ app start.
    with-more _ _ _ app c.args.options.now c.loop-option.option-index _ (omega arith)
    (c.loop-option.invariant app start) c.argument.ensures.rule c.argument.ensures.local
    c.in_ok-command-2.ensures

pub returns : goal.returns
returns c = λ app makes.
    subst (λ xs. IsMade c.loop-option.command (with_rules app (map rule_of_option xs)))
    (take_all c.loop-option.option-index c.args.options.now (omega arith))
    (c.loop-option.invariant app (made_by _ _ app c.in_ok-command.was makes))
