use Rattle.ddcmp_args.proofs.MakingLaws.{made_by, with_under}
use Rattle.ddcmp_args.proofs.parser.with_command.Goals as goal

pub returns : goal.returns
returns c = λ app under makes also.
    with_under _ _ app under c.subcommand.result (made_by _ _ app c.in_ok-command.was makes)
    (made_by _ _ under c.in_ok-subcommand.was also) c.subcommand.ensures
