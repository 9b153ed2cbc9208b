use Rattle.std.proofs.Common.{map, take}
use Rattle.clap.specs.Words.{App}
use Rattle.ddcmp_args.specs.Inside.Making.{IsMade, rule_of_option, with_rules}
use Rattle.ddcmp_args.proofs.parser.with_options.Given as goal

abbrev pub invariant-loop-option : goal.invariant-loop-option
invariant-loop-option l = (app : App) → IsMade l.initial.command app
    → IsMade l.command (with_rules app (map rule_of_option (take l.option-index l.options)))
