-- The parsers of the commands.
use Rattle.std.specs.Prelude.{◌≡◌, ◌∷◌, [], IfOk, List, Result, false}
use Rattle.std.specs.declared.alloc.AllocError.{AllocError}
use Rattle.clap.specs.Words.{App, Rule, Text, app_of, with_rule}
use Rattle.clap.specs.declared.builder.command.Command.{Command}
use Rattle.clap.specs.declared.builder.command.Command.TheViews.{out-Command as fields_of}
use Rattle.ddcmp_args.specs.declared.options.CommandOption.{CommandOption}
use Rattle.ddcmp_args.specs.declared.options.Takes.{Takes}
use Rattle.ddcmp_args.specs.declared.options.Takes.TheVariants.{Nothing, Number, Text as TakesText}
use Rattle.ddcmp_args.specs.declared.options.Takes.TheVariants.{Place}
use Rattle.ddcmp_args.specs.Args.{flag_rule, number_rule, place_rule, text_rule}

-- The command has this shape, and no global options.
abbrev pub IsMade : Command → App → Type 0
IsMade command app = (app_of command ≡ app) × ((fields_of command).has_globals ≡ false)

-- Such a command was built, unless an allocation failed.
abbrev pub Makes : Result Command AllocError → App → Type 0
Makes made app = IfOk made (λ command. IsMade command app)

-- the rule of an option, by its name and its value
abbrev pub rule_by : Text → Takes → Rule
rule_by name Nothing = flag_rule name
rule_by name (Number low high) = number_rule name low high
rule_by name (TakesText value) = text_rule name
rule_by name (Place value) = place_rule name

-- the rule of an option in a table
abbrev pub rule_of_option : CommandOption → Rule
rule_of_option option =
    record (rule_by option.name.now option.takes) { required = option.is_required }

-- a command with these rules added, in order
unfoldable pub with_rules : App → List Rule → App
with_rules app [] = app
with_rules app (rule ∷ rules) = with_rules (with_rule app rule) rules
