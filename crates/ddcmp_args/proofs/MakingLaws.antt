-- What options and subcommands add to the command that is built.
use Rattle.std.proofs.Common.{◌≡◌, ◌∷◌, [], ◌++◌, ◌+◌, ◌<◌, ◌∙◌, ◌||◌, List, ℕ, length, map, take}
use Rattle.std.proofs.Common.{ap, sym, refl, false, get_or, Result, Ok, Err, IfOk}
use Rattle.std.specs.declared.alloc.AllocError.{AllocError}
use Rattle.std.proofs.lemmas.List.{take_more, map-append}
use Rattle.clap.specs.Words.{App, Rule, rule_of, shape_of, with_rule, with_subcommand}
use Rattle.clap.specs.Built.{AddsArg, AddsSubcommand}
use Rattle.clap.specs.declared.builder.arg.Arg.{Arg}
use Rattle.clap.specs.declared.builder.command.Command.{Command}
use Rattle.clap.specs.declared.builder.command.Command.TheViews.{out-Command as fields_of}
use Rattle.ddcmp_args.specs.declared.options.CommandOption.{CommandOption}
use Rattle.ddcmp_args.specs.Inside.Making.{IsMade, Makes, rule_of_option, with_rules}

-- of no options comes nothing more
pub with-none : (command : Command) (app : App) → IsMade command app
    → IsMade command (with_rules app [])
unfolding with_rules
with-none command app h = h

with_rules-push : (app : App) (rules : List Rule) (rule : Rule)
    → with_rules app (rules ++ rule ∷ []) ≡ with_rule (with_rules app rules) rule
unfolding with_rules
with_rules-push app [] rule = refl
with_rules-push app (first ∷ rules) rule = with_rules-push (with_rule app first) rules rule

-- one option more
pub with-more : (old new : Command) (arg : Arg) (app : App) (options : List CommandOption) (i : ℕ)
    (d : CommandOption) → i < length options
    → IsMade old (with_rules app (map rule_of_option (take i options)))
    → rule_of arg ≡ rule_of_option (get_or options i d) → arg.global ≡ false → AddsArg old arg new
    → IsMade new (with_rules app (map rule_of_option (take (i + 1) options)))
with-more old new arg app options i d lt h is local adds =
    let before = with_rules app (map rule_of_option (take i options)) in
    let pushed =
    with_rules-push app (map rule_of_option (take i options))
    (rule_of_option (get_or options i d)) in
    let mapped = map-append rule_of_option (take i options) (get_or options i d ∷ []) in
    let on =
    ap (λ xs. with_rules app (map rule_of_option xs)) (take_more options i d lt)
    ∙ ap (with_rules app) mapped ∙ pushed in (
      adds.shape local ∙ ap (λ (a : App). with_rule a (rule_of arg)) h.0
          ∙ ap (with_rule before) is ∙ sym on,
      adds.globals ∙ ap (λ b. b || arg.global) h.1 ∙ local,
    )

-- what was made, if that is so
pub made_by : (made : Result Command AllocError) (command : Command) (app : App)
    → made ≡ Ok command → Makes made app → IsMade command app
made_by made command app e makes = rw e at makes

-- one subcommand more
pub with_under : (old sub : Command) (app under : App) (made : Result Command AllocError)
    → IsMade old app → IsMade sub under → IfOk made (λ new. AddsSubcommand old sub new)
    → Makes made (with_subcommand app under.top)
with_under old sub app under (Ok new) h g adds = (
  adds.shape g.1
      ∙ (ap (λ (a : App). with_subcommand a (shape_of sub)) h.0
      ∙ ap (λ (u : App). with_subcommand app u.top) g.0),
  adds.globals ∙ (ap (λ b. b || (fields_of sub).has_globals) h.1 ∙ g.1),
)
with_under old sub app under (Err refused) h g adds = tt
