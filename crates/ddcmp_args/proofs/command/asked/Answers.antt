use Rattle.ddcmp_args.proofs.CommandLaws.{has_options_as}
use Rattle.ddcmp_args.specs.declared.command.Command.TheVariants.{Explain, Simulate, Pair, Station}
use Rattle.ddcmp_args.specs.declared.command.Command.TheVariants.{Tap, Link, Bridge}
use Rattle.ddcmp_args.proofs.command.asked.Goals as goal

pub returns-in-Some-clause-options : goal.returns-in-Some-clause-options
returns-in-Some-clause-options c =
    has_options_as _ c.in-Some.options.now (Explain c.explain_given.result) c.in-Some.ensures.rows
    c.explain_given.ensures

pub returns-in-Some-subcommand_matches-clause-options
    : goal.returns-in-Some-subcommand_matches-clause-options
returns-in-Some-subcommand_matches-clause-options c =
    has_options_as _ c.in-Some-subcommand_matches.options.now (Simulate c.script_given.result)
    c.in-Some-subcommand_matches.ensures.rows c.script_given.ensures

pub returns-in-Some-subcommand_matches-2-clause-options
    : goal.returns-in-Some-subcommand_matches-2-clause-options
returns-in-Some-subcommand_matches-2-clause-options c =
    has_options_as _ c.in-Some-subcommand_matches-2.options.now
    (Pair c.script_given-in-Some-subcommand_matches-2.result)
    c.in-Some-subcommand_matches-2.ensures.rows c.script_given-in-Some-subcommand_matches-2.ensures

pub returns-in-Some-subcommand_matches-3-clause-options
    : goal.returns-in-Some-subcommand_matches-3-clause-options
returns-in-Some-subcommand_matches-3-clause-options c =
    has_options_as _ c.in-Some-subcommand_matches-3.options.now (Station c.station_given.result)
    c.in-Some-subcommand_matches-3.ensures.rows c.station_given.ensures

pub returns-in-Some-subcommand_matches-4-clause-options
    : goal.returns-in-Some-subcommand_matches-4-clause-options
returns-in-Some-subcommand_matches-4-clause-options c =
    has_options_as _ c.in-Some-subcommand_matches-4.options.now (Tap c.tap_given.result)
    c.in-Some-subcommand_matches-4.ensures.rows c.tap_given.ensures

pub returns-in-Some-subcommand_matches-5-clause-options
    : goal.returns-in-Some-subcommand_matches-5-clause-options
returns-in-Some-subcommand_matches-5-clause-options c =
    has_options_as _ c.in-Some-subcommand_matches-5.options.now (Link c.link_given.result)
    c.in-Some-subcommand_matches-5.ensures.rows c.link_given.ensures

pub returns-clause-options : goal.returns-clause-options
returns-clause-options c =
    has_options_as _ c.in_ok-options.options.now (Bridge c.bridge_given.result)
    c.in_ok-options.ensures.rows c.bridge_given.ensures
