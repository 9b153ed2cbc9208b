-- How `ddcmp link` ends.
use Rattle.std.specs.Prelude.{◌≡◌, ◌≢◌, ◌⊎◌, ◌==◌, ◌&&◌, ◌||◌, not, ℕ, Bool, true, false, List}
use Rattle.std.specs.Prelude.{Option, Some, Result, Ok, Err, is_some}
use Rattle.std.specs.Borrow.{Bor}
use Rattle.ddcmp_streams.specs.declared.options.Options.{Options}
use Rattle.ddcmp_log.specs.declared.notation.LogNotation.{LogNotation}
use Rattle.ddcmp_log.specs.declared.notation.LogNotation.TheVariants.{Ladder}
use Rattle.ddcmp_ports.specs.LineNames.{word_of}
use Rattle.ddcmp_ports.specs.Events.{open_fault_text}
use Rattle.ddcmp_link.specs.declared.fault.LinkFailure.{LinkFailure}
use Rattle.ddcmp_link.specs.declared.fault.LinkFailure.TheVariants as failure
use Rattle.ddcmp_ports.specs.declared.line_name.LineName.{LineName}
use Rattle.ddcmp_ports.specs.declared.line_name.LineName.TheVariants.{Device, Listen}
use Rattle.ddcmp_session.specs.declared.link.LinkOutcome.{LinkOutcome}
use Rattle.ddcmp_session.specs.declared.link.LinkOutcome.TheVariants as outcome
use Rattle.ddcmp_args.specs.Args.{default_timer_of}
use Rattle.ddcmp_args.specs.declared.link_args.LinkArgs.{LinkArgs}
use Rattle.ddcmp_commands.specs.declared.fault.Fault.TheVariants.{Read, Write, Memory, Ended, Lost}
use Rattle.ddcmp_commands.specs.declared.ending.Ending.{Ending}
use Rattle.ddcmp_commands.specs.declared.ending.Ending.TheVariants.{Done, SomeRefused}
use Rattle.ddcmp_commands.specs.declared.ending.Ending.TheVariants.{Fault as Faulted}
use Rattle.ddcmp_commands.specs.Endings.{IsLineUnopened, is_refusal}
use Rattle.ddcmp_cli.specs.Lines.{LinesKnown, text_of}

-- how the program ends after a link with this result
abbrev pub LinkEnds : Result LinkOutcome LinkFailure → Ending → Type 0
LinkEnds (Ok outcome.Delivered) ending = ending ≡ Done
LinkEnds (Ok outcome.SomeRefused) ending = ending ≡ SomeRefused
LinkEnds (Ok outcome.TooLong) ending = ending ≡ Faulted Ended
LinkEnds (Err (failure.Open why)) ending = IsLineUnopened (open_fault_text why) ending
LinkEnds (Err failure.Ended) ending = ending ≡ Faulted Ended
LinkEnds (Err (failure.Lost count)) ending = ending ≡ Faulted (Lost count)
LinkEnds (Err failure.Read) ending = ending ≡ Faulted Read
LinkEnds (Err failure.Write) ending = ending ≡ Faulted Write
LinkEnds (Err failure.Memory) ending = ending ≡ Faulted Memory

-- In maintenance mode there is no window, no reply timer, no restart and no acknowledgement: their
-- options can't be used.
abbrev pub means_nothing : LinkArgs → Bool
means_nothing linked =
    let o = linked.options in o.maintenance
    && (not (o.config.window == 7) || o.config.restart || o.acknowledge_early
    || not (o.timer_ms == default_timer_of linked.line.now)
    || not (o.attempts == 4294967295))

-- A host is given, and the line has no callers.
abbrev pub has_no_callers : LineName → Option (Bor (List ℕ)) → Bool
has_no_callers (Listen at) only = false
has_no_callers _ only = is_some only

-- A speed is given, and the line is no device.
abbrev pub has_no_speed : LineName → Options → Bool
has_no_speed (Device path) o = false
has_no_speed _ o = not (o.baud == 0)

abbrev pub is_drawn : Option LogNotation → Bool
is_drawn (Some Ladder) = true
is_drawn _ = false

-- A ladder is asked for, and JSON.
abbrev pub has_two_notations : LinkArgs → Bool
has_two_notations linked = linked.options.json && is_drawn linked.options.trace

-- The result of `link`. A LINE that isn't one is a usage error, and so are options that can't be
-- used; else a link was run over the line of that name, with the callers of that host and with
-- these options, and the program ends as the link did.
abbrev pub Links : LinesKnown → LinkArgs → Ending → Type 0
Links lines linked ending =
    (((line : LineName) → word_of line ≢ linked.line.now) × (is_refusal ending ≡ true))
    ⊎ ((line : LineName) × (word_of line ≡ linked.line.now)
    × (has_no_callers line linked.only ≡ true) × (is_refusal ending ≡ true))
    ⊎ ((line : LineName) × (word_of line ≡ linked.line.now)
    × (has_no_speed line linked.options ≡ true) × (is_refusal ending ≡ true))
    ⊎ ((means_nothing linked ≡ true) × (is_refusal ending ≡ true))
    ⊎ ((has_two_notations linked ≡ true) × (is_refusal ending ≡ true))
    ⊎ ((line : LineName) × (word_of line ≡ linked.line.now)
    × (has_no_callers line linked.only ≡ false) × (has_no_speed line linked.options ≡ false)
    × (means_nothing linked ≡ false) × (has_two_notations linked ≡ false)
    × (ended : Result LinkOutcome LinkFailure)
    × ((known : Result LinkOutcome LinkFailure)
    → lines.links (word_of line) (text_of linked.only) linked.options ≡ Some known → ended ≡ known)
    × LinkEnds ended ending)
