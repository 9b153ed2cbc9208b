use Rattle.std.proofs.Common.{sym, ◌∙◌}
use Rattle.std.proofs.lemmas.List.{take_more}
use Rattle.ddcmp_input.proofs.CommandLinesLaws.{nothing_yet, one_more, entry_of_more, no_entry}
use Rattle.ddcmp_input.proofs.command_lines.CommandLines.push_all.Goals as goal

pub loop-used-init : goal.loop-used-init
loop-used-init c = nothing_yet c.args.self.now

pub returns-then-is_some-clause-state : goal.returns-then-is_some-clause-state
returns-then-is_some-clause-state c =
    one_more _ _ _ c.args.self.now c.loop-used.self c.push-entry.new.self
    (take_more c.args.piece.now c.loop-used.used _ c.loop-used-test.true)
    c.loop-used.invariant.0 c.push-entry.ensures.state

pub returns-then-is_some-clause-entries : goal.returns-then-is_some-clause-entries
returns-then-is_some-clause-entries c =
    entry_of_more _ _ _ c.args.self.now c.loop-used.self c.push-entry.result
    (take_more c.args.piece.now c.loop-used.used _ c.loop-used-test.true)
    c.loop-used.invariant.0 c.loop-used.invariant.1 c.push-entry.ensures.entry

pub loop-used-preserved : goal.loop-used-preserved
loop-used-preserved c = (
  one_more _ _ _ c.args.self.now c.loop-used.self c.push-entry.new.self
      (take_more c.args.piece.now c.loop-used.used _ c.loop-used-test.true) c.loop-used.invariant.0
      c.push-entry.ensures.state,
  entry_of_more _ _ _ c.args.self.now c.loop-used.self c.push-entry.result
      (take_more c.args.piece.now c.loop-used.used _ c.loop-used-test.true) c.loop-used.invariant.0
      c.loop-used.invariant.1 c.push-entry.ensures.entry
      ∙ no_entry c.push-entry.result (sym c.if-is_some.ensures),
)
