use Rattle.std.proofs.Common.{◌-◌, ◌∙◌, arith, sym, drop, length, length-drop}
use Rattle.std.proofs.lemmas.List.{length-take}
use Rattle.ddcmp_input.proofs.LengthsLaws.{nothing_yet, no_entry, part_state, part_entries}
use Rattle.ddcmp_input.proofs.LengthsLaws.{none_before}
use Rattle.ddcmp_input.proofs.lengths.Lengths.push_all.Goals as goal

pub loop-used-init : goal.loop-used-init
loop-used-init c =
    let none = nothing_yet c.args.self.now in
    record { within = omega arith; state = none.0; none = none.1 }

pub returns-then-is_some-clause-first : goal.returns-then-is_some-clause-first
returns-then-is_some-clause-first c = λ n entry there at.
    let now = c.loop-used.invariant in
    let more = c.push_part-more.ensures in
    none_before c.args.piece.now c.loop-used.used c.push_part-more.result.used n c.args.self.now
    c.loop-used.self now.state now.none more.first more.some at

pub returns-then-is_some-clause-state : goal.returns-then-is_some-clause-state
returns-then-is_some-clause-state c =
    part_state c.args.piece.now c.loop-used.used c.push_part-more.result.used c.args.self.now
    c.loop-used.self c.push_part-more.new.self c.loop-used.invariant.state
    c.push_part-more.ensures.state

pub returns-then-is_some-clause-entries : goal.returns-then-is_some-clause-entries
returns-then-is_some-clause-entries c =
    part_entries c.args.piece.now c.loop-used.used c.push_part-more.result.used c.args.self.now
    c.loop-used.self _ c.loop-used.invariant.state c.loop-used.invariant.none
    c.push_part-more.ensures.entries

pub loop-used-preserved : goal.loop-used-preserved
loop-used-preserved c =
    let piece = c.args.piece.now in
    let n = c.loop-used.used in
    let k = c.push_part-more.result.used in
    let was = c.args.self.now in
    let now = c.loop-used.invariant in
    let more = c.push_part-more.ensures in
    record {
      within =
          omega (
            arith,
            now.within,
            more.used,
            length-take (length piece - n) (drop n piece),
            length-drop n piece,
          );
      state =
          part_state piece n k was c.loop-used.self c.push_part-more.new.self now.state more.state;
      none = part_entries piece n k was c.loop-used.self _ now.state now.none more.entries
          ∙ no_entry c.push_part-more.result.entry (sym c.if-is_some.ensures);
    }
