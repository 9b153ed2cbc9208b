use Rattle.std.proofs.Common.{◌≡◌, ◌<◌, ◌≤◌, length, ◌∙◌, sym, ap, arith}
use Rattle.ddcmp_input.specs.Dump.{DumpView, dump_after, shown_from}
use Rattle.ddcmp_input.proofs.DumpLaws.{shown-step, place-step, line-step, shown-end, place-end}
use Rattle.ddcmp_input.proofs.DumpLaws.{line-end}
use Rattle.ddcmp_input.proofs.dump.Dump.blank.Goals as goal

pub loop-byte-preserved : goal.loop-byte-preserved
loop-byte-preserved c = let k : c.loop-byte.byte-index < length c.loop-byte.piece = omega arith in
    record {
      shown =
          shown-step _ c.loop-byte.piece c.loop-byte.byte-index _ _ _ k c.after-self-inside.ensures
          c.shown.ensures c.loop-byte.invariant.shown;
      place =
          place-step _ c.loop-byte.piece c.loop-byte.byte-index _ _ _ k c.after-self-inside.ensures
          c.loop-byte.invariant.place;
      line =
          line-step _ c.loop-byte.piece c.loop-byte.byte-index _ _ _ _ _ k
          c.after-self-inside.ensures
          c.count-self-inside.ensures c.loop-byte.invariant.line;
    }

pub returns-clause-shown : goal.returns-clause-shown
returns-clause-shown c =
    let k : length c.loop-byte.piece ≤ c.loop-byte.byte-index = omega arith in
    sym (shown-end _ c.loop-byte.piece c.loop-byte.byte-index c.loop-byte.self-inside.place k
    c.loop-byte.invariant.shown)
    ∙ ap (λ (v : DumpView). shown_from v.place c.args.piece.now) c.self.view_is

pub returns-clause-state : goal.returns-clause-state
returns-clause-state c =
    let k : length c.loop-byte.piece ≤ c.loop-byte.byte-index = omega arith in
    let e
    : dump_after (record { place = c.self.inside.place; line = c.self.inside.line })
    c.args.piece.now
    ≡ record { place = c.loop-byte.self-inside.place; line = c.loop-byte.self-inside.line } =
    λ i. record {
      place =
          place-end _ c.loop-byte.piece c.loop-byte.byte-index c.loop-byte.self-inside.place k
          c.loop-byte.invariant.place i;
      line =
          line-end _ c.loop-byte.piece c.loop-byte.byte-index c.loop-byte.self-inside.place
          c.loop-byte.self-inside.line k c.loop-byte.invariant.line i;
    } in
    sym e ∙ ap (λ (v : DumpView). dump_after v c.args.piece.now) c.self.view_is
