use Rattle.std.proofs.Common.{◌++◌, ap, arith, sym, take, ◌∙◌}
use Rattle.std.specs.Prelude.{option_to_list}
use Rattle.std.proofs.lemmas.List.{take_all}
use Rattle.ddcmp_explain.proofs.LogLaws.{decodes-logged, decodes-wrong, logs-more, logs-none}
use Rattle.ddcmp_explain.proofs.LogLaws.{spot-logged}
use Rattle.ddcmp_explain.proofs.decoder.Decoder.spell.Goals as goal

pub loop-i-init : goal.loop-i-init
loop-i-init c = record {
  within = omega arith;
  inside = omega arith;
  logs = λ seen e s. logs-none seen c.args.piece.now _ _ e s;
}

pub loop-i-preserved : goal.loop-i-preserved
loop-i-preserved c = record {
  within = omega (arith, c.put-count.ensures.within, c.loop-i.invariant.within);
  inside = omega (arith, c.loop-i-test.true);
  logs = λ seen e s.
      logs-more seen c.args.piece.now c.loop-i.bytes c.loop-i.i c.loop-i.count c.loop-i.self.spot
      c.loop-i-test.true (c.loop-i.invariant.logs seen e s) c.put-count.result
      c.put-count.new.bytes c.after-self.result
      (c.put-count.ensures.put
      ∙ ap (λ o. take c.loop-i.count c.loop-i.bytes ++ option_to_list o) c.complete.ensures)
      c.after-self.ensures.place (sym c.if-is_wrong.ensures);
}

pub returns-then-is_wrong-clause-decodes : goal.returns-then-is_wrong-clause-decodes
returns-then-is_wrong-clause-decodes c = λ seen e s.
    decodes-wrong seen c.args.piece.now c.loop-i.bytes c.loop-i.i c.loop-i.count c.loop-i.self.spot
    c.loop-i-test.true (c.loop-i.invariant.logs seen e s) c.put-count.result
    c.put-count.new.bytes c.after-self.result
    (c.put-count.ensures.put
    ∙ ap (λ o. take c.loop-i.count c.loop-i.bytes ++ option_to_list o) c.complete.ensures)
    c.after-self.ensures.place _ (sym c.if-is_wrong.ensures)

pub returns-clause-decodes : goal.returns-clause-decodes
returns-clause-decodes c = λ seen e s.
    decodes-logged seen c.args.piece.now c.loop-i.bytes c.loop-i.i c.loop-i.count
    c.loop-i.self.spot _
    (take_all c.loop-i.i c.args.piece.now (omega (arith, c.loop-i-test.false))) c.half-self.ensures
    (c.loop-i.invariant.logs seen e s)

pub returns-clause-spot : goal.returns-clause-spot
returns-clause-spot c = λ seen e s _.
    spot-logged seen c.args.piece.now c.loop-i.bytes c.loop-i.i c.loop-i.count c.loop-i.self.spot
    (take_all c.loop-i.i c.args.piece.now (omega (arith, c.loop-i-test.false)))
    (c.loop-i.invariant.logs seen e s)
