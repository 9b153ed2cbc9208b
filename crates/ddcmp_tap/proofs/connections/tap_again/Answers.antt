use Rattle.std.proofs.Common.{◌≡◌, ◌∙◌, sym, refl}
use Rattle.ddcmp_tap.specs.declared.tap_fault.Stage.TheVariants.{Connect, Listen}
use Rattle.ddcmp_tap.proofs.InTurnLaws.{begins, goes_on, carrier_fault, unbroken}
use Rattle.ddcmp_tap.proofs.connections.tap_again.Goals as goal

pub returns-in-Err-clause-says : goal.returns-in-Err-clause-says
returns-in-Err-clause-says g c =
    carrier_fault c.args.log.notation c.args.log.times c.args.log.max (g.W.Sink.contents c.args.writer.now)
    (g.W.Sink.contents c.args.writer.now) c.carrier_fault.result
    (begins c.args.log.notation c.args.log.times c.args.log.max (g.W.Sink.contents c.args.writer.now))

pub returns-in-Err-clause-lasts : goal.returns-in-Err-clause-lasts
returns-in-Err-clause-lasts g c = λ e.
    let bad : Listen ≡ Connect = sym c.carrier_fault.ensures.stage ∙ e in cc

pub loop-turn-init : goal.loop-turn-init
loop-turn-init g c = record {
  whole = c.requires.whole;
  wrote = begins c.args.log.notation c.args.log.times c.args.log.max (g.W.Sink.contents c.args.writer.now);
}

pub loop-turn-preserved : goal.loop-turn-preserved
loop-turn-preserved g c = record {
  whole = unbroken c.carry-ended.result (g.W.Sink.broken c.carry-ended.new.writer)
      (c.in_default.ensures.passes refl) c.carry-ended.ensures.broken;
  wrote = goes_on c.args.log.notation c.args.log.times c.args.log.max (g.W.Sink.contents c.args.writer.now)
      (g.W.Sink.contents c.loop-turn.writer) (g.W.Sink.contents c.carry-ended.new.writer)
      c.carry-ended.result (c.in_default.ensures.passes refl) c.loop-turn.invariant.wrote
      c.carry-ended.ensures.says;
}

pub returns-in-Err-accept_next-clause-says : goal.returns-in-Err-accept_next-clause-says
returns-in-Err-accept_next-clause-says g c =
    carrier_fault c.args.log.notation c.args.log.times c.args.log.max (g.W.Sink.contents c.args.writer.now)
    (g.W.Sink.contents c.loop-turn.writer)
    c.carrier_fault-in-Err-accept_next.result c.loop-turn.invariant.wrote

pub returns-in-Err-accept_next-clause-lasts : goal.returns-in-Err-accept_next-clause-lasts
returns-in-Err-accept_next-clause-lasts g c = λ e.
    let bad : Listen ≡ Connect = sym c.carrier_fault-in-Err-accept_next.ensures.stage ∙ e in cc

pub returns-clause-says : goal.returns-clause-says
returns-clause-says g c =
    carrier_fault c.args.log.notation c.args.log.times c.args.log.max (g.W.Sink.contents c.args.writer.now)
    (g.W.Sink.contents c.loop-turn.writer) _ c.loop-turn.invariant.wrote
