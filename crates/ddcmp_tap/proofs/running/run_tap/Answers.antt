use Rattle.std.proofs.Common.{ap, refl, subst, sym}
use Rattle.ddcmp_ports.specs.Holding.{held_of}
use Rattle.ddcmp_tap.specs.InTurn.{PassesOver}
use Rattle.ddcmp_tap.proofs.InTurnLaws.{unbroken}
use Rattle.ddcmp_tap.proofs.LogLaws.{ended-as, logged, runs, stops, unlogged}
use Rattle.ddcmp_tap.proofs.running.run_tap.Goals as goal

pub returns-in-Err-clause-taps : goal.returns-in-Err-clause-taps
returns-in-Err-clause-taps g c =
    let going = runs _ c.loop-pause.tap c.run.new.machine (held_of c.loop-pause.buffers)
    (held_of c.run.new.buffers) (g.S.System.trace c.loop-pause.system)
    (g.S.System.trace c.run.new.system) _ _ c.run.ensures.on c.loop-pause.invariant.going in
    unlogged _ c.run.new.machine c.write_lines.new.tap _ _ _ _ _ c.in-Err.fault (c.in-Err.ensures.fault _ refl)
    c.in-Logging.ensures.outcome c.in-Err.ensures.wrote going

pub returns-in-Ended-clause-taps : goal.returns-in-Ended-clause-taps
returns-in-Ended-clause-taps g c =
    let going = runs _ c.loop-pause.tap c.run.new.machine (held_of c.loop-pause.buffers)
    (held_of c.run.new.buffers) (g.S.System.trace c.loop-pause.system)
    (g.S.System.trace c.run.new.system) _ _ c.run.ensures.on c.loop-pause.invariant.going in
    ended-as _ c.run.new.machine _ _ _ _ _ c.in-Ended.ended c.end.result c.in-Ended.ensures.outcome
    (λ e. let m = c.end.ensures.memory e in (m.0, ap (λ w. g.W.Sink.contents w) m.1))
    c.end.ensures.done c.end.ensures.carrier c.end.ensures.wrote going

pub loop-pause-preserved : goal.loop-pause-preserved
loop-pause-preserved g c =
    let going = runs _ c.loop-pause.tap c.run.new.machine (held_of c.loop-pause.buffers)
    (held_of c.run.new.buffers) (g.S.System.trace c.loop-pause.system)
    (g.S.System.trace c.run.new.system) _ _ c.run.ensures.on c.loop-pause.invariant.going in
    record {
      whole = unbroken c.write_lines.result (g.W.Sink.broken c.write_lines.new.writer) (subst PassesOver (sym c.in-Ok.is) tt)
          c.write_lines.ensures.broken;
      going = logged _ c.run.new.machine c.write_lines.new.tap _ _ _ _ _
          c.in-Logging.ensures.outcome c.in-Ok.ensures.wrote (c.in-Ok.ensures.counted refl) going;
    }

pub returns-clause-taps : goal.returns-clause-taps
returns-clause-taps g c =
    stops _ c.loop-pause.tap _ _ _ _ c.loop-pause.invariant.going
