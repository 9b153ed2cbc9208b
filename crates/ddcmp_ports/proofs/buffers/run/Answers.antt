use Rattle.std.proofs.Common.{ap, refl, subst, sym}
use Rattle.ddcmp_ports.specs.Holding.{held_of}
use Rattle.ddcmp_ports.specs.Running.{GoesOn, Keeps}
use Rattle.ddcmp_ports.proofs.RunLaws.{goes-known, goes-then, rested, stays, stopped, timed}
use Rattle.ddcmp_ports.proofs.buffers.run.Goals.{then-turn-eq0, else-turn-eq0}
use Rattle.ddcmp_ports.proofs.buffers.run.Goals as goal

pub loop-turn-init : goal.loop-turn-init
loop-turn-init g c = stays (λ q. refl) (λ q. refl)

pub returns-in-Some-clause-on : goal.returns-in-Some-clause-on
returns-in-Some-clause-on g c =
    goes-then (goes-known c.loop-turn.invariant c.now-now.ensures.trace)
    (timed c.now-now.result c.pass_time.ensures.has)

pub loop-turn-preserved-then-pass : goal.loop-turn-preserved-then-pass
loop-turn-preserved-then-pass g c =
    let went =
    goes-then (goes-known c.loop-turn.invariant c.now-now.ensures.trace)
    (goes-then (timed c.now-now.result c.pass_time.ensures.has) c.pass.ensures.on) in
    elim c.if-turn-eq0.branch [
      | then-turn-eq0 w ↦
          goes-known went
          (subst (λ s. Keeps (g.S.System.trace c.pass.new.system) (g.S.System.trace s))
          (sym w.system-is) w.poll.ensures)
      | else-turn-eq0 w ↦
          subst
          (λ s. GoesOn g.M.Machine.has g.M.Machine.asked c.args.machine.now (held_of c.args.buffers.now)
          (g.S.System.trace c.args.system.now) c.pass.new.machine (held_of c.pass.new.self)
          (g.S.System.trace s)) (sym w.system-is) went
    ]

pub loop-turn-preserved-then-rests : goal.loop-turn-preserved-then-rests
loop-turn-preserved-then-rests g c =
    goes-then
    (goes-then (goes-known c.loop-turn.invariant c.now-now.ensures.trace)
    (goes-then (timed c.now-now.result c.pass_time.ensures.has) c.pass.ensures.on))
    (rested c.rests.ensures.has)

pub loop-turn-preserved : goal.loop-turn-preserved
loop-turn-preserved g c =
    goes-known
    (goes-then
    (goes-then (goes-known c.loop-turn.invariant c.now-now.ensures.trace)
    (goes-then (timed c.now-now.result c.pass_time.ensures.has) c.pass.ensures.on))
    (rested c.rests.ensures.has)) c.wait.ensures

pub returns-then-not-wait-clause-on : goal.returns-then-not-wait-clause-on
returns-then-not-wait-clause-on g c =
    goes-then
    (goes-known
    (goes-then
    (goes-then (goes-known c.loop-turn.invariant c.now-now.ensures.trace)
    (goes-then (timed c.now-now.result c.pass_time.ensures.has) c.pass.ensures.on))
    (rested c.rests.ensures.has)) c.wait.ensures)
    (stopped c.stop.ensures.has)

pub returns-clause-on : goal.returns-clause-on
returns-clause-on g c = goes-then c.loop-turn.invariant (stopped c.stop-2.ensures.has)
