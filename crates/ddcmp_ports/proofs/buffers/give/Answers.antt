use Rattle.std.proofs.Common.{◌∙◌, ap, drop, refl, subst, sym, take}
use Rattle.std.proofs.lemmas.List.{take-append-drop}
use Rattle.ddcmp_ports.specs.Running.{GoesOn, put}
use Rattle.ddcmp_ports.proofs.RunLaws.{gave, given-again, put-same, stays}
use Rattle.ddcmp_ports.proofs.buffers.give.Goals as goal

pub loop-part-init : goal.loop-part-init
loop-part-init g c = λ trace held is.
    stays (put-same c.args.port c.args.chunk.now held is) (λ q. refl)

pub loop-part-preserved : goal.loop-part-preserved
loop-part-preserved g c = λ trace held is.
    let n = c.give-n.result in
    let bytes = c.rest.result.now in
    given-again c.args.port c.loop-part.chunk c.used.new.self (c.loop-part.invariant trace held is)
    (λ held is.
    subst
    (λ rest. GoesOn g.M.Machine.has g.M.Machine.asked c.loop-part.machine held trace c.give-n.new.self
    (put c.args.port rest held) trace)
    (ap (drop n) c.rest.ensures ∙ sym c.used.ensures)
    (gave c.args.port (take n bytes) (drop n bytes)
    (is ∙ sym c.rest.ensures ∙ sym (take-append-drop n bytes)) c.give-n.ensures.has))
