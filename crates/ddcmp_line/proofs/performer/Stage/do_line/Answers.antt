use Rattle.std.proofs.Common.{[], subst, refl, Ok, inl}
use Rattle.ddcmp_io.specs.Written.{output_of}
use Rattle.ddcmp_line.specs.Inside.ScriptSteps.{scene_of, LineEnds}
use Rattle.ddcmp_line.proofs.Scenes.{carries-nothing}
use Rattle.ddcmp_io.proofs.TextLaws.{sends-nothing}
use Rattle.ddcmp_line.proofs.performer.Stage.do_line.Goals as goal

pub returns-in-Ok-Skipped-clause-ends : goal.returns-in-Ok-Skipped-clause-ends
returns-in-Ok-Skipped-clause-ends g c =
    let s = scene_of c.args.pair.now c.args.self.now.lines in
    let d = g.C.Carrier.direct c.args.carrier.now in
    let log = g.C.Carrier.told c.args.carrier.now in
    let is = rw c.in-Ok-Skipped.field-0-is at c.in-Ok-Skipped.ensures in
    let out = output_of g.W.Sink.broken g.W.Sink.contents c.args.writer.now c.args.self.now.page in
    subst (λ r. LineEnds d log log r s s out out (Ok tt)) is
    ([], λ e. cc, λ e. cc, refl, sends-nothing out, carries-nothing d log)

pub returns-in-Err-clause-ends : goal.returns-in-Err-clause-ends
returns-in-Err-clause-ends g c = (
  sends-nothing _,
  inl (
    refl,
    carries-nothing (g.C.Carrier.direct c.args.carrier.now)
        (g.C.Carrier.told c.args.carrier.now),
  ),
)
