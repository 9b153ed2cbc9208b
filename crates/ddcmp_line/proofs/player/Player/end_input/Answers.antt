use Rattle.std.proofs.Common.{◌≡◌, ◌<◌, length, subst, arith}
use Rattle.std.proofs.lemmas.Bool.Decides.{nat_tests}
use Rattle.ddcmp_io.specs.Written.{output_of}
use Rattle.ddcmp_line.specs.ScriptWords.{reading_of}
use Rattle.ddcmp_line.specs.Inside.ScriptSteps.{scene_of, LineEnds}
use Rattle.ddcmp_line.proofs.Playing.{end-nothing, end-any}
use Rattle.ddcmp_line.proofs.player.Player.end_input.Goals as goal

pub returns-then-is_empty-clause-ends : goal.returns-then-is_empty-clause-ends
returns-then-is_empty-clause-ends g c = λ input p d log start de h.
    let q = c.args.pair.now in
    let lines = c.args.self.now.stage.lines in
    let told = g.C.Carrier.told c.args.carrier.now in
    let raw = c.args.self.now.line.items in
    let before =
    output_of g.W.Sink.broken g.W.Sink.contents c.args.writer.now c.args.self.now.stage.page in
    let none : length raw ≡ 0 = grind (arith, nat_tests) in
    end-nothing input raw c.args.self.now.number lines lines p q q d log told told start before
    before h none

pub returns-clause-ends : goal.returns-clause-ends
returns-clause-ends g c = λ input p d log start de h.
    let q = c.args.pair.now in
    let r = c.do_line.new.pair in
    let lines = c.args.self.now.stage.lines in
    let later = c.do_line.new.self.lines in
    let told = g.C.Carrier.told c.args.carrier.now in
    let now = g.C.Carrier.told c.do_line.new.carrier in
    let before =
    output_of g.W.Sink.broken g.W.Sink.contents c.args.writer.now c.args.self.now.stage.page in
    let after =
    output_of g.W.Sink.broken g.W.Sink.contents c.do_line.new.writer c.do_line.new.self.page in
    let raw = c.args.self.now.line.items in
    let number = c.args.self.now.number in
    let some : 0 < length raw = grind (arith, nat_tests) in
    let ends =
    subst
    (λ e. LineEnds e told now (reading_of raw) (scene_of q lines) (scene_of r later)
    before after c.do_line.result) de
    (subst
    (λ l. LineEnds (g.C.Carrier.direct c.args.carrier.now) told now (reading_of l)
    (scene_of q lines) (scene_of r later) before after c.do_line.result)
    c.deref.ensures.value c.do_line.ensures.ends) in
    end-any input raw number lines later p q r d log told now start before after h some
    c.do_line.result ends
