use Rattle.std.proofs.Common.{ap, sym, subst, ◌∙◌, ◌+◌, ◌∷◌, Ok, Err}
use Rattle.ddcmp_io.specs.Written.{output_of}
use Rattle.ddcmp_line.specs.ScriptWords.{reading_of, without_cr}
use Rattle.ddcmp_line.specs.Inside.ScriptSteps.{scene_of, LineEnds}
use Rattle.ddcmp_line.specs.ScriptEnds.{around}
use Rattle.ddcmp_line.specs.Inside.ScriptProgress.{HasDone, course, played}
use Rattle.ddcmp_line.proofs.Playing.{take-byte, stop-byte, take-line, stop-line}
use Rattle.ddcmp_line.proofs.player.Player.take_byte.Goals as goal

pub returns-in-Ok-clause-takes : goal.returns-in-Ok-clause-takes
returns-in-Ok-clause-takes g c = λ input rest p d log start de h.
    let player = c.args.self.now in
    let out = output_of g.W.Sink.broken g.W.Sink.contents c.args.writer.now player.stage.page in
    let x = around p c.args.pair.now d log (g.C.Carrier.told c.args.carrier.now) in
    subst (λ l. HasDone input rest (played l player.number player.stage.lines) (course start out x))
    (sym c.in-Ok.ensures.items)
    (take-byte input rest player.line.items c.args.byte player.number player.stage.lines start
    out x c.if-byte-ne10.true h)

pub returns-in-Err-clause-takes : goal.returns-in-Err-clause-takes
returns-in-Err-clause-takes g c = λ input rest p d log start de h.
    let player = c.args.self.now in
    let out = output_of g.W.Sink.broken g.W.Sink.contents c.args.writer.now player.stage.page in
    let x = around p c.args.pair.now d log (g.C.Carrier.told c.args.carrier.now) in
    stop-byte input (c.args.byte ∷ rest)
    player.line.items player.number player.stage.lines start out x h

pub returns-in-Ok-do_line-clause-takes : goal.returns-in-Ok-do_line-clause-takes
returns-in-Ok-do_line-clause-takes g c = λ input rest p d log start de h.
    let q = c.args.pair.now in
    let r = c.do_line.new.pair in
    let lines = c.args.self.now.stage.lines in
    let later = c.do_line.new.self.lines in
    let told = g.C.Carrier.told c.args.carrier.now in
    let now = g.C.Carrier.told c.do_line.new.carrier in
    let before =
    output_of g.W.Sink.broken g.W.Sink.contents c.args.writer.now c.args.self.now.stage.page in
    let after =
    output_of g.W.Sink.broken g.W.Sink.contents c.do_line.new.writer c.do_line.new.self.page in
    let raw = c.args.self.now.line.items in
    let number = c.args.self.now.number in
    let line_is = c.without_cr.ensures ∙ ap without_cr c.deref.ensures.value in
    let ends =
    subst
    (λ e. LineEnds e told now (reading_of (without_cr raw)) (scene_of q lines)
    (scene_of r later) before after (Ok tt)) de
    (subst
    (λ l. LineEnds (g.C.Carrier.direct c.args.carrier.now) told now (reading_of l)
    (scene_of q lines) (scene_of r later) before after (Ok tt))
    line_is c.in-Ok-do_line.ensures.ends) in
    subst
    (λ l. HasDone input rest (played l (number + 1) later)
    (course start after (around p r d log now))) (sym c.clear.ensures.items)
    (take-line input rest raw number lines later p q r d log told now start before after
    (rw c.if-byte-ne10.false at h) ends)

pub returns-in-Err-do_line-clause-takes : goal.returns-in-Err-do_line-clause-takes
returns-in-Err-do_line-clause-takes g c = λ input rest p d log start de h.
    let q = c.args.pair.now in
    let r = c.do_line.new.pair in
    let lines = c.args.self.now.stage.lines in
    let later = c.do_line.new.self.lines in
    let told = g.C.Carrier.told c.args.carrier.now in
    let now = g.C.Carrier.told c.do_line.new.carrier in
    let before =
    output_of g.W.Sink.broken g.W.Sink.contents c.args.writer.now c.args.self.now.stage.page in
    let after =
    output_of g.W.Sink.broken g.W.Sink.contents c.do_line.new.writer c.do_line.new.self.page in
    let raw = c.args.self.now.line.items in
    let number = c.args.self.now.number in
    let line_is = c.without_cr.ensures ∙ ap without_cr c.deref.ensures.value in
    let why = c.in-Err-do_line.stop in
    let ends =
    subst
    (λ e. LineEnds e told now (reading_of (without_cr raw)) (scene_of q lines)
    (scene_of r later) before after (Err why)) de
    (subst
    (λ l. LineEnds (g.C.Carrier.direct c.args.carrier.now) told now (reading_of l)
    (scene_of q lines) (scene_of r later) before after (Err why))
    line_is c.in-Err-do_line.ensures.ends) in
    stop-line input rest raw number lines later p q r d log told now start before after
    (rw c.if-byte-ne10.false at h) why ends
