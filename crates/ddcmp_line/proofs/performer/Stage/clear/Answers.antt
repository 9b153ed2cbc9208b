use Rattle.std.proofs.Common.{[], ap, refl, ◌∙◌}
use Rattle.ddcmp_pair.specs.declared.event.Event.TheVariants as event
use Rattle.ddcmp_line.specs.ScriptText.{reply_text}
use Rattle.ddcmp_line.specs.Script.{cleared_by}
use Rattle.ddcmp_line.proofs.Scenes.{comes-event}
use Rattle.ddcmp_io.proofs.TextLaws.{sends-as}
use Rattle.ddcmp_line.proofs.performer.Stage.clear.Goals as goal

pub returns-clause-comes : goal.returns-clause-comes
returns-clause-comes g c = λ ok.
    let reply = c.in_ok-reply.ensures.reply in
    comes-event event.Clear c.args.pair.now c.step_watched.new.self c.args.self.now.lines
    c.clear_after.new.self _ _ (c.in_ok-reply.ensures.state refl)
    (c.clear_after.ensures ∙ ap (λ r. cleared_by r c.args.self.now.lines) reply)
    (sends-as (ap (reply_text []) reply) c.write_reply.ensures)
