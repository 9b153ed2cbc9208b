use Rattle.std.proofs.Common.{◌==◌, ◌++◌, length, ap, refl, ◌∙◌}
use Rattle.ddcmp_line.specs.Script.{frames_of, outcome_of_damage}
use Rattle.ddcmp_line.specs.ScriptText.{end_name, damage_text}
use Rattle.ddcmp_line.specs.Inside.ScriptSteps.{scene_of}
use Rattle.ddcmp_line.proofs.Scenes.{comes-between}
use Rattle.ddcmp_io.proofs.TextLaws.{sends-as}
use Rattle.ddcmp_line.proofs.performer.Stage.damage.Goals as goal

pub returns : goal.returns
returns g c = λ p.
    let lines = c.args.self.now.lines in
    let frames = frames_of c.args.from lines in
    let there = c.change_front-is_there in
    let words =
    c.damage_name.ensures ∙ ap (λ b. damage_text b there.result) c.is_empty-is_empty.ensures
    ∙ ap (damage_text (length frames == 0)) there.ensures.answer in
    comes-between (outcome_of_damage c.args.from c.args.at c.args.by frames (scene_of p lines))
    p lines there.new.self _ _ refl there.ensures.frames
    (sends-as
    (ap (λ w. w ++ c.damage_name.result.now) c.end_name.ensures
    ∙ ap (λ w. end_name c.args.from ++ w) words) c.write_plain.ensures)
