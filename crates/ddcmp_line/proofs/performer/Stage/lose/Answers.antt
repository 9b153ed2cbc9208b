use Rattle.std.proofs.Common.{◌++◌, length, ap, sym, ◌∙◌}
use Rattle.std.specs.Prelude.{codes}
use Rattle.ddcmp_line.specs.Script.{frames_of}
use Rattle.ddcmp_line.specs.ScriptText.{end_name, counted_line}
use Rattle.ddcmp_line.proofs.Scenes.{lose-comes, lose-nothing}
use Rattle.ddcmp_io.proofs.TextLaws.{sends-as}
use Rattle.ddcmp_line.proofs.performer.Stage.lose.Goals as goal

pub returns-in-Some : goal.returns-in-Some
returns-in-Some g c = λ p.
    let lines = c.args.self.now.lines in
    lose-comes c.args.from c.in-Some.front (frames_of c.args.from lines) p lines c.pop.new.self _ _
    (sym c.in-Some.ensures.front) c.in-Some.ensures.frames
    (sends-as
    (ap (λ w. counted_line w (codes "lost ") (length c.as_slice.result.now)) c.end_name.ensures
    ∙ ap (λ b. counted_line (end_name c.args.from) (codes "lost ") (length b))
    c.as_slice.ensures) c.write_counted.ensures)

pub returns-in-None : goal.returns-in-None
returns-in-None g c = λ p.
    let lines = c.args.self.now.lines in
    lose-nothing c.args.from (frames_of c.args.from lines) p lines c.pop.new.self _ _
    (sym c.pop.ensures.front ∙ c.in-None.is) c.pop.ensures.frames
    (sends-as (ap (λ w. w ++ codes "empty\n") c.end_name-in-None.ensures) c.write_plain.ensures)
