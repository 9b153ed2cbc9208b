use Rattle.std.proofs.Common.{sym, ◌∙◌}
use Rattle.ddcmp_pair.specs.Run.{reply_to}
use Rattle.ddcmp_line.proofs.Scenes.{comes-event, lines-stay}
use Rattle.ddcmp_line.proofs.performer.Stage.happen.Goals as goal

pub returns-in_default : goal.returns-in_default
returns-in_default g c = record {
  comes = λ ok.
      let ev = c.args.event in
      let p = c.args.pair.now in
      let lines = c.args.self.now.lines in
      comes-event ev p c.step.new.pair lines c.step.new.self.lines _ _ (c.step.ensures.pair ok)
      (c.step.ensures.lines
      ∙ sym (lines-stay ev c.in_default.not-Poll c.in_default.not-Clear (reply_to ev p) lines))
      (c.step.ensures.text ok);
  memory = c.step.ensures.memory;
}
