use Rattle.std.proofs.Common.{inr}
use Rattle.std.proofs.KnownBytes.{Keeps-refl}
use Rattle.ddcmp_cli.specs.Scripts.{RunsBy}
use Rattle.ddcmp_commands.specs.Endings.{streams}
use Rattle.ddcmp_cli.proofs.ScriptLaws.{not_opened, shown_of_file}
use Rattle.ddcmp_cli.proofs.script_command.script_asked.Goals as goal

pub returns-in-Ok-open-clause-shows : goal.returns-in-Ok-open-clause-shows
returns-in-Ok-open-clause-shows g c = λ input e.
    let args = c.args.args.now in
    shown_of_file (g.S.Inputs.held c.args.system.now) args.file c.in-Some.name args.view
    c.in-Ok.picture (RunsBy c.args.way args.from args.view.counters)
    (streams input (g.R.Source.left c.args.reader.now) (g.W.Sink.contents c.args.writer.now)
    (g.W.Sink.contents c.play_by-in-Ok-open.new.writer)) c.play_by-in-Ok-open.result c.in-Some.is
    c.in-Ok.ensures e
    (inr (inr (λ content held. (
      _,
      c.play_by-in-Ok-open.ensures.runs content (c.in-Ok-open.ensures.held content held),
    ))))

pub returns-in-Err-open-clause-shows : goal.returns-in-Err-open-clause-shows
returns-in-Err-open-clause-shows g c = λ input e.
    let args = c.args.args.now in
    let text = g.W.Sink.contents c.args.writer.now in
    let Runs = RunsBy c.args.way args.from args.view.counters in
    shown_of_file (g.S.Inputs.held c.args.system.now) args.file c.in-Some.name args.view
    c.in-Ok.picture Runs (streams input (g.R.Source.left c.args.reader.now) text text)
    c.unopened.result c.in-Some.is c.in-Ok.ensures e
    (not_opened c.in-Some.name.now _ text text (Runs _) c.unopened.result c.unopened.ensures.name
    (Keeps-refl text))
