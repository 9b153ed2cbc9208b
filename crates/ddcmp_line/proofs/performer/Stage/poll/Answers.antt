use Rattle.std.proofs.Common.{ap, subst}
use Rattle.ddcmp_io.specs.Written.{HandsOver, output_of}
use Rattle.ddcmp_pair.specs.declared.event.Event.TheVariants as event
use Rattle.ddcmp_pair.specs.Run.{reply_to}
use Rattle.ddcmp_line.specs.declared.performer.Stage.{Stage}
use Rattle.ddcmp_line.specs.ScriptText.{end_name, reply_text}
use Rattle.ddcmp_line.proofs.Scenes.{poll-comes-a, poll-comes-b}
use Rattle.ddcmp_line.proofs.performer.Stage.poll.Goals as goal

pub returns-in-A-clause-comes : goal.returns-in-A-clause-comes
returns-in-A-clause-comes g c = λ ok.
    let after = output_of g.W.Sink.broken g.W.Sink.contents c.poll.new.writer c.poll.new.page in
    let text =
    subst
    (λ page. HandsOver (output_of g.W.Sink.broken g.W.Sink.contents c.args.writer.now page)
    after (reply_text (end_name c.args.end) (reply_to (event.Poll c.args.end) c.args.pair.now)))
    (ap (λ (s : Stage). s.page) c.self.view_is) (c.poll.ensures.text ok) in
    poll-comes-a c.args.end c.in-A.is c.args.pair.now c.poll.new.pair c.args.self.now.lines _ _
    c.poll.new.frames.items
    (output_of g.W.Sink.broken g.W.Sink.contents c.args.writer.now c.args.self.now.page) after
    (ap (λ (s : Stage). s.lines) c.self.view_is) (c.poll.ensures.pair ok)
    (c.poll.ensures.frames ok) text

pub returns-in-B-clause-comes : goal.returns-in-B-clause-comes
returns-in-B-clause-comes g c = λ ok.
    let after =
    output_of g.W.Sink.broken g.W.Sink.contents c.poll-in-B.new.writer c.poll-in-B.new.page in
    let text =
    subst
    (λ page. HandsOver (output_of g.W.Sink.broken g.W.Sink.contents c.args.writer.now page)
    after (reply_text (end_name c.args.end) (reply_to (event.Poll c.args.end) c.args.pair.now)))
    (ap (λ (s : Stage). s.page) c.self.view_is) (c.poll-in-B.ensures.text ok) in
    poll-comes-b c.args.end c.in-B.is c.args.pair.now c.poll-in-B.new.pair c.args.self.now.lines _ _
    c.poll-in-B.new.frames.items
    (output_of g.W.Sink.broken g.W.Sink.contents c.args.writer.now c.args.self.now.page) after
    (ap (λ (s : Stage). s.lines) c.self.view_is) (c.poll-in-B.ensures.pair ok)
    (c.poll-in-B.ensures.frames ok) text
