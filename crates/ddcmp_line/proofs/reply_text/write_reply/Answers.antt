use Rattle.std.proofs.Common.{ap, sym, ◌∙◌}
use Rattle.std.specs.Prelude.{codes}
use Rattle.ddcmp_line.specs.ScriptText.{reply_text, bytes_line}
use Rattle.ddcmp_line.proofs.ReplyLaws.{text-of-started, text-of-wrote, text-of-took}
use Rattle.ddcmp_line.proofs.ReplyLaws.{text-of-nothing}
use Rattle.ddcmp_io.proofs.TextLaws.{sends-as}
use Rattle.ddcmp_line.proofs.reply_text.write_reply.Goals as goal

pub returns-in-Started : goal.returns-in-Started
returns-in-Started g c =
    sends-as
    (sym (text-of-started c.args.who.now c.in-Started.dropped)
    ∙ ap (reply_text c.args.who.now) (sym c.in-Started.is)) c.write_counted.ensures

pub returns-in-Wrote : goal.returns-in-Wrote
returns-in-Wrote g c =
    let who = c.args.who.now in
    sends-as
    (ap (bytes_line who (codes "wrote ")) c.as_slice.ensures
    ∙ sym (text-of-wrote who c.in-Wrote.bytes) ∙ ap (reply_text who) (sym c.in-Wrote.is))
    c.write_bytes.ensures

pub returns-in-Took : goal.returns-in-Took
returns-in-Took g c =
    let who = c.args.who.now in
    sends-as
    (ap (bytes_line who (codes "took ")) c.as_slice-in-Took.ensures
    ∙ sym (text-of-took who c.in-Took.message) ∙ ap (reply_text who) (sym c.in-Took.is))
    c.write_bytes-in-Took.ensures

pub returns-in-Nothing : goal.returns-in-Nothing
returns-in-Nothing g c =
    sends-as
    (sym (text-of-nothing c.args.who.now)
    ∙ ap (reply_text c.args.who.now) (sym c.in-Nothing.is)) c.write_plain-in-Nothing.ensures
