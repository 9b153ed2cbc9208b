use Rattle.std.proofs.Common.{◌∙◌, ◌++◌, ap, drop, sym}
use Rattle.ddcmp_explain.specs.Output.{line_in}
use Rattle.ddcmp_io.proofs.WrittenLaws.{sends-then}
use Rattle.ddcmp_io.proofs.TextLaws.{sends-as}
use Rattle.ddcmp_frame.specs.Reading.{ReadItem}
use Rattle.ddcmp_log.specs.Logged.{plain_front}
use Rattle.ddcmp_log.specs.Reasons.{with_reason}
use Rattle.ddcmp_log.proofs.reason.write_reasoned.Goals as goal

pub returns-in-Some : goal.returns-in-Some
returns-in-Some g c =
    let given : ReadItem = (c.args.item.now, c.args.data.now) in
    let front = plain_front c.args.origin.stamp c.args.origin.side in
    sends-as
    (ap (λ r. front ++ with_reason r given) (sym c.in-Some.is ∙ c.reason_in.ensures))
    (sends-then c.write_plain_front.ensures
    (sends-then (sends-then (sends-then c.write_words.ensures c.write.ensures.sends)
    (sends-as c.reason_name.ensures.name c.write-in-Some.ensures.sends))
    c.write-in-Some-2.ensures.sends))

pub returns-in-None : goal.returns-in-None
returns-in-None g c =
    let given : ReadItem = (c.args.item.now, c.args.data.now) in
    sends-as
    (ap (λ r. plain_front c.args.origin.stamp c.args.origin.side ++ with_reason r given)
    (sym c.in-None.is ∙ c.reason_in.ensures))
    (sends-then c.write_plain_front.ensures
    (sends-as (ap (λ part. drop part.from (line_in part.notation given)) c.whole.ensures)
    c.write_item.ensures))
