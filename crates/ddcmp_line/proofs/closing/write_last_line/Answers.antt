use Rattle.std.proofs.Common.{ap, ◌∙◌}
use Rattle.std.specs.Prelude.{decimal}
use Rattle.ddcmp_io.proofs.WrittenLaws.{sends-then}
use Rattle.ddcmp_line.specs.ScriptText.{yes_or_no}
use Rattle.ddcmp_io.proofs.TextLaws.{sends-as}
use Rattle.ddcmp_line.proofs.closing.write_last_line.Goals as goal

pub returns : goal.returns
returns g c =
    sends-then
    (sends-then
    (sends-then
    (sends-then
    (sends-then
    (sends-then
    (sends-then
    (sends-then (sends-then (sends-then (sends-then (sends-then c.write.ensures.sends
    (sends-as (c.yes_or_no.ensures ∙ ap yes_or_no c.honest.ensures) c.write-2.ensures.sends))
    c.write-3.ensures.sends)
    (sends-as (c.yes_or_no-2.ensures ∙ ap yes_or_no c.clean.ensures) c.write-4.ensures.sends))
    c.write-5.ensures.sends)
    (sends-as (ap decimal c.handed_up.ensures) c.write_number.ensures)) c.write-6.ensures.sends)
    (sends-as (ap decimal c.handed_up-2.ensures) c.write_number-2.ensures)) c.write-7.ensures.sends)
    (sends-as (ap decimal c.acknowledged.ensures) c.write_number-3.ensures))
    c.write-8.ensures.sends)
    (sends-as (ap decimal c.acknowledged-2.ensures) c.write_number-4.ensures))
    c.write-9.ensures.sends
