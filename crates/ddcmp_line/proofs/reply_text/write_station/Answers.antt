use Rattle.std.proofs.Common.{ap, ◌∙◌}
use Rattle.std.specs.Prelude.{decimal}
use Rattle.ddcmp_io.proofs.WrittenLaws.{sends-then}
use Rattle.ddcmp_line.specs.ScriptText.{timer_text}
use Rattle.ddcmp_io.proofs.TextLaws.{sends-as}
use Rattle.ddcmp_line.proofs.reply_text.write_station.Goals as goal

pub returns : goal.returns
returns g c =
    sends-then
    (sends-then
    (sends-then
    (sends-then
    (sends-then (sends-then c.write.ensures.sends c.write_numbers.ensures)
    c.write-2.ensures.sends) (sends-as (ap decimal c.outgoing.ensures) c.write_number.ensures))
    c.write-3.ensures.sends)
    (sends-as (ap decimal c.waiting.ensures) c.write_number-2.ensures))
    (sends-as (c.timer_name.ensures ∙ ap timer_text c.timer_on.ensures) c.write-4.ensures.sends)
