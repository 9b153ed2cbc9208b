use Rattle.std.proofs.Common.{ap, ◌∙◌}
use Rattle.std.specs.Prelude.{decimal}
use Rattle.ddcmp_io.proofs.WrittenLaws.{sends-then}
use Rattle.ddcmp_station.specs.StationText.{state_text}
use Rattle.ddcmp_io.proofs.TextLaws.{sends-as}
use Rattle.ddcmp_line.proofs.reply_text.write_numbers.Goals as goal

pub returns : goal.returns
returns g c =
    let n = c.numbers-numbers.ensures in
    sends-then
    (sends-then
    (sends-then
    (sends-then
    (sends-then
    (sends-then
    (sends-then
    (sends-then
    (sends-as (c.state_name.ensures ∙ ap state_text c.state.ensures) c.write.ensures.sends)
    c.write-2.ensures.sends)
    (sends-as (ap (λ m. decimal m.r.0) n) c.write_number.ensures)) c.write-3.ensures.sends)
    (sends-as (ap (λ m. decimal m.n.0) n) c.write_number-2.ensures)) c.write-4.ensures.sends)
    (sends-as (ap (λ m. decimal m.a.0) n) c.write_number-3.ensures)) c.write-5.ensures.sends)
    (sends-as (ap (λ m. decimal m.t.0) n) c.write_number-4.ensures)
