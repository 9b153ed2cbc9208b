use Rattle.std.proofs.Common.{◌∙◌, ap}
use Rattle.ddcmp_io.proofs.WrittenLaws.{sends-then}
use Rattle.ddcmp_io.proofs.TextLaws.{sends-as}
use Rattle.ddcmp_station.specs.StationText.{state_text}
use Rattle.ddcmp_session.proofs.text.write_end_line.Goals as goal

pub returns : goal.returns
returns c =
    sends-then
    (sends-then
    (sends-then c.write.ensures.sends
    (sends-as (c.state_name.ensures ∙ ap state_text c.state.ensures) c.write-2.ensures.sends))
    c.write_totals.ensures) c.write-3.ensures.sends
