use Rattle.std.proofs.Common.{◌∙◌, ap, codes}
use Rattle.ddcmp_io.proofs.WrittenLaws.{sends-then}
use Rattle.ddcmp_io.proofs.TextLaws.{sends-as}
use Rattle.ddcmp_station.specs.CountersText.{counters_line}
use Rattle.ddcmp_station.specs.StationText.{state_text}
use Rattle.ddcmp_streams.proofs.ErrorsLaws.{through-page}
use Rattle.ddcmp_session.proofs.text.write_report.Goals as goal

pub returns : goal.returns
returns c =
    through-page c.args.out.now c.write_counters.new.writer c.flush-is_whole.new.writer _ _ _ _
    c.new-page.ensures c.flush-is_whole.ensures.empty
    (sends-then
    (sends-then
    (sends-then
    (sends-then c.write.ensures.sends
    (sends-as (c.state_name.ensures ∙ ap state_text c.state.ensures) c.write-2.ensures.sends))
    c.write_totals.ensures) c.write_counter.ensures)
    (sends-as (ap (counters_line (codes " ")) c.counters.ensures) c.write_counters.ensures))
    c.flush-is_whole.ensures.sends
