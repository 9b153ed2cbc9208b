use Rattle.std.proofs.Common.{◌∙◌, ap}
use Rattle.ddcmp_io.proofs.WrittenLaws.{sends-then}
use Rattle.ddcmp_io.proofs.TextLaws.{sends-as}
use Rattle.ddcmp_station.specs.declared.counts.Layout.TheVariants.{Json}
use Rattle.ddcmp_station.specs.CountersText.{counts_text}
use Rattle.ddcmp_station.specs.StationText.{state_text}
use Rattle.ddcmp_streams.proofs.ErrorsLaws.{through-page}
use Rattle.ddcmp_session.proofs.text.write_members.Goals as goal

pub returns : goal.returns
returns c =
    through-page c.args.out.now c.write-4.new.writer c.flush-is_whole.new.writer _ _ _ _
    c.new-page.ensures c.flush-is_whole.ensures.empty
    (sends-then
    (sends-then
    (sends-then
    (sends-then
    (sends-then
    (sends-then c.write.ensures.sends
    (sends-as (c.state_name.ensures ∙ ap state_text c.state.ensures) c.write-2.ensures.sends))
    c.write-3.ensures.sends) c.write_totals.ensures) c.write_counter.ensures)
    (sends-as (ap (counts_text Json) c.counters.ensures) c.write_counts.ensures))
    c.write-4.ensures.sends)
    c.flush-is_whole.ensures.sends
