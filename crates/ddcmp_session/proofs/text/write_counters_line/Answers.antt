use Rattle.std.proofs.Common.{[], ap}
use Rattle.ddcmp_io.proofs.TextLaws.{sends-as}
use Rattle.ddcmp_station.specs.CountersText.{counters_line}
use Rattle.ddcmp_streams.proofs.ErrorsLaws.{through-page}
use Rattle.ddcmp_session.proofs.text.write_counters_line.Goals as goal

pub returns : goal.returns
returns c =
    through-page c.args.out.now c.write_counters.new.writer c.flush-is_whole.new.writer _ _ _ _
    c.new-page.ensures c.flush-is_whole.ensures.empty
    (sends-as (ap (counters_line []) c.counters.ensures) c.write_counters.ensures)
    c.flush-is_whole.ensures.sends
