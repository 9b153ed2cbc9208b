use Rattle.std.proofs.Common.{[], ap}
use Rattle.ddcmp_io.proofs.WrittenLaws.{sends-then}
use Rattle.ddcmp_io.proofs.TextLaws.{sends-as}
use Rattle.ddcmp_station.specs.CountersText.{counters_line}
use Rattle.ddcmp_net.specs.Serving.{end_text}
use Rattle.ddcmp_net.proofs.reporter.write_counted_totals.Goals as goal

pub returns : goal.returns
returns g c =
    sends-then (sends-as (ap (counters_line []) c.counters.ensures) c.write_counters.ensures)
    (sends-as (ap (end_text c.args.driven.now) c.state.ensures) c.write_totals.ensures)
