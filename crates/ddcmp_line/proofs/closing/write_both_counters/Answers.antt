use Rattle.std.proofs.Common.{ap, ap₂, ◌∙◌}
use Rattle.ddcmp_core.specs.Core.{CoreView}
use Rattle.ddcmp_io.proofs.WrittenLaws.{sends-then}
use Rattle.ddcmp_io.proofs.TextLaws.{sends-as}
use Rattle.ddcmp_station.specs.CountersText.{counters_line}
use Rattle.ddcmp_line.proofs.closing.write_both_counters.Goals as goal

pub returns : goal.returns
returns g c =
    sends-then
    (sends-as
    (ap₂ counters_line c.end_name.ensures
    (c.counters-first.ensures ∙ ap (λ (k : CoreView). k.counters) c.station.ensures.core))
    c.write_counters.ensures)
    (sends-as
    (ap₂ counters_line c.end_name-2.ensures
    (c.counters-second.ensures ∙ ap (λ (k : CoreView). k.counters) c.station-2.ensures.core))
    c.write_counters-2.ensures)
