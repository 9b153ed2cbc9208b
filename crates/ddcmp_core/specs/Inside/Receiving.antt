-- A core after an input, and what is reported to its user: the rows of each state, with their
-- counters.
use Rattle.std.specs.Prelude.{ℕ, List, length, Option}
use Rattle.ddcmp_frame.specs.Fields.{ShortFields}
use Rattle.ddcmp_core.specs.declared.counters.Counters.{Counters}
use Rattle.ddcmp_core.specs.declared.notice.Notice.{Notice}
use Rattle.ddcmp_core.specs.Table.{Received, Good, takes_data, on_istart, on_astart, astart_notice}
use Rattle.ddcmp_core.specs.Table.{on_running, running_notice, on_maintenance, maintenance_notice}
use Rattle.ddcmp_core.specs.Counting.{counters_after_up_if, astart_counters, running_counters}
use Rattle.ddcmp_core.specs.Counting.{maintenance_counters}
use Rattle.ddcmp_core.specs.Frames.{frame_of_control}
use Rattle.ddcmp_core.specs.Core.{CoreView}

-- a good control message as an input
abbrev pub received_control : ShortFields → Received
received_control h = Good (frame_of_control h.kind h)

abbrev pub core_on_istart : Received → CoreView → CoreView
core_on_istart h c = record c { station = on_istart c.station h }

abbrev pub core_on_astart : Received → CoreView → CoreView
core_on_astart h c = record c {
  station = on_astart c.limits c.station h;
  counters = astart_counters c.limits c.station h c.counters;
}

abbrev pub told_in_astart : Received → CoreView → Option Notice
told_in_astart h c = astart_notice c.limits c.station h

abbrev pub core_on_running : Received → CoreView → CoreView
core_on_running h c = record c {
  station = on_running c.limits c.station h;
  counters = running_counters c.limits c.station h c.counters;
}

abbrev pub told_in_running : Received → CoreView → Option Notice
told_in_running h c = running_notice c.limits c.station h

abbrev pub core_on_maintenance : Received → CoreView → CoreView
core_on_maintenance h c = record c {
  station = on_maintenance c.limits c.station h;
  counters = maintenance_counters c.limits c.station h c.counters;
}

abbrev pub told_in_maintenance : Received → CoreView → Option Notice
told_in_maintenance h c = maintenance_notice c.limits c.station h

-- a data message is counted if the inbox accepts it
abbrev pub counters_on_data : ℕ → List ℕ → CoreView → Counters
counters_on_data num message c =
    counters_after_up_if (takes_data c.limits c.station num) (length message) c.counters
