-- The options of a session.
use Rattle.std.specs.Prelude.{ℕ, ◌*◌, ◌==◌, Bool, ◌||◌, if◌then◌else◌}
use Rattle.ddcmp_streams.specs.declared.options.Options.{Options}

-- the milliseconds between two reports of the counters
abbrev pub report_ms : Options → ℕ
report_ms o = 1000 * o.report

-- the speed of a serial line in bits a second; if it isn't known it is taken to be 9600
abbrev pub speed_of : Options → ℕ
speed_of o = if o.baud == 0 then 9600 else o.baud

-- A received message is taken as soon as its text is queued, and not only once that was written: if
-- messages are acknowledged early, and in maintenance mode, in which none is acknowledged.
abbrev pub takes_at_once : Options → Bool
takes_at_once o = o.maintenance || o.acknowledge_early
