-- When reports are due.
use Rattle.std.specs.Prelude.{◌≡◌, ℕ, ◌+◌, ◌-◌, ◌*◌, ◌%◌, ◌^◌, ◌==◌, ◌&&◌, not, nat_le, nat_lt, min}
use Rattle.std.specs.Prelude.{Bool, false, if◌then◌else◌}
use Rattle.ddcmp_log.specs.declared.schedule.Schedule.{Schedule}

-- a report every this many seconds, or none for 0
abbrev pub schedule_of : ℕ → Schedule
schedule_of seconds = record {
  every_ms = 1000 * seconds;
  due_at = if 1000 * seconds == 0 then 2 ^ 64 - 1 else 1000 * seconds;
}

abbrev pub is_due : Schedule → ℕ → Bool
is_due s now = not (s.every_ms == 0) && nat_le s.due_at now

-- a whole number of intervals after this report was due
abbrev pub next_due_after : Schedule → ℕ → ℕ
next_due_after s now = min (now - (now - s.due_at) % s.every_ms + s.every_ms) (2 ^ 64 - 1)

-- No report is due. None is at the last moment that there is.
abbrev pub NoneIsDue : ℕ → Schedule → Type 0
NoneIsDue now s = (is_due s now && nat_lt now (2 ^ 64 - 1)) ≡ false
