-- What the lines of a log begin with.
use Rattle.std.specs.Prelude.{◌+◌, ◌-◌, ◌^◌, ℕ, min, ⊤, Option, Some, None}
use Rattle.ddcmp_log.specs.declared.side.Stamp.{Stamp}
use Rattle.ddcmp_log.specs.declared.side.Stamp.TheVariants as stamp
use Rattle.ddcmp_tap.specs.declared.tap_log.LogTimes.{LogTimes}
use Rattle.ddcmp_tap.specs.declared.tap_log.LogTimes.TheVariants.{Absent, Elapsed, OfDay}
use Rattle.ddcmp_tap.specs.declared.tap_log.TapLog.{TapLog}

abbrev pub stamp_in : LogTimes → ℕ → ℕ → Option Stamp
stamp_in Absent began now = None
stamp_in Elapsed began now = Some (stamp.Elapsed now)
stamp_in OfDay began now = Some (stamp.OfDay (min (began + now) (2 ^ 64 - 1)))

-- what lines of a moment begin with, if with a time
abbrev pub stamp_at : TapLog → ℕ → Option Stamp
stamp_at log now = stamp_in log.times log.began now

-- Lines begin with such a time, or with none.
abbrev pub IsStamp : LogTimes → Option Stamp → Type 0
IsStamp Absent None = ⊤
IsStamp Absent (Some (stamp.Elapsed ms)) = ⊥
IsStamp Absent (Some (stamp.OfDay ms)) = ⊥
IsStamp Elapsed None = ⊥
IsStamp Elapsed (Some (stamp.Elapsed ms)) = ⊤
IsStamp Elapsed (Some (stamp.OfDay ms)) = ⊥
IsStamp OfDay None = ⊥
IsStamp OfDay (Some (stamp.Elapsed ms)) = ⊥
IsStamp OfDay (Some (stamp.OfDay ms)) = ⊤
