-- What a bridge reports while it runs, and when.
use Rattle.std.specs.Prelude.{◌≡◌, ℕ, Bool, true, false, MatchBool, if◌then◌else◌, Option, Some}
use Rattle.std.specs.Prelude.{None}
use Rattle.ddcmp_log.specs.declared.notation.LogNotation.{LogNotation}
use Rattle.ddcmp_log.specs.declared.notation.LogNotation.TheVariants.{Plain, Json, Ladder}
use Rattle.ddcmp_bridge.specs.Crossing.{Counted}
use Rattle.ddcmp_log.specs.Scheduling.{is_due, next_due_after}
use Rattle.ddcmp_bridge.specs.Reporting.{ReportsBoth}
use Rattle.ddcmp_bridge.specs.declared.bridge.Bridge.{Bridge}
use Rattle.ddcmp_bridge.specs.declared.counts.Counts.{Counts}
use Rattle.ddcmp_bridge.specs.declared.errors.BridgeErrors.{BridgeErrors}

abbrev pub reports_json : Option LogNotation → Bool
reports_json None = false
reports_json (Some Plain) = false
reports_json (Some Json) = true
reports_json (Some Ladder) = false

-- the queue of lines, each with the time of day if that was asked for
abbrev pub with_time : ℕ → Bridge → BridgeErrors
with_time began b =
    if b.options.clock
    then record b.errors { lines = record b.errors.lines { began = Some began } }
    else b.errors

-- It reports the counters of both ways, those of earlier lines among them.
pub record ReportsNow (old new : Bridge) : Type 0 where
  pub there : Counts
  pub back : Counts
  pub counted : Counted old.earlier_there old.there there
  pub counted_back : Counted old.earlier_back old.back back
  pub both : ReportsBoth old.reports there back old.errors new.errors
  pub next : new.reports ≡ record old.reports {
    schedule = record old.reports.schedule {
      due_at = next_due_after old.reports.schedule old.moment;
    };
    there = there;
    back = back;
  }

-- if that is due
abbrev pub ReportsIfDue : Bridge → Bridge → Type 0
ReportsIfDue old new =
    MatchBool (is_due old.reports.schedule old.moment) (ReportsNow old new) (new ≡ old)
