-- The reports of a bridge while it runs.
use Rattle.std.specs.Prelude.{◌≡◌, ℕ, ◌-◌, Bool, MatchBool, List, codes}
use Rattle.ddcmp_log.specs.Scheduling.{schedule_of}
use Rattle.ddcmp_bridge.specs.Report.{direction_line, report_object}
use Rattle.ddcmp_bridge.specs.declared.counts.Counts.{Counts}
use Rattle.ddcmp_bridge.specs.declared.errors.BridgeErrors.{BridgeErrors}
use Rattle.ddcmp_bridge.specs.declared.reports.Reports.{Reports}
use Rattle.ddcmp_streams.specs.Errors.{HasLine, HasObject}
use Rattle.ddcmp_streams.specs.declared.errors.TheConstants.{SHORT_LINE}

abbrev pub no_counts : Counts
no_counts = record { frames = 0; skipped = 0; damaged = 0; lost = 0; altered = 0 }

-- a report every this many seconds, or none for 0
abbrev pub reports_begun : ℕ → Bool → Reports
reports_begun seconds is_json = record {
  schedule = schedule_of seconds;
  is_json = is_json;
  there = no_counts;
  back = no_counts;
}

-- what was counted after some were
abbrev pub counts_since : Counts → Counts → Counts
counts_since now before = record {
  frames = now.frames - before.frames;
  skipped = now.skipped - before.skipped;
  damaged = now.damaged - before.damaged;
  lost = now.lost - before.lost;
  altered = now.altered - before.altered;
}

-- The counters of a direction were queued: as at the end of the bridge, or as a JSON object with
-- those of the interval.
pub record ReportsCounts (is_json : Bool) (mark : List ℕ) (counts more : Counts)
    (old new : BridgeErrors) : Type 0 where
  pub line : MatchBool is_json
      (HasObject SHORT_LINE (report_object mark counts more) old.lines new.lines)
      (HasLine SHORT_LINE (direction_line mark counts) old.lines new.lines)
  pub stays : new ≡ record old { lines = new.lines }

-- both directions, one after the other
pub record ReportsBoth (r : Reports) (there back : Counts) (old new : BridgeErrors)
    : Type 0 where
  pub middle : BridgeErrors
  pub first :
      ReportsCounts r.is_json (codes ">") there (counts_since there r.there) old middle
  pub second :
      ReportsCounts r.is_json (codes "<") back (counts_since back r.back) middle new
