-- The reports of a tap while it runs.
use Rattle.std.specs.Prelude.{◌≡◌, ◌==◌, ◌++◌, ℕ, List, [], Option, MatchBool, Result, Ok, Err}
use Rattle.std.specs.Prelude.{length}
use Rattle.ddcmp_log.specs.Items.{HasTold, ItemLogView}
use Rattle.ddcmp_log.specs.Logged.{reported_line}
use Rattle.ddcmp_log.specs.Scheduling.{is_due, next_due_after, schedule_of}
use Rattle.ddcmp_log.specs.declared.no_memory.NoMemory.{NoMemory}
use Rattle.ddcmp_log.specs.declared.schedule.Schedule.{Schedule}
use Rattle.ddcmp_log.specs.declared.side.Added.{Added}
use Rattle.ddcmp_log.specs.declared.side.Stamp.{Stamp}

-- The reports that weren't printed yet, when the next is due, and what had come from each side at
-- the last one.
pub record TapReportsView : Type 0 where
  pub text : List ℕ
  pub schedule : Schedule
  pub caller : Added
  pub called : Added

abbrev pub no_reports : ℕ → TapReportsView
no_reports seconds = record {
  text = [];
  schedule = schedule_of seconds;
  caller = record { items = 0; bytes = 0 };
  called = record { items = 0; bytes = 0 };
}

-- what came from a side
abbrev pub added_of : ItemLogView → Added
added_of l = record { items = l.items; bytes = l.frames.offset }

-- the report on both sides, of which these bytes came
abbrev pub report_lines : Option Stamp → TapReportsView → (caller called : ItemLogView)
    → (up down : List ℕ) → List ℕ
report_lines stamp r caller called up down =
    reported_line caller.notation stamp caller.side caller.frames.max r.caller up
    ++ reported_line called.notation stamp called.side called.frames.max r.called down

-- A report was queued whole, or nothing if an allocation failed.
abbrev pub WritesReport : Result (Unit {0}) NoMemory → Option Stamp → ItemLogView → ItemLogView
    → TapReportsView → List ℕ → Type 0
WritesReport (Ok u) stamp caller called old text =
    (up down : List ℕ) → HasTold caller.frames caller.items up
    → HasTold called.frames called.items down
    → text ≡ report_lines stamp old caller called up down
WritesReport (Err why) stamp caller called old text = text ≡ []

-- It was, if the last report is printed; otherwise it was left out.
abbrev pub QueuesReport : Result (Unit {0}) NoMemory → Option Stamp → ItemLogView → ItemLogView
    → TapReportsView → List ℕ → Type 0
QueuesReport result stamp caller called old text =
    MatchBool (length old.text == 0) (WritesReport result stamp caller called old text)
    ((text ≡ old.text) × (result ≡ Ok tt))

-- A report was due.
pub record HasReport (now : ℕ) (stamp : Option Stamp) (caller called : ItemLogView)
    (old new : TapReportsView) (result : Result (Unit {0}) NoMemory) : Type 0 where
  pub lines : QueuesReport result stamp caller called old new.text
  pub stays : new ≡ record {
    text = new.text;
    schedule = record old.schedule { due_at = next_due_after old.schedule now };
    caller = added_of caller;
    called = added_of called;
  }

-- if one is due
abbrev pub ReportsIfDue : ℕ → Option Stamp → ItemLogView → ItemLogView
    → TapReportsView → TapReportsView → Result (Unit {0}) NoMemory → Type 0
ReportsIfDue now stamp caller called old new result =
    MatchBool (is_due old.schedule now) (HasReport now stamp caller called old new result)
    ((new ≡ old) × (result ≡ Ok tt))
