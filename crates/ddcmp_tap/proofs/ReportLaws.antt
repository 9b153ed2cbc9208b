-- After a report none is due.
use Rattle.std.proofs.Common.{◌≡◌, ◌∙◌, ◌-◌, ◌^◌, ◌&&◌, ℕ, Bool, true, false, refl, ap, Option}
use Rattle.std.specs.Prelude.{MatchBool, Result, Ok, nat_lt}
use Rattle.std.proofs.lemmas.Bool.{and_left}
use Rattle.ddcmp_log.specs.Items.{ItemLogView}
use Rattle.ddcmp_log.proofs.ScheduleLaws.{none-due-after}
use Rattle.ddcmp_log.specs.Scheduling.{NoneIsDue, is_due}
use Rattle.ddcmp_log.specs.declared.no_memory.NoMemory.{NoMemory}
use Rattle.ddcmp_log.specs.declared.schedule.Schedule.{Schedule}
use Rattle.ddcmp_log.specs.declared.side.Stamp.{Stamp}
use Rattle.ddcmp_tap.specs.Reporting.{HasReport, ReportsIfDue, TapReportsView}

by-test : (b : Bool) (now : ℕ) (stamp : Option Stamp) (caller called : ItemLogView)
    (old new : TapReportsView) (result : Result (Unit {0}) NoMemory) → is_due old.schedule now ≡ b
    → MatchBool b (HasReport now stamp caller called old new result)
    ((new ≡ old) × (result ≡ Ok tt))
    → NoneIsDue now new.schedule
by-test true now stamp caller called old new result is r =
    ap (λ (s : Schedule). is_due s now && nat_lt now (2 ^ 64 - 1))
    (ap (λ (r : TapReportsView). r.schedule) r.stays)
    ∙ none-due-after now old.schedule is
by-test false now stamp caller called old new result is r =
    and_left (is_due new.schedule now) (nat_lt now (2 ^ 64 - 1))
    (ap (λ (r : TapReportsView). is_due r.schedule now) r.0 ∙ is)

pub none-due : (now : ℕ) (stamp : Option Stamp) (caller called : ItemLogView)
    (old new : TapReportsView) (result : Result (Unit {0}) NoMemory)
    → ReportsIfDue now stamp caller called old new result → NoneIsDue now new.schedule
none-due now stamp caller called old new result r =
    by-test (is_due old.schedule now) now stamp caller called old new result refl r
