-- After a report of a bridge none is due.
use Rattle.std.proofs.Common.{◌≡◌, ◌∙◌, ◌-◌, ◌^◌, ◌&&◌, ℕ, Bool, true, false, refl, ap}
use Rattle.std.specs.Prelude.{MatchBool, nat_lt}
use Rattle.std.proofs.lemmas.Bool.{and_left}
use Rattle.ddcmp_log.proofs.ScheduleLaws.{none-due-after}
use Rattle.ddcmp_log.specs.Scheduling.{NoneIsDue, is_due}
use Rattle.ddcmp_log.specs.declared.schedule.Schedule.{Schedule}
use Rattle.ddcmp_bridge.specs.declared.bridge.Bridge.{Bridge}
use Rattle.ddcmp_bridge.specs.declared.reports.Reports.{Reports}
use Rattle.ddcmp_bridge.specs.Reported.{ReportsIfDue, ReportsNow}

by-test : (b : Bool) (old new : Bridge) → is_due old.reports.schedule old.moment ≡ b
    → MatchBool b (ReportsNow old new) (new ≡ old) → NoneIsDue old.moment new.reports.schedule
by-test true old new is r =
    ap (λ (s : Schedule). is_due s old.moment && nat_lt old.moment (2 ^ 64 - 1))
    (ap (λ (r : Reports). r.schedule) r.next)
    ∙ none-due-after old.moment old.reports.schedule is
by-test false old new is r =
    and_left (is_due new.reports.schedule old.moment) (nat_lt old.moment (2 ^ 64 - 1))
    (ap (λ (b : Bridge). is_due b.reports.schedule old.moment) r ∙ is)

pub none-due : (old new : Bridge) → ReportsIfDue old new → NoneIsDue old.moment new.reports.schedule
none-due old new r = by-test (is_due old.reports.schedule old.moment) old new refl r
