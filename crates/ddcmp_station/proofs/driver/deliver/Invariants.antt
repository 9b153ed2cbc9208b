use Rattle.std.proofs.Common.{◌≡◌, ◌≤◌, List, ◌++◌, length}
use Rattle.ddcmp_station.specs.Driving.{core_after_mail}
use Rattle.ddcmp_station.specs.UserCalls.{UserCall, Calls, calls_of_mail}
use Rattle.ddcmp_station.proofs.driver.deliver.Given as goal

abbrev pub invariant-loop-length : goal.invariant-loop-length
invariant-loop-length g l = record {
  room : l.station.core.limits.longest ≤ length l.buffer;
  rest : record l.station { core = core_after_mail l.station.core }
      ≡ record l.initial.station { core = core_after_mail l.initial.station.core };
  seen : (done : List UserCall) × Calls g.U.User.becomes l.initial.user l.user done
      × (done ++ calls_of_mail l.station.core ≡ calls_of_mail l.initial.station.core);
}

abbrev pub decreases-loop-length : goal.decreases-loop-length
decreases-loop-length g l = length l.station.core.station.inbox
