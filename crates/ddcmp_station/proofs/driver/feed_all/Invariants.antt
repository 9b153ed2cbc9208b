use Rattle.std.proofs.Common.{◌≡◌, ◌≤◌, ◌+◌, ◌-◌, length, take}
use Rattle.ddcmp_station.proofs.DriveLaws.{FedTo}
use Rattle.ddcmp_station.specs.UserCalls.{TellsNotices}
use Rattle.ddcmp_station.proofs.driver.feed_all.Given as goal

abbrev pub invariant-loop-at : goal.invariant-loop-at
invariant-loop-at g l = record {
  within : l.at ≤ length l.piece;
  fed : FedTo l.initial.station (take l.at l.piece) l.station;
  offset : l.station.line.offset ≡ l.initial.station.line.offset + l.at;
  limits : l.station.core.limits ≡ l.initial.station.core.limits;
  syn : l.station.syn ≡ l.initial.station.syn;
  seen : TellsNotices g.U.User.becomes l.initial.station (take l.at l.piece) l.initial.user l.user;
}

abbrev pub decreases-loop-at : goal.decreases-loop-at
decreases-loop-at g l = length l.piece - l.at
