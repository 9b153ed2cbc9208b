use Rattle.std.proofs.Common.{◌-◌, ◌≤◌, length}
use Rattle.ddcmp_proto.proofs.FeedLaws.{FedPart}
use Rattle.ddcmp_proto.proofs.station.Station.feed.Given as goal

abbrev pub invariant-loop-used : goal.invariant-loop-used
invariant-loop-used l = record {
  within : l.used ≤ length l.piece;
  fed : FedPart l.initial.self l.piece l.used l.self;
}

abbrev pub decreases-loop-used : goal.decreases-loop-used
decreases-loop-used l = length l.piece - l.used
