use Rattle.std.proofs.Common.{◌≡◌}
use Rattle.ddcmp_pair.specs.Run.{run}
use Rattle.ddcmp_pair.specs.Settle.{all_mail, most_exchanges}
use Rattle.ddcmp_pair.proofs.Settles.{LeftToSettle}
use Rattle.ddcmp_pair.proofs.Watching.{SawToSettle}
use Rattle.ddcmp_pair.proofs.pair.Pair.settle_all.Given as goal

abbrev pub invariant-loop-exchanges : goal.invariant-loop-exchanges
invariant-loop-exchanges g l = record {
  left : LeftToSettle (most_exchanges l.fn.self) (run (all_mail l.fn.self) l.fn.self)
      l.exchanges l.self;
  most : l.most ≡ most_exchanges l.fn.self;
  saw : SawToSettle (g.W.Watch.seen l.fn.watch) (g.W.Watch.seen l.watch) l.fn.self l.exchanges
      l.self;
}
