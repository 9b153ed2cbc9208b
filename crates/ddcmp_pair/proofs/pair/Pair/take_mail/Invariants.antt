use Rattle.std.proofs.Common.{◌≡◌, replicate, length}
use Rattle.ddcmp_pair.specs.declared.event.Event.TheVariants.{Take}
use Rattle.ddcmp_pair.specs.Run.{at, run}
use Rattle.ddcmp_io.specs.Device.{Logs}
use Rattle.ddcmp_pair.specs.Steps.{steps_of}
use Rattle.ddcmp_pair.proofs.pair.Pair.take_mail.Given as goal

abbrev pub invariant-loop-taken : goal.invariant-loop-taken
invariant-loop-taken g l = record {
  state : l.self ≡ run (replicate l._taken (Take l.end)) l.initial.self;
  count : l._taken-end ≡ length (at l.end l.initial.self).core.station.inbox;
  seen : Logs (g.W.Watch.seen l.initial.watch) (g.W.Watch.seen l.watch)
      (steps_of (replicate l._taken (Take l.end)) l.initial.self);
}
