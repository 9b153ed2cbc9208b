use Rattle.std.proofs.Common.{◌≡◌, ◌≢◌, ◌+◌, ◌*◌, ◌≤◌, false}
use Rattle.ddcmp_io.specs.declared.device.Worst.TheVariants.{Failed}
use Rattle.ddcmp_station.specs.Driving.{devices_of}
use Rattle.ddcmp_station.specs.Inside.Turns.{TurnsSoFar}
use Rattle.ddcmp_station.specs.UserCalls.{Calls}
use Rattle.ddcmp_station.proofs.driver.drive.Given as goal

abbrev pub invariant-loop-done : goal.invariant-loop-done
invariant-loop-done g l = record {
  fine : g.R.Source.state l.reader ≢ Failed;
  whole : g.W.Sink.broken l.writer ≡ false;
  limits : l.station.core.limits ≡ l.initial.station.core.limits;
  syn : l.station.syn ≡ l.initial.station.syn;
  offset : l.station.line.offset ≡ l.initial.station.line.offset + l.tally.read;
  read : l.tally.read ≤ 256 * l._done;
  written : l.tally.written ≤ 16409 * l._done;
  taken : TurnsSoFar l.timer_ms l._done l.initial.station l.station l.tally (devices_of
      g.R.Source.left g.R.Source.state g.R.Source.answers g.W.Sink.contents g.C.Clock.told
      l.initial.reader l.reader l.initial.writer l.writer l.initial.clock l.clock)
      (Calls g.U.User.becomes l.initial.user l.user);
}
