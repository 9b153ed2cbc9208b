use Rattle.std.proofs.Common.{◌-◌, ◌≤◌, drop, length}
use Rattle.ddcmp_streams.specs.Errors.{ErrorsView}
use Rattle.ddcmp_streams.specs.Trace.{Logs, TraceView}
use Rattle.ddcmp_streams.proofs.trace.Trace.log.Given as goal

abbrev pub invariant-loop-at : goal.invariant-loop-at
invariant-loop-at l = record {
  within : l.at ≤ length l.bytes;
  told : (last : TraceView) (after : ErrorsView)
      → Logs l.way (drop l.at l.bytes) l.self last l.errors after
      → Logs l.way l.bytes l.initial.self last l.initial.errors after;
}

abbrev pub decreases-loop-at : goal.decreases-loop-at
decreases-loop-at l = length l.bytes - l.at
