use Rattle.std.proofs.Common.{◌≡◌, Option, false}
use Rattle.ddcmp_session.specs.Devices.{BuffersView, GoesOn, OnlyDelivers}
use Rattle.ddcmp_session.specs.Traffic.{Traffic}
use Rattle.ddcmp_session.specs.Finishing.{Drains}
use Rattle.ddcmp_session.proofs.buffers.flow.deliver_all.Given as goal

abbrev pub invariant-loop-message : goal.invariant-loop-message
invariant-loop-message l = record {
  on : (held : BuffersView) (known : Option Traffic)
      → GoesOn held l.initial.session.state known held l.session.state known;
  drains : (known : Option Traffic) → Drains l.initial.session.state known l.session.state known;
  only : OnlyDelivers l.initial.session.state l.session.state;
  idle : l.moved ≡ false
      → l.session.state ≡ record l.initial.session.state { output = l.session.state.output };
  log : l.session.log ≡ l.initial.session.log;
}
