use Rattle.std.proofs.Common.{◌≡◌, Option, false}
use Rattle.ddcmp_session.specs.contracts.buffers.Buffers as buffers
use Rattle.ddcmp_session.specs.Devices.{GoesOn}
use Rattle.ddcmp_session.specs.Traffic.{Traffic}
use Rattle.ddcmp_session.proofs.buffers.Buffers.pass_received.Given as goal

abbrev pub invariant-loop-notice : goal.invariant-loop-notice
invariant-loop-notice l = record {
  on : (known : Option Traffic)
      → GoesOn (buffers.the_view l.initial.self-inside) l.initial.session.state known
      (buffers.the_view l.self-inside) l.session.state known;
  session : l.moved ≡ false
      → l.session.state ≡ record l.initial.session.state { output = l.session.state.output };
  held : l.moved ≡ false
      → buffers.the_view l.self-inside ≡ buffers.the_view l.initial.self-inside;
}
