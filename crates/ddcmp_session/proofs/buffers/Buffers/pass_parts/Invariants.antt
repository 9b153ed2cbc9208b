use Rattle.std.proofs.Common.{◌≡◌, Option, false}
use Rattle.ddcmp_session.specs.contracts.buffers.Buffers as buffers
use Rattle.ddcmp_session.specs.Devices.{GoesOn}
use Rattle.ddcmp_session.specs.Lines.{IsReady}
use Rattle.ddcmp_session.specs.Traffic.{Traffic}
use Rattle.ddcmp_session.proofs.buffers.Buffers.pass_parts.Given as goal

abbrev pub invariant-loop-part : goal.invariant-loop-part
invariant-loop-part l = record {
  on : (known : Option Traffic)
      → GoesOn (buffers.the_view l.initial.self-inside) l.initial.session.state known
      (buffers.the_view l.self-inside) l.session.state known;
  session : l.moved ≡ false → l.session ≡ l.initial.session;
  held : l.moved ≡ false
      → buffers.the_view l.self-inside ≡ buffers.the_view l.initial.self-inside;
  ready : IsReady l.initial.session.state → IsReady l.session.state;
}
