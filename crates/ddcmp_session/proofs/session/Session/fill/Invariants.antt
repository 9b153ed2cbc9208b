use Rattle.std.proofs.Common.{◌≡◌}
use Rattle.ddcmp_session.proofs.FrameLaws.{PutsFrames}
use Rattle.ddcmp_session.specs.Filling.{most_datagrams}
use Rattle.ddcmp_io.specs.declared.line_kind.LineKind.TheVariants.{Datagrams}
use Rattle.ddcmp_session.proofs.session.Session.fill.Given as goal

abbrev pub invariant-loop-self : goal.invariant-loop-self
invariant-loop-self l = record {
  puts : PutsFrames l.initial.self.state l.self.state;
  log : l.self.log ≡ l.initial.self.log;
  first : l.initial.self.state.kind ≡ Datagrams
      → (most_datagrams l.initial.self.state.link ≡ 1) × (l.self.state ≡ l.initial.self.state);
}

abbrev pub decreases-loop-self : goal.decreases-loop-self
decreases-loop-self l = l.self.state.link.outbox.room
