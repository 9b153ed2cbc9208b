use Rattle.std.proofs.Common.{None, subst, sym}
use Rattle.ddcmp_session.specs.Lines.{GoesOver}
use Rattle.ddcmp_session.specs.contracts.buffers.Buffers as buffers
use Rattle.ddcmp_session.proofs.LinesGo.{line-connected}
use Rattle.ddcmp_session.proofs.buffers.Buffers.begin_line.Goals as goal

pub returns-clause-over : goal.returns-clause-over
returns-clause-over c =
    rw (sym c.self.view_is) (λ before after becomes.
    subst
    (λ xs. GoesOver (buffers.the_view c.self.inside) c.args.session.now.state before
    (record (buffers.the_view c.self.inside) { received = xs; down = None })
    c.connected.new.self.state after) (sym c.clear.ensures)
    (line-connected c.args.session.now.state c.connected.new.self.state c.connected.ensures.state
    c.connected.ensures.cleared becomes))
