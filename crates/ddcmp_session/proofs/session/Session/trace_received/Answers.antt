use Rattle.std.proofs.Common.{sym}
use Rattle.ddcmp_streams.specs.declared.trace.Way.TheVariants.{FromLine}
use Rattle.ddcmp_streams.specs.Trace.{Logs}
use Rattle.ddcmp_session.proofs.LineLogLaws.{traces-some}
use Rattle.ddcmp_session.specs.contracts.session.Session as session
use Rattle.ddcmp_session.proofs.session.Session.trace_received.Goals as goal

pub returns-in-Some-clause-traced : goal.returns-in-Some-clause-traced
returns-in-Some-clause-traced c =
    rw (sym c.self.view_is) (traces-some (Logs FromLine c.args.bytes.now) c.in-Some.trace
    c.log.new.self (session.the_view c.self.inside).log c.log.new.errors c.in-Some.is
    c.log.ensures)
