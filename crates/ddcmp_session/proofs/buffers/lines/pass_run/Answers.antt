use Rattle.ddcmp_session.proofs.LinesGo.{passed-now}
use Rattle.ddcmp_session.proofs.StopLaws.{passed-run}
use Rattle.ddcmp_session.proofs.buffers.lines.pass_run.Goals as goal

pub returns-clause-over : goal.returns-clause-over
returns-clause-over c = λ held known.
    passed-now c.run_ends_at-now.result c.args.session.now.state c.pass_time.new.self.state
    c.pass_time.ensures.state

pub returns-clause-time : goal.returns-clause-time
returns-clause-time c =
    passed-run c.args.session.now.state c.pass_time.new.self.state c.run_ends_at-now.result
    c.run_ends_at-now.ensures c.pass_time.ensures.state
