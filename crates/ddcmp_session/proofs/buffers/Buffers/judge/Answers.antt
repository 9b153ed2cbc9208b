use Rattle.std.proofs.Common.{inr}
use Rattle.ddcmp_session.proofs.LinesGo.{may-end, read-to-end, same-fault}
use Rattle.ddcmp_session.proofs.buffers.Buffers.judge.Goals as goal

pub returns-in-Ok-clause-on : goal.returns-in-Ok-clause-on
returns-in-Ok-clause-on g c = c.read_if-read.ensures.on c.args.session.now.state

pub returns-in-Err-clause-on : goal.returns-in-Err-clause-on
returns-in-Err-clause-on g c = c.read_if-read.ensures.on c.args.session.now.state

pub returns-in-Ok-clause-well : goal.returns-in-Ok-clause-well
returns-in-Ok-clause-well g c = λ e.
    may-end c.args.session.now.state c.verdict.ensures.well c.requires.well
    c.has_run-has_run.ensures e

pub returns-in-Ok-clause-read_to_end : goal.returns-in-Ok-clause-read_to_end
returns-in-Ok-clause-read_to_end g c = λ e.
    read-to-end c.read_if-read.new.self c.args.session.now.state c.verdict.ensures.read
    c.requires.done c.has_more-has_more.ensures e

pub returns-in-Err-clause-reports : goal.returns-in-Err-clause-reports
returns-in-Err-clause-reports g c = λ fault untimed e.
    inr (c.in-Err.ensures.reports c.args.session.now.state fault (same-fault e))
