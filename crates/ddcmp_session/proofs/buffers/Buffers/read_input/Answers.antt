use Rattle.std.proofs.Common.{refl}
use Rattle.ddcmp_session.proofs.GoingLaws.{stays}
use Rattle.ddcmp_session.proofs.buffers.Buffers.read_input.Goals as goal

pub returns-then-not-wants_input-clause-on : goal.returns-then-not-wants_input-clause-on
returns-then-not-wants_input-clause-on g c = stays refl refl

pub returns-clause-on : goal.returns-clause-on
returns-clause-on g c = c.read_now.ensures.on c.args.session.now.state

pub returns-clause-reports : goal.returns-clause-reports
returns-clause-reports g c = c.read_now.ensures.reports c.args.session.now.state
