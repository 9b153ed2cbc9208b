use Rattle.std.proofs.Common.{refl, sym}
use Rattle.ddcmp_io.specs.declared.transfer.Transfer.TheVariants.{Nothing, Interrupted}
use Rattle.ddcmp_session.specs.Traffic.{after_line_written}
use Rattle.ddcmp_session.proofs.GoingLaws.{stays, idles, downed}
use Rattle.ddcmp_session.proofs.LineGoes.{line-took}
use Rattle.ddcmp_session.proofs.buffers.Buffers.write_line.Goals as goal

pub returns-then-is_some-clause-on : goal.returns-then-is_some-clause-on
returns-then-is_some-clause-on g c = stays refl refl

pub returns-in-Nothing-clause-on : goal.returns-in-Nothing-clause-on
returns-in-Nothing-clause-on g c =
    idles (after_line_written Nothing c.to_line-2.result.now) c.in-Nothing.ensures.gone
    (λ t. refl)

pub returns-in-Interrupted-clause-on : goal.returns-in-Interrupted-clause-on
returns-in-Interrupted-clause-on g c =
    idles (after_line_written Interrupted c.to_line-2.result.now) c.in-Interrupted.ensures.gone
    (λ t. refl)

pub returns-in-Ended-clause-on : goal.returns-in-Ended-clause-on
returns-in-Ended-clause-on g c =
    rw (sym c.self.view_is) (downed c.in-Ended.why c.in-Ended.ensures.gone)

pub returns-in-Bytes-clause-on : goal.returns-in-Bytes-clause-on
returns-in-Bytes-clause-on g c =
    line-took c.args.session.now.state c.line_took.new.self.state c.in-Bytes.n
    c.to_line-2.result.now
    c.to_line-2.ensures c.in-Bytes.ensures.gone c.line_took.ensures.state
