use Rattle.std.proofs.Common.{◌≡◌, refl, subst, Bool, Result, Err}
use Rattle.ddcmp_session.specs.declared.devices.DeviceFault.{DeviceFault}
use Rattle.ddcmp_session.specs.declared.devices.DeviceFault.TheVariants.{Output}
use Rattle.ddcmp_io.specs.declared.transfer.Transfer.TheVariants.{Nothing, Interrupted}
use Rattle.ddcmp_session.specs.Devices.{Reports}
use Rattle.ddcmp_session.specs.Traffic.{after_written}
use Rattle.ddcmp_session.proofs.DrainLaws.{only-none}
use Rattle.ddcmp_session.proofs.Finished.{drains-fault, drains-none, drains-still, drains-took}
use Rattle.ddcmp_session.proofs.GoingLaws.{stays, idles, none-written, faulted, reported}
use Rattle.ddcmp_session.proofs.LineGoes.{output-took}
use Rattle.ddcmp_session.proofs.TakenLaws.{only-took}
use Rattle.ddcmp_session.proofs.buffers.flow.write_output.Goals as goal

pub returns-then-is_empty-clause-on : goal.returns-then-is_empty-clause-on
returns-then-is_empty-clause-on g c = λ held. stays refl refl

pub returns-in-Nothing-clause-on : goal.returns-in-Nothing-clause-on
returns-in-Nothing-clause-on g c =
    λ held.
    idles (after_written Nothing c.to_output-2.result.now) c.in-Nothing.ensures.written
    none-written

pub returns-in-Ended-clause-on : goal.returns-in-Ended-clause-on
returns-in-Ended-clause-on g c = λ held. faulted Output c.in-Ended.ensures.written

pub returns-in-Ended-clause-reports : goal.returns-in-Ended-clause-reports
returns-in-Ended-clause-reports g c = λ held fault e.
    subst
    (Reports held c.args.session.now.state (g.D.Devices.traffic c.args.devices.now)
    (g.D.Devices.traffic c.write_output.new.self)) (same e)
    (reported Output c.in-Ended.ensures.written)
  where
    same : {f : DeviceFault} → ◌≡◌ {A = Result Bool DeviceFault} (Err Output) (Err f) → Output ≡ f
    same e = cc

pub returns-in-Interrupted-clause-on : goal.returns-in-Interrupted-clause-on
returns-in-Interrupted-clause-on g c =
    λ held.
    idles (after_written Interrupted c.to_output-2.result.now) c.in-Interrupted.ensures.written
    none-written

pub returns-in-Bytes-clause-on : goal.returns-in-Bytes-clause-on
returns-in-Bytes-clause-on g c =
    λ held.
    output-took c.args.session.now.state c.output_took.new.self.state c.in-Bytes.n
    c.to_output-2.result.now c.to_output-2.ensures c.in-Bytes.ensures.written
    c.output_took.ensures.state

pub returns-then-is_empty-clause-drains : goal.returns-then-is_empty-clause-drains
returns-then-is_empty-clause-drains g c = drains-none refl refl

pub returns-in-Nothing-clause-drains : goal.returns-in-Nothing-clause-drains
returns-in-Nothing-clause-drains g c =
    drains-still (after_written Nothing c.to_output-2.result.now) c.in-Nothing.ensures.written
    none-written

pub returns-in-Ended-clause-drains : goal.returns-in-Ended-clause-drains
returns-in-Ended-clause-drains g c = drains-fault Output c.in-Ended.ensures.written

pub returns-in-Interrupted-clause-drains : goal.returns-in-Interrupted-clause-drains
returns-in-Interrupted-clause-drains g c =
    drains-still (after_written Interrupted c.to_output-2.result.now)
    c.in-Interrupted.ensures.written none-written

pub returns-in-Bytes-clause-drains : goal.returns-in-Bytes-clause-drains
returns-in-Bytes-clause-drains g c =
    drains-took c.args.session.now.state c.output_took.new.self.state c.in-Bytes.n
    c.to_output-2.result.now c.to_output-2.ensures c.in-Bytes.ensures.written
    c.output_took.ensures.state

pub returns-then-is_empty-clause-only : goal.returns-then-is_empty-clause-only
returns-then-is_empty-clause-only g c = only-none _

pub returns-in-Nothing-clause-only : goal.returns-in-Nothing-clause-only
returns-in-Nothing-clause-only g c = only-none _

pub returns-in-Ended-clause-only : goal.returns-in-Ended-clause-only
returns-in-Ended-clause-only g c = only-none _

pub returns-in-Interrupted-clause-only : goal.returns-in-Interrupted-clause-only
returns-in-Interrupted-clause-only g c = only-none _

pub returns-in-Bytes-clause-only : goal.returns-in-Bytes-clause-only
returns-in-Bytes-clause-only g c = only-took _ _ _ c.output_took.ensures.state
