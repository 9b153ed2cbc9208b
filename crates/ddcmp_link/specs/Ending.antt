-- Why a link failed, from why its run stopped.
use Rattle.std.specs.Prelude.{◌≡◌, codes}
use Rattle.ddcmp_link.specs.declared.ending.LinkStop.{LinkStop}
use Rattle.ddcmp_link.specs.declared.ending.LinkStop.TheVariants.{CannotWait, Memory, Stopped}
use Rattle.ddcmp_link.specs.declared.fault.LinkFailure.{LinkFailure}
use Rattle.ddcmp_link.specs.declared.fault.LinkFailure.TheVariants as failure
use Rattle.ddcmp_ports.specs.LineNames.{open_fault_of}
use Rattle.ddcmp_ports.specs.declared.fault.Attempt.TheVariants.{Open}
use Rattle.ddcmp_ports.specs.declared.fault.Cause.TheVariants.{System}
use Rattle.ddcmp_ports.specs.declared.fault.OpenFault.{OpenFault}
use Rattle.ddcmp_ports.specs.declared.line_name.LineName.{LineName}
use Rattle.ddcmp_session.specs.declared.buffers.lines.Stop.TheVariants.{Device, Lost, NotOpened}
use Rattle.ddcmp_session.specs.declared.devices.DeviceFault.TheVariants.{Input}

-- The line ended, or its time was over, before all was done, unless a device can't be opened, read
-- or waited for, or messages are lost.
abbrev pub FailsAs : LineName → LinkStop → LinkFailure → Type 0
FailsAs line Memory it = it ≡ failure.Memory
FailsAs line (Stopped (NotOpened refused)) it = it ≡ failure.Open (open_fault_of line refused)
FailsAs line (Stopped (Device Input)) it = it ≡ failure.Read
FailsAs line (Stopped (Lost count)) it = it ≡ failure.Lost count
FailsAs line (Stopped _) it = it ≡ failure.Ended
FailsAs line (CannotWait kind) it =
    (fault : OpenFault) × (it ≡ failure.Open fault) × (fault.attempt ≡ Open)
    × (fault.name.now ≡ codes "epoll") × (fault.cause ≡ System kind)
