use Rattle.ddcmp_laws.specs.Loops.{DevicesDeliver, DevicesPipe, DevicesPipeAll}
use Rattle.ddcmp_laws.specs.Loops.{DevicesPipeClosed}
use Rattle.ddcmp_laws.proofs.Outcomes.{deliver_a, deliver_b, devices_a, devices_b, devices_all_a}
use Rattle.ddcmp_laws.proofs.Outcomes.{devices_all_b, devices_closed_a, devices_closed_b}
use Rattle.ddcmp_laws.proofs.Outcomes.{over_honest, over_streams}
use Rattle.ddcmp_laws.proofs.loops.devices_are_pipes.Goals as goal

pub returns-clause-to_b : goal.returns-clause-to_b
returns-clause-to_b c =
    over_honest (λ first second p. DevicesPipe first second p.a p.b) devices_b

pub returns-clause-to_a : goal.returns-clause-to_a
returns-clause-to_a c =
    over_honest (λ first second p. DevicesPipe second first p.b p.a) devices_a

pub returns-clause-all_to_b : goal.returns-clause-all_to_b
returns-clause-all_to_b c =
    over_honest (λ first second p. DevicesPipeAll first second p.a p.b) devices_all_b

pub returns-clause-all_to_a : goal.returns-clause-all_to_a
returns-clause-all_to_a c =
    over_honest (λ first second p. DevicesPipeAll second first p.b p.a) devices_all_a

pub returns-clause-connected_to_b : goal.returns-clause-connected_to_b
returns-clause-connected_to_b c =
    over_streams (λ first second p. DevicesPipe first second p.a p.b) devices_b

pub returns-clause-connected_to_a : goal.returns-clause-connected_to_a
returns-clause-connected_to_a c =
    over_streams (λ first second p. DevicesPipe second first p.b p.a) devices_a

pub returns-clause-connected_all_to_b : goal.returns-clause-connected_all_to_b
returns-clause-connected_all_to_b c =
    over_streams (λ first second p. DevicesPipeAll first second p.a p.b) devices_all_b

pub returns-clause-connected_all_to_a : goal.returns-clause-connected_all_to_a
returns-clause-connected_all_to_a c =
    over_streams (λ first second p. DevicesPipeAll second first p.b p.a) devices_all_a

pub returns-clause-received_at_b : goal.returns-clause-received_at_b
returns-clause-received_at_b c =
    over_honest (λ first second p. DevicesDeliver first p.a p.b) deliver_b

pub returns-clause-closed_to_b : goal.returns-clause-closed_to_b
returns-clause-closed_to_b c =
    over_honest (λ first second p. DevicesPipeClosed first second p.a p.b) devices_closed_b

pub returns-clause-received_at_a : goal.returns-clause-received_at_a
returns-clause-received_at_a c =
    over_honest (λ first second p. DevicesDeliver second p.b p.a) deliver_a

pub returns-clause-closed_to_a : goal.returns-clause-closed_to_a
returns-clause-closed_to_a c =
    over_honest (λ first second p. DevicesPipeClosed second first p.b p.a) devices_closed_a

pub returns-clause-connected_received_at_b : goal.returns-clause-connected_received_at_b
returns-clause-connected_received_at_b c =
    over_streams (λ first second p. DevicesDeliver first p.a p.b) deliver_b

pub returns-clause-connected_closed_to_b : goal.returns-clause-connected_closed_to_b
returns-clause-connected_closed_to_b c =
    over_streams (λ first second p. DevicesPipeClosed first second p.a p.b) devices_closed_b

pub returns-clause-connected_received_at_a : goal.returns-clause-connected_received_at_a
returns-clause-connected_received_at_a c =
    over_streams (λ first second p. DevicesDeliver second p.b p.a) deliver_a

pub returns-clause-connected_closed_to_a : goal.returns-clause-connected_closed_to_a
returns-clause-connected_closed_to_a c =
    over_streams (λ first second p. DevicesPipeClosed second first p.b p.a) devices_closed_a
