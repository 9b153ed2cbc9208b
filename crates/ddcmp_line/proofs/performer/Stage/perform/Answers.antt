use Rattle.std.proofs.Common.{Ok, [], ap, refl, ◌∙◌}
use Rattle.std.specs.Prelude.{codes}
use Rattle.ddcmp_core.specs.Core.{CoreView}
use Rattle.ddcmp_pair.specs.Settle.{settling}
use Rattle.ddcmp_pair.specs.Recovery.{recovering}
use Rattle.ddcmp_line.specs.declared.command.ScriptCommand.TheVariants.{Happens, Lose}
use Rattle.ddcmp_line.specs.declared.command.ScriptCommand.TheVariants.{Damage, Raw, Settle}
use Rattle.ddcmp_line.specs.declared.command.ScriptCommand.TheVariants.{Recover, State}
use Rattle.ddcmp_line.specs.Script.{outcome_of}
use Rattle.ddcmp_line.specs.ScriptText.{end_name, station_line}
use Rattle.ddcmp_line.proofs.Scenes.{arrival-comes, comes-as, refused-as, comes-between}
use Rattle.ddcmp_line.proofs.Scenes.{ends-well, ends-by, happens-is, none-happens, lose-is}
use Rattle.ddcmp_line.proofs.Scenes.{none-lose, damage-is, none-damage, raw-is, none-raw}
use Rattle.ddcmp_line.proofs.Scenes.{settle-is, none-settle, recover-is, none-recover, state-is}
use Rattle.ddcmp_line.proofs.Scenes.{none-state, refused-by, refused-in, told-by}
use Rattle.ddcmp_io.proofs.TextLaws.{sends-as}
use Rattle.ddcmp_line.proofs.performer.Stage.perform.Goals as goal

pub returns-in-Happens-clause-ends : goal.returns-in-Happens-clause-ends
returns-in-Happens-clause-ends g c =
    let event = c.in-Happens.event in
    told-by _ _ (Happens event) _ _ _ _ _ _ _ c.in-Happens.is c.stopped.ensures
    (ends-by (Happens event) _ _ _ _ _ _ (none-happens _ event) c.happen.result
    (λ ok. comes-as _ _ (happens-is event _) (c.happen.ensures.comes ok))
    (refused-by c.happen.result
    (outcome_of (Happens event) [] _).events g.W.Sink.broken g.W.Sink.contents _ _ _ _ _ _
    c.happen.ensures.memory))

pub returns-in-Raw-clause-ends : goal.returns-in-Raw-clause-ends
returns-in-Raw-clause-ends g c =
    let to = c.in-Raw.to in
    let bytes = c.in-Raw.bytes in
    told-by _ _ (Raw to bytes) _ _ _ _ _ _ _ c.in-Raw.is c.stopped-in-Raw.ensures
    (ends-by (Raw to bytes) _ _ _ _ _ _ (none-raw _ to bytes) c.arrive.result
    (λ ok. comes-as _ _ (raw-is to bytes _)
    (arrival-comes to (codes "got ") to bytes _ _ _ _ _ _ (c.arrive.ensures.pair ok)
    c.arrive.ensures.lines (c.arrive.ensures.text ok)))
    (refused-by c.arrive.result
    (outcome_of (Raw to bytes) [] _).events g.W.Sink.broken g.W.Sink.contents _ _ _ _ _ _
    c.arrive.ensures.memory))

pub returns-in-Settle-clause-ends : goal.returns-in-Settle-clause-ends
returns-in-Settle-clause-ends g c =
    told-by _ _ Settle _ _ _ _ _ _ _ c.in-Settle.is c.stopped-in-Settle.ensures
    (ends-by Settle _ _ _ _ _ _ (none-settle _) c.settle.result
    (λ ok. comes-as _ _ (settle-is _) (c.settle.ensures.comes ok))
    (refused-as _ _ _ _ c.settle.result _ _ (settle-is _)
    (refused-in c.settle.result
    (settling c.args.pair.now).events g.W.Sink.broken g.W.Sink.contents _ _ _ _ _ _
    c.settle.ensures.memory)))

pub returns-in-Recover-clause-ends : goal.returns-in-Recover-clause-ends
returns-in-Recover-clause-ends g c =
    told-by _ _ Recover _ _ _ _ _ _ _ c.in-Recover.is c.stopped-in-Recover.ensures
    (ends-by Recover _ _ _ _ _ _ (none-recover _) c.recover.result
    (λ ok. comes-as _ _ (recover-is _) (c.recover.ensures.comes ok))
    (refused-as _ _ _ _ c.recover.result _ _ (recover-is _)
    (refused-in c.recover.result
    (recovering c.args.pair.now).events g.W.Sink.broken g.W.Sink.contents _ _ _ _ _ _
    c.recover.ensures.memory)))

pub returns-in-Lose-clause-ends : goal.returns-in-Lose-clause-ends
returns-in-Lose-clause-ends g c =
    let from = c.in-Lose.from in
    told-by (g.C.Carrier.direct c.args.carrier.now) (g.C.Carrier.told c.args.carrier.now)
    (Lose from) _ _ _ _ _ (Ok tt) (Ok tt) c.in-Lose.is refl
    (ends-well (Lose from) _ _ _ _ _ _ (none-lose _ from)
    (comes-as _ _ (lose-is from _) (c.lose.ensures c.args.pair.now)))

pub returns-in-Damage-clause-ends : goal.returns-in-Damage-clause-ends
returns-in-Damage-clause-ends g c =
    let from = c.in-Damage.from in
    let at = c.in-Damage.at in
    let by = c.in-Damage.by in
    told-by (g.C.Carrier.direct c.args.carrier.now) (g.C.Carrier.told c.args.carrier.now)
    (Damage from at by) _ _ _ _ _ (Ok tt) (Ok tt) c.in-Damage.is refl
    (ends-well (Damage from at by) _ _ _ _ _ _ (none-damage _ from at by)
    (comes-as _ _ (damage-is from at by _) (c.damage.ensures c.args.pair.now)))

pub returns-in-State-clause-ends : goal.returns-in-State-clause-ends
returns-in-State-clause-ends g c =
    let end = c.in-State.end in
    told-by (g.C.Carrier.direct c.args.carrier.now) (g.C.Carrier.told c.args.carrier.now)
    (State end) _ _ _ _ _ (Ok tt) (Ok tt) c.in-State.is refl
    (ends-well (State end) _ _ _ _ _ _ (none-state _ end)
    (comes-as _ _ (state-is end _) (comes-between _ _ _ _ _ _ refl refl
    (sends-as
    (ap (λ w. station_line w c.station.result.now.core.station) c.end_name.ensures
    ∙ ap (λ (k : CoreView). station_line (end_name end) k.station) c.station.ensures.core)
    c.write_station.ensures))))
