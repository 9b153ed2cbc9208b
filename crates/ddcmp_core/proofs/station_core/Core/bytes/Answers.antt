use Rattle.std.proofs.Common.{◌+◌, ◌*◌, ◌≤◌, subst, arith}
use Rattle.ddcmp_core.proofs.Totals.{total_within, two_within, limits_within}
use Rattle.ddcmp_core.proofs.station_core.Core.bytes.Goals as goal

pub overflow_add-result : goal.overflow_add-result
overflow_add-result g c =
    let out = total_within _ _ _ c.self.invariant.1.stored in
    let inbox = total_within _ _ _ c.self.invariant.2.stored in
    let out_most = limits_within _ _ _ c.self.invariant.1.stored in
    let inbox_most = limits_within _ _ _ c.self.invariant.2.stored in
    omega (arith, out, inbox, out_most, inbox_most)

pub returns-clause-within : goal.returns-clause-within
returns-clause-within g c =
    let two =
    two_within _ _ c.self.inside.sender.longest c.self.inside.inbox.longest _ _ (omega arith)
    c.self.invariant.1.stored c.self.invariant.2.stored in
    subst
    (λ v. c.bytes.result + c.bytes-2.result
    ≤ (v.limits.window + v.limits.room) * v.limits.longest) c.self.view_is (omega (arith, two))
