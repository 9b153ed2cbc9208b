use Rattle.std.proofs.Common.{◌≡◌, length, ap, sym, ◌∙◌, arith, get_or}
use Rattle.ddcmp_pair.specs.Place.{WholeFrame, place_after}
use Rattle.ddcmp_pair.proofs.FrameLists.{same-by}
use Rattle.ddcmp_pair.proofs.Places.{place_after-hit, place_after-miss, place_after-end}
use Rattle.ddcmp_pair.proofs.side.receiver.place_after.Goals as goal

pub returns-then-is_at-clause-value : goal.returns-then-is_at-clause-value
returns-then-is_at-clause-value c =
    let f : WholeFrame = (c.args.header.now, c.args.data.now) in
    let test =
    same-by f (get_or c.args.sent.now.all c.loop-i.i f) c.is_at.result (c.is_at.ensures f) in
    sym
    (place_after-hit f c.args.sent.now.all c.loop-i.i f (omega arith)
    (sym test ∙ c.if-is_at.true)) ∙ c.loop-i.invariant

pub loop-i-preserved : goal.loop-i-preserved
loop-i-preserved c =
    let f : WholeFrame = (c.args.header.now, c.args.data.now) in
    let test =
    same-by f (get_or c.args.sent.now.all c.loop-i.i f) c.is_at.result (c.is_at.ensures f) in
    sym
    (place_after-miss f c.args.sent.now.all c.loop-i.i f (omega arith)
    (sym test ∙ c.if-is_at.false)) ∙ c.loop-i.invariant

pub returns-clause-value : goal.returns-clause-value
returns-clause-value c =
    let f : WholeFrame = (c.args.header.now, c.args.data.now) in
    let end : c.loop-i.i ≡ length c.args.sent.now.all = omega arith in
    sym (place_after-end f c.args.sent.now.all) ∙ ap (place_after f c.args.sent.now.all) (sym end)
    ∙ c.loop-i.invariant
