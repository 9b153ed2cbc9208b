use Rattle.std.proofs.Common.{List, ℕ, refl, subst}
use Rattle.ddcmp_log.specs.declared.side.Side.TheVariants.{Caller, Called}
use Rattle.ddcmp_log.specs.Items.{HasTold}
use Rattle.ddcmp_log.specs.Logged.{logged_last}
use Rattle.ddcmp_tap.specs.Logging.{WritesText}
use Rattle.ddcmp_tap.specs.Tapping.{log_at, stamp_of}
use Rattle.ddcmp_tap.proofs.HeadLaws.{behind, cut, not-carrier}
use Rattle.ddcmp_tap.proofs.running.conclude.Goals as goal

pub returns-in-Ok-clause-wrote : goal.returns-in-Ok-clause-wrote
returns-in-Ok-clause-wrote g c = λ up down u d.
    let mid = g.W.Sink.contents c.write_last.new.writer in
    let new = g.W.Sink.contents c.write_last-in-Ok.new.writer in
    behind _ mid new _ _ c.write_last-in-Ok.result
    (λ why e. not-carrier why (c.write_last-in-Ok.ensures.fault _ e))
    (c.in-Ok.ensures.wrote up u)
    (subst (λ t. (told : List ℕ) → HasTold (log_at Called t).frames (log_at Called t).items told
    → WritesText mid new c.write_last-in-Ok.result
    (logged_last t.log.notation (stamp_of t) Called t.log.max told))
    c.write_last.ensures.stays c.write_last-in-Ok.ensures.wrote down d)

pub returns-in-Err-clause-wrote : goal.returns-in-Err-clause-wrote
returns-in-Err-clause-wrote g c = λ up down u d.
    cut _ _ _ _ _ (c.in-Err.ensures.fault _ refl) (c.in-Err.ensures.wrote up u)
