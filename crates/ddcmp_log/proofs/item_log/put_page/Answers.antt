use Rattle.std.proofs.Common.{◌∙◌, ap}
use Rattle.std.specs.Prelude.{is_err}
use Rattle.ddcmp_log.proofs.TextLaws.{flushed}
use Rattle.ddcmp_log.proofs.item_log.put_page.Goals as goal

pub returns-in-Ok : goal.returns-in-Ok
returns-in-Ok c = λ ok was first lines whole empty sent.
    flushed _ _ _ _ _ _ lines _ whole empty (c.flush.ensures.broken ∙ ap is_err c.in-Ok.is)
    c.flush.ensures.empty sent c.flush.ensures.sends
