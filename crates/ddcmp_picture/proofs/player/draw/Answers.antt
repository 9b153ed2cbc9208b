use Rattle.ddcmp_picture.proofs.player.draw.Goals as goal

pub returns-clause-draws : goal.returns-clause-draws
returns-clause-draws g c = λ input left.
    c.answer_of.ensures.draws input _ (c.script_viewed-done.ensures.played.told input left)
