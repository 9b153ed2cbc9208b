use Rattle.std.proofs.Common.{sym, ◌∙◌, arith}
use Rattle.std.proofs.lemmas.Bool.{leb-true}
use Rattle.ddcmp_streams.proofs.ErrorsLaws.{noted-if, noted-settled}
use Rattle.ddcmp_streams.proofs.errors.Errors.make_room.Goals as goal

pub returns-clause-noted : goal.returns-clause-noted
returns-clause-noted c = λ is.
    let fits = leb-true _ _ (sym c.has_room.ensures ∙ c.if-not-has_room.false) in
    noted-settled _ _ _ c.settle.ensures
    (noted-if _ _ (omega (arith, fits)) c.report_left_out.ensures)
