use Rattle.std.proofs.Common.{◌∙◌, sym}
use Rattle.ddcmp_streams.proofs.ErrorsLaws.{queues-into}
use Rattle.ddcmp_streams.proofs.TraceLaws.{traced-then}
use Rattle.ddcmp_streams.proofs.trace.TraceForm.put_discarded.Goals as goal

pub returns-then-begin : goal.returns-then-begin
returns-then-begin c =
    traced-then _ _ _ _ _ _ (sym c.begin.ensures.room ∙ c.if-begin.true) c.begin.ensures.begun
    (queues-into _ _ _ _ c.errors.view_is c.write_discarded.ensures)
