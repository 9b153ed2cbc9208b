use Rattle.std.proofs.Common.{refl, sym, subst, ◌∙◌}
use Rattle.std.proofs.lemmas.List.{append-nil}
use Rattle.ddcmp_io.specs.Written.{Writes}
use Rattle.ddcmp_io.proofs.WrittenLaws.{sends-out}
use Rattle.ddcmp_io.proofs.page.Page.flush.Goals as goal

pub returns-clause-sends : goal.returns-clause-sends
returns-clause-sends g c =
    sends-out _ _ _ _ c.args.self.now _ _ c.write_all.result (sym c.if-failed.ensures)
    c.write_all.ensures.broken refl
    (subst
    (λ t. Writes (g.W.Sink.contents c.args.writer.now)
    (g.W.Sink.contents c.write_all.new.writer) c.write_all.result t)
    (c.self.view_is ∙ sym (append-nil c.args.self.now)) c.write_all.ensures.written)
