use Rattle.std.proofs.Common.{◌∙◌, ◌∷◌, ◌++◌, [], refl, sym, ap, subst, append_assoc, get_or, ◌==◌}
use Rattle.std.proofs.lemmas.List.{append-nil}
use Rattle.ddcmp_io.specs.Device.{Logs}
use Rattle.ddcmp_core.specs.declared.notice.Notice.TheVariants.{Running}
use Rattle.ddcmp_picture.specs.Labels.{notice_label}
use Rattle.ddcmp_picture.specs.declared.mark.Mark.TheVariants.{Note}
use Rattle.ddcmp_picture.proofs.NoteLaws.{logs_then, logs_none, notices_step, notices_none}
use Rattle.ddcmp_picture.proofs.notes.draw_notices.Goals as goal

pub loop-i-init : goal.loop-i-init
loop-i-init g c = ([], logs_none _, refl)

pub loop-i-preserved : goal.loop-i-preserved
loop-i-preserved g c = let k = c.loop-i.invariant in (
  k.0 ++ Note c.args.to (notice_label (get_or c.args.notices.now c.loop-i.i Running))
      (c.loop-i.i == 0) ∷ [],
  logs_then _ _ _ k.0 _ k.1
      (subst (λ t. Logs (g.P.Paper.drawn c.loop-i.paper) (g.P.Paper.drawn c.note.new.paper)
      (Note c.args.to t (c.loop-i.i == 0) ∷ [])) c.notice_text.ensures c.note.ensures),
  append_assoc k.0 _ _
      ∙ ap (λ t. k.0 ++ t)
      (sym (notices_step c.args.to c.args.notices.now c.loop-i.i Running c.loop-i-test.true))
      ∙ k.2,
)

pub returns : goal.returns
returns g c = let k = c.loop-i.invariant in
    subst (Logs _ _)
    (sym (append-nil k.0)
    ∙ ap (λ t. k.0 ++ t)
    (sym (notices_none c.args.to c.args.notices.now c.loop-i.i c.loop-i-test.false))
    ∙ k.2)
    k.1
