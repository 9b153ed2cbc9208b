use Rattle.std.proofs.Common.{◌∙◌, sym}
use Rattle.ddcmp_core.specs.declared.notice.Notice.TheVariants.{Running}
use Rattle.ddcmp_picture.proofs.NoteLaws.{name_found, name_step, name_none}
use Rattle.ddcmp_picture.proofs.notes.name.Goals as goal

pub returns-then-names : goal.returns-then-names
returns-then-names c =
    sym (name_found c.args.notices.now c.loop-i.i Running c.args.now c.loop-i-test.true
    (sym c.names.ensures ∙ c.if-names.true))
    ∙ c.loop-i.invariant

pub loop-i-preserved : goal.loop-i-preserved
loop-i-preserved c =
    sym (name_step c.args.notices.now c.loop-i.i Running c.args.now c.loop-i-test.true
    (sym c.names.ensures ∙ c.if-names.false))
    ∙ c.loop-i.invariant

pub returns : goal.returns
returns c =
    sym (name_none c.args.notices.now c.loop-i.i c.args.now c.loop-i-test.false)
    ∙ c.loop-i.invariant
