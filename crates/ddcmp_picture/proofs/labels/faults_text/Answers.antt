use Rattle.std.proofs.Common.{ap, ◌∙◌}
use Rattle.std.specs.Prelude.{codes}
use Rattle.ddcmp_picture.specs.Labels.{with_fault}
use Rattle.ddcmp_picture.proofs.labels.faults_text.Goals as goal

pub returns : goal.returns
returns c =
    c.with_fault_text.ensures
    ∙ ap (with_fault _ (codes "header format error"))
    (c.with_fault_text-long.ensures
    ∙ ap (with_fault _ (codes "message too long"))
    (c.with_fault_text-data.ensures
    ∙ ap (with_fault _ (codes "data check wrong"))
    (c.with_fault_text-header.ensures
    ∙ ap (with_fault _ (codes "header check wrong")) c.new.ensures)))
