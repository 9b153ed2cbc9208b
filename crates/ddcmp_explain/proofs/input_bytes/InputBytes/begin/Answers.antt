use Rattle.std.proofs.Common.{[], ap, subst, sym, take, ◌++◌, ◌∙◌}
use Rattle.ddcmp_explain.specs.Detection.{detected_first}
use Rattle.ddcmp_explain.specs.Inside.Reading.{AddsBytes}
use Rattle.ddcmp_explain.specs.Reads.{IsRead}
use Rattle.ddcmp_explain.proofs.FormLaws.{nothing-spelled, nothing-unexpected}
use Rattle.ddcmp_explain.proofs.ReadLaws.{chunk-first}
use Rattle.ddcmp_explain.proofs.input_bytes.InputBytes.begin.Goals as goal
use Rattle.ddcmp_explain.proofs.input_bytes.InputBytes.begin.Goals.{After-decode}

adds : (c : After-decode)
    → AddsBytes (detected_first c.args.first.now) [] c.args.first.now c.decode.new.self
    (take c.decode.result c.decode.new.bytes)
adds c =
    let first = c.args.first.now in
    let form = detected_first first in
    let begun : IsRead form [] c.begun.result =
    subst (λ f. IsRead f [] c.begun.result) c.detect.ensures c.begun.ensures.read in
    subst (λ t. AddsBytes form [] t c.decode.new.self (take c.decode.result c.decode.new.bytes))
    (chunk-first form first c.copy_from_slice.new.self c.copy_from_slice-2.new.self _ _
    c.copy_from_slice.ensures.after c.copy_from_slice-2.ensures.after)
    (c.decode.ensures.adds form [] (sym begun.unexpected ∙ nothing-unexpected form)
    (sym c.begun.ensures.begins) begun)

pub returns-clause-read : goal.returns-clause-read
returns-clause-read c = (adds c).read

pub returns-clause-bytes : goal.returns-clause-bytes
returns-clause-bytes c =
    (adds c).whole
    ∙ ap (λ t. t ++ take c.decode.result c.decode.new.bytes)
    (nothing-spelled (detected_first c.args.first.now))
