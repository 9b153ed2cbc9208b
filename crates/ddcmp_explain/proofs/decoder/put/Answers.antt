use Rattle.std.proofs.Common.{◌++◌, ap, sym, take, ◌∙◌}
use Rattle.std.specs.Prelude.{option_to_list}
use Rattle.std.proofs.lemmas.List.{append-nil, take_more_set}
use Rattle.ddcmp_explain.proofs.decoder.put.Goals as goal

pub returns-in-Some-clause-put : goal.returns-in-Some-clause-put
returns-in-Some-clause-put c =
    let before = take c.args.count c.args.bytes.now in
    take_more_set c.args.bytes.now c.args.count c.in-Some.byte c.requires
    ∙ ap (λ o. before ++ option_to_list o) (sym c.in-Some.is)

pub returns-in-None-clause-put : goal.returns-in-None-clause-put
returns-in-None-clause-put c =
    let before = take c.args.count c.args.bytes.now in
    sym (append-nil before) ∙ ap (λ o. before ++ option_to_list o) (sym c.in-None.is)
