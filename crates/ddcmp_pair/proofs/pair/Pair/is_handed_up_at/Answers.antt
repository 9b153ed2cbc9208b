use Rattle.std.proofs.Common.{◌∙◌, ap, sym, [], take, slice_index_or}
use Rattle.std.proofs.lemmas.List.{take_at}
use Rattle.ddcmp_pair.specs.Run.{at, handed_up}
use Rattle.ddcmp_pair.proofs.pair.Pair.is_handed_up_at.Goals as goal

pub returns-clause-same : goal.returns-clause-same
returns-clause-same c =
    let m = slice_index_or (handed_up (at c.args.end c.args.self.now)) c.args.i [] in
    let front = ap (take c.handed_up_at-length.result) c.handed_up_at-length.ensures.out
    ∙ take_at m _ c.handed_up_at-length.result (sym c.handed_up_at-length.ensures.length) in
    (λ t. sym front ∙ c.is_same.ensures.0 t, λ e. c.is_same.ensures.1 (front ∙ e))
