use Rattle.std.proofs.Common.{refl}
use Rattle.ddcmp_page.proofs.PlayLaws.{begun}
use Rattle.ddcmp_page.proofs.playing.begin.Goals as goal

pub returns : goal.returns
returns c = λ ok. begun _ _ _ _ (c.in_ok-_first.ensures.state refl)
    (c.in_ok-_second.ensures.state refl) (c.in_ok-_settled.ensures.state refl)
