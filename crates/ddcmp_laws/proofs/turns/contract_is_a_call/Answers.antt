use Rattle.ddcmp_laws.proofs.Drives.{drives_by_a_call}
use Rattle.ddcmp_laws.proofs.turns.contract_is_a_call.Goals as goal

pub returns : goal.returns
returns g c =
    λ ms count old new devices before after answer. drives_by_a_call ms count old new devices _
    answer
