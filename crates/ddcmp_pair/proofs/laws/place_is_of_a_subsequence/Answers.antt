use Rattle.ddcmp_pair.proofs.Subsequences.{place-decides}
use Rattle.ddcmp_pair.proofs.laws.place_is_of_a_subsequence.Goals as goal

pub returns : goal.returns
returns c = place-decides
