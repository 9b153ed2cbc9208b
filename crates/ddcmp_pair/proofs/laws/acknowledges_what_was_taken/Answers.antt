use Rattle.std.proofs.Common.{sym, subst}
use Rattle.ddcmp_pair.specs.Run.{PairState}
use Rattle.ddcmp_pair.proofs.Ordered.{holds-in-order, holds-linked}
use Rattle.ddcmp_pair.proofs.Ready.{Holding, holding-repaired}
use Rattle.ddcmp_pair.proofs.Modes.{acts-hold, holds-taken}
use Rattle.ddcmp_pair.proofs.laws.acknowledges_what_was_taken.Goals as goal

pub returns-clause-order : goal.returns-clause-order
returns-clause-order c =
    λ first second acts f g. holds-in-order _ (acts-hold first second acts f g).holds

pub returns-clause-links : goal.returns-clause-links
returns-clause-links c =
    λ first second acts f g. holds-linked _ (acts-hold first second acts f g).holds

pub returns-clause-taken : goal.returns-clause-taken
returns-clause-taken c =
    λ first second acts f g. holds-taken _ (acts-hold first second acts f g).holds

pub returns-clause-repaired : goal.returns-clause-repaired
returns-clause-repaired c = λ first second acts p f g e.
    holding-repaired p (subst (λ (q : PairState). Holding q) e (acts-hold first second acts f g))
