use Rattle.std.proofs.Common.{◌≡◌, ap, refl, Bool, true, false, ◌&&◌}
use Rattle.std.specs.Prelude.{◌||◌}
use Rattle.ddcmp_core.specs.Table.{is_halted}
use Rattle.ddcmp_laws.proofs.session_timing.opens_again.Goals as goal

last : (a b restart leaves down d : Bool) → restart ≡ true → leaves ≡ true → down ≡ true
    → (a || ((b || (restart && leaves && down)) || d)) ≡ true
last true b restart leaves down d p q r = refl
last false true restart leaves down d p q r = refl
last false false true true true d p q r = refl
last false false false leaves down d p q r = absurd (cc p)
last false false true false down d p q r = absurd (cc q)
last false false true true false d p q r = absurd (cc r)

pub returns-clause-restarts : goal.returns-clause-restarts
returns-clause-restarts c = λ s restart halted leaves.
    last _ _ _ _ _ _ restart leaves (ap (λ x. is_halted x) halted)
