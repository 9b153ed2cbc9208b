use Rattle.std.proofs.Common.{◌≡◌, ℕ, ◌<◌, get_or, sym, ◌∙◌, ap, subst, arith, rules}
use Rattle.ddcmp_num.specs.Check.{check_of}
use Rattle.ddcmp_num.proofs.OneByte.{changed_byte}
use Rattle.ddcmp_num.proofs.check.Goals as goal

pub returns-clause-one_byte : goal.returns-clause-one_byte
returns-clause-one_byte c = λ front back old new is small other same.
    let value : c.value.result ≡ check_of c.args.text.now = search rules in
    changed_byte front back old new
    (subst (λ t. (i : ℕ) → get_or t i 0 < 256) is (λ i. omega (arith, c.type_inv.text i)))
    small other (ap check_of (sym is) ∙ sym value ∙ same)
