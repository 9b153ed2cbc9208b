use Rattle.std.proofs.Common.{◌≡◌, ℕ, rules, List, [], ◌∷◌, ◌++◌, length, true, refl, sym, ap, ◌∙◌}
use Rattle.std.proofs.Common.{arith, length-append}
use Rattle.std.proofs.lemmas.List.{append-nil}
use Rattle.ddcmp_io.specs.Ends.{other}
use Rattle.ddcmp_io.specs.declared.carrier.End.{End}
use Rattle.ddcmp_io.specs.declared.carrier.End.TheVariants.{A, B}
use Rattle.ddcmp_pair.specs.InOrder.{IsInOrder}
use Rattle.ddcmp_pair.specs.Prefix.{IsPrefixOf}
use Rattle.ddcmp_pair.specs.Run.{PairState, at, handed_up, is_clean}
use Rattle.ddcmp_pair.proofs.pair.Pair.is_handed_up.Goals as goal

none-of : (rest : List (List ℕ)) → length rest ≡ 0 → rest ≡ []
none-of [] e = refl
none-of (x ∷ rest) e = absurd (omega (arith, e))

whole-prefix : (front whole : List (List ℕ)) → IsPrefixOf front whole → length front ≡ length whole
    → whole ≡ front
whole-prefix front whole p same =
    let none = none-of p.0 (omega (arith, length-append front p.0, ap length p.1, same)) in
    sym p.1 ∙ ap (λ r. front ++ r) none ∙ append-nil front

-- in an honest and clean run as many messages as were accepted are those that were accepted
all-handed : (from : End) (p : PairState) → IsInOrder p → p.honest ≡ true → is_clean p ≡ true
    → length (handed_up (at (other from) p)) ≡ length (at from p).given
    → (at from p).given ≡ handed_up (at (other from) p)
all-handed A p o h c same = whole-prefix _ _ (o.where_clean h c).a_to_b.order same
all-handed B p o h c same = whole-prefix _ _ (o.where_clean h c).b_to_a.order same

pub returns-then-honest : goal.returns-then-honest
returns-then-honest c =
    let p = c.args.self.now in
    let from = c.args.from in
    let honest : p.honest ≡ true = search rules in
    let clean : is_clean p ≡ true = search rules in
    let same : length (handed_up (at (other from) p)) ≡ length (at from p).given = search rules in
    (λ t. all-handed from p c.is_run.ensures.order honest clean same, λ e. refl)
