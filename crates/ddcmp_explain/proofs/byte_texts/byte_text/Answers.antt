use Rattle.std.proofs.Common.{◌≡◌, ◌≤◌, ◌∷◌, [], get_or, take, subst, sym, arith}
use Rattle.std.specs.Fmt.{decimal}
use Rattle.ddcmp_explain.specs.declared.byte_texts.TheConstants.{BYTE_TEXTS}
use Rattle.ddcmp_explain.proofs.ByteTexts.{IsText, is-text}
use Rattle.ddcmp_explain.proofs.byte_texts.byte_text.Goals as goal

pub returns-clause-digits : goal.returns-clause-digits
returns-clause-digits c =
    let text = get_or BYTE_TEXTS c.from.result [] in
    let is =
    subst (λ i. IsText c.args.number (get_or BYTE_TEXTS i [])) (sym c.from.ensures)
    (is-text c.args.number (omega arith)) in
    subst (λ k. take k (get_or text 0 0 ∷ get_or text 1 0 ∷ get_or text 2 0 ∷ [])
    ≡ decimal c.args.number)
    (sym c.from-2.ensures) is.0

pub returns-clause-within : goal.returns-clause-within
returns-clause-within c =
    let is =
    subst (λ i. IsText c.args.number (get_or BYTE_TEXTS i [])) (sym c.from.ensures)
    (is-text c.args.number (omega arith)) in
    subst (λ k. k ≤ 3) (sym c.from-2.ensures) is.1
