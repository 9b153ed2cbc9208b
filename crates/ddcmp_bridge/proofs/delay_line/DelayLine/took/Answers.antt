use Rattle.std.proofs.Common.{◌≡◌, ◌∙◌, ◌≤◌, ◌∷◌, [], ◌++◌, suc, All, ap, arith, length, subst, sym}
use Rattle.std.proofs.Common.{vec_capacity, length-append}
use Rattle.std.specs.Prelude.{option_to_list}
use Rattle.std.proofs.lemmas.List.Elements.{All-push}
use Rattle.ddcmp_bridge.specs.declared.relay.TheConstants.{FRAME}
use Rattle.ddcmp_bridge.proofs.delay_line.DelayLine.took.Goals as goal

pub invariant_of-self-2 : goal.invariant_of-self-2
invariant_of-self-2 c =
    let inv = c.self.invariant in
    let was = c.self.inside.held.items in
    let rest = c.pop_front.new.self.items in
    let first = c.in-Some-pop_front.field-0 in
    let items : was ≡ first ∷ rest =
    c.pop_front.ensures.items ∙ ap (λ r. option_to_list r ++ rest) c.in-Some-pop_front.is in
    let held = subst (All (λ h. FRAME ≤ vec_capacity h.frame)) items inv.1 in
    let reserved : FRAME ≤ vec_capacity first.frame = held 0 first (omega arith) in
    let spare = c.in-Ok.ensures.items in
    let longer = ap length spare ∙ length-append c.self.inside.spare.items (first.frame ∷ []) in
    let one = ap length items in (
      omega arith,
      λ k d l. held (suc k) d (omega (arith, l)),
      subst (All (λ b. FRAME ≤ vec_capacity b)) (sym spare)
          (All-push (λ b. FRAME ≤ vec_capacity b) c.self.inside.spare.items
          first.frame inv.2 reserved),
      omega (arith, inv.3, longer, one, c.pop_front.ensures.capacity),
      omega (arith, inv.4, longer, one, c.push.ensures.capacity),
    )
