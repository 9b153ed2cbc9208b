use Rattle.std.proofs.Common.{◌≡◌, ◌∙◌, ◌++◌, ap, append_assoc, subst, false, sym, take, true, Bool}
use Rattle.ddcmp_tap.proofs.direction.Direction.push.Goals as goal

pub returns-clause-forwards : goal.returns-clause-forwards
returns-clause-forwards c = rw (sym c.self.view_is) (λ came gone whole k.
    let bytes = take c.min-used.result c.args.bytes.now in
    record {
      in_order =
          ap (λ x. x ++ bytes) k.in_order ∙ append_assoc gone _ bytes
          ∙ ap (λ q. gone ++ q.waiting) (sym c.push.ensures);
      logged = c.log.ensures.told came k.logged;
      at_end = λ e. let bad : ◌≡◌ {A = Bool} true false = sym e ∙ subst (λ s. s.ended ≡ false) (sym c.self.view_is) c.requires.going in cc;
      over = λ o. let bad : ◌≡◌ {A = Bool} true false = sym (k.over o).1 ∙ subst (λ s. s.ended ≡ false) (sym c.self.view_is) c.requires.going in cc;
    })
