use Rattle.std.proofs.Common.{◌≡◌, ◌+◌, ◌∷◌, [], ◌++◌, ◌∙◌, ap, arith, length, length-append}
use Rattle.ddcmp_pair.proofs.KeptLaws.{cut-length, cut-more, ends-more}
use Rattle.ddcmp_pair.proofs.messages.Messages.push_reserved.Goals as goal

pub invariant_of-self : goal.invariant_of-self
invariant_of-self c =
    let bytes = c.self.inside.bytes.items in
    let ends = c.self.inside.ends.items in
    let longer = ap length c.append.ensures.items ∙ length-append bytes c.args.message.now in
    let counted : c.len.result ≡ length bytes + length c.args.message.now =
    (let count = c.len.ensures in omega (arith, count, longer)) in
    let pushed = c.push_reserved.ensures.items ∙ ap (λ n. ends ++ n ∷ []) counted in
    rw (pushed, longer)
    (ends-more 0 ends (length bytes) (length c.args.message.now) c.self.invariant)

pub returns-clause-all : goal.returns-clause-all
returns-clause-all c =
    let bytes = c.self.inside.bytes.items in
    let ends = c.self.inside.ends.items in
    let longer = ap length c.append.ensures.items ∙ length-append bytes c.args.message.now in
    let counted : c.len.result ≡ length bytes + length c.args.message.now =
    (let count = c.len.ensures in omega (arith, count, longer)) in
    let pushed = c.push_reserved.ensures.items ∙ ap (λ n. ends ++ n ∷ []) counted in
    rw (pushed, c.append.ensures.items)
    (cut-more 0 ends bytes c.args.message.now c.self.invariant
    ∙ ap (λ v. v.all ++ c.args.message.now ∷ []) c.self.view_is)

pub returns-clause-few : goal.returns-clause-few
returns-clause-few c =
    let count = cut-length 0 c.push_reserved.new.self.items c.append.new.list.items in
    omega (arith, count)
