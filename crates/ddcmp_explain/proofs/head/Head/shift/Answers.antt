use Rattle.std.proofs.Common.{◌≡◌, ◌+◌, ◌-◌, ap, sym, ◌∙◌, arith, take, drop, length}
use Rattle.std.proofs.lemmas.List.{take_at, drop-take, length-take}
use Rattle.ddcmp_explain.proofs.head.Head.shift.Goals as goal

pub returns : goal.returns
returns c =
    let k = c.args.self.now.count + 1 - c.args.left_open in
    let n : k + c.args.left_open ≡ c.args.self.now.count + 1 = omega (arith, c.requires.fewer) in
    let long : length c.copy_from_slice.new.self ≡ c.args.left_open =
    c.copy_from_slice.ensures.len ∙ length-take c.args.left_open c.append.new.self.bytes
    ∙ omega (arith, c.append.ensures.long, c.requires.few, c.requires.fewer) in
    let from : c.append.new.self.count + 1 - c.args.left_open ≡ k =
    omega (arith, c.append.ensures.count) in
    let many : c.append.new.self.count + 1 - k ≡ c.args.left_open =
    omega (arith, c.append.ensures.count, c.requires.fewer) in
    take_at c.copy_from_slice.new.self _ c.args.left_open long
    ∙ c.copy_from_slice.ensures.after
    ∙ ap (λ j. take (c.append.new.self.count + 1 - j) (drop j c.append.new.self.bytes)) from
    ∙ ap (λ j. take j (drop k c.append.new.self.bytes)) many
    ∙ sym (drop-take k c.args.left_open c.append.new.self.bytes)
    ∙ ap (λ j. drop k (take j c.append.new.self.bytes)) n
    ∙ ap (drop k) c.append.ensures.bytes
