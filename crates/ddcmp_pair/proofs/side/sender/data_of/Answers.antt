use Rattle.std.proofs.Common.{◌≡◌, ◌+◌, ◌-◌, ◌∙◌, length, take, drop, ap, arith}
use Rattle.ddcmp_pair.proofs.Lines.{data-behind, data-within}
use Rattle.ddcmp_pair.proofs.side.sender.data_of.Goals as goal

pub overflow_add-result : goal.overflow_add-result
overflow_add-result c =
    let m = c.requires.0 in
    let is = c.requires.1 in
    let within = data-within c.args.syn c.args.header.now m is in
    let count = c.data_length.ensures m is in
    let line = ap length c.requires.2 in
    omega (arith, within, count, line)

pub slice_bounds-result-end : goal.slice_bounds-result-end
slice_bounds-result-end c =
    let m = c.requires.0 in
    let is = c.requires.1 in
    let within = data-within c.args.syn c.args.header.now m is in
    let count = c.data_length.ensures m is in
    let line = ap length c.requires.2 in
    omega (arith, within, count, line)

pub returns : goal.returns
returns c = λ m is line.
    let count : c.args.syn + 8 + c.data_length.result - (c.args.syn + 8) ≡ length m =
    (let k = c.data_length.ensures m is in omega (arith, k)) in
    ap (λ n. take n (drop (c.args.syn + 8) c.args.line.now)) count
    ∙ ap (λ t. take (length m) (drop (c.args.syn + 8) t)) line
    ∙ data-behind c.args.syn c.args.header.now m is
