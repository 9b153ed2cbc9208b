use Rattle.std.proofs.Common.{◌∷◌, [], ◌-◌, ◌∙◌, ap, arith, drop, get_or, length, sym, take}
use Rattle.ddcmp_pair.proofs.KeptLaws.{cut-at, cut-length, in-order}
use Rattle.ddcmp_pair.proofs.messages.Messages.at.Goals as goal

pub begin_of-from-requires : goal.begin_of-from-requires
begin_of-from-requires c =
    let inside = c.self.inside in
    let view = ap (λ v. length v.all) c.self.view_is in
    let count = cut-length 0 inside.ends.items inside.bytes.items in
    let ends = ap length c.deref.ensures.value in
    omega (arith, view, count, ends)

pub index-requires : goal.index-requires
index-requires c =
    let inside = c.self.inside in
    let view = ap (λ v. length v.all) c.self.view_is in
    let count = cut-length 0 inside.ends.items inside.bytes.items in
    omega (arith, view, count)

pub slice_bounds-result-count : goal.slice_bounds-result-count
slice_bounds-result-count c =
    let inside = c.self.inside in
    let view = ap (λ v. length v.all) c.self.view_is in
    let count = cut-length 0 inside.ends.items inside.bytes.items in
    let begins =
    c.begin_of-from.ensures ∙ ap (λ ends. get_or (0 ∷ ends) c.args.i 0) c.deref.ensures.value in
    let order =
    in-order 0 inside.ends.items (length inside.bytes.items)
    c.args.i c.index.result.now c.self.invariant (omega (arith, view, count)) in
    omega (arith, begins, order.0, c.index.ensures)

pub slice_bounds-result-start : goal.slice_bounds-result-start
slice_bounds-result-start c =
    let inside = c.self.inside in
    let view = ap (λ v. length v.all) c.self.view_is in
    let count = cut-length 0 inside.ends.items inside.bytes.items in
    let begins =
    c.begin_of-from.ensures ∙ ap (λ ends. get_or (0 ∷ ends) c.args.i 0) c.deref.ensures.value in
    let order =
    in-order 0 inside.ends.items (length inside.bytes.items)
    c.args.i c.index.result.now c.self.invariant (omega (arith, view, count)) in
    let bytes = ap length c.deref-2.ensures.value in
    omega (arith, begins, order.0, order.1, c.index.ensures, bytes)

pub slice_bounds-result-end : goal.slice_bounds-result-end
slice_bounds-result-end c =
    let inside = c.self.inside in
    let view = ap (λ v. length v.all) c.self.view_is in
    let count = cut-length 0 inside.ends.items inside.bytes.items in
    let begins =
    c.begin_of-from.ensures ∙ ap (λ ends. get_or (0 ∷ ends) c.args.i 0) c.deref.ensures.value in
    let order =
    in-order 0 inside.ends.items (length inside.bytes.items)
    c.args.i c.index.result.now c.self.invariant (omega (arith, view, count)) in
    let bytes = ap length c.deref-2.ensures.value in
    omega (arith, begins, order.0, order.1, c.index.ensures, bytes)

pub returns : goal.returns
returns c =
    let inside = c.self.inside in
    let view = ap (λ v. length v.all) c.self.view_is in
    let count = cut-length 0 inside.ends.items inside.bytes.items in
    let begins =
    c.begin_of-from.ensures ∙ ap (λ ends. get_or (0 ∷ ends) c.args.i 0) c.deref.ensures.value in
    let piece =
    cut-at 0 inside.ends.items inside.bytes.items c.args.i c.index.result.now []
    (omega (arith, view, count)) in
    rw (c.deref-2.ensures.value, begins)
    (ap
    (λ n. take (n - get_or (0 ∷ inside.ends.items) c.args.i 0)
    (drop (get_or (0 ∷ inside.ends.items) c.args.i 0) inside.bytes.items)) c.index.ensures
    ∙ sym piece ∙ ap (λ v. get_or v.all c.args.i []) c.self.view_is)
