use Rattle.std.proofs.Common.{◌≡◌, ◌+◌, ◌-◌, [], ◌∷◌, ◌++◌, ap, refl, sym, ◌∙◌, subst, arith}
use Rattle.std.proofs.Common.{take, drop}
use Rattle.std.proofs.lemmas.List.{append-nil}
use Rattle.ddcmp_frame.specs.declared.header.Header.TheVariants.{Data}
use Rattle.ddcmp_frame.specs.declared.item.Item.TheVariants.{Good}
use Rattle.ddcmp_frame.specs.Reader.{StandsFor, items_given, PushesAll, PushesFrame}
use Rattle.ddcmp_frame.specs.Reading.{items}
use Rattle.ddcmp_explain.specs.Output.{line_in}
use Rattle.ddcmp_frame.proofs.PartLaws.{stands-unlent}
use Rattle.ddcmp_io.proofs.TextLaws.{sends-as, sends-nothing}
use Rattle.ddcmp_explain.proofs.LinesLaws.{told-items}
use Rattle.ddcmp_explain.proofs.lines.Lines.push.Goals as goal

pub returns-in-Some-item-clause-told : goal.returns-in-Some-item-clause-told
returns-in-Some-item-clause-told g c = λ max start text h.
    let p = c.push_all-used in
    let was = c.args.self.now in
    let e =
    subst (λ r. PushesAll r c.args.bytes.now p.result p.new.self)
    (c.push_frame.ensures.none c.in_default.is) p.ensures in
    let lent = p.new.self.lent in
    let given = (c.in-Some-item.item, lent) ∷ [] in
    let line =
    ap (λ p. drop p.from (line_in p.notation (c.in-Some-item.item, c.data-data.result.now)))
    c.whole-part.ensures
    ∙ ap (λ d. line_in was.style.notation (c.in-Some-item.item, d)) c.data-data.ensures
    ∙ sym (append-nil (line_in was.style.notation (c.in-Some-item.item, lent))) in
    told-items max start _ _ text (take p.result.used c.args.bytes.now) given was _ _ _ h
    c.if-self.false e.max refl (e.stands text h.stands)
    (e.item text h.stands
    ∙ ap (λ i. items was.frames.max text ++ items_given i lent) c.in-Some-item.is)
    refl (sends-as line c.write_item_by-in-Some-item.ensures)

pub returns-in-None-clause-told : goal.returns-in-None-clause-told
returns-in-None-clause-told g c = λ max start text h.
    let p = c.push_all-used in
    let was = c.args.self.now in
    let e =
    subst (λ r. PushesAll r c.args.bytes.now p.result p.new.self)
    (c.push_frame.ensures.none c.in_default.is) p.ensures in
    told-items max start _ _ text (take p.result.used c.args.bytes.now) [] was _ _ _ h
    c.if-self.false e.max refl (e.stands text h.stands)
    (e.item text h.stands
    ∙ ap (λ i. items was.frames.max text ++ items_given i p.new.self.lent) c.in-None.is)
    (omega arith) (sends-nothing _)

pub returns-in-Some-clause-told : goal.returns-in-Some-clause-told
returns-in-Some-clause-told g c = λ max start text h.
    let p = c.push_frame in
    let was = c.args.self.now in
    let fields = c.in-Some.fields in
    let bytes = c.args.bytes.now in
    let e : PushesFrame was.frames bytes fields p.new.self = c.in-Some.ensures.pushes in
    let lent = take fields.count (drop 8 bytes) in
    let item = Good was.frames.offset (Data fields) in
    let count = ap (λ x. x.count) c.fields.view_is in
    let size : c.fields.inside.count + 8 - 8 ≡ fields.count = omega (arith, count) in
    let total : fields.count + 10 ≡ c.fields.inside.count + 8 + 2 = omega (arith, count) in
    let line =
    ap (λ part. drop part.from (line_in part.notation (
      Good c.offset-at.result (Data fields),
      take (c.fields.inside.count + 8 - 8) (drop 8 bytes),
    )))
    c.whole-part.ensures
    ∙ ap (λ o. line_in was.style.notation
    (Good o (Data fields), take (c.fields.inside.count + 8 - 8) (drop 8 bytes)))
    c.offset-at.ensures.value
    ∙ ap (λ n. line_in was.style.notation (item, take n (drop 8 bytes))) size
    ∙ sym (append-nil (line_in was.style.notation (item, lent))) in
    told-items max start _ _ text (take (c.fields.inside.count + 8 + 2) bytes) ((item, lent) ∷ [])
    was _ _ _ h c.if-self.false e.max refl
    (subst (λ n. StandsFor p.new.self (text ++ take n bytes)) total
    (stands-unlent (record p.new.self { lent = lent }) p.new.self.lent
    (text ++ take (fields.count + 10) bytes) (e.stands text h.stands)))
    (subst
    (λ n. items was.frames.max (text ++ take n bytes)
    ≡ items was.frames.max text ++ (item, lent) ∷ []) total (e.item text h.stands)) refl
    (sends-as line c.write_item_by.ensures)
