use Rattle.std.proofs.Common.{[], ◌∷◌, ◌++◌, ap, drop, refl, subst, sym, ◌∙◌}
use Rattle.ddcmp_frame.specs.Reader.{StandsFor, items_given}
use Rattle.ddcmp_frame.specs.Reading.{items, open_at_end}
use Rattle.ddcmp_explain.specs.Inside.Heads.{Heads}
use Rattle.ddcmp_explain.specs.Output.{line_in}
use Rattle.ddcmp_io.proofs.WrittenLaws.{sends-then}
use Rattle.ddcmp_io.proofs.TextLaws.{sends-as, sends-nothing}
use Rattle.ddcmp_explain.proofs.LinesLaws.{told-none, told-one}
use Rattle.ddcmp_explain.proofs.lines.Lines.push_one.Goals as goal

pub returns-in-Some-clause-told : goal.returns-in-Some-clause-told
returns-in-Some-clause-told g c = λ max start text h.
    let p = c.push-item in
    let was = c.args.self.now in
    let lent = p.new.self.lent in
    let now = text ++ c.args.byte ∷ [] in
    let line =
    ap (λ part. drop part.from (line_in part.notation (c.in-Some.item, c.data-data.result.now)))
    c.whole-part.ensures
    ∙ ap (λ s. line_in s.notation (c.in-Some.item, c.data-data.result.now)) c.reach.ensures.style
    ∙ ap (λ d. line_in was.style.notation (c.in-Some.item, d))
    (c.data-data.ensures ∙ ap (λ f. f.lent) c.reach.ensures.frames) in
    told-one max start _ _ text c.args.byte was _ _ _ h c.requires.discarded c.in-Some.item lent
    (ap (λ f. f.max) c.reach.ensures.frames ∙ p.ensures.max)
    c.reach.ensures.style
    (subst (λ f. StandsFor f now) (sym c.reach.ensures.frames) (p.ensures.stands text h.stands))
    (p.ensures.item text h.stands
    ∙ ap (λ i. items was.frames.max text ++ items_given i lent) c.in-Some.is)
    c.reach.ensures.items
    c.reach.ensures.reached
    (λ frames e. c.reach.ensures.found ∙ c.finds_good-self.ensures frames lent e)
    (λ rest more k f n. subst (λ (x : _). Heads x more) (sym c.reach.ensures.head)
    (c.follow.ensures rest more k f
    (c.open.ensures.text now (p.ensures.stands text h.stands)
    ∙ ap (λ m. open_at_end m now) (p.ensures.max ∙ h.max_is) ∙ n)))
    (sends-then c.reach.ensures.passed (sends-as line c.write_item.ensures))

pub returns-in-None-clause-told : goal.returns-in-None-clause-told
returns-in-None-clause-told g c = λ max start text h.
    let p = c.push-item in
    let was = c.args.self.now in
    let now = text ++ c.args.byte ∷ [] in
    told-none max start _ _ text c.args.byte was _ _ _ h c.requires.discarded p.ensures.max refl
    (p.ensures.stands text h.stands)
    (p.ensures.item text h.stands
    ∙ ap (λ i. items was.frames.max text ++ items_given i p.new.self.lent) c.in-None.is)
    refl refl refl
    (λ rest more k f n. c.follow.ensures rest more k f
    (c.open.ensures.text now (p.ensures.stands text h.stands)
    ∙ ap (λ m. open_at_end m now) (p.ensures.max ∙ h.max_is) ∙ n))
    (sends-nothing _)
