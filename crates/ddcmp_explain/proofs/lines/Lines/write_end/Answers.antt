use Rattle.std.proofs.Common.{◌≡◌, ◌++◌, true, ap, arith, sym, subst, ◌∙◌}
use Rattle.ddcmp_io.proofs.WrittenLaws.{sends-then}
use Rattle.ddcmp_io.proofs.TextLaws.{sends-as, sends-nothing}
use Rattle.ddcmp_frame.proofs.ReadingLaws.{ending-offset}
use Rattle.ddcmp_frame.specs.Reading.{ending, items}
use Rattle.ddcmp_explain.specs.Discarded.{none_text, opened, part_lines}
use Rattle.ddcmp_explain.specs.Discarded.{passed, reached, rest_by}
use Rattle.ddcmp_explain.specs.Inside.Progress.{BeginsWith, HasFound, ReachesTo}
use Rattle.ddcmp_explain.proofs.lines.Lines.write_end.Goals as goal

pub returns-then-not-self-clause-told : goal.returns-then-not-self-clause-told
returns-then-not-self-clause-told g c = λ max start text h b o.
    sends-as (sym (ap (λ t. rest_by t c.args.self.now.style.notation max text) c.if-not-self.true))
    (sends-nothing _)

pub returns-clause-told : goal.returns-clause-told
returns-clause-told g c = λ max start text h b o.
    let was = c.args.self.now in
    let notation = was.style.notation in
    let p = ending max text in
    let on : was.style.discarded ≡ true = c.if-not-self.false in
    let ends : p.offset ≡ c.saturating_sub.result =
    omega (arith, ending-offset max text, b, o, c.saturating_sub.ensures) in
    let here =
    subst (λ t. ReachesTo t (items max text) was.reached.offset was.reached.taken) on
    h.reaches in
    let begins = subst (λ t. BeginsWith t was.head p.rest) on h.head in
    let told = c.write_rest.ensures.told p begins ends (sym o) in
    let found = subst (λ t. HasFound t (items max text) was.is_found) on h.found in
    let last =
    sends-as
    (ap (λ n. part_lines notation (passed n c.saturating_sub.result ++ opened p)) (sym here)
    ∙ ap (λ n. part_lines notation (passed (reached 0 (items max text)) n ++ opened p))
    (sym ends))
    told in
    let none =
    sends-as
    (ap (λ s. none_text s.notation c.write_rest.new.self.is_found) c.write_rest.ensures.style
    ∙ ap (none_text notation) (c.write_rest.ensures.found ∙ found))
    c.write_none.ensures.told in
    sends-as (ap (λ t. rest_by t notation max text) (sym on)) (sends-then last none)
