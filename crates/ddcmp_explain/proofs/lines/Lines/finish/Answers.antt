use Rattle.std.proofs.Common.{drop, length, ap, ◌∙◌}
use Rattle.std.proofs.lemmas.List.{append-nil}
use Rattle.ddcmp_io.proofs.WrittenLaws.{sends-then}
use Rattle.ddcmp_io.proofs.TextLaws.{sends-as}
use Rattle.ddcmp_frame.specs.Reading.{items, open_at_end}
use Rattle.ddcmp_explain.specs.Discarded.{end_in, lines_in}
use Rattle.ddcmp_explain.specs.Output.{totals_in}
use Rattle.ddcmp_explain.proofs.LinesLaws.{written}
use Rattle.ddcmp_explain.proofs.lines.Lines.finish.Goals as goal

pub returns-clause-told : goal.returns-clause-told
returns-clause-told g c = λ max start text h.
    let was = c.args.self.now in
    let bytes = c.offset-bytes.ensures.text text h.stands in
    let left_open =
    c.open-left_open.ensures.text text h.stands ∙ ap (λ m. open_at_end m text) h.max_is in
    let last =
    ap (λ part. drop part.from (totals_in part.notation c.write_end.new.self.items
    c.offset-bytes.result c.open-left_open.result))
    c.whole-part.ensures
    ∙ ap (λ s. totals_in s.notation c.write_end.new.self.items c.offset-bytes.result
    c.open-left_open.result)
    c.write_end.ensures.style
    ∙ ap (λ n. totals_in was.style.notation n c.offset-bytes.result c.open-left_open.result)
    (c.write_end.ensures.items ∙ h.counted)
    ∙ ap (λ n. totals_in was.style.notation (length (items max text)) n c.open-left_open.result)
    bytes
    ∙ ap (λ n. totals_in was.style.notation (length (items max text)) (length text) n) left_open in
    let all =
    sends-then (sends-then (c.write_end.ensures.told max start text h bytes left_open)
    (sends-as last c.write_last.ensures))
    c.flush.ensures.sends in
    written start _ _ _ _ c.flush.result
    ((sends-as (append-nil (end_in was.style max text)) all).holds start
    (lines_in was.style max text) h.holds)
    c.flush.ensures.empty c.flush.ensures.broken
