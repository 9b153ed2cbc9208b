use Rattle.std.proofs.Common.{◌≡◌, ◌+◌, ◌-◌, ◌∙◌, ap, sym, subst, arith}
use Rattle.ddcmp_frame.specs.Reader.{StandsFor}
use Rattle.ddcmp_frame.specs.Reading.{open_at_end}
use Rattle.ddcmp_streams.proofs.HeardLaws.{discards-few, discards-none, discards-some}
use Rattle.ddcmp_streams.proofs.skipped.WayReader.discard.Goals as goal

pub returns-in-None : goal.returns-in-None
returns-in-None c =
    let frames_is = ap (λ h. h.frames) c.self.view_is in
    discards-none c.args.self.now c.args.least c.saturating_sub-end.result c.open-open.result
    (λ text h. subst (λ f. c.open-open.result ≡ open_at_end f.max text) frames_is
    (c.open-open.ensures.text text (subst (λ f. StandsFor f text) (sym frames_is) h)))
    (ap (λ n. n - c.open-open.result)
    (sym (c.offset.ensures.value ∙ ap (λ f. f.offset) frames_is))
    ∙ sym c.saturating_sub-end.ensures)
    (λ text from h. sym c.in-None.is ∙ c.skipped_to.ensures text from h.reached h.junk)

pub returns-then-skipped-least : goal.returns-then-skipped-least
returns-then-skipped-least c =
    let frames_is = ap (λ h. h.frames) c.self.view_is in
    discards-few c.args.self.now c.args.least c.saturating_sub-end.result c.open-open.result
    (λ text h. subst (λ f. c.open-open.result ≡ open_at_end f.max text) frames_is
    (c.open-open.ensures.text text (subst (λ f. StandsFor f text) (sym frames_is) h)))
    (ap (λ n. n - c.open-open.result)
    (sym (c.offset.ensures.value ∙ ap (λ f. f.offset) frames_is))
    ∙ sym c.saturating_sub-end.ensures)
    c.in-Some.skipped
    (λ text from h. sym c.in-Some.is ∙ c.skipped_to.ensures text from h.reached h.junk)
    c.if-skipped-least.true

pub returns-else-skipped-least : goal.returns-else-skipped-least
returns-else-skipped-least c =
    let frames_is = ap (λ h. h.frames) c.self.view_is in
    discards-some c.args.self.now c.args.least c.saturating_sub-end.result c.open-open.result
    (λ text h. subst (λ f. c.open-open.result ≡ open_at_end f.max text) frames_is
    (c.open-open.ensures.text text (subst (λ f. StandsFor f text) (sym frames_is) h)))
    (ap (λ n. n - c.open-open.result)
    (sym (c.offset.ensures.value ∙ ap (λ f. f.offset) frames_is))
    ∙ sym c.saturating_sub-end.ensures)
    c.in-Some.skipped _
    (λ text from h. sym c.in-Some.is ∙ c.skipped_to.ensures text from h.reached h.junk)
    c.if-skipped-least.false frames_is
    (ap (λ r. r.offset + r.taken) c.at-self-inside.ensures ∙ omega arith)
    c.then_some-self-inside.ensures
