use Rattle.std.proofs.Common.{◌+◌, ◌∙◌, ap, subst, refl}
use Rattle.ddcmp_frame.specs.Reader.{Pushes}
use Rattle.ddcmp_streams.proofs.HeardLaws.{hears}
use Rattle.ddcmp_streams.proofs.skipped.WayReader.push.Goals as goal

pub returns-in-Some-clause-hears : goal.returns-in-Some-clause-hears
returns-in-Some-clause-hears c = λ l.
    let noted = c.note.new.self in
    let pushed = record noted { frames = c.push-item.new.self } in
    hears c.args.self.now noted pushed c.reach-discarded.new.self c.args.byte c.in-Some.item
    c.reach-discarded.result c.note.ensures.frames c.note.ensures.reached c.note.ensures.junk
    (subst (λ g. Pushes noted.frames c.args.byte g c.push-item.new.self) c.in-Some.is
    (subst (λ f. Pushes f c.args.byte c.push-item.result c.push-item.new.self)
    (ap (λ h. h.frames) c.self-2.view_is) c.push-item.ensures))
    refl refl c.reach-discarded.ensures.frames c.reach-discarded.ensures.reached
    c.reach-discarded.ensures.junk
    (λ text from r j. c.reach-discarded.ensures.skipped text from
    (ap (λ h. h.reached.offset + h.reached.taken) c.self-2.view_is ∙ r)
    (ap (λ h. h.junk) c.self-2.view_is ∙ j))
