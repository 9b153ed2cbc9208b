use Rattle.std.proofs.Common.{[], ◌∷◌, ◌+◌, ◌++◌, ap, refl, sym, ◌∙◌, arith, take}
use Rattle.ddcmp_io.proofs.TextLaws.{sends-as}
use Rattle.ddcmp_frame.specs.Reader.{items_given}
use Rattle.ddcmp_frame.specs.Reading.{items}
use Rattle.ddcmp_log.specs.Logged.{logged_line}
use Rattle.ddcmp_log.proofs.TellLaws.{counts, tells-item, tells-none}
use Rattle.ddcmp_log.proofs.item_log.ItemLog.push.Goals as goal

pub returns-in-Some-clause-told : goal.returns-in-Some-clause-told
returns-in-Some-clause-told c = rw (sym c.self.view_is) (λ told h.
    let p = c.push_all-used in
    let was = c.self.inside in
    let more = take p.result.used c.args.bytes.now in
    let lent = p.new.self.lent in
    let adds =
    p.ensures.item told h.stands
    ∙ ap (λ i. items was.frames.max told ++ items_given i lent) c.in-Some.is in
    let line =
    sends-as
    (ap (λ d. logged_line was.notation c.args.stamp was.side (c.in-Some.item, d))
    c.data-data.ensures)
    c.write_line.ensures in (
      counts was.frames p.new.self was.items (was.items + 1) told more ((c.in-Some.item, lent) ∷ [])
          h (p.ensures.stands told h.stands) p.ensures.max adds refl,
      tells-item was.notation was.side was.frames.max c.args.stamp told more (c.in-Some.item, lent)
          _ _ adds line,
    ))

pub returns-in-None-clause-told : goal.returns-in-None-clause-told
returns-in-None-clause-told c = rw (sym c.self.view_is) (λ told h.
    let p = c.push_all-used in
    let was = c.self.inside in
    let more = take p.result.used c.args.bytes.now in
    let adds =
    p.ensures.item told h.stands
    ∙ ap (λ i. items was.frames.max told ++ items_given i p.new.self.lent) c.in-None.is in (
      counts was.frames p.new.self was.items was.items told more [] h
          (p.ensures.stands told h.stands) p.ensures.max adds (omega arith),
      tells-none was.notation was.side was.frames.max c.args.stamp told more _ adds,
    ))
