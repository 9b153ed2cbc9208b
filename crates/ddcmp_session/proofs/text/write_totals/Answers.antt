use Rattle.std.proofs.Common.{ap, codes}
use Rattle.ddcmp_io.proofs.WrittenLaws.{sends-then}
use Rattle.ddcmp_io.proofs.TextLaws.{sends-as}
use Rattle.ddcmp_station.specs.declared.link.Totals.{Totals}
use Rattle.ddcmp_station.specs.CountersText.{counter_text}
use Rattle.ddcmp_session.proofs.text.write_totals.Goals as goal

pub returns : goal.returns
returns c =
    let e = c.totals-totals.ensures in
    let text = counter_text c.args.layout in
    sends-then
    (sends-then
    (sends-then
    (sends-then
    (sends-as (ap (λ (t : Totals). text (codes "read") t.read) e) c.write_counter.ensures)
    (sends-as (ap (λ (t : Totals). text (codes "written") t.written) e)
    c.write_counter-2.ensures))
    (sends-as (ap (λ (t : Totals). text (codes "sent") t.sent) e) c.write_counter-3.ensures))
    (sends-as (ap (λ (t : Totals). text (codes "acknowledged") t.acknowledged) e)
    c.write_counter-4.ensures))
    (sends-as (ap (λ (t : Totals). text (codes "handed") t.handed) e)
    c.write_counter-5.ensures)
