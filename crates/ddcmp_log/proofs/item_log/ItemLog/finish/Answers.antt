use Rattle.std.proofs.Common.{ap, sym, subst, List, ℕ, ◌≡◌}
use Rattle.ddcmp_io.proofs.TextLaws.{sends-as}
use Rattle.ddcmp_explain.specs.Output.{totals_in}
use Rattle.ddcmp_explain.specs.declared.notation.Totals.{Totals}
use Rattle.ddcmp_log.specs.Inside.Telling.{totals_of}
use Rattle.ddcmp_log.specs.Items.{HasTold, ItemLogView}
use Rattle.ddcmp_log.specs.Logged.{fronted, wording_of}
use Rattle.ddcmp_log.proofs.item_log.ItemLog.finish.Goals as goal

pub returns : goal.returns
returns c = rw (sym c.self.view_is) (λ ok told h.
    let was = c.self.inside in
    let wording = wording_of was.notation in
    let totals =
    subst
    (λ (v : ItemLogView). (told : List ℕ) → HasTold v.frames v.items told
    → c.totals.result ≡ totals_of v.frames.max told)
    (sym c.self.view_is) c.totals.ensures in
    let last =
    ap (λ (t : Totals). fronted wording c.args.stamp was.side
    (totals_in wording t.items t.bytes t.left_open))
    (totals told h) in
    c.put_page.ensures ok c.args.text.now _ _ c.requires.whole c.new-page.ensures
    (sends-as last c.write_totals.ensures))
