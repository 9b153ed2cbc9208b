use Rattle.std.proofs.Common.{◌+◌, ◌-◌, sym, ◌∙◌, ap, subst, arith, take, drop, length, length-drop}
use Rattle.std.proofs.Common.{length-take}
use Rattle.std.proofs.Math.Seq.{take-add}
use Rattle.std.proofs.lemmas.List.{take_rest}
use Rattle.ddcmp_frame.specs.Reader.{StandsFor}
use Rattle.ddcmp_frame.specs.Reading.{items}
use Rattle.ddcmp_pair.specs.Place.{place_next}
use Rattle.ddcmp_pair.proofs.Placed.{followed-next, within-option}
use Rattle.ddcmp_pair.proofs.side.receiver.follow.Goals as goal

pub push_all-pushed-requires : goal.push_all-pushed-requires
push_all-pushed-requires c =
    let arrived = c.args.arrived.now in
    let at = c.loop-at.at in
    let offset = c.loop-at.invariant.stands.offset in
    let before = length-take at arrived in
    let left = length-take (length arrived - at) (drop at arrived) in
    let rest = length-drop at arrived in
    omega (arith, offset, before, left, rest)

pub loop-at-preserved : goal.loop-at-preserved
loop-at-preserved c =
    let e = rw take_rest at c.push_all-pushed.ensures in
    let i = c.loop-at.invariant in
    let arrived = c.args.arrived.now in
    let at = c.loop-at.at in
    let p = c.push_all-pushed in
    let longer = take-add at p.result.used arrived in
    record {
      within = (let rest = length-drop at arrived in omega (arith, e.used, rest, i.within));
      stands = subst (StandsFor p.new.self) (sym longer) (e.stands (take at arrived) i.stands);
      max = e.max ∙ i.max;
      placed = within-option c.next_place-place.result _ c.next_place-place.ensures.within;
      followed = followed-next _ _ _ _ _ p.result.item p.new.self.lent _
          (ap (λ m. items m (take (at + p.result.used) arrived)) e.max
          ∙ ap (items c.loop-at.reader.max) longer ∙ e.item (take at arrived) i.stands)
          (c.next_place-place.ensures.value
          ∙ ap (λ lent. place_next p.result.item lent c.args.sent.now.all c.loop-at.place)
          c.data.ensures)
          i.followed;
    }
