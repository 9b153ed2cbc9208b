use Rattle.std.proofs.Common.{◌∷◌, [], length, take, sym, ◌∙◌, ap, subst, arith, append-nil}
use Rattle.std.proofs.Common.{length-drop}
use Rattle.std.specs.Prelude.{option_to_list, Some}
use Rattle.std.proofs.Math.Seq.{take-add}
use Rattle.std.proofs.lemmas.List.{take_rest}
use Rattle.ddcmp_frame.specs.Reader.{StandsFor}
use Rattle.ddcmp_core.specs.Counting.{count_plus}
use Rattle.ddcmp_core.specs.Table.{acknowledged_by, is_halted}
use Rattle.ddcmp_pair.proofs.Feeding.{left-more, left-none, halted-stays, halted-tells, told-small}
use Rattle.ddcmp_pair.proofs.side.receiver.feed_all.Goals as goal

pub hear-requires-clause-small : goal.hear-requires-clause-small
hear-requires-clause-small c = λ some.
    let e = rw take_rest at c.feed-fed.ensures in
    let i = c.loop-at.invariant in
    let leaves = e.leaves in
    let told = ap acknowledged_by c.in-Some.is in
    told-small (is_halted c.args.station.now.core.station.state) c.args.heard.now.acknowledged
    (length c.args.station.now.core.station.out)
    c.loop-at.heard.acknowledged (length c.loop-at.station.core.station.out)
    (acknowledged_by (Some c.in-Some.notice)) (length c.feed-fed.new.self.core.station.out)
    (λ z. halted-tells _ _ _ _ (i.halted z).0
    (e.told (take c.loop-at.at c.args.arrived.now) i.stands ∙ ap option_to_list c.in-Some.is))
    c.requires.small i.leaves (omega (arith, leaves, told)) some

pub loop-at-preserved-in-Some : goal.loop-at-preserved-in-Some
loop-at-preserved-in-Some c =
    let e = rw take_rest at c.feed-fed.ensures in
    let i = c.loop-at.invariant in
    let h = c.hear.ensures in
    let arrived = c.args.arrived.now in
    let at = c.loop-at.at in
    let rest = length-drop at arrived in
    record {
      begun = omega arith;
      within = omega (arith, e.used, rest, i.within);
      stands =
          subst (StandsFor c.feed-fed.new.self.line)
          (sym (take-add at c.feed-fed.result.used arrived)) (e.stands (take at arrived) i.stands);
      syn = e.syn ∙ i.syn;
      left =
          left-more arrived c.args.from c.args.station.now.core c.args.heard.now at
          c.feed-fed.result.used
          c.loop-at.station.core c.feed-fed.new.self.core c.loop-at.heard c.hear.new.self
          (c.in-Some.notice ∷ []) i.left
          (e.state (take at arrived) i.stands)
          (e.told (take at arrived) i.stands ∙ ap option_to_list c.in-Some.is)
          h.notices (omega (arith, h.acknowledged))
          (h.starts ∙ ap (λ n. count_plus c.loop-at.heard.starts n) (omega arith));
      leaves =
          (let told = ap acknowledged_by c.in-Some.is in
          omega (arith, told, h.acknowledged, e.leaves, i.leaves));
      halted = λ z. (
        halted-stays _ _ _ _ (i.halted z).0 (e.state (take at arrived) i.stands),
        (let none = halted-tells _ _ _ _ (i.halted z).0
            (e.told (take at arrived) i.stands ∙ ap option_to_list c.in-Some.is) in
            let before = (i.halted z).1 in omega (arith, none, h.acknowledged, before)),
      );
      small = omega (arith, h.starts);
      room = omega (arith, h.len, h.capacity, e.some, rest, i.room);
    }

pub loop-at-preserved : goal.loop-at-preserved
loop-at-preserved c =
    let e = rw take_rest at c.feed-fed.ensures in
    let i = c.loop-at.invariant in
    let arrived = c.args.arrived.now in
    let at = c.loop-at.at in
    let rest = length-drop at arrived in
    record {
      begun = omega arith;
      within = omega (arith, e.used, rest, i.within);
      stands =
          subst (StandsFor c.feed-fed.new.self.line)
          (sym (take-add at c.feed-fed.result.used arrived)) (e.stands (take at arrived) i.stands);
      syn = e.syn ∙ i.syn;
      left =
          left-more arrived c.args.from c.args.station.now.core c.args.heard.now at
          c.feed-fed.result.used
          c.loop-at.station.core c.feed-fed.new.self.core c.loop-at.heard c.loop-at.heard [] i.left
          (e.state (take at arrived) i.stands)
          (e.told (take at arrived) i.stands ∙ ap option_to_list c.in_default.is)
          (sym (append-nil c.loop-at.heard.notices.items)) (omega arith) (omega (arith, i.small));
      leaves = omega (arith, e.leaves, i.leaves);
      halted =
          λ z. (
            halted-stays _ _ _ _ (i.halted z).0 (e.state (take at arrived) i.stands),
            (i.halted z).1,
          );
      small = i.small;
      room = omega (arith, rest, i.room);
    }

pub returns-clause-state : goal.returns-clause-state
returns-clause-state c = (left-none _ _ _ _ _ _ _ c.loop-at.invariant.left (omega arith)).state

pub returns-clause-notices : goal.returns-clause-notices
returns-clause-notices c = (left-none _ _ _ _ _ _ _ c.loop-at.invariant.left (omega arith)).notices

pub returns-clause-acknowledged : goal.returns-clause-acknowledged
returns-clause-acknowledged c =
    (left-none _ _ _ _ _ _ _ c.loop-at.invariant.left (omega arith)).acknowledged

pub returns-clause-starts : goal.returns-clause-starts
returns-clause-starts c =
    (let small = c.loop-at.invariant.small in omega (arith, small))
    ∙ (left-none _ _ _ _ _ _ _ c.loop-at.invariant.left (omega arith)).starts
