use Rattle.std.proofs.Common.{◌∙◌, refl, sym, subst, arith, length-drop, []}
use Rattle.std.proofs.lemmas.List.{take_rest}
use Rattle.ddcmp_station.proofs.DriveLaws.{fed-to-nothing, fed-more, fed-whole, Calls-none}
use Rattle.ddcmp_station.proofs.DriveLaws.{Calls-one}
use Rattle.ddcmp_proto.proofs.FeedLaws.{notices_of_piece-none}
use Rattle.ddcmp_station.proofs.SeenLaws.{tells-more, tells-whole}
use Rattle.ddcmp_station.specs.UserCalls.{Calls, calls_of_notices}
use Rattle.std.specs.Prelude.{option_to_list}
use Rattle.ddcmp_station.proofs.driver.feed_all.Goals as goal

pub loop-at-init : goal.loop-at-init
loop-at-init g c = record {
  within = omega arith;
  fed = fed-to-nothing c.args.station.now;
  offset = omega arith;
  limits = refl;
  syn = refl;
  seen = (
    [],
    Calls-none g.U.User.becomes c.args.user.now,
    λ text s. notices_of_piece-none text c.args.station.now.core,
  );
}

pub loop-at-preserved : goal.loop-at-preserved
loop-at-preserved g c =
    let e = rw take_rest at c.feed-fed.ensures in
    let i = c.loop-at.invariant in
    record {
      within = omega (arith, e.used, length-drop c.loop-at.at c.args.piece.now, i.within);
      fed =
          fed-more _ c.loop-at.station c.feed-fed.new.self _ c.loop-at.at _ i.fed
          (record { stands = e.stands; state = e.state });
      offset = omega (arith, e.offset, i.offset);
      limits = e.limits ∙ i.limits;
      syn = e.syn ∙ i.syn;
      seen =
          tells-more g.U.User.becomes _ c.loop-at.station _ c.loop-at.at _ _ _ _
          c.feed-fed.result.notice i.fed e.told i.seen
          (subst
          (λ r. Calls g.U.User.becomes c.loop-at.user c.loop-at.user
          (calls_of_notices (option_to_list r))) (sym c.in_default.is)
          (Calls-none g.U.User.becomes c.loop-at.user));
    }

pub loop-at-preserved-in-Some : goal.loop-at-preserved-in-Some
loop-at-preserved-in-Some g c =
    let e = rw take_rest at c.feed-fed.ensures in
    let i = c.loop-at.invariant in
    record {
      within = omega (arith, e.used, length-drop c.loop-at.at c.args.piece.now, i.within);
      fed =
          fed-more _ c.loop-at.station c.feed-fed.new.self _ c.loop-at.at _ i.fed
          (record { stands = e.stands; state = e.state });
      offset = omega (arith, e.offset, i.offset);
      limits = e.limits ∙ i.limits;
      syn = e.syn ∙ i.syn;
      seen =
          tells-more g.U.User.becomes _ c.loop-at.station _ c.loop-at.at _ _ _ _
          c.feed-fed.result.notice i.fed e.told i.seen
          (subst
          (λ r. Calls g.U.User.becomes c.loop-at.user c.notice.new.self
          (calls_of_notices (option_to_list r))) (sym c.in-Some.is)
          (Calls-one g.U.User.becomes _ _ _ c.notice.ensures));
    }

pub returns-clause-stands : goal.returns-clause-stands
returns-clause-stands g c =
    (fed-whole _ _ c.args.piece.now c.loop-at.at (omega arith) c.loop-at.invariant.fed).stands

pub returns-clause-state : goal.returns-clause-state
returns-clause-state g c =
    (fed-whole _ _ c.args.piece.now c.loop-at.at (omega arith) c.loop-at.invariant.fed).state

pub returns-clause-seen : goal.returns-clause-seen
returns-clause-seen g c =
    tells-whole g.U.User.becomes c.args.station.now c.args.piece.now c.loop-at.at _ _ (omega arith)
    c.loop-at.invariant.seen
