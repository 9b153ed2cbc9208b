use Rattle.std.proofs.Common.{◌+◌, ◌-◌, length, drop, length-drop, subst, arith}
use Rattle.std.proofs.lemmas.List.{length-take}
use Rattle.ddcmp_proto.proofs.FeedLaws.{FedNext, fed-nothing, fed-on, fed-quiet}
use Rattle.ddcmp_proto.proofs.station.Station.feed.Goals as goal

pub loop-used-init : goal.loop-used-init
loop-used-init c =
    record { within = omega arith; fed = fed-nothing c.args.self.now c.args.piece.now }

pub loop-used-preserved : goal.loop-used-preserved
loop-used-preserved c =
    let piece = c.args.piece.now in
    let n = c.loop-used.used in
    let part = c.take_part-part in
    let next =
    fed-on c.args.self.now c.loop-used.self part.new.self piece n part.result.0 part.result.1
    part.ensures.used c.loop-used.invariant.fed part.ensures.takes in
    record {
      within =
          omega (
            arith,
            part.ensures.used,
            length-take (length piece - n) (drop n piece),
            length-drop n piece,
          );
      fed =
          fed-quiet c.args.self.now part.new.self piece (n + part.result.0)
          (subst (FedNext c.args.self.now piece (n + part.result.0) part.new.self)
          c.in-None.is next);
    }

pub returns-in-Some-clause-stands : goal.returns-in-Some-clause-stands
returns-in-Some-clause-stands c =
    let piece = c.args.piece.now in
    let n = c.loop-used.used in
    let part = c.take_part-part in
    let next =
    fed-on c.args.self.now c.loop-used.self part.new.self piece n part.result.0 part.result.1
    part.ensures.used c.loop-used.invariant.fed part.ensures.takes in
    next.stands

pub returns-in-Some-clause-state : goal.returns-in-Some-clause-state
returns-in-Some-clause-state c =
    let piece = c.args.piece.now in
    let n = c.loop-used.used in
    let part = c.take_part-part in
    let next =
    fed-on c.args.self.now c.loop-used.self part.new.self piece n part.result.0 part.result.1
    part.ensures.used c.loop-used.invariant.fed part.ensures.takes in
    next.core

pub returns-in-Some-clause-told : goal.returns-in-Some-clause-told
returns-in-Some-clause-told c =
    let piece = c.args.piece.now in
    let n = c.loop-used.used in
    let part = c.take_part-part in
    let next =
    fed-on c.args.self.now c.loop-used.self part.new.self piece n part.result.0 part.result.1
    part.ensures.used c.loop-used.invariant.fed part.ensures.takes in
    next.told

pub returns-in-Some-clause-first : goal.returns-in-Some-clause-first
returns-in-Some-clause-first c =
    let piece = c.args.piece.now in
    let n = c.loop-used.used in
    let part = c.take_part-part in
    let next =
    fed-on c.args.self.now c.loop-used.self part.new.self piece n part.result.0 part.result.1
    part.ensures.used c.loop-used.invariant.fed part.ensures.takes in
    next.first
