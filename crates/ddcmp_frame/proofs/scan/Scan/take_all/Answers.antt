use Rattle.std.proofs.Common.{◌+◌, ◌-◌, Some, None, sym, subst, arith, length, take, take_all, drop}
use Rattle.std.proofs.Common.{length-drop}
use Rattle.ddcmp_frame.specs.Inside.Scan.{view_of, TakesPiece, TakesAll}
use Rattle.ddcmp_frame.proofs.PartLaws.{part-more, part-last}
use Rattle.ddcmp_frame.proofs.scan.Scan.take_all.Goals as goal

pub loop-used-preserved : goal.loop-used-preserved
loop-used-preserved c =
    let before = view_of c.loop-used.self in
    let after = view_of c.take-taken.new.self in
    let piece = c.args.piece.now in
    let n = c.loop-used.used in
    let k = c.take-taken.result.used in
    let rest = take_all (length piece - n) (drop n piece) (omega (arith, length-drop n piece)) in
    record {
      sound = c.take-taken.ensures.sound;
      lent = c.take-taken.ensures.lent c.in-None.is;
      part =
          part-more (view_of c.args.self.now) before after piece n k c.loop-used.invariant.part
          (subst (λ t. TakesPiece before t k None after) rest
          (subst (λ g. TakesPiece before (take (length piece - n) (drop n piece)) k g after)
          c.in-None.is c.take-taken.ensures.takes));
    }

pub returns-in-Some-clause-takes : goal.returns-in-Some-clause-takes
returns-in-Some-clause-takes c =
    let before = view_of c.loop-used.self in
    let after = view_of c.take-taken.new.self in
    let piece = c.args.piece.now in
    let n = c.loop-used.used in
    let k = c.take-taken.result.used in
    let item = c.in-Some.field-0 in
    let rest = take_all (length piece - n) (drop n piece) (omega (arith, length-drop n piece)) in
    subst (λ g. TakesAll (view_of c.args.self.now) piece (n + k) g after) (sym c.in-Some.is)
    (part-last (view_of c.args.self.now) before after piece n k item c.loop-used.invariant.part
    (subst (λ t. TakesPiece before t k (Some item) after) rest
    (subst (λ g. TakesPiece before (take (length piece - n) (drop n piece)) k g after)
    c.in-Some.is c.take-taken.ensures.takes)))
