use Rattle.std.proofs.Common.{[], ◌++◌, refl, sym, subst, arith, ◌∙◌, take, take_all}
use Rattle.std.proofs.Common.{length-drop}
use Rattle.std.proofs.lemmas.List.{append-nil}
use Rattle.ddcmp_explain.proofs.LinesLaws.{taken-more}
use Rattle.ddcmp_log.specs.Inside.Telling.{Tells, output_in}
use Rattle.ddcmp_log.specs.Items.{HasTold}
use Rattle.ddcmp_log.proofs.TellLaws.{tells-nothing, tells-of, tells-then, told-added}
use Rattle.ddcmp_log.proofs.item_log.ItemLog.log.Goals as goal

pub loop-used-init : goal.loop-used-init
loop-used-init c =
    let was = c.args.self.now in
    record {
      within = omega arith;
      offset = omega arith;
      max = refl;
      notation = refl;
      side = refl;
      told = λ told h. (
        subst (λ t. HasTold was.frames was.items t) (sym (append-nil told)) h,
        subst
            (λ p. Tells was.notation was.side was.frames.max c.args.stamp told []
            (output_in c.args.text.now []) (output_in c.args.text.now p))
            (sym c.new-page.ensures)
            (tells-nothing was.notation was.side was.frames.max c.args.stamp told
            (output_in c.args.text.now [])),
      );
    }

pub loop-used-preserved : goal.loop-used-preserved
loop-used-preserved c =
    let was = c.args.self.now in
    let bytes = c.args.bytes.now in
    let n = c.loop-used.used in
    let k = c.push-used.result in
    let now = c.loop-used.invariant in
    let e = c.push-used.ensures in
    let at = c.push-used.new.self in
    record {
      within = omega (arith, now.within, e.used, length-drop n bytes);
      offset = omega (arith, now.offset, e.offset);
      max = e.max ∙ now.max;
      notation = e.notation ∙ now.notation;
      side = e.side ∙ now.side;
      told = λ told h.
          let a = now.told told h in
          let b = e.told (told ++ take n bytes) a.0 in (
            subst (λ t. HasTold at.frames at.items t) (taken-more told bytes n k) b.0,
            subst
                (λ t. Tells was.notation was.side was.frames.max c.args.stamp told t
                (output_in c.args.text.now []) (output_in c.push-used.new.text c.push-used.new.page))
                (taken-more [] bytes n k)
                (tells-then was.notation was.side was.frames.max c.args.stamp told (take n bytes)
                _ _ _ _ a.1
                (tells-of _ _ _ _ _ _ c.args.stamp _ _ _ _ now.notation now.side now.max b.1)),
          );
    }

pub returns-clause-told : goal.returns-clause-told
returns-clause-told c = λ told h.
    let all =
    take_all c.loop-used.used c.args.bytes.now (omega (arith, c.loop-used-test.false)) in
    subst (λ t. HasTold c.loop-used.self.frames c.loop-used.self.items (told ++ t)) all
    (c.loop-used.invariant.told told h).0

pub returns-clause-puts : goal.returns-clause-puts
returns-clause-puts c = λ ok told h.
    let was = c.args.self.now in
    let all =
    take_all c.loop-used.used c.args.bytes.now (omega (arith, c.loop-used-test.false)) in
    c.put_page.ensures ok c.args.text.now [] _ c.requires.whole refl
    (told-added was.notation was.side was.frames.max c.args.stamp told c.args.bytes.now _ _
    (subst
    (λ t. Tells was.notation was.side was.frames.max c.args.stamp told t
    (output_in c.args.text.now []) (output_in c.loop-used.text c.loop-used.page))
    all (c.loop-used.invariant.told told h).1))
