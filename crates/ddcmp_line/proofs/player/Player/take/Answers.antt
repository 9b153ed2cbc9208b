use Rattle.std.proofs.Common.{◌≡◌, ◌+◌, ◌∷◌, [], ◌++◌, drop, get_or, add-one, ap, sym, subst, ◌∙◌}
use Rattle.std.proofs.Common.{rules, arith}
use Rattle.std.proofs.Math.Seq.{drop-cons}
use Rattle.std.proofs.lemmas.List.{drop_all}
use Rattle.ddcmp_io.specs.Written.{output_of}
use Rattle.ddcmp_line.specs.ScriptEnds.{around}
use Rattle.ddcmp_line.specs.Inside.ScriptProgress.{HasDone, course, played}
use Rattle.ddcmp_line.proofs.player.Player.take.Goals as goal

pub loop-i-init : goal.loop-i-init
loop-i-init g c = record {
  whole = search rules;
  seen = search rules;
  number = search rules;
  direct = search rules;
  so_far = λ input rest p d log start de h. h;
}

pub loop-i-preserved : goal.loop-i-preserved
loop-i-preserved g c = record {
  whole = search rules;
  seen = search rules;
  number = search rules;
  direct = search rules;
  so_far = λ input rest p d log start de h.
      let piece = c.args.piece.now in
      let i = c.loop-i.i in
      let player = c.loop-i.self in
      let out = output_of g.W.Sink.broken g.W.Sink.contents c.loop-i.writer player.stage.page in
      let x = around p c.loop-i.pair d log (g.C.Carrier.told c.loop-i.carrier) in
      let far = c.loop-i.invariant.so_far input rest p d log start de h in
      let cut : drop i piece ++ rest ≡ get_or piece i 0 ∷ (drop (i + 1) piece ++ rest) =
      ap (λ t. t ++ rest)
      (drop-cons piece i 0 c.loop-i-test.true
      ∙ ap (λ n. get_or piece i 0 ∷ drop n piece) (sym (add-one i))) in
      let before =
      subst
      (λ t. HasDone input t (played player.line.items player.number player.stage.lines)
      (course start out x)) cut far in
      c.in-Ok.ensures.takes input (drop (i + 1) piece ++ rest) p d log start
      (c.loop-i.invariant.direct ∙ de) before;
}

pub returns-in-Err-clause-takes : goal.returns-in-Err-clause-takes
returns-in-Err-clause-takes g c = λ input rest p d log start de h.
    let piece = c.args.piece.now in
    let i = c.loop-i.i in
    let player = c.loop-i.self in
    let out = output_of g.W.Sink.broken g.W.Sink.contents c.loop-i.writer player.stage.page in
    let x = around p c.loop-i.pair d log (g.C.Carrier.told c.loop-i.carrier) in
    let far = c.loop-i.invariant.so_far input rest p d log start de h in
    let cut : drop i piece ++ rest ≡ get_or piece i 0 ∷ (drop (i + 1) piece ++ rest) =
    ap (λ t. t ++ rest)
    (drop-cons piece i 0 c.loop-i-test.true
    ∙ ap (λ n. get_or piece i 0 ∷ drop n piece) (sym (add-one i))) in
    let before =
    subst
    (λ t. HasDone input t (played player.line.items player.number player.stage.lines)
    (course start out x)) cut far in
    c.in-Err.ensures.takes input (drop (i + 1) piece ++ rest) p d log start
    (c.loop-i.invariant.direct ∙ de) before

pub returns-clause-takes : goal.returns-clause-takes
returns-clause-takes g c = λ input rest p d log start de h.
    let piece = c.args.piece.now in
    let player = c.loop-i.self in
    let out = output_of g.W.Sink.broken g.W.Sink.contents c.loop-i.writer player.stage.page in
    let x = around p c.loop-i.pair d log (g.C.Carrier.told c.loop-i.carrier) in
    let none : drop c.loop-i.i piece ≡ [] = drop_all c.loop-i.i piece (omega arith) in
    subst
    (λ t. HasDone input (t ++ rest) (played player.line.items player.number player.stage.lines)
    (course start out x)) none (c.loop-i.invariant.so_far input rest p d log start de h)
