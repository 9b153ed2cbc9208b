use Rattle.std.proofs.Common.{ap, sym, refl, ◌∙◌}
use Rattle.ddcmp_pair.specs.Recovery.{is_done}
use Rattle.ddcmp_pair.proofs.Recoveries.{recovering-state}
use Rattle.ddcmp_line.specs.ScriptText.{recovered_text}
use Rattle.ddcmp_io.proofs.TextLaws.{sends-as}
use Rattle.ddcmp_line.proofs.performer.Stage.recover.Goals as goal

pub returns-clause-comes : goal.returns-clause-comes
returns-clause-comes g c = λ ok.
    let p = c.args.pair.now in
    let state = c.in_ok-recovered.ensures.state refl in
    let done = c.done-done.ensures.answer ∙ ap is_done state in
    record {
      scene =
          λ i. record { pair = (state ∙ sym (recovering-state p)) i; lines = c.clear.ensures i };
      text =
          sends-as (λ i. recovered_text (c.in_ok-recovered.ensures.exchanges i) (done i))
          c.write_recovered.ensures;
    }
