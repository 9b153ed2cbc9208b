use Rattle.std.proofs.Common.{◌≡◌, ◌∙◌, [], ap, refl, sym, Some}
use Rattle.ddcmp_ports.specs.declared.port.Port.TheVariants.{First, Second}
use Rattle.ddcmp_ports.specs.Holding.{held_of}
use Rattle.ddcmp_ports.specs.Running.{AllAgree}
use Rattle.ddcmp_bridge.proofs.CrossLaws.{passes-on}
use Rattle.ddcmp_bridge.proofs.running.run_bridge.Goals as goal

pub returns-clause-crosses : goal.returns-clause-crosses
returns-clause-crosses g c =
    let agrees : AllAgree [] (held_of c.args.buffers.now) (g.S.System.trace c.args.system.now) =
    λ p t e.
    (let is = c.requires.fresh p t e in
    record {
      came = ap (λ t. t.came) is ∙ sym (c.requires.held p);
      gone = ap (λ t. t.gone) is;
      whole = ap (λ t. t.whole) is;
      said = ap (λ t. t.said) is;
    }) in
    let went = c.run.ensures.on.goes [] c.requires.bridge agrees in
    (_, went.1, went.2)

pub returns-clause-passes : goal.returns-clause-passes
returns-clause-passes g c = λ one two first second on.
    let agrees : AllAgree [] (held_of c.args.buffers.now) (g.S.System.trace c.args.system.now) =
    λ p t e.
    (let is = c.requires.fresh p t e in
    record {
      came = ap (λ t. t.came) is ∙ sym (c.requires.held p);
      gone = ap (λ t. t.gone) is;
      whole = ap (λ t. t.whole) is;
      said = ap (λ t. t.said) is;
    }) in
    let went = c.run.ensures.on.goes [] c.requires.bridge agrees in
    let one-agrees = went.2 First one first in
    let two-agrees = went.2 Second two second in
    record {
      there =
          passes-on _ 0 _ _ _ _ one two on went.1.there one-agrees.came two-agrees.gone;
      back = passes-on _ 1 _ _ _ _ two one on went.1.back two-agrees.came one-agrees.gone;
    }
