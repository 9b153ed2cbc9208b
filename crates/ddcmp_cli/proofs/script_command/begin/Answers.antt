use Rattle.std.proofs.Common.{refl}
use Rattle.ddcmp_cli.proofs.ScriptLaws.{begins}
use Rattle.ddcmp_cli.proofs.script_command.begin.Goals as goal

pub returns : goal.returns
returns c = record {
  begins = λ ok.
      begins _ _ _ _ (c.in_ok-_first.ensures.state refl) (c.in_ok-_second.ensures.state refl)
      (c.in_ok-_settled.ensures.state refl);
}
