use Rattle.std.proofs.Common.{ap, refl, sym, ◌∙◌}
use Rattle.std.specs.Prelude.{option_to_list}
use Rattle.ddcmp_explain.proofs.FormLaws.{nothing-begun, nothing-dumped, nothing-left}
use Rattle.ddcmp_explain.proofs.FormLaws.{nothing-unexpected}
use Rattle.ddcmp_explain.proofs.input_bytes.InputBytes.begun.Goals as goal

pub returns-clause-read : goal.returns-clause-read
returns-clause-read c =
    let form = c.args.form in
    record {
      form_is = refl;
      unexpected = nothing-unexpected form;
      dump = nothing-dumped form ∙ sym c.new-2.ensures;
      decoded = λ _. record {
        left = nothing-left form ∙ ap option_to_list (sym c.new.ensures.none);
        spot = nothing-begun form ∙ sym c.new.ensures.spot;
      };
    }
