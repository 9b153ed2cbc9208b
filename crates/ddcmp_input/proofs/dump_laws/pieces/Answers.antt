use Rattle.ddcmp_input.proofs.DumpLaws.{shown-more, place-more, line-more}
use Rattle.ddcmp_input.proofs.dump_laws.pieces.Goals as goal

pub returns-clause-shown : goal.returns-clause-shown
returns-clause-shown c v text more = shown-more v.place text more

pub returns-clause-state : goal.returns-clause-state
returns-clause-state c v text more =
    λ i.
    record {
      place =
          place-more v.place text more i;
      line = line-more v.place v.line text more i;
    }
