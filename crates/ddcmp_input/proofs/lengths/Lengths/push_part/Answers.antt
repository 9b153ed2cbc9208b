use Rattle.std.proofs.Common.{ap, ◌∙◌, take, arith, [], ◌≡◌}
use Rattle.std.proofs.lemmas.List.{take_more}
use Rattle.ddcmp_input.specs.Lengths.{entries_of_bytes}
use Rattle.ddcmp_input.proofs.LengthsLaws.{nothing_yet, one_more, entry_of_more}
use Rattle.ddcmp_input.proofs.lengths.Lengths.push_part.Goals as goal

pub returns-in_default : goal.returns-in_default
returns-in_default c =
    let piece = c.args.piece.now in
    let was = c.args.self.now in
    let one = take_more piece 0 _ c.requires in
    let none = nothing_yet was in
    record {
      some = omega arith;
      used = c.requires;
      first = λ n less.
          let zero : n ≡ 0 = omega arith in
          ap (λ i. entries_of_bytes (take i piece) was) zero ∙ none.1;
      state = one_more _ [] _ was was c.push.new.self one none.0 c.push.ensures.state;
      entries = entry_of_more _ [] _ was was c.push.result one none.0 none.1 c.push.ensures.entry;
    }
