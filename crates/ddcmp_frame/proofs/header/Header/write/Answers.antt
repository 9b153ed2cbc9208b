use Rattle.std.proofs.Common.{rules, subst, Ok}
use Rattle.ddcmp_frame.proofs.SpellingLaws.{parsed-says, says-parsed, one_writing}
use Rattle.ddcmp_frame.specs.Spelling.{Says}
use Rattle.ddcmp_frame.proofs.header.Header.write.Goals as goal

pub returns-clause-read : goal.returns-clause-read
returns-clause-read c =
    says-parsed (Ok c.args.self.now) c.write_exactly.result (search rules)
    (c.write_exactly.ensures.spelled, c.write_exactly.ensures.check)

pub returns-clause-only : goal.returns-clause-only
returns-clause-only c = λ bytes len all read.
    let found = subst (λ x. Says x bytes) read (parsed-says bytes len) in
    one_writing c.args.self.now c.write_exactly.result bytes (search rules)
    all c.write_exactly.ensures.spelled found.0 c.write_exactly.ensures.check found.1
