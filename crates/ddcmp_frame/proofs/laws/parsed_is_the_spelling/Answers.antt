use Rattle.std.proofs.Common.{refl}
use Rattle.ddcmp_frame.specs.Spelling.{parsed}
use Rattle.ddcmp_frame.proofs.SpellingLaws.{parsed-decides}
use Rattle.ddcmp_frame.proofs.laws.parsed_is_the_spelling.Goals as goal

pub returns : goal.returns
returns c = λ verdict bytes eight. parsed-decides (parsed bytes) verdict bytes eight refl
