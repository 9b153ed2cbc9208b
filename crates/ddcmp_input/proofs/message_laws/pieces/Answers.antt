use Rattle.ddcmp_input.proofs.LengthsLaws.{after_more, entries_of_more}
use Rattle.ddcmp_input.proofs.HexLinesLaws.{after_more as after_more_digits}
use Rattle.ddcmp_input.proofs.HexLinesLaws.{entries_of_more as entries_of_more_digits}
use Rattle.ddcmp_input.proofs.message_laws.pieces.Goals as goal

pub returns-clause-lengths : goal.returns-clause-lengths
returns-clause-lengths c u w v = (after_more u w v, entries_of_more u w v)

pub returns-clause-lines : goal.returns-clause-lines
returns-clause-lines c u w v = (after_more_digits u w v, entries_of_more_digits u w v)
