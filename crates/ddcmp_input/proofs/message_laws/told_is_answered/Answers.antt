use Rattle.ddcmp_input.proofs.BinaryLaws.{told_more, told_nothing, told_last}
use Rattle.ddcmp_input.proofs.LineLaws.{told_more as told_more_lines}
use Rattle.ddcmp_input.proofs.LineLaws.{told_nothing as told_nothing_lines}
use Rattle.ddcmp_input.proofs.LineLaws.{told_last as told_last_lines}
use Rattle.ddcmp_input.proofs.message_laws.told_is_answered.Goals as goal

pub returns-clause-cut : goal.returns-clause-cut
returns-clause-cut c = told_more

pub returns-clause-cut_lines : goal.returns-clause-cut_lines
returns-clause-cut_lines c = told_more_lines

pub returns-clause-answer : goal.returns-clause-answer
returns-clause-answer c = λ u byte v e. (told_nothing u v e, told_last u byte v e)

pub returns-clause-answer_lines : goal.returns-clause-answer_lines
returns-clause-answer_lines c = λ u byte v e. (told_nothing_lines u v e, told_last_lines u byte v e)
