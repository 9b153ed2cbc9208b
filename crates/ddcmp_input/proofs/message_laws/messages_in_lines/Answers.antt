use Rattle.ddcmp_input.proofs.LineLaws.{one_line, all_lines, empty_line, no_line, at_rest}
use Rattle.ddcmp_input.proofs.SpellingLaws.{spells_lower, spells_upper}
use Rattle.ddcmp_input.proofs.message_laws.messages_in_lines.Goals as goal

pub returns-clause-line : goal.returns-clause-line
returns-clause-line c = one_line

pub returns-clause-lines : goal.returns-clause-lines
returns-clause-lines c = all_lines

pub returns-clause-empty : goal.returns-clause-empty
returns-clause-empty c = empty_line

pub returns-clause-none : goal.returns-clause-none
returns-clause-none c = no_line

pub returns-clause-rests : goal.returns-clause-rests
returns-clause-rests c = at_rest

pub returns-clause-digits : goal.returns-clause-digits
returns-clause-digits c = λ message bytes. (spells_lower message bytes, spells_upper message bytes)
