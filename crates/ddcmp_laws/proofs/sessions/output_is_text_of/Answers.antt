use Rattle.ddcmp_laws.proofs.Writing.{is_text}
use Rattle.ddcmp_laws.proofs.ShownLines.{digits_tell, events_tell}
use Rattle.ddcmp_laws.proofs.Texts.{only_mail}
use Rattle.ddcmp_laws.proofs.Records.{only-mail-read}
use Rattle.ddcmp_laws.proofs.sessions.output_is_text_of.Goals as goal

pub returns-clause-text : goal.returns-clause-text
returns-clause-text c = is_text

pub returns-clause-binary : goal.returns-clause-binary
returns-clause-binary c = only_mail

pub returns-clause-events : goal.returns-clause-events
returns-clause-events c = only-mail-read

pub returns-clause-lines : goal.returns-clause-lines
returns-clause-lines c = digits_tell

pub returns-clause-event_lines : goal.returns-clause-event_lines
returns-clause-event_lines c = events_tell
