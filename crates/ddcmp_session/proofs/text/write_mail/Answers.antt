use Rattle.ddcmp_session.proofs.TextLaws.{mail-short}
use Rattle.ddcmp_session.proofs.text.write_mail.Goals as goal

pub returns-in-Digits-clause-short : goal.returns-in-Digits-clause-short
returns-in-Digits-clause-short c = mail-short c.args.form c.args.message.now
