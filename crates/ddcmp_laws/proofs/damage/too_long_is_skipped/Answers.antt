use Rattle.ddcmp_laws.proofs.PassedLaws.{passed_items, passed_closed}
use Rattle.ddcmp_laws.proofs.damage.too_long_is_skipped.Goals as goal

pub returns-clause-told : goal.returns-clause-told
returns-clause-told c = passed_items

pub returns-clause-closed : goal.returns-clause-closed
returns-clause-closed c = passed_closed
