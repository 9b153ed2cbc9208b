use Rattle.ddcmp_laws.proofs.PassedLaws.{damaged_items, damaged_closed}
use Rattle.ddcmp_laws.proofs.damage.damaged_frames_are_skipped.Goals as goal

pub returns-clause-reported : goal.returns-clause-reported
returns-clause-reported c = damaged_items

pub returns-clause-closed : goal.returns-clause-closed
returns-clause-closed c = damaged_closed
