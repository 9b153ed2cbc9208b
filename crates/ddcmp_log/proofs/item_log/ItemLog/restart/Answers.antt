use Rattle.std.proofs.Common.{sym, ap, length}
use Rattle.ddcmp_frame.proofs.ReadingLaws.{items-nothing}
use Rattle.ddcmp_log.proofs.item_log.ItemLog.restart.Goals as goal

pub returns-clause-told : goal.returns-clause-told
returns-clause-told c = record {
  stands = c.reset.ensures.stands;
  counted = sym (ap length (items-nothing c.reset.new.self.max));
}
