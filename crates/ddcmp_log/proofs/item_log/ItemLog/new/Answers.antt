use Rattle.std.proofs.Common.{sym, ap, length}
use Rattle.ddcmp_frame.proofs.ReadingLaws.{items-nothing}
use Rattle.ddcmp_log.proofs.item_log.ItemLog.new.Goals as goal

pub returns-clause-told : goal.returns-clause-told
returns-clause-told c = record {
  stands = c.in-Ok.ensures.stands;
  counted = sym (ap length (items-nothing c.in-Ok.frames.max));
}
