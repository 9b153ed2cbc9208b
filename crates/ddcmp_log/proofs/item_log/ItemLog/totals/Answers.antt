use Rattle.std.proofs.Common.{sym}
use Rattle.ddcmp_log.proofs.item_log.ItemLog.totals.Goals as goal

pub returns : goal.returns
returns c = rw (sym c.self.view_is) (λ told h i. record {
  items = h.counted i;
  bytes = c.offset.ensures.text told h.stands i;
  left_open = c.«open».ensures.text told h.stands i;
})
