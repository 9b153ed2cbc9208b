use Rattle.std.proofs.Common.{ap}
use Rattle.ddcmp_core.specs.Table.{on, notice_of, next, next_frame, after_next, is_on, after_take}
use Rattle.ddcmp_core.specs.Table.{after_expire}
use Rattle.ddcmp_core.specs.Counting.{counters_on, counters_after_next, counters_after_expire}
use Rattle.ddcmp_laws.proofs.Stations.{is_on_noted, on_armed, notice_armed, counters_armed}
use Rattle.ddcmp_laws.proofs.Stations.{next_armed, frame_armed, sent_counts_armed, take_armed}
use Rattle.ddcmp_laws.proofs.Stations.{expire_armed, expired_counts_armed, same_by, value_by}
use Rattle.ddcmp_laws.proofs.calls.fresh_is_on.Goals as goal

pub returns-clause-receives : goal.returns-clause-receives
returns-clause-receives c = λ l s t h same. (
  same_by (λ u. on l u h) (λ u. on_armed l u h) s t same,
  value_by (λ u. notice_of l u h) (λ u. notice_armed l u h) s t same,
)

pub returns-clause-sends : goal.returns-clause-sends
returns-clause-sends c = λ s t same. (
  same_by (λ u. after_next (next u) u) next_armed s t same,
  value_by (λ u. next_frame (next u)) frame_armed s t same,
)

pub returns-clause-takes : goal.returns-clause-takes
returns-clause-takes c =
    λ s t same. (same_by after_take take_armed s t same, ap (λ u. u.inbox) same)

pub returns-clause-expires : goal.returns-clause-expires
returns-clause-expires c = λ s t same. (
  same_by after_expire expire_armed s t same,
  value_by (λ u. is_on u.timer) (λ u. is_on_noted u.timer) s t same,
)

pub returns-clause-counts : goal.returns-clause-counts
returns-clause-counts c = λ l s t h k same. (
  value_by (λ u. counters_on l u h k) (λ u. counters_armed l u h k) s t same,
  value_by (λ u. counters_after_next u (next u) k) (λ u. sent_counts_armed u k) s t same,
  value_by (λ u. counters_after_expire u k) (λ u. expired_counts_armed u k) s t same,
)
