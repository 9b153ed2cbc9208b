use Rattle.std.proofs.Common.{◌≡◌, ◌+◌, ◌-◌, ◌≤◌, take, length, true}
use Rattle.std.specs.Prelude.{vec_len, vec_capacity}
use Rattle.ddcmp_frame.specs.Reader.{StandsFor}
use Rattle.ddcmp_core.specs.Table.{is_halted}
use Rattle.ddcmp_pair.proofs.Feeding.{LeftToFeed}
use Rattle.ddcmp_pair.proofs.side.receiver.feed_all.Given as goal

abbrev pub invariant-loop-at : goal.invariant-loop-at
invariant-loop-at l = record {
  begun : l.from ≤ l.at;
  within : l.at ≤ length l.arrived;
  stands : StandsFor l.station.line (take l.at l.arrived);
  syn : l.station.syn ≡ l.initial.station.syn;
  left : LeftToFeed l.arrived l.initial.from l.initial.station.core l.initial.heard l.at
      l.station.core l.heard;
  leaves : l.heard.acknowledged + length l.station.core.station.out
      ≤ l.initial.heard.acknowledged + length l.initial.station.core.station.out;
  halted : is_halted l.initial.station.core.station.state ≡ true
      → (is_halted l.station.core.station.state ≡ true)
      × (l.heard.acknowledged ≡ l.initial.heard.acknowledged);
  small : l.heard.starts ≤ 4294967295;
  room : vec_len l.heard.notices + (length l.arrived - l.at) ≤ vec_capacity l.heard.notices;
}

abbrev pub decreases-loop-at : goal.decreases-loop-at
decreases-loop-at l = length l.arrived - l.at
