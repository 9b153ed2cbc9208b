use Rattle.std.proofs.Common.{◌≡◌, ◌-◌, ◌≤◌, ℕ, take, length}
use Rattle.std.specs.Prelude.{Some}
use Rattle.ddcmp_frame.specs.Reader.{StandsFor}
use Rattle.ddcmp_frame.specs.Reading.{good_frames}
use Rattle.ddcmp_pair.proofs.Placed.{IsFollowed}
use Rattle.ddcmp_pair.proofs.side.receiver.follow.Given as goal

abbrev pub invariant-loop-at : goal.invariant-loop-at
invariant-loop-at l = record {
  within : l.at ≤ length l.arrived;
  stands : StandsFor l.reader (take l.at l.arrived);
  max : l.reader.max ≡ l.initial.reader.max;
  placed : (n : ℕ) → l.place ≡ Some n → n ≤ length l.sent.all;
  followed : IsFollowed l.initial.place l.place (good_frames l.reader.max (take l.at l.arrived))
      l.sent.all;
}

abbrev pub decreases-loop-at : goal.decreases-loop-at
decreases-loop-at l = length l.arrived - l.at
