-- The station as its callers see it.
use Rattle.std.specs.Prelude.{◌≡◌, ℕ, ◌+◌, ◌*◌, ◌≤◌, length, sum_by}
use Rattle.ddcmp_proto.specs.declared.config.TheConstants.{MAX_SYN}
use Rattle.ddcmp_frame.specs.Reader.{ReaderView, kept_of}
use Rattle.ddcmp_core.specs.Core.{CoreView, IsSound}
use Rattle.ddcmp_core.specs.Table.{Limits, StationState}

-- The station itself, the number of SYN bytes before a frame, and the reader of its line, which
-- stands for the text of all bytes since the line was cleared.
pub record StationView : Type 0 where
  pub core : CoreView
  pub syn : ℕ
  pub line : ReaderView

-- the number of bytes of the queued messages and of the received messages
abbrev pub message_bytes : StationState → ℕ
message_bytes s = sum_by length s.out + sum_by length s.inbox

-- the same with the buffered bytes of the unfinished frame
abbrev pub held_of : StationView → ℕ
held_of v = message_bytes v.core.station + kept_of v.line

-- at most this many
abbrev pub held_at_most : Limits → ℕ
held_at_most l = l.window * l.longest + l.room * l.longest + l.longest + 10

-- what holds for every station: its parts have the same limit on the length of a message
pub record IsSoundStation (v : StationView) : Type 0 where
  pub sound : IsSound v.core.limits v.core.station
  pub max_is : v.line.max ≡ v.core.limits.longest
  pub syn_most : v.syn ≤ MAX_SYN
