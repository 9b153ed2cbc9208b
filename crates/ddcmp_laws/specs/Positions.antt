-- The numbers of two ends, and the frames in flight, as positions and counts of a link.
use Rattle.std.specs.Prelude.{◌≡◌, ℕ, ◌+◌, ◌%◌, ◌<◌, ◌≤◌, List, [], ◌∷◌, length, drop, map, Some}
use Rattle.ddcmp_frame.specs.Reading.{good_frames}
use Rattle.ddcmp_core.specs.Frames.{frame_of}
use Rattle.ddcmp_core.specs.Table.{Frame, Data, Acked, Naked}
use Rattle.ddcmp_pair.specs.Link.{IsReached, link_of, message_at}
use Rattle.ddcmp_pair.specs.Place.{WholeFrame, place_of}
use Rattle.ddcmp_pair.specs.Run.{EndState, handed_up}

-- ---- what frames carry

-- the NUMs of data messages, in their order
abbrev pub nums_in : List Frame → List ℕ
nums_in [] = []
nums_in (Data resp num message ∷ rest) = num ∷ nums_in rest
nums_in (f ∷ rest) = nums_in rest

-- the messages of data messages
abbrev pub messages_in : List Frame → List (List ℕ)
messages_in [] = []
messages_in (Data resp num message ∷ rest) = message ∷ messages_in rest
messages_in (f ∷ rest) = messages_in rest

-- the RESPs of data messages, ACKs and NAKs
abbrev pub resps_in : List Frame → List ℕ
resps_in [] = []
resps_in (Data resp num message ∷ rest) = resp ∷ resps_in rest
resps_in (Acked resp ∷ rest) = resp ∷ resps_in rest
resps_in (Naked why resp ∷ rest) = resp ∷ resps_in rest
resps_in (f ∷ rest) = resps_in rest

-- the frames that were sent from a place on
abbrev pub frames_behind : ℕ → List WholeFrame → List Frame
frames_behind place sent = map (λ f. frame_of f.0 f.1) (drop place sent)

abbrev pub bytes_of_numbers : List ℕ → List ℕ
bytes_of_numbers numbers = map (λ k. k % 256) numbers

-- ---- what messages carry

-- A data message carries the position of its message among the accepted ones, modulo 256.
abbrev pub CarriesPosition : List (List ℕ) → Frame → Type 0
CarriesPosition given (Data resp num message) =
    (k : ℕ) × ((1 ≤ k) × (k ≤ length given) × (num ≡ k % 256) × (message ≡ message_at k given))
CarriesPosition given f = Unit {0}

-- all data messages among these frames do so
abbrev pub CarryPositions : List (List ℕ) → List WholeFrame → Type 0
CarryPositions given [] = Unit {0}
CarryPositions given (f ∷ rest) =
    CarriesPosition given (frame_of f.0 f.1) × CarryPositions given rest

-- ---- one direction

-- At an end that was started, N is the highest position that it sent, T the next one that it sends,
-- and A the number of its messages that were acknowledged, all modulo 256; it queues the messages
-- after those.
pub record HasPositions (x : EndState) (sent next : ℕ) : Type 0 where
  pub n : x.core.station.n ≡ sent % 256
  pub t : x.core.station.t ≡ next % 256
  pub a : x.core.station.a ≡ x.acknowledged % 256
  pub kept : x.core.station.out ≡ drop x.acknowledged x.given
  pub next_low : x.acknowledged < next
  pub next_high : next ≤ sent + 1

-- The messages that one end accepted and the other delivered are a run of a link with unbounded
-- numbers. All numbers are those of the link modulo 256: those of the sending end, R at the other,
-- and those of the frames that each end sent after the last that arrived at the other.
pub record IsNumberedLink (from to : EndState) : Type 0 where
  pub sent : ℕ
  pub next : ℕ
  pub forward : List ℕ
  pub back : List ℕ
  pub is_reached : IsReached from.core.limits.window
      (link_of from.given from.acknowledged sent (handed_up to) forward back)
  pub giving : 0 < from.starts → HasPositions from sent next
  pub r : 0 < to.starts → to.core.station.r ≡ length (handed_up to) % 256
  pub there : ℕ
  pub there_is : place_of (good_frames to.core.limits.longest to.arrived) from.sent ≡ Some there
  pub nums : nums_in (frames_behind there from.sent) ≡ bytes_of_numbers forward
  pub messages : messages_in (frames_behind there from.sent)
      ≡ map (λ k. message_at k from.given) forward
  pub here : ℕ
  pub here_is : place_of (good_frames from.core.limits.longest from.arrived) to.sent ≡ Some here
  pub resps : resps_in (frames_behind here to.sent) ≡ bytes_of_numbers back
