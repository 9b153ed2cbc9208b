-- What a bridge passes on in one direction, and its counters.
use Rattle.std.specs.Prelude.{◌≡◌, ℕ, ◌-◌, List, [], ◌∷◌, ◌++◌, length, Option, None, Some}
use Rattle.ddcmp_frame.specs.Limits.{MAX_COUNT}
use Rattle.ddcmp_frame.specs.declared.header.Header.{Header}
use Rattle.ddcmp_frame.specs.Reader.{ReaderView, StandsFor}
use Rattle.ddcmp_frame.specs.Reading.{good_frames, items}
use Rattle.ddcmp_frame.specs.Wire.{IsFrame, wire}
use Rattle.rand_pcg.specs.Lcg.{Lcg}
use Rattle.ddcmp_bridge.specs.declared.counts.Counts.{Counts}
use Rattle.ddcmp_bridge.specs.declared.faults.Faults.{Faults}
use Rattle.ddcmp_bridge.specs.declared.faults.Fate.{Fate}
use Rattle.ddcmp_bridge.specs.Faults.{fates, left_of, draws_after, lost_of, altered_of, after_fate}

-- the bytes of frames, one frame after another
unfoldable pub wires : List (Header × List ℕ) → List ℕ
wires [] = []
wires (frame ∷ rest) = wire frame.0 frame.1 ++ wires rest

-- the good frame with this header and these data, if there is a header
abbrev pub frame_given : Option Header → List ℕ → List (Header × List ℕ)
frame_given None lent = []
frame_given (Some header) lent = (header, lent) ∷ []

-- what a bridge without faults passes on: the good frames in the bytes, of any length, and nothing
-- else
abbrev pub relayed : List ℕ → List ℕ
relayed came = wires (good_frames MAX_COUNT came)

-- the fates of the good frames in these bytes, if the generator begins at `start`
abbrev pub fates_in : Faults → Lcg → List ℕ → List Fate
fates_in faults start came = fates faults start (good_frames MAX_COUNT came)

-- the fate of one good frame, if there was one
abbrev pub fate_given : Option Fate → List Fate
fate_given None = []
fate_given (Some fate) = fate ∷ []

-- what is passed on: the good frames in order, each after its fate
abbrev pub passed_on : Faults → Lcg → List ℕ → List ℕ
passed_on faults start came = left_of (good_frames MAX_COUNT came) (fates_in faults start came)

-- the counters for these bytes: good frames, bytes in none of them, receive errors, and good frames
-- that were lost and that were altered
abbrev pub counts_of : Faults → Lcg → List ℕ → Counts
counts_of faults start came = record {
  frames = length (good_frames MAX_COUNT came);
  skipped = length came - length (relayed came);
  damaged = length (items MAX_COUNT came) - length (good_frames MAX_COUNT came);
  lost = lost_of (fates_in faults start came);
  altered = altered_of (fates_in faults start came);
}

-- A relay: its reader; what is left of the frame that it passes on; how many good frames were
-- received, how many bytes these have, and how many items there were; its faults and its generator;
-- how many frames were lost and altered.
pub record RelayView : Type 0 where
  pub frames : ReaderView
  pub waiting : List ℕ
  pub good : ℕ
  pub bytes : ℕ
  pub items : ℕ
  pub faults : Faults
  pub draws : Lcg
  pub lost : ℕ
  pub altered : ℕ

-- `came` was received by a relay whose generator began at `start`. Of the bytes that it passes on,
-- `taken` were taken; the others are waiting.
pub record Relays (start : Lcg) (r : RelayView) (came taken : List ℕ) : Type 0 where
  pub stands : StandsFor r.frames came
  pub passes : passed_on r.faults start came ≡ taken ++ r.waiting
  pub good : r.good ≡ length (good_frames MAX_COUNT came)
  pub bytes : r.bytes ≡ length (relayed came)
  pub items : r.items ≡ length (items MAX_COUNT came)
  pub draws : r.draws ≡ draws_after start (good_frames MAX_COUNT came)
  pub lost : r.lost ≡ lost_of (fates_in r.faults start came)
  pub altered : r.altered ≡ altered_of (fates_in r.faults start came)

-- these bytes are one frame after some fate
pub record IsOfOneFrame (bytes : List ℕ) : Type 0 where
  pub header : Header
  pub data_bytes : List ℕ
  pub fate : Fate
  pub frame : IsFrame header data_bytes
  pub is : bytes ≡ after_fate fate (wire header data_bytes)
