-- Definitions for the laws of one station.
use Rattle.std.specs.Prelude.{◌≡◌, ℕ, ◌+◌, ◌%◌, ◌<◌, ◌≤◌, Bool, true, false, List, [], length}
use Rattle.std.specs.Prelude.{slice_index_or}
use Rattle.ddcmp_num.specs.Sequence.{distance}
use Rattle.ddcmp_core.specs.declared.state.State.{State}
use Rattle.ddcmp_core.specs.declared.state.State.TheVariants.{IStart, AStart}
use Rattle.ddcmp_core.specs.declared.notice.Notice.{Notice}
use Rattle.ddcmp_core.specs.declared.notice.Notice.TheVariants as notice
use Rattle.ddcmp_core.specs.Table.{StationState, Data, Acked, Stack, Received, Good, before_next}

-- what makes a station run: a STACK, or, if it replied to a STRT, an ACK or data with RESP 0
abbrev pub BeginsRunning : State → Received → Type 0
BeginsRunning IStart (Good Stack) = Unit {0}
BeginsRunning AStart (Good Stack) = Unit {0}
BeginsRunning AStart (Good (Acked resp)) = resp ≡ 0
BeginsRunning AStart (Good (Data resp num message)) = resp ≡ 0
BeginsRunning _ _ = ⊥

-- A message that is sent is one of those queued, at some index counted from 0. Its number is index
-- + 1 after the last one acknowledged, and at most one after the last one sent.
pub record IsSentInWindow (s : StationState) (num : ℕ) (message : List ℕ) : Type 0 where
  pub place : before_next s < length s.out
  pub message_at : message ≡ slice_index_or s.out (before_next s) []
  pub number : num ≡ (s.a + (before_next s + 1)) % 256
  pub within : before_next s ≤ distance s.a s.n

-- a station that starts has sent and received nothing, and both lists are empty
pub record HasNothing (s : StationState) : Type 0 where
  pub r : s.r ≡ 0
  pub a : s.a ≡ 0
  pub n : s.n ≡ 0
  pub t : s.t ≡ 1
  pub out : s.out ≡ []
  pub inbox : s.inbox ≡ []

-- whether a notice reports that the peer restarted: this end halted, or restarted too
abbrev pub tells_restart : Notice → Bool
tells_restart notice.PeerRestarted = true
tells_restart (notice.Restarted dropped) = true
tells_restart _ = false

-- the input is no good frame
abbrev pub is_fault : Received → Bool
is_fault (Good frame) = false
is_fault _ = true
