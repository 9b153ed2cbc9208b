-- Definitions for the laws of one station, independent of the state table.
use Rattle.std.specs.Prelude.{◌≡◌, ◌≢◌, ℕ, ◌+◌, ◌%◌, ◌<◌, ◌≤◌, Bool, true, false, List, [], ◌∷◌}
use Rattle.std.specs.Prelude.{◌++◌, length}
use Rattle.std.specs.Prelude.{drop, slice_index_or, Option, Some}
use Rattle.ddcmp_num.specs.Sequence.{distance}
use Rattle.ddcmp_frame.specs.declared.nak.Nak.{Nak as Reason}
use Rattle.ddcmp_frame.specs.Naks.{subtype_of}
use Rattle.ddcmp_core.specs.declared.notice.Notice.{Notice}
use Rattle.ddcmp_core.specs.declared.notice.Notice.TheVariants as notice
use Rattle.ddcmp_window.specs.declared.sender.SendRefusal.{SendRefusal}
use Rattle.ddcmp_window.specs.declared.sender.SendRefusal.TheVariants as refusal
use Rattle.ddcmp_core.specs.declared.station_core.StartRefusal.{StartRefusal}
use Rattle.ddcmp_core.specs.declared.station_core.StartRefusal.TheVariants.{NotHalted, Untaken}
use Rattle.ddcmp_core.specs.declared.state.State.{State}
use Rattle.ddcmp_core.specs.declared.state.State.TheVariants.{Halted, AStart}
use Rattle.ddcmp_core.specs.declared.state.Owed.TheVariants.{Quiet, Ack}
use Rattle.ddcmp_core.specs.declared.state.Timer.TheVariants.{Off}
use Rattle.ddcmp_core.specs.Table.{Limits, StationState, Data, Acked, Naked, Strt, Stack, Received}
use Rattle.ddcmp_core.specs.Table.{BadHeader, BadData, TooLong, BadFormat, next, next_frame}
use Rattle.ddcmp_core.specs.Table.{Frame, Rep, Good, acknowledged_by, Maint, after_take}

-- ---- what a halt leaves

-- A station that halted has no pending frame and no timer, and keeps its numbers, its queued
-- messages and its received messages.
pub record HasHalted (before after : StationState) : Type 0 where
  pub state : after.state ≡ Halted
  pub due : after.due ≡ false
  pub reply : after.reply ≡ Quiet
  pub rep : after.rep ≡ false
  pub timer : after.timer ≡ Off
  pub r : after.r ≡ before.r
  pub n : after.n ≡ before.n
  pub a : after.a ≡ before.a
  pub t : after.t ≡ before.t
  pub out : after.out ≡ before.out
  pub inbox : after.inbox ≡ before.inbox

-- ---- acknowledgements

-- the input acknowledges up to this number: an ACK, a NAK or data with this RESP
abbrev pub Responds : Received → ℕ → Type 0
Responds (Good (Acked resp)) q = resp ≡ q
Responds (Good (Naked why resp)) q = resp ≡ q
Responds (Good (Data resp num message)) q = resp ≡ q
Responds _ q = ⊥

-- an ACK or data with this RESP, which request nothing
abbrev pub Acknowledges : Received → ℕ → Type 0
Acknowledges (Good (Acked resp)) q = resp ≡ q
Acknowledges (Good (Data resp num message)) q = resp ≡ q
Acknowledges _ q = ⊥

-- an ACK or a NAK with this RESP, which carry nothing else
abbrev pub OnlyResponds : Received → ℕ → Type 0
OnlyResponds (Good (Acked resp)) q = resp ≡ q
OnlyResponds (Good (Naked why resp)) q = resp ≡ q
OnlyResponds _ q = ⊥

-- Exactly the messages up to q leave the queue, q is the last that is acknowledged, and their
-- number is reported.
pub record AcknowledgesUpTo (q : ℕ) (before after : StationState)
    (notice_told : Option Notice) : Type 0 where
  pub a : after.a ≡ q
  pub n : after.n ≡ before.n
  pub out : after.out ≡ drop (distance before.a q) before.out
  pub told : acknowledged_by notice_told ≡ distance before.a q

-- no message leaves the queue, and none is reported acknowledged
pub record AcknowledgesNothing (before after : StationState)
    (notice_told : Option Notice) : Type 0 where
  pub a : after.a ≡ before.a
  pub n : after.n ≡ before.n
  pub out : after.out ≡ before.out
  pub told : acknowledged_by notice_told ≡ 0

-- ---- the timer

-- a frame that is retransmitted until it is answered: a STRT, a STACK or a REP
abbrev pub WantsAnswer : Frame → Type 0
WantsAnswer Strt = Unit {0}
WantsAnswer Stack = Unit {0}
WantsAnswer (Rep num) = Unit {0}
WantsAnswer _ = ⊥

-- ---- received messages

-- whether a notice reports a received message
abbrev pub tells_mail : Option Notice → Bool
tells_mail (Some notice.HandedUp) = true
tells_mail (Some (notice.HandedUpAndAcknowledged m)) = true
tells_mail (Some notice.RunningAndHandedUp) = true
tells_mail (Some notice.MaintenanceHandedUp) = true
tells_mail _ = false

-- One more message is in the inbox, and is reported; R is one more, and an ACK is pending, or is
-- once a message is taken.
pub record HandsUp (message : List ℕ) (before after : StationState)
    (notice_told : Option Notice) : Type 0 where
  pub inbox : after.inbox ≡ before.inbox ++ message ∷ []
  pub r : after.r ≡ (before.r + 1) % 256
  pub told : tells_mail notice_told ≡ true
  pub owed : before.by_user ≡ false → after.reply ≡ Ack
  pub owed_later : (after_take after).reply ≡ Ack

-- the inbox and R are unchanged, and no received message is reported
pub record HandsUpNothing (before after : StationState) (notice_told : Option Notice) : Type 0 where
  pub inbox : after.inbox ≡ before.inbox
  pub r : after.r ≡ before.r
  pub told : tells_mail notice_told ≡ false

-- the input is neither a data message nor a STRT
abbrev pub IsNoMessage : Received → Type 0
IsNoMessage (Good (Data resp num message)) = ⊥
IsNoMessage (Good Strt) = ⊥
IsNoMessage _ = Unit {0}

-- the input is a maintenance message, good, damaged or too long
abbrev pub IsMaintenance : Received → Type 0
IsMaintenance (Good (Maint message)) = Unit {0}
IsMaintenance (BadData false) = Unit {0}
IsMaintenance (TooLong false) = Unit {0}
IsMaintenance _ = ⊥

abbrev pub IsGoodMaintenance : Received → Type 0
IsGoodMaintenance (Good (Maint message)) = Unit {0}
IsGoodMaintenance _ = ⊥

-- the input is no good maintenance message
abbrev pub IsNoMaintenance : Received → Type 0
IsNoMaintenance (Good (Maint message)) = ⊥
IsNoMaintenance _ = Unit {0}

-- ---- what is answered by a NAK

-- An input that can't be received, and the SUBTYPE of the NAK for it: 1 for a header with a wrong
-- CRC, 2 for damaged data, 16 for a message that is too long, 17 for a header of no known form.
abbrev pub CallsFor : Received → ℕ → Type 0
CallsFor BadHeader k = k ≡ 1
CallsFor (BadData true) k = k ≡ 2
CallsFor (TooLong true) k = k ≡ 16
CallsFor BadFormat k = k ≡ 17
CallsFor _ k = ⊥

-- the next frame of a station is a NAK of this SUBTYPE, with this RESP
pub record SendsNak (k r : ℕ) (s : StationState) : Type 0 where
  pub why : Reason
  pub subtype : subtype_of why ≡ k
  pub frame : next_frame (next s) ≡ Some (Naked why r)

-- ---- the peer restarts

-- The station restarts as well: its next frame is a STACK, its queued messages are dropped, and
-- their number is reported.
pub record BeginsAnew (before after : StationState) (notice_told : Option Notice) : Type 0 where
  pub state : after.state ≡ AStart
  pub frame : next_frame (next after) ≡ Some Stack
  pub out : after.out ≡ []
  pub told : notice_told ≡ Some (notice.Restarted (length before.out))

-- the station halts, and reports why
pub record HaltsAtRestart (before after : StationState) (notice_told : Option Notice) : Type 0 where
  pub halted : HasHalted before after
  pub told : notice_told ≡ Some notice.PeerRestarted

-- ---- the numbers of messages

-- A station has a message queued under a number: the message is at some place in the queue, counted
-- from 0, and its number is A + place + 1, modulo 256.
pub record KeepsUnder (s : StationState) (number : ℕ) (message : List ℕ) : Type 0 where
  pub place : ℕ
  pub there : place < length s.out
  pub message_at : slice_index_or s.out place [] ≡ message
  pub number_is : number ≡ (s.a + (place + 1)) % 256

-- ---- what the user is refused

-- why `start` is refused: the first of two reasons that applies
abbrev pub IsStartRefused : StationState → StartRefusal → Type 0
IsStartRefused s NotHalted = s.state ≢ Halted
IsStartRefused s Untaken = (s.state ≡ Halted) × (0 < length s.inbox)

-- Why a call that accepts messages only in this state refuses a message: the first of four reasons
-- that applies.
abbrev pub IsRefused : State → Limits → StationState → List ℕ → SendRefusal → Type 0
IsRefused state l s message refusal.WrongState = s.state ≢ state
IsRefused state l s message refusal.Empty = (s.state ≡ state) × (message ≡ [])
IsRefused state l s message refusal.TooLong = (s.state ≡ state) × (l.longest < length message)
IsRefused state l s message refusal.WindowFull =
    (s.state ≡ state) × (1 ≤ length message) × (length message ≤ l.longest)
    × (l.window ≤ length s.out)
