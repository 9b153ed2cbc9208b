-- The core as its callers see it, and what holds for every core.
use Rattle.std.specs.Prelude.{◌≡◌, ◌<◌, ◌≤◌, ◌⊎◌, Bool, true, false, [], length}
use Rattle.ddcmp_frame.specs.declared.nak.Nak.{Nak as Reason}
use Rattle.ddcmp_frame.specs.declared.nak.Nak.TheVariants as reason
use Rattle.ddcmp_window.specs.Sender.{SenderView, IsInWindow, nothing_sent}
use Rattle.ddcmp_window.specs.Store.{IsStored}
use Rattle.ddcmp_window.specs.Numbers.{next_number}
use Rattle.ddcmp_core.specs.declared.counters.Counters.{Counters}
use Rattle.ddcmp_core.specs.declared.state.State.{State}
use Rattle.ddcmp_core.specs.declared.state.Timer.{Timer}
use Rattle.ddcmp_window.specs.Inbox.{InboxView}
use Rattle.ddcmp_core.specs.declared.state.State.TheVariants.{Running, Maintenance}
use Rattle.ddcmp_core.specs.declared.state.Owed.{Owed}
use Rattle.ddcmp_core.specs.declared.state.Owed.TheVariants.{Quiet, Ack, Nak}
use Rattle.ddcmp_core.specs.declared.state.Timer.TheVariants.{Off}
use Rattle.ddcmp_core.specs.Table.{Limits, StationState, Data, Acked, Naked, Maint, Received, Good}
use Rattle.ddcmp_core.specs.Table.{outgoing, is_starting}

pub record CoreView : Type 0 where
  pub limits : Limits
  pub station : StationState
  pub counters : Counters

-- the twelve fields, of which a sender and an inbox have the numbers and the lists
abbrev pub state_of : State → Bool → Owed → Bool → Timer → SenderView → InboxView → Bool
    → StationState
state_of state due reply rep timer sender inbox by_user = record {
  state = state;
  due = due;
  r = inbox.incoming.r;
  n = sender.outgoing.n;
  a = sender.outgoing.a;
  t = sender.outgoing.t;
  reply = reply;
  rep = rep;
  timer = timer;
  out = sender.outgoing.out;
  inbox = inbox.incoming.inbox;
  by_user = by_user;
}

-- the reasons of the NAKs that a station sends
abbrev pub is_sent_reason : Reason → Bool
is_sent_reason reason.HeaderCheck = true
is_sent_reason reason.DataCheck = true
is_sent_reason reason.ReplyToRep = true
is_sent_reason reason.NoBuffer = true
is_sent_reason reason.Overrun = false
is_sent_reason reason.TooLong = true
is_sent_reason reason.Format = true
is_sent_reason (reason.Other n) = false

abbrev pub is_sent_reply : Owed → Bool
is_sent_reply Quiet = true
is_sent_reply Ack = true
is_sent_reply (Nak why) = is_sent_reason why

-- A station that starts has sent and received nothing, and its lists are empty. In Maintenance no
-- number is unacknowledged. A pending reply can be sent.
pub record FitsState (s : StationState) : Type 0 where
  pub starting_r : is_starting s.state ≡ true → s.r ≡ 0
  pub starting_out : is_starting s.state ≡ true → outgoing s ≡ nothing_sent
  pub starting_inbox : is_starting s.state ≡ true → s.inbox ≡ []
  pub maintenance_n : s.state ≡ Maintenance → s.a ≡ s.n
  pub maintenance_t : s.state ≡ Maintenance → s.t ≡ next_number s.a
  pub sent_reply : is_sent_reply s.reply ≡ true

-- what holds for every core: numbers are bytes, t lies in a + 1 to n + 1, messages that were sent
-- and aren't acknowledged are queued, and the lists are within their limits
pub record IsSound (l : Limits) (s : StationState) : Type 0 where
  pub r_byte : s.r < 256
  pub in_window : IsInWindow (outgoing s)
  pub out_stored : IsStored l.window l.longest s.out
  pub inbox_stored : IsStored l.room l.longest s.inbox
  pub fits : FitsState s

-- what holds for every input: numbers are bytes, and messages are within the limits
abbrev pub IsReceivable : Limits → Received → Type 0
IsReceivable l (Good (Data resp num message)) =
    (resp < 256) × (num < 256) × (1 ≤ length message) × (length message ≤ l.longest)
IsReceivable l (Good (Acked resp)) = resp < 256
IsReceivable l (Good (Naked why resp)) = resp < 256
IsReceivable l (Good (Maint message)) = (1 ≤ length message) × (length message ≤ l.longest)
IsReceivable l _ = Unit {0}

-- If the timer is off: a running station has nothing unacknowledged, or a REP is pending, or all
-- queued messages are to be sent; in a station that starts the STRT or STACK is pending.
pub record IsTimed (s : StationState) : Type 0 where
  pub waits : s.state ≡ Running → s.timer ≡ Off
      → (s.a ≡ s.n) ⊎ ((s.rep ≡ true) ⊎ (s.t ≡ next_number s.a))
  pub asks : is_starting s.state ≡ true → s.timer ≡ Off → s.due ≡ true
  pub begins : is_starting s.state ≡ true → s.a ≡ s.n
