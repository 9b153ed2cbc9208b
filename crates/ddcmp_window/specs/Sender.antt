-- Sending in a window, on numbers modulo 256 and a list of messages.
use Rattle.std.specs.Prelude.{ℕ, ◌+◌, ◌-◌, ◌%◌, ◌<◌, ◌≤◌, Bool, ◌&&◌, if◌then◌else◌, is_none}
use Rattle.std.specs.Prelude.{nat_lt, nat_le, ◌==◌, List, [], ◌∷◌, ◌++◌, length, drop}
use Rattle.std.specs.Prelude.{slice_index_or, Option, Some, None, Result, Ok, Err}
use Rattle.ddcmp_num.specs.Sequence.{distance}
use Rattle.ddcmp_num.specs.declared.seq.Seq.{Seq}
use Rattle.ddcmp_window.specs.declared.sender.SendRefusal.{SendRefusal}
use Rattle.ddcmp_window.specs.declared.sender.SendRefusal.TheVariants.{Empty, TooLong, WindowFull}
use Rattle.ddcmp_window.specs.Numbers.{next_number, is_within}
use Rattle.ddcmp_window.specs.Store.{IsStored}

-- The highest number acknowledged (a), the highest number sent (n), the next number to send (t),
-- and the queued messages, the first of which has the number a + 1.
pub record Outgoing : Type 0 where
  pub a : ℕ
  pub n : ℕ
  pub t : ℕ
  pub out : List (List ℕ)

-- A sender: the largest number of messages, the largest length of one, and its numbers and
-- messages.
pub record SenderView : Type 0 where
  pub limit : ℕ
  pub longest : ℕ
  pub outgoing : Outgoing

abbrev pub nothing_sent : Outgoing
nothing_sent = record { a = 0; n = 0; t = 1; out = [] }

-- How many queued messages are before t. This is the distance from a to t - 1: if 255 are queued
-- and all are sent, t is a again.
abbrev pub outgoing_before_next : Outgoing → ℕ
outgoing_before_next s = (s.t + 511 - s.a) % 256

-- numbers are bytes, t lies in a + 1 to n + 1, and messages that were sent and aren't acknowledged
-- are queued
pub record IsInWindow (s : Outgoing) : Type 0 where
  pub a_byte : s.a < 256
  pub n_byte : s.n < 256
  pub t_byte : s.t < 256
  pub next_sent : outgoing_before_next s ≤ distance s.a s.n
  pub sent_kept : distance s.a s.n ≤ length s.out

-- what holds for every sender
pub record IsSoundSender (v : SenderView) : Type 0 where
  pub in_window : IsInWindow v.outgoing
  pub stored : IsStored v.limit v.longest v.outgoing.out

-- Why a message isn't accepted: the first of these that applies. It has no bytes, it is longer than
-- the longest that is accepted, or as many are queued as the limit allows.
abbrev pub accept_refusal : ℕ → ℕ → Outgoing → List ℕ → Option SendRefusal
accept_refusal limit longest s message =
    if length message == 0 then Some Empty
    else (if nat_lt longest (length message) then Some TooLong
    else (if nat_le limit (length s.out) then Some WindowFull else None))

-- the number of the next message that is accepted
abbrev pub number_accepted : Outgoing → Seq
number_accepted s = record { 0 = (s.a + (length s.out + 1)) % 256 }

abbrev pub answer_unless : {A E : Type 0} → Option E → A → Result A E
answer_unless (Some refusal) answer = Err refusal
answer_unless None answer = Ok answer

abbrev pub outgoing_after_accept : ℕ → ℕ → Outgoing → List ℕ → Outgoing
outgoing_after_accept limit longest s message =
    record s {
      out = if is_none (accept_refusal limit longest s message) then s.out ++ message ∷ []
          else s.out;
    }

-- how many messages an acknowledgement of q newly acknowledges
abbrev pub count_acknowledged : Outgoing → ℕ → ℕ
count_acknowledged s q = if is_within s.a q s.n then distance s.a q else 0

-- an acknowledgement of q: the messages up to q leave the queue, and t is after q
abbrev pub outgoing_after_ack : Outgoing → ℕ → Outgoing
outgoing_after_ack s q =
    record s {
      a = if count_acknowledged s q == 0 then s.a else q;
      t = if nat_lt (outgoing_before_next s) (count_acknowledged s q) then next_number q else s.t;
      out = drop (count_acknowledged s q) s.out;
    }

-- a NAK with q: an acknowledgement of q, and all messages still queued are retransmitted
abbrev pub outgoing_after_nak : Outgoing → ℕ → Outgoing
outgoing_after_nak s q =
    record (outgoing_after_ack s q) {
      t = if is_within s.a q s.n then next_number (outgoing_after_ack s q).a else s.t;
    }

-- there is a message to send; it has the number t
abbrev pub has_next_message : Outgoing → Bool
has_next_message s = nat_lt (outgoing_before_next s) (length s.out)

abbrev pub next_message : Outgoing → Option (List ℕ)
next_message s =
    if has_next_message s then Some (slice_index_or s.out (outgoing_before_next s) []) else None

abbrev pub outgoing_after_next : Outgoing → Outgoing
outgoing_after_next s =
    record s {
      n = if has_next_message s && s.t == next_number s.n then s.t else s.n;
      t = if has_next_message s then next_number s.t else s.t;
    }

-- the first message leaves the queue, without a number
abbrev pub outgoing_after_pop : Outgoing → Outgoing
outgoing_after_pop s = record s { out = drop 1 s.out }
