-- Receiving in sequence, on numbers modulo 256 and a list of messages.
use Rattle.std.specs.Prelude.{ℕ, ◌<◌, Bool, ◌&&◌, if◌then◌else◌, nat_lt, ◌==◌, List, [], ◌∷◌, ◌++◌}
use Rattle.std.specs.Prelude.{length, drop}
use Rattle.ddcmp_window.specs.declared.inbox.Offer.{Offer}
use Rattle.ddcmp_window.specs.declared.inbox.Offer.TheVariants.{Accepted, OutOfSequence, NoRoom}
use Rattle.ddcmp_window.specs.Numbers.{next_number}
use Rattle.ddcmp_window.specs.Store.{IsStored}

-- The highest number received in sequence (r), and the messages not yet taken.
pub record Incoming : Type 0 where
  pub r : ℕ
  pub inbox : List (List ℕ)

-- An inbox: the largest number of messages, the largest length of one, and its number and messages.
pub record InboxView : Type 0 where
  pub limit : ℕ
  pub longest : ℕ
  pub incoming : Incoming

-- what holds for every inbox
pub record IsSoundInbox (v : InboxView) : Type 0 where
  pub number : v.incoming.r < 256
  pub stored : IsStored v.limit v.longest v.incoming.inbox

abbrev pub nothing_received : Incoming
nothing_received = record { r = 0; inbox = [] }

-- a message with a number is offered to an inbox with a limit
abbrev pub answer_to_offer : ℕ → Incoming → ℕ → Offer
answer_to_offer limit s number =
    if number == next_number s.r then (if nat_lt (length s.inbox) limit then Accepted else NoRoom)
    else OutOfSequence

abbrev pub may_receive : ℕ → Incoming → ℕ → Bool
may_receive limit s number = number == next_number s.r && nat_lt (length s.inbox) limit

abbrev pub incoming_after_offer : ℕ → Incoming → ℕ → List ℕ → Incoming
incoming_after_offer limit s number message = record {
  r = if may_receive limit s number then number else s.r;
  inbox = if may_receive limit s number then s.inbox ++ message ∷ [] else s.inbox;
}

-- a message without a number
abbrev pub incoming_after_put : ℕ → Incoming → List ℕ → Incoming
incoming_after_put limit s message =
    record s { inbox = if nat_lt (length s.inbox) limit then s.inbox ++ message ∷ [] else s.inbox }

-- the first message is taken
abbrev pub incoming_after_take : Incoming → Incoming
incoming_after_take s = record s { inbox = drop 1 s.inbox }
