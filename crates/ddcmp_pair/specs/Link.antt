-- One direction of a link, as an abstraction of a line without frames, timers and startup, and with
-- unbounded numbers. The accepted messages are numbered from 1; such a number is a position.
use Rattle.std.specs.Prelude.{◌≡◌, ℕ, ◌+◌, ◌-◌, max, Bool, ◌&&◌, if◌then◌else◌, nat_le, nat_lt}
use Rattle.std.specs.Prelude.{◌==◌, List, [], ◌∷◌, ◌++◌, length, remove, slice_index_or}

-- The messages accepted at one end, how many of them were acknowledged to it, and the highest
-- position that it sent; the messages delivered at the other end; and what is in flight, in the
-- order in which it arrives: positions forward, and back the counts of messages delivered.
pub record Link : Type 0 where
  pub given : List (List ℕ)
  pub acknowledged : ℕ
  pub sent : ℕ
  pub handed_up : List (List ℕ)
  pub forward : List ℕ
  pub back : List ℕ

-- A link from its parts, in that order.
abbrev pub link_of : List (List ℕ) → ℕ → ℕ → List (List ℕ) → List ℕ → List ℕ → Link
link_of given acknowledged sent handed_up forward back = record {
  given = given;
  acknowledged = acknowledged;
  sent = sent;
  handed_up = handed_up;
  forward = forward;
  back = back;
}

-- nothing is accepted, sent or in flight
abbrev pub new_link : Link
new_link = link_of [] 0 0 [] [] []

-- What happens on a link, in any order: a message is accepted; a position is sent; a count of
-- messages, at most that of all delivered, is sent back; the position or the count at some index in
-- flight, counted from 0, is lost; the first position or the first count arrives. A message without
-- room, or one that arrives before its end runs, counts as lost.
pub data Move : Type 0 where
  Give : List ℕ → Move
  Send : ℕ → Move
  Answer : ℕ → Move
  LoseForward : ℕ → Move
  LoseBack : ℕ → Move
  ForwardComes : Move
  BackComes : Move

-- Position k may be sent, or retransmitted, if it isn't acknowledged, leaves no gap after the
-- highest one sent, its message was accepted, and the window allows it.
abbrev pub may_send_position : ℕ → ℕ → Link → Bool
may_send_position window k l =
    nat_lt l.acknowledged k && (nat_le k (l.sent + 1)
    && (nat_le k (length l.given) && nat_le k (l.acknowledged + window)))

-- the position becomes the last in flight
abbrev pub after_send_position : ℕ → Link → Link
after_send_position k l = record l { sent = max l.sent k; forward = l.forward ++ k ∷ [] }

-- message k of those accepted; there is one for every position that was sent
abbrev pub message_at : ℕ → List (List ℕ) → List ℕ
message_at k given = slice_index_or given (k - 1) []

-- A position that arrives delivers its message if it is the next one; otherwise it does nothing.
abbrev pub handed_up_by : ℕ → Link → List (List ℕ)
handed_up_by k l =
    if k == length l.handed_up + 1 then l.handed_up ++ message_at k l.given ∷ []
    else l.handed_up

abbrev pub after_forward_comes : List ℕ → Link → Link
after_forward_comes [] l = l
after_forward_comes (k ∷ later) l = record l { handed_up = handed_up_by k l; forward = later }

-- A count that arrives acknowledges that many messages, if fewer are acknowledged yet.
abbrev pub after_back_comes : List ℕ → Link → Link
after_back_comes [] l = l
after_back_comes (q ∷ later) l = record l { acknowledged = max l.acknowledged q; back = later }

-- the last of the counts in flight, or else the one that was acknowledged
unfoldable pub last_count : ℕ → List ℕ → ℕ
last_count low [] = low
last_count low (q ∷ qs) = last_count q qs

-- A count may be sent back if it is no less than the last one, and no more than are delivered.
abbrev pub may_answer : ℕ → Link → Bool
may_answer q l = nat_le (last_count l.acknowledged l.back) q && nat_le q (length l.handed_up)

-- A link after a move. A position that may not be sent is ignored.
abbrev pub after_move : ℕ → Move → Link → Link
after_move window (Give message) l = record l { given = l.given ++ message ∷ [] }
after_move window (Send k) l =
    if may_send_position window k l then after_send_position k l else l
after_move window (Answer q) l =
    if may_answer q l then record l { back = l.back ++ q ∷ [] } else l
after_move window (LoseForward i) l = record l { forward = remove l.forward i }
after_move window (LoseBack i) l = record l { back = remove l.back i }
after_move window ForwardComes l = after_forward_comes l.forward l
after_move window BackComes l = after_back_comes l.back l

-- one move after another
unfoldable pub after_moves : ℕ → List Move → Link → Link
after_moves window [] l = l
after_moves window (m ∷ later) l = after_moves window later (after_move window m l)

-- a link that some moves lead to from a new one
pub record IsReached (window : ℕ) (l : Link) : Type 0 where
  pub moves : List Move
  pub leads : after_moves window moves new_link ≡ l
