-- The price of a line: how many frames its two ends send at most before they rest, if nothing is
-- lost. Each number counts the frames that one thing causes, w being the larger window.
use Rattle.std.specs.Prelude.{ℕ, ◌+◌, ◌-◌, ◌*◌, Bool, true, false, List, [], ◌∷◌, length, sum_by}
use Rattle.std.specs.Prelude.{Option, Some}
use Rattle.ddcmp_frame.specs.declared.nak.Nak.{Nak as Reason}
use Rattle.ddcmp_frame.specs.declared.nak.Nak.TheVariants as reason
use Rattle.ddcmp_frame.specs.Reading.{ReadItem}
use Rattle.ddcmp_core.specs.declared.state.State.{State}
use Rattle.ddcmp_core.specs.declared.state.State.TheVariants.{IStart, AStart}
use Rattle.ddcmp_core.specs.declared.state.Owed.{Owed}
use Rattle.ddcmp_core.specs.declared.state.Owed.TheVariants.{Quiet, Ack, Nak}
use Rattle.ddcmp_core.specs.Table.{StationState, Frame, Data, Acked, Naked, Rep, Strt, Stack, Maint}
use Rattle.ddcmp_core.specs.Table.{Received, Good, next, next_frame, before_next}
use Rattle.ddcmp_proto.specs.Bytes.{received_of, items_added}
use Rattle.ddcmp_pair.specs.declared.event.Event.{Event}
use Rattle.ddcmp_pair.specs.declared.event.Event.TheVariants as event
use Rattle.ddcmp_pair.specs.declared.event.Reply.{Reply}
use Rattle.ddcmp_pair.specs.declared.event.Reply.TheVariants as reply
use Rattle.ddcmp_pair.specs.Run.{EndState, PairState, at, after_event, reply_to}
use Rattle.ddcmp_laws.specs.LossFree.{Line}

-- ---- what is in flight

-- A NAK may cause a whole window to be retransmitted, and each message of it to be answered. A REP
-- is answered by such a NAK in the worst case, a STRT by a STACK, a STACK and a message by an ACK.
abbrev pub price_of_frame : ℕ → Frame → ℕ
price_of_frame w (Data resp num message) = 1
price_of_frame w (Acked resp) = 0
price_of_frame w (Naked why resp) = 2 * w
price_of_frame w (Rep num) = 1 + 2 * w
price_of_frame w Strt = 2
price_of_frame w Stack = 1
price_of_frame w (Maint message) = 0

-- anything damaged is answered by a NAK
abbrev pub price_of_received : ℕ → Received → ℕ
price_of_received w (Good f) = price_of_frame w f
price_of_received w _ = 1 + 2 * w

abbrev pub price_of_items : ℕ → List ReadItem → ℕ
price_of_items w given = sum_by (λ g. price_of_received w (received_of g)) given

-- ---- a station

abbrev pub price_of_due : State → Bool → ℕ
price_of_due IStart true = 3
price_of_due AStart true = 2
price_of_due _ _ = 0

-- what a NAK causes once it is sent, except for one of a full inbox
abbrev pub price_of_nak : ℕ → Reason → ℕ
price_of_nak w reason.NoBuffer = 0
price_of_nak w _ = 2 * w

abbrev pub price_of_reply : ℕ → Owed → ℕ
price_of_reply w Quiet = 0
price_of_reply w Ack = 1
price_of_reply w (Nak why) = 1 + price_of_nak w why

abbrev pub price_of_rep : ℕ → Bool → ℕ
price_of_rep w true = 2 + 2 * w
price_of_rep w false = 0

-- the last term counts each queued message that is to be sent, or sent again, and its answer
abbrev pub price_of_station : ℕ → StationState → ℕ
price_of_station w s =
    price_of_due s.state s.due + price_of_reply w s.reply + price_of_rep w s.rep
    + 2 * (length s.out - before_next s)

-- ---- an end and what is in flight to it, and a line

abbrev pub price_of_end : ℕ → EndState → List ℕ → ℕ
price_of_end w x way =
    price_of_station w x.core.station
    + price_of_items w (items_added x.core.limits.longest x.arrived way)

abbrev pub price : ℕ → Line → ℕ
price w l = price_of_end w l.pair.a l.to_a + price_of_end w l.pair.b l.to_b

-- the number of items in flight
abbrev pub items_on_way : Line → ℕ
items_on_way l =
    length (items_added l.pair.a.core.limits.longest l.pair.a.arrived l.to_a)
    + length (items_added l.pair.b.core.limits.longest l.pair.b.arrived l.to_b)

-- ---- frames that events yield, and what events add

-- 1 if a poll yields a frame, otherwise 0
abbrev pub frames_of : Reply → ℕ
frames_of (reply.Wrote bytes) = 1
frames_of _ = 0

-- how many polls of these events yield a frame
unfoldable pub frames_given : List Event → PairState → ℕ
frames_given [] p = 0
frames_given (e ∷ rest) p = frames_of (reply_to e p) + frames_given rest (after_event e p)

-- the price of a NAK of a full inbox
abbrev pub refusal_price : ℕ → Option Frame → ℕ
refusal_price w (Some (Naked reason.NoBuffer resp)) = 2 * w
refusal_price w _ = 0

-- What an event adds to the price: a timeout adds a REP, or a STRT or STACK, and what that causes;
-- a NAK of a full inbox adds the window that is retransmitted; a message and a start add what they
-- cause.
abbrev pub added_by : ℕ → Event → PairState → ℕ
added_by w (event.Expire e) p = 2 * w + 2
added_by w (event.Poll e) p = refusal_price w (next_frame (next (at e p).core.station))
added_by w (event.Send e message) p = 2
added_by w (event.Start e) p = 3
added_by w _ p = 0

-- what these events add
unfoldable pub added : ℕ → List Event → PairState → ℕ
added w [] p = 0
added w (e ∷ rest) p = added_by w e p + added w rest (after_event e p)
