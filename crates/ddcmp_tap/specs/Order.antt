-- The order in which the items of two captured directions are drawn, which have no time stamps: in
-- turn, but an item that replies to one of the other side waits until that is drawn.
use Rattle.std.specs.Prelude.{ℕ, ◌+◌, ◌%◌, ◌==◌, ◌&&◌, ◌||◌, not, nat_lt, Bool, true, false}
use Rattle.std.specs.Prelude.{if◌then◌else◌, Option, Some, None}
use Rattle.ddcmp_num.specs.Sequence.{distance}
use Rattle.ddcmp_frame.specs.Fields.{ShortFields}
use Rattle.ddcmp_frame.specs.declared.header.ControlType.{ControlType}
use Rattle.ddcmp_frame.specs.declared.header.ControlType.TheVariants as control
use Rattle.ddcmp_frame.specs.declared.header.Header.{Header}
use Rattle.ddcmp_frame.specs.declared.header.Header.TheVariants as header
use Rattle.ddcmp_frame.specs.declared.item.Item.{Item}
use Rattle.ddcmp_frame.specs.declared.item.Item.TheVariants as item
use Rattle.ddcmp_tap.specs.declared.order.SideSummary.{SideSummary}
use Rattle.ddcmp_tap.specs.declared.order.Order.{Order}
use Rattle.ddcmp_tap.specs.declared.order.ItemSummary.{ItemSummary}
use Rattle.ddcmp_tap.specs.declared.order.ItemSummary.TheVariants.{Bad, Maint, Data, Ack, Nak, Rep}
use Rattle.ddcmp_tap.specs.declared.order.ItemSummary.TheVariants.{Strt, Stack}
use Rattle.ddcmp_log.specs.declared.side.Side.{Side}
use Rattle.ddcmp_log.specs.declared.side.Side.TheVariants.{Caller, Called}

-- ---- what the order needs to know about an item

-- a NAK of reason 3 is the reply to a REP
abbrev pub control_summary : ControlType → ShortFields → ItemSummary
control_summary control.Ack h = Ack h.resp
control_summary control.Nak h = Nak h.resp (h.sub == 3)
control_summary control.Rep h = Rep
control_summary control.Strt h = Strt
control_summary control.Stack h = Stack

abbrev pub header_summary : Header → ItemSummary
header_summary (header.Data h) = Data h.resp h.num
header_summary (header.Maint h) = Maint
header_summary (header.Control h) = control_summary h.kind h

abbrev pub summary_of : Item → ItemSummary
summary_of (item.Good offset h) = header_summary h
summary_of (item.HeaderCheck offset) = Bad
summary_of (item.DataCheck offset h) = Bad
summary_of (item.TooLong offset h) = Bad
summary_of (item.Format offset fault) = Bad

-- ---- what an item waits for

-- whether the other side's data of this number weren't drawn at all
abbrev pub is_undrawn : SideSummary → SideSummary → ℕ → Bool
is_undrawn own other resp = nat_lt (distance own.resp other.top) (distance own.resp resp)

-- An acknowledgement must wait until its data were drawn once.
unfoldable pub must_wait : SideSummary → SideSummary → ItemSummary → Bool
must_wait own other Bad = false
must_wait own other Maint = false
must_wait own other (Data resp num) = is_undrawn own other resp
must_wait own other (Ack resp) = is_undrawn own other resp
must_wait own other (Nak resp is_reply) = is_undrawn own other resp
must_wait own other Rep = false
must_wait own other Strt = false
must_wait own other Stack = false

-- whether `resp` is beyond the other side's last data in sequence, which a NAK sets back
abbrev pub is_ahead : SideSummary → SideSummary → ℕ → Bool
is_ahead own other resp = nat_lt (distance own.resp other.num) (distance own.resp resp)

-- whether an ACK acknowledges nothing new, and nothing was drawn that may get such an ACK
abbrev pub is_unasked : SideSummary → SideSummary → ℕ → Bool
is_unasked own other resp = (resp == own.resp) && not other.repeats

-- whether a NAK is before the REP that it replies to, or before anything that it may refuse
abbrev pub is_early : SideSummary → ℕ → Bool → Bool
is_early other resp is_reply =
    if is_reply then not other.asks else (resp == other.num) && not other.repeats

-- An item also waits for the item that it probably replies to. After its STRT or STACK a side's
-- data, ACKs, NAKs and REPs wait for a reply to that.
unfoldable pub waits : SideSummary → SideSummary → ItemSummary → Bool
waits own other Bad = false
waits own other Maint = false
waits own other (Data resp num) = own.starts || is_ahead own other resp
waits own other (Ack resp) =
    own.starts || (is_ahead own other resp || is_unasked own other resp)
waits own other (Nak resp is_reply) =
    own.starts || (is_ahead own other resp || is_early other resp is_reply)
waits own other Rep = own.starts
waits own other Strt = false
waits own other Stack = not other.starts

-- ---- what is drawn of both sides after an item

-- Whether `num` comes after `last`, both counted from the other side's last acknowledgement. A
-- number 128 or more ahead of that is an old one, which is retransmitted.
abbrev pub is_after : SideSummary → ℕ → ℕ → Bool
is_after other last num =
    nat_lt (distance other.resp num) 128
    && nat_lt (distance other.resp last) (distance other.resp num)

-- A message is new if its number comes after the others; after a NAK only the next number is.
abbrev pub is_new : SideSummary → SideSummary → ℕ → Bool
is_new own other num =
    if own.goes_back then num == (own.num + 1) % 256 else is_after other own.num num

abbrev pub after_data : SideSummary → SideSummary → ℕ → SideSummary
after_data own other num =
    if is_new own other num then record own { num = num; goes_back = false }
    else record own { repeats = true }

-- the highest number drawn, that of a data message included
abbrev pub higher : SideSummary → SideSummary → ℕ → ℕ
higher own other num = if is_after other own.top num then num else own.top

-- the summary of the side that the item is from
unfoldable pub after_own : SideSummary → SideSummary → ItemSummary → SideSummary
after_own own other Bad = record own { repeats = true }
after_own own other Maint = own
after_own own other (Data resp num) =
    record (after_data own other num) { resp = resp; top = higher own other num }
after_own own other (Ack resp) = record own { resp = resp }
after_own own other (Nak resp is_reply) = record own { resp = resp }
after_own own other Rep = record own { asks = true; repeats = true }
after_own own other Strt =
    record own { num = 0; top = 0; resp = 0; starts = true; goes_back = false }
after_own own other Stack =
    record own { num = 0; top = 0; resp = 0; starts = true; repeats = true; goes_back = false }

-- Data that are acknowledged were sent, even if they weren't drawn.
abbrev pub acknowledged : SideSummary → SideSummary → ℕ → SideSummary
acknowledged own other resp =
    if is_ahead own other resp then record other { num = resp; goes_back = false } else other

abbrev pub raised : SideSummary → SideSummary → ℕ → ℕ
raised own other resp = if is_undrawn own other resp then resp else other.top

-- the summary of the other side
unfoldable pub after_other : SideSummary → SideSummary → ItemSummary → SideSummary
after_other own other Bad = other
after_other own other Maint = other
after_other own other (Data resp num) =
    record (acknowledged own other resp) { top = raised own other resp; starts = false }
after_other own other (Ack resp) =
    record (acknowledged own other resp) {
      top = raised own other resp;
      starts = false;
      asks = false;
      repeats = false;
    }
after_other own other (Nak resp is_reply) =
    record other {
      num = resp;
      top = raised own other resp;
      starts = false;
      asks = false;
      repeats = false;
      goes_back = true;
    }
after_other own other Rep = record other { starts = false }
after_other own other Strt = other
after_other own other Stack = record other { starts = false }

abbrev pub after_drawn : Order → Side → ItemSummary → Order
after_drawn o Caller summary =
    record {
      turn = Called;
      caller = after_own o.caller o.called summary;
      called = after_other o.caller o.called summary;
    }
after_drawn o Called summary =
    record {
      turn = Caller;
      caller = after_other o.called o.caller summary;
      called = after_own o.called o.caller summary;
    }

-- nothing was drawn, and the caller's turn is first
abbrev pub no_side_drawn : SideSummary
no_side_drawn =
    record {
      num = 0;
      top = 0;
      resp = 0;
      starts = false;
      asks = false;
      repeats = false;
      goes_back = false;
    }

abbrev pub nothing_drawn : Order
nothing_drawn = record { turn = Caller; caller = no_side_drawn; called = no_side_drawn }

-- ---- which comes next

-- whether `resp` acknowledges these data, or data after them
abbrev pub is_for : ℕ → ItemSummary → Bool
is_for resp (Data its_resp num) = nat_lt (distance num resp) 128
is_for resp Bad = false
is_for resp Maint = false
is_for resp (Ack its_resp) = false
is_for resp (Nak its_resp is_reply) = false
is_for resp Rep = false
is_for resp Strt = false
is_for resp Stack = false

-- whether one item acknowledges the data of the other, or data after them
abbrev pub refers : ItemSummary → ItemSummary → Bool
refers (Data resp num) theirs = is_for resp theirs
refers (Ack resp) theirs = is_for resp theirs
refers (Nak resp is_reply) theirs = is_for resp theirs
refers Bad theirs = false
refers Maint theirs = false
refers Rep theirs = false
refers Strt theirs = false
refers Stack theirs = false

-- The side whose turn it is goes first if its item doesn't wait. If both items wait, one that
-- doesn't wait for data goes first. If both wait for data, these may be missing; then the side
-- whose turn it is goes first, unless its item acknowledges the other.
abbrev pub goes_first : SideSummary → SideSummary → ItemSummary → ItemSummary → Bool
goes_first own other mine theirs =
    if must_wait own other mine then must_wait other own theirs && not (refers mine theirs)
    else if waits own other mine then must_wait other own theirs || waits other own theirs
    else true

abbrev pub next_of_both : Side → Order → ItemSummary → ItemSummary → Side
next_of_both Caller o up down =
    if goes_first o.caller o.called up down then Caller else Called
next_of_both Called o up down =
    if goes_first o.called o.caller down up then Called else Caller

-- the side whose item is drawn next, from the next items of the caller and of the called
abbrev pub next_side : Order → Option ItemSummary → Option ItemSummary → Option Side
next_side o None None = None
next_side o (Some up) None = Some Caller
next_side o None (Some down) = Some Called
next_side o (Some up) (Some down) = Some (next_of_both o.turn o up down)
