-- A trace of a line.
use Rattle.std.specs.Prelude.{◌≡◌, ℕ, ◌+◌, ◌-◌, ◌*◌, ◌^◌, ◌<◌, ◌≤◌, ◌==◌, ◌||◌, nat_le, min, Bool}
use Rattle.std.specs.Prelude.{not, List, [], ◌∷◌, ◌++◌, length, take, drop, codes, decimal}
use Rattle.std.specs.Prelude.{if◌then◌else◌, Option, Some, None, IfSome}
use Rattle.std.specs.List.{list_any, position_from}
use Rattle.std.specs.Option.{option_map}
use Rattle.ddcmp_frame.specs.declared.codes.TheConstants.{SYN}
use Rattle.ddcmp_frame.specs.declared.item.Item.{Item}
use Rattle.ddcmp_frame.specs.Reader.{ReaderView, StandsFor, items_given}
use Rattle.ddcmp_frame.specs.Reading.{ReadItem, ending, items}
use Rattle.ddcmp_frame.specs.Step.{item_offset}
use Rattle.ddcmp_explain.specs.declared.skipped.Reached.{Reached}
use Rattle.ddcmp_explain.specs.declared.skipped.Skipped.{Skipped}
use Rattle.ddcmp_explain.specs.Discarded.{behind, passed_text, taken_by}
use Rattle.ddcmp_log.specs.declared.side.Side.{Side}
use Rattle.ddcmp_log.specs.declared.side.Side.TheVariants.{Caller, Called}
use Rattle.ddcmp_log.specs.Logged.{fronted, logged_line, wording_of}
use Rattle.ddcmp_log.specs.declared.notation.LogNotation.{LogNotation}
use Rattle.ddcmp_log.specs.declared.notation.LogNotation.TheVariants.{Plain, Json, Ladder}
use Rattle.ddcmp_log.specs.Reasons.{reasoned_line}
use Rattle.ddcmp_log.specs.declared.side.Stamp.TheVariants.{Elapsed}
use Rattle.ddcmp_streams.specs.declared.errors.TheConstants.{LAST_ROOM}
use Rattle.ddcmp_streams.specs.declared.skipped.Completed.{Completed}
use Rattle.ddcmp_streams.specs.declared.skipped.TheConstants.{DEL}
use Rattle.ddcmp_streams.specs.declared.trace.TheConstants.{NOTE}
use Rattle.ddcmp_streams.specs.declared.trace.Way.{Way}
use Rattle.ddcmp_streams.specs.declared.trace.Way.TheVariants.{ToLine, FromLine}
use Rattle.ddcmp_streams.specs.Errors.{ErrorsView, HasLine, HasObject}

-- What was traced in one direction: the state of its reader; the last item, or the end of the bytes
-- reported since; and the offset of the first byte after that which is no fill.
pub record WayReaderView : Type 0 where
  pub frames : ReaderView
  pub reached : Reached
  pub junk : Option ℕ

-- How its lines are written, how much room is left to other lines, what was traced in each
-- direction, and the moment.
pub record TraceView : Type 0 where
  pub notation : LogNotation
  pub spared : ℕ
  pub sent : WayReaderView
  pub came : WayReaderView
  pub now : ℕ

-- ---- what was discarded

-- SYN and DEL fill the line between frames
abbrev pub is_fill : ℕ → Bool
is_fill b = (b == SYN) || (b == DEL)

abbrev pub is_junk : ℕ → Bool
is_junk b = not (is_fill b)

-- the bytes of a text from an offset up to another, if they are reported: not if there are none,
-- and not if all are fill
abbrev pub skipped_between : List ℕ → ℕ → ℕ → Option Skipped
skipped_between text from to =
    if list_any is_junk (take (to - from) (drop from text))
    then Some (record { from = from; count = to - from })
    else None

-- the same, if they are at least this many
abbrev pub skipped_at_least : ℕ → List ℕ → ℕ → ℕ → Option Skipped
skipped_at_least least text from to =
    if nat_le least (to - from) then skipped_between text from to else None

-- the offset of the first byte of a text, from an offset on, that is no fill
abbrev pub first_junk : List ℕ → ℕ → Option ℕ
first_junk text from = position_from is_junk from (drop from text)

-- ---- what was traced in one direction

-- A text went in this direction, and all of it up to `from` is reported.
pub record HasHeard (text : List ℕ) (from : ℕ) (at : WayReaderView) : Type 0 where
  pub stands : StandsFor at.frames text
  pub reached : at.reached.offset + at.reached.taken ≡ from
  pub junk : at.junk ≡ first_junk text from

-- a damaged header is skipped from its start byte on
abbrev pub junk_of : Item → Option ℕ
junk_of item = if taken_by item == 0 then Some (item_offset item) else None

-- an item is reported with all of its bytes
abbrev pub from_after : ℕ → Option Completed → ℕ
from_after from None = from
from_after from (Some completed) = behind completed.item

-- One more byte is traced: the item that it completes, and the bytes discarded before that.
pub record Hears (old : WayReaderView) (byte : ℕ) (given : Option Completed) (new : WayReaderView)
    : Type 0 where
  pub max : new.frames.max ≡ old.frames.max
  pub counted : new.frames.offset ≡ old.frames.offset + 1
  pub heard : (text : List ℕ) (from : ℕ) → HasHeard text from old
      → HasHeard (text ++ byte ∷ []) (from_after from given) new
  pub item : (text : List ℕ) (from : ℕ) → HasHeard text from old
      → items old.frames.max (text ++ byte ∷ [])
      ≡ items old.frames.max text ++ items_given (option_map (λ c. c.item) given) new.frames.lent
  pub discarded : (text : List ℕ) (from : ℕ) → HasHeard text from old
      → IfSome given (λ c. c.discarded
      ≡ skipped_between (text ++ byte ∷ []) from (item_offset c.item))

-- Discarded bytes are reported up to an offset.
abbrev pub from_discarded : ℕ → ℕ → Option Skipped → ℕ
from_discarded from to None = from
from_discarded from to (Some skipped) = to

-- The bytes discarded after the last item, up to the start of the unfinished frame, are reported if
-- they are at least this many.
pub record Discards (old : WayReaderView) (least : ℕ) (given : Option Skipped) (new : WayReaderView)
    : Type 0 where
  pub frames : new.frames ≡ old.frames
  pub is : (text : List ℕ) (from : ℕ) → HasHeard text from old
      → given ≡ skipped_at_least least text from (ending old.frames.max text).offset
  pub heard : (text : List ℕ) (from : ℕ) → HasHeard text from old
      → HasHeard text (from_discarded from (ending old.frames.max text).offset given) new

-- a byte whose offset has no room in 64 bits isn't traced
abbrev pub TakesByte : WayReaderView → ℕ → Option Completed → WayReaderView → Type 0
TakesByte old byte given new =
    (old.frames.offset < 2 ^ 64 - 2 → Hears old byte given new)
    × (2 ^ 64 - 2 ≤ old.frames.offset → (given ≡ None) × (new ≡ old))

-- ---- lines

-- the side of the line that bytes come from: this end is on the left
abbrev pub side_of : Way → Side
side_of ToLine = Caller
side_of FromLine = Called

-- an item with its data; in words a NAK, which has none, with its reason
abbrev pub item_line : LogNotation → ℕ → Way → ReadItem → List ℕ
item_line Plain now way given = reasoned_line (Some (Elapsed now)) (side_of way) given
item_line Json now way given = logged_line Json (Some (Elapsed now)) (side_of way) given
item_line Ladder now way given = logged_line Ladder (Some (Elapsed now)) (side_of way) given

-- discarded bytes
abbrev pub skipped_line : LogNotation → ℕ → Way → Skipped → List ℕ
skipped_line notation now way it = fronted (wording_of notation) (Some (Elapsed now)) (side_of way)
    (passed_text (wording_of notation) it.from it.count)

abbrev pub timer_line : LogNotation → ℕ → List ℕ
timer_line Plain now = decimal now ++ codes " timer\n"
timer_line Json now = codes "{\"ms\":" ++ decimal now ++ codes ",\"item\":\"timer\"}\n"
timer_line Ladder now = decimal now ++ codes " timer\n"

-- at most the largest number of 64 bits
abbrev pub capped : ℕ → ℕ
capped n = min n (2 ^ 64 - 1)

-- each with the room that it needs
abbrev pub skipped_lines : LogNotation → ℕ → Way → Option Skipped → List (ℕ × List ℕ)
skipped_lines notation now way None = []
skipped_lines notation now way (Some it) = (NOTE, skipped_line notation now way it) ∷ []

abbrev pub completed_lines : LogNotation → ℕ → Way → Option Completed → List ℕ
    → List (ℕ × List ℕ)
completed_lines notation now way None lent = []
completed_lines notation now way (Some it) lent =
    skipped_lines notation now way it.discarded
    ++ (capped (2 * length lent + NOTE), item_line notation now way (it.item, lent)) ∷ []

abbrev pub timer_lines : LogNotation → ℕ → Bool → List (ℕ × List ℕ)
timer_lines notation now has_expired =
    if has_expired then (NOTE, timer_line notation now) ∷ [] else []

-- the room that a line needs, with the room left for other lines
abbrev pub room_beside : ℕ → ℕ → ℕ
room_beside spared needed = capped (capped (spared + needed) + LAST_ROOM)

-- what is written of a line once it is begun: of an object all but its brace
abbrev pub after_begun : LogNotation → List ℕ → List ℕ
after_begun Plain line = line
after_begun Json line = drop 1 line
after_begun Ladder line = line

-- A text was queued behind what begins a line, if there was room for it. An object has the time of
-- day as a member.
abbrev pub HasTraced : LogNotation → ℕ → List ℕ → ErrorsView → ErrorsView → Type 0
HasTraced Plain needed text old new = HasLine needed text old new
HasTraced Json needed text old new = HasObject needed text old new
HasTraced Ladder needed text old new = HasLine needed text old new

-- Lines were queued one after another, each if there was room for it.
abbrev pub HasLines : LogNotation → ℕ → List (ℕ × List ℕ) → ErrorsView → ErrorsView → Type 0
HasLines notation spared [] old new = new ≡ old
HasLines notation spared (line ∷ later) old new =
    (mid : ErrorsView)
    × HasTraced notation (room_beside spared line.0) (after_begun notation line.1) old mid
    × HasLines notation spared later mid new

-- ---- a trace

abbrev pub heard_of : Way → TraceView → WayReaderView
heard_of ToLine t = t.sent
heard_of FromLine t = t.came

abbrev pub with_heard : Way → WayReaderView → TraceView → TraceView
with_heard ToLine heard t = record t { sent = heard }
with_heard FromLine heard t = record t { came = heard }

-- A byte went in this direction: the lines of what it completed were queued.
pub record LogsByte (way : Way) (byte : ℕ) (old new : TraceView) (before after : ErrorsView)
    : Type 0 where
  pub given : Option Completed
  pub takes : TakesByte (heard_of way old) byte given (heard_of way new)
  pub lines : HasLines old.notation old.spared
      (completed_lines old.notation old.now way given (heard_of way new).frames.lent) before after
  pub stays : new ≡ with_heard way (heard_of way new) old

-- The bytes discarded after the last item were reported, if they are at least this many.
pub record LogsDiscarded (way : Way) (least : ℕ) (old new : TraceView) (before after : ErrorsView)
    : Type 0 where
  pub given : Option Skipped
  pub discards : Discards (heard_of way old) least given (heard_of way new)
  pub lines : HasLines old.notation old.spared (skipped_lines old.notation old.now way given)
      before after
  pub stays : new ≡ with_heard way (heard_of way new) old

-- Bytes went in this direction, one after another; then 256 or more discarded bytes are reported
-- without waiting for an item.
abbrev pub Logs : Way → List ℕ → TraceView → TraceView → ErrorsView → ErrorsView → Type 0
Logs way [] old new before after = LogsDiscarded way 256 old new before after
Logs way (byte ∷ later) old new before after =
    (mid : TraceView) × (between : ErrorsView) × LogsByte way byte old mid before between
    × Logs way later mid new between after

-- All bytes that were discarded by the end of a line were reported.
abbrev pub LogsEnd : TraceView → TraceView → ErrorsView → ErrorsView → Type 0
LogsEnd old new before after =
    (mid : TraceView) × (between : ErrorsView) × LogsDiscarded ToLine 1 old mid before between
    × LogsDiscarded FromLine 1 mid new between after

-- Nothing was traced yet of a new line, whose frames have at most this many bytes of data.
abbrev pub IsNew : ℕ → WayReaderView → Type 0
IsNew most heard = HasHeard [] 0 heard × (heard.frames.max ≡ most)

-- The line ended, and another begins.
pub record BeginsAnew (old new : TraceView) (before after : ErrorsView) : Type 0 where
  pub last : TraceView
  pub ended : LogsEnd old last before after
  pub sent : IsNew last.sent.frames.max new.sent
  pub came : IsNew last.came.frames.max new.came
  pub stays : new ≡ record last { sent = new.sent; came = new.came }
