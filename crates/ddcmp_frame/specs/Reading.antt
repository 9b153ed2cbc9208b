-- How a text of bytes is read into items.
use Rattle.std.specs.Prelude.{ℕ, ◌+◌, ◌*◌, ◌/◌, ◌%◌, ◌==◌, ◌&&◌, nat_lt, Bool, true, false, List}
use Rattle.std.specs.Prelude.{[], ◌∷◌, ◌++◌, length, take, drop, slice_index, if◌then◌else◌, Option}
use Rattle.std.specs.Prelude.{Some, None, Result, Ok, Err}
use Rattle.ddcmp_num.specs.Check.{check_of}
use Rattle.ddcmp_frame.specs.declared.header.Header.{Header}
use Rattle.ddcmp_frame.specs.declared.header.Header.TheVariants.{Data, Maint, Control}
use Rattle.ddcmp_frame.specs.declared.header.HeaderFault.{HeaderFault}
use Rattle.ddcmp_frame.specs.declared.header.HeaderFault.TheVariants.{NotAStart, Check, BadType}
use Rattle.ddcmp_frame.specs.declared.header.HeaderFault.TheVariants.{CountZero}
use Rattle.ddcmp_frame.specs.declared.item.Item.{Item}
use Rattle.ddcmp_frame.specs.declared.item.Item.TheVariants.{Good, HeaderCheck, DataCheck, TooLong}
use Rattle.ddcmp_frame.specs.declared.item.Item.TheVariants.{Format}
pub use Rattle.ddcmp_frame.specs.Spelling.{is_start}
use Rattle.ddcmp_frame.specs.Spelling.{parsed}
use Rattle.ddcmp_frame.specs.Rows.{RowResult, read_rows}

-- An item with the data that a reader lends beside it.
abbrev pub ReadItem : Type 0
ReadItem = Item × List ℕ

-- The state of reading: the offset, whether synchronism is lost, whether the frame that begins here
-- was reported as too long, and the text from there on.
pub record Place : Type 0 where
  pub offset : ℕ
  pub lost : Bool
  pub told : Bool
  pub rest : List ℕ

-- n bytes further on
abbrev pub place_after : ℕ → Bool → Place → Place
place_after n lost p =
    record { offset = p.offset + n; lost = lost; told = false; rest = drop n p.rest }

abbrev pub count_of : Header → Option ℕ
count_of (Data h) = Some h.count
count_of (Maint h) = Some h.count
count_of (Control h) = None

-- the n bytes of data after a header
abbrev pub data_after_header : ℕ → List ℕ → List ℕ
data_after_header n t = take n (drop 8 t)

-- the data are followed by their own CRC
unfoldable pub is_data_right : ℕ → List ℕ → Bool
is_data_right n t =
    (slice_index t (n + 8) == check_of (data_after_header n t) % 256)
    && (slice_index t (n + 9) == check_of (data_after_header n t) / 256)

-- A header whose COUNT is above max is reported once and skipped with its data, unchecked; any
-- other is read with its data and their CRC. Until the last byte the frame is unfinished.
abbrev pub by_length : Place → Header → ℕ → Bool → Bool → Option (List ReadItem × Place)
by_length p h n true false = Some ((TooLong p.offset h, []) ∷ [], record p { told = true })
by_length p h n true true =
    if nat_lt (length p.rest) (n + 10) then None else Some ([], place_after (n + 10) false p)
by_length p h n false told =
    if nat_lt (length p.rest) (n + 10)
    then None
    else Some (
      (if is_data_right n p.rest then (Good p.offset h, data_after_header n p.rest)
          else (DataCheck p.offset h, [])) ∷ [],
      place_after (n + 10) false p,
    )

-- a control header is a whole frame
abbrev pub by_count : ℕ → Place → Header → Option ℕ → Option (List ReadItem × Place)
by_count max p h None = Some ((Good p.offset h, []) ∷ [], place_after 8 false p)
by_count max p h (Some n) = by_length p h n (nat_lt max n) p.told

-- The verdict on the first eight bytes decides. If their CRC is wrong only the start byte is given
-- up, and the loss of synchronism is reported once.
abbrev pub by_verdict : ℕ → Place → Result Header HeaderFault → Option (List ReadItem × Place)
by_verdict max p (Err NotAStart) = Some ([], place_after 1 p.lost p)
by_verdict max p (Err Check) =
    Some ((if p.lost then [] else (HeaderCheck p.offset, []) ∷ []), place_after 1 true p)
by_verdict max p (Err (BadType c)) =
    Some ((Format p.offset (BadType c), []) ∷ [], place_after 8 false p)
by_verdict max p (Err CountZero) =
    Some ((Format p.offset CountZero, []) ∷ [], place_after 8 false p)
by_verdict max p (Ok h) = by_count max p h (count_of h)

-- from a start byte eight bytes are a candidate; any other byte is skipped
abbrev pub by_front : ℕ → Place → List ℕ → Option (List ReadItem × Place)
by_front max p [] = None
by_front max p (b ∷ t) =
    if is_start b
    then (if nat_lt (length (b ∷ t)) 8 then None else by_verdict max p (parsed (take 8 (b ∷ t))))
    else Some ([], place_after 1 p.lost p)

-- One row of the table: the items that a place yields and the place where reading resumes; None if
-- it ends.
unfoldable pub row : ℕ → Place → Option (List ReadItem × Place)
row max p = by_front max p p.rest

-- a measure that each row lowers: two for each byte, and one if nothing was reported
abbrev pub weight : Place → ℕ
weight p = 2 * length p.rest + (if p.told then 0 else 1)

-- reading from a place, row after row
unfoldable pub read : ℕ → Place → RowResult ReadItem Place
read max p = read_rows (row max) weight p

abbrev pub beginning : List ℕ → Place
beginning text = record { offset = 0; lost = false; told = false; rest = text }

-- the items of a text, each with its data, for a reader that accepts at most max bytes of data
unfoldable pub items : ℕ → List ℕ → List ReadItem
items max text = (read max (beginning text)).items

-- the place at which the reading of a text ends
unfoldable pub ending : ℕ → List ℕ → Place
ending max text = (read max (beginning text)).place

-- the number of bytes from the start byte of the unfinished frame on
abbrev pub open_at_end : ℕ → List ℕ → ℕ
open_at_end max text = length (ending max text).rest

-- those of them that a reader has to buffer: none of a frame that was reported as too long
abbrev pub kept_at_end : ℕ → List ℕ → ℕ
kept_at_end max text = if (ending max text).told then 0 else open_at_end max text

-- a place with more text after it
abbrev pub with_more : Place → List ℕ → Place
with_more p u = record { offset = p.offset; lost = p.lost; told = p.told; rest = p.rest ++ u }

-- the header and the data of an item, if it is a good one
abbrev pub good_frame_of : ReadItem → List (Header × List ℕ)
good_frame_of (Good o h, lent) = (h, lent) ∷ []
good_frame_of (HeaderCheck o, lent) = []
good_frame_of (DataCheck o h, lent) = []
good_frame_of (TooLong o h, lent) = []
good_frame_of (Format o f, lent) = []

-- the frames of the good items
unfoldable pub good_frames_in : List ReadItem → List (Header × List ℕ)
good_frames_in [] = []
good_frames_in (given ∷ rest) = good_frame_of given ++ good_frames_in rest

-- the good frames of a text
abbrev pub good_frames : ℕ → List ℕ → List (Header × List ℕ)
good_frames max text = good_frames_in (items max text)
