-- A station over bytes: what the items of a text do to it, and the bytes of its frames on the line.
use Rattle.std.specs.Prelude.{ℕ, List, [], ◌∷◌, ◌++◌, length, take, drop, replicate}
use Rattle.std.specs.Prelude.{option_to_list}
use Rattle.ddcmp_frame.specs.declared.codes.TheConstants.{SYN}
use Rattle.ddcmp_frame.specs.declared.item.Item.TheVariants as item
use Rattle.ddcmp_frame.specs.Reading.{ReadItem, items}
use Rattle.ddcmp_frame.specs.Wire.{wire}
use Rattle.ddcmp_core.specs.declared.notice.Notice.{Notice}
use Rattle.ddcmp_core.specs.Table.{Frame, Received, Good, BadHeader, BadData, TooLong, BadFormat}
use Rattle.ddcmp_core.specs.Table.{on, notice_of, next, after_next}
use Rattle.ddcmp_core.specs.Frames.{frame_of, header_of, message_of, is_data_header}
use Rattle.ddcmp_core.specs.Counting.{counters_on, counters_after_next}
use Rattle.ddcmp_core.specs.Core.{CoreView}

-- ---- received items

-- an item of the reader as an input of the station's table
abbrev pub received_of : ReadItem → Received
received_of (item.Good o h, message) = Good (frame_of h message)
received_of (item.HeaderCheck o, message) = BadHeader
received_of (item.DataCheck o h, message) = BadData (is_data_header h)
received_of (item.TooLong o h, message) = TooLong (is_data_header h)
received_of (item.Format o f, message) = BadFormat

-- a station after one item, and the notice that it yields
abbrev pub after_item : ReadItem → CoreView → CoreView
after_item given k = record k {
  station = on k.limits k.station (received_of given);
  counters = counters_on k.limits k.station (received_of given) k.counters;
}

abbrev pub notices_of_item : ReadItem → CoreView → List Notice
notices_of_item given k = option_to_list (notice_of k.limits k.station (received_of given))

-- the same for items in their order
unfoldable pub after_items : List ReadItem → CoreView → CoreView
after_items [] k = k
after_items (given ∷ rest) k = after_items rest (after_item given k)

unfoldable pub notices_of_items : List ReadItem → CoreView → List Notice
notices_of_items [] k = []
notices_of_items (given ∷ rest) k =
    notices_of_item given k ++ notices_of_items rest (after_item given k)

-- the items that a piece adds to those of the text before it
abbrev pub items_added : ℕ → List ℕ → List ℕ → List ReadItem
items_added max text piece = drop (length (items max text)) (items max (text ++ piece))

-- a station after a piece of the line that follows `text`, and the notices in order
abbrev pub after_piece : List ℕ → List ℕ → CoreView → CoreView
after_piece text piece k = after_items (items_added k.limits.longest text piece) k

abbrev pub notices_of_piece : List ℕ → List ℕ → CoreView → List Notice
notices_of_piece text piece k = notices_of_items (items_added k.limits.longest text piece) k

-- ---- sent frames

-- the data of a frame that is composed after SYN fill: eight bytes are left for its header
abbrev pub data_in : ℕ → ℕ → List ℕ → List ℕ
data_in syn count out = take count (drop 8 (drop syn out))

-- a frame on the line: SYN fill and the bytes of the frame
abbrev pub frame_on_line : ℕ → Frame → List ℕ
frame_on_line syn f = replicate syn SYN ++ wire (header_of f) (message_of f)

-- a station after its next frame
abbrev pub after_poll : CoreView → CoreView
after_poll k = record k {
  station = after_next (next k.station) k.station;
  counters = counters_after_next k.station (next k.station) k.counters;
}
