-- What is written about bytes that belong to no item.
use Rattle.std.specs.Prelude.{◌≡◌, ℕ, ◌+◌, ◌-◌, nat_lt, Bool, true, false, List, [], ◌∷◌, ◌++◌}
use Rattle.std.specs.Prelude.{codes, decimal, length, take, if◌then◌else◌, Option, Some, None}
use Rattle.std.specs.List.{flat_map}
use Rattle.std.specs.Result.{result_ok}
use Rattle.ddcmp_frame.specs.declared.header.Header.{Header}
use Rattle.ddcmp_frame.specs.declared.item.Item.{Item}
use Rattle.ddcmp_frame.specs.declared.item.Item.TheVariants.{Good, HeaderCheck, DataCheck, TooLong}
use Rattle.ddcmp_frame.specs.declared.item.Item.TheVariants.{Format}
use Rattle.ddcmp_frame.specs.Reader.{frame_length}
use Rattle.ddcmp_frame.specs.Reading.{ReadItem, Place, items, ending, good_frames}
use Rattle.ddcmp_frame.specs.Spelling.{parsed}
use Rattle.ddcmp_frame.specs.Step.{item_offset}
use Rattle.ddcmp_explain.specs.declared.notation.Notation.{Notation}
use Rattle.ddcmp_explain.specs.declared.notation.Notation.TheVariants.{Plain, Json}
use Rattle.ddcmp_explain.specs.declared.skipped.Skipped.{Skipped}
use Rattle.ddcmp_explain.specs.declared.style.Style.{Style}
use Rattle.ddcmp_explain.specs.Text.{header_text}
use Rattle.ddcmp_explain.specs.Json.{json_header, json_start, member, quoted}
use Rattle.ddcmp_explain.specs.Output.{line_in, lines, last_line}

-- ---- which bytes are in which line

-- How many bytes an item takes. A frame that is damaged or too long takes as many as its header
-- counts. A loss of synchronism takes none, since its start byte is skipped.
abbrev pub taken_by : Item → ℕ
taken_by (Good offset h) = frame_length h
taken_by (HeaderCheck offset) = 0
taken_by (DataCheck offset h) = frame_length h
taken_by (TooLong offset h) = frame_length h
taken_by (Format offset fault) = 8

-- the offset after an item
abbrev pub behind : Item → ℕ
behind item = item_offset item + taken_by item

-- What a line is about: an item; skipped bytes (the offset of the first, and how many); or the
-- frame that is still incomplete.
pub data Part : Type 0 where
  Told : ReadItem → Part
  Passed : ℕ → ℕ → Part
  Open : Place → Part

abbrev pub passed : ℕ → ℕ → List Part
passed from to = if nat_lt from to then Passed from (to - from) ∷ [] else []

abbrev pub skipped_parts : Option Skipped → List Part
skipped_parts None = []
skipped_parts (Some it) = Passed it.from it.count ∷ []

-- items from an offset on, and the bytes skipped before each
unfoldable pub parts_from : ℕ → List ReadItem → List Part
parts_from at [] = []
parts_from at (given ∷ later) =
    passed at (item_offset given.0) ++ Told given ∷ parts_from (behind given.0) later

-- the offset after the last of some items
unfoldable pub reached : ℕ → List ReadItem → ℕ
reached at [] = at
reached at (given ∷ later) = reached (behind given.0) later

abbrev pub opened : Place → List Part
opened p = if nat_lt 0 (length p.rest) then Open p ∷ [] else []

-- the lines after the last item, when the input has ended
abbrev pub last_parts : ℕ → List ℕ → List Part
last_parts max bytes =
    passed (reached 0 (items max bytes)) (ending max bytes).offset ++ opened (ending max bytes)

abbrev pub parts : ℕ → List ℕ → List Part
parts max bytes = parts_from 0 (items max bytes) ++ last_parts max bytes

-- the offset of the first byte in a line
abbrev pub offset_of : Part → ℕ
offset_of (Told given) = item_offset given.0
offset_of (Passed from count) = from
offset_of (Open p) = p.offset

-- How many bytes a line covers, if the incomplete frame begins at `end`. If a frame that is too
-- long is still incomplete, its bytes count for the line of the incomplete frame.
abbrev pub count_in : ℕ → Part → ℕ
count_in end (Told given) = if nat_lt end (behind given.0) then 0 else taken_by given.0
count_in end (Passed from count) = count
count_in end (Open p) = length p.rest

-- Each line begins where the one before it ends; the first begins at `from`, the last ends at `to`.
abbrev pub Adjoin : ℕ → ℕ → List Part → ℕ → Type 0
Adjoin end from [] to = from ≡ to
Adjoin end from (part ∷ later) to =
    (offset_of part ≡ from) × Adjoin end (from + count_in end part) later to

-- the number of bytes in all lines
unfoldable pub count_in_all : ℕ → List Part → ℕ
count_in_all end [] = 0
count_in_all end (part ∷ later) = count_in end part + count_in_all end later

-- ---- the lines

abbrev pub passed_text : Notation → ℕ → ℕ → List ℕ
passed_text Plain from count =
    decimal from ++ codes " discarded " ++ decimal count ++ codes "\n"
passed_text Json from count =
    json_start from ++ member (codes "discarded") (decimal count) ++ codes "}\n"

-- the header of an incomplete frame, if all 8 bytes of it were read
abbrev pub open_header : List ℕ → Option Header
open_header bytes = if nat_lt (length bytes) 8 then None else result_ok (parsed (take 8 bytes))

-- the line of an incomplete frame, up to its numbers
abbrev pub open_front : Notation → ℕ → Option Header → List ℕ
open_front Plain offset None = decimal offset ++ codes " unfinished header"
open_front Plain offset (Some h) = decimal offset ++ codes " unfinished " ++ header_text h
open_front Json offset None =
    json_start offset ++ member (codes "unfinished") (quoted (codes "header"))
open_front Json offset (Some h) =
    json_start offset ++ member (codes "unfinished") (json_header h)

-- how many of its bytes were read, and how many it has
abbrev pub open_end : Notation → ℕ → ℕ → List ℕ
open_end Plain have whole =
    codes " " ++ decimal have ++ codes " of " ++ decimal whole ++ codes "\n"
open_end Json have whole =
    member (codes "have") (decimal have) ++ member (codes "of") (decimal whole) ++ codes "}\n"

abbrev pub open_length : Option Header → ℕ
open_length None = 8
open_length (Some h) = frame_length h

abbrev pub open_text : Notation → ℕ → Option Header → ℕ → List ℕ
open_text notation offset header have =
    open_front notation offset header ++ open_end notation have (open_length header)

abbrev pub part_line : Notation → Part → List ℕ
part_line notation (Told given) = line_in notation given
part_line notation (Passed from count) = passed_text notation from count
part_line notation (Open p) =
    open_text notation p.offset (open_header p.rest) (length p.rest)

-- the lines of some parts
unfoldable pub part_lines : Notation → List Part → List ℕ
part_lines notation told = flat_map (part_line notation) told

-- ---- with or without lines about skipped bytes

-- the lines of items only
abbrev pub items_in : Notation → Style
items_in notation = record { notation = notation; discarded = false }

abbrev pub lines_by : Bool → Notation → ℕ → List ℕ → List ℕ
lines_by false notation max bytes = lines notation max bytes
lines_by true notation max bytes = part_lines notation (parts_from 0 (items max bytes))

-- the lines of the items, and if `discarded` is set, of the bytes skipped before each
abbrev pub lines_in : Style → ℕ → List ℕ → List ℕ
lines_in style max bytes = lines_by style.discarded style.notation max bytes

abbrev pub has_frame : List (Header × List ℕ) → Bool
has_frame [] = false
has_frame (frame ∷ later) = true

-- a line of plain text if no frame was good; JSON has none, since the objects show it
abbrev pub none_text : Notation → Bool → List ℕ
none_text Plain false = codes "no good frame was found\n"
none_text Plain true = []
none_text Json is_found = []

-- if `discarded` is set: the lines after the last item, and `none_text` if no frame was good
abbrev pub rest_by : Bool → Notation → ℕ → List ℕ → List ℕ
rest_by false notation max bytes = []
rest_by true notation max bytes =
    part_lines notation (last_parts max bytes)
    ++ none_text notation (has_frame (good_frames max bytes))

-- what is written at the end: the lines after the last item if `discarded` is set, and the totals
abbrev pub end_in : Style → ℕ → List ℕ → List ℕ
end_in style max bytes =
    rest_by style.discarded style.notation max bytes ++ last_line style.notation max bytes
