-- The plain text of the bytes of a line, one line an item.
use Rattle.std.specs.Prelude.{[], ℕ, ◌++◌, Bool, true, false, List, codes, decimal, if◌then◌else◌}
use Rattle.ddcmp_frame.specs.declared.header.Flags.{Flags}
use Rattle.ddcmp_frame.specs.declared.header.ControlType.{ControlType}
use Rattle.ddcmp_frame.specs.declared.header.ControlType.TheVariants.{Ack, Nak, Rep, Strt, Stack}
use Rattle.ddcmp_frame.specs.Fields.{CountedFields}
use Rattle.ddcmp_frame.specs.declared.header.Header.{Header}
use Rattle.ddcmp_frame.specs.declared.header.Header.TheVariants.{Data, Maint, Control}
use Rattle.ddcmp_frame.specs.declared.header.HeaderFault.{HeaderFault}
use Rattle.ddcmp_frame.specs.declared.header.HeaderFault.TheVariants.{NotAStart, Check, BadType}
use Rattle.ddcmp_frame.specs.declared.header.HeaderFault.TheVariants.{CountZero}
use Rattle.ddcmp_frame.specs.declared.item.Item.{Item}
use Rattle.ddcmp_frame.specs.declared.item.Item.TheVariants.{Good, HeaderCheck, DataCheck, TooLong}
use Rattle.ddcmp_frame.specs.declared.item.Item.TheVariants.{Format}
use Rattle.hex.specs.Hex.{encode_lower}
use Rattle.ddcmp_frame.specs.Reading.{ReadItem}

abbrev pub kind_text : ControlType → List ℕ
kind_text Ack = codes "ACK"
kind_text Nak = codes "NAK"
kind_text Rep = codes "REP"
kind_text Strt = codes "STRT"
kind_text Stack = codes "STACK"

abbrev pub flag_text : Bool → List ℕ
flag_text b = if b then codes "1" else codes "0"

abbrev pub flags_text : Flags → List ℕ
flags_text flags =
    codes " q=" ++ flag_text flags.q ++ codes " s=" ++ flag_text flags.s ++ codes " resp="

-- the fields that all headers have
abbrev pub fields_text : Flags → ℕ → ℕ → ℕ → List ℕ
fields_text flags resp num addr =
    flags_text flags ++ decimal resp ++ codes " num=" ++ decimal num
    ++ codes " addr=" ++ decimal addr

abbrev pub counted_text : CountedFields → List ℕ
counted_text h = codes " count=" ++ decimal h.count ++ fields_text h.flags h.resp h.num h.addr

abbrev pub header_text : Header → List ℕ
header_text (Data h) = codes "DATA" ++ counted_text h
header_text (Maint h) = codes "MAINT" ++ counted_text h
header_text (Control h) =
    kind_text h.kind ++ codes " sub=" ++ decimal h.sub ++ fields_text h.flags h.resp h.num h.addr

-- A reader never reports the last two.
abbrev pub fault_text : HeaderFault → List ℕ
fault_text (BadType code) = codes "type=" ++ decimal code
fault_text CountZero = codes "count=0"
fault_text NotAStart = codes "start"
fault_text Check = codes "check"

-- the offset of an item's start byte, and what the item is
unfoldable pub item_text : Item → List ℕ
item_text (Good offset h) = decimal offset ++ codes " " ++ header_text h
item_text (HeaderCheck offset) = decimal offset ++ codes " header check"
item_text (DataCheck offset h) = decimal offset ++ codes " data check " ++ header_text h
item_text (TooLong offset h) = decimal offset ++ codes " too long " ++ header_text h
item_text (Format offset fault) = decimal offset ++ codes " format " ++ fault_text fault

-- whether the line of an item shows data
abbrev pub lends : Item → Bool
lends (Good offset (Data h)) = true
lends (Good offset (Maint h)) = true
lends (Good offset (Control h)) = false
lends (HeaderCheck offset) = false
lends (DataCheck offset h) = false
lends (TooLong offset h) = false
lends (Format offset fault) = false

-- the line of an item, up to its data
abbrev pub front_text : Item → List ℕ
front_text item = item_text item ++ (if lends item then codes " " else codes "\n")

-- the data of a good frame, in hexadecimal
abbrev pub data_text : Item → List ℕ → List ℕ
data_text item lent = if lends item then codes " " ++ encode_lower lent else []

-- the line of an item with its data
unfoldable pub line_of : ReadItem → List ℕ
line_of given = item_text given.0 ++ data_text given.0 given.1 ++ codes "\n"

-- the totals: how many items, how many bytes, and how many of these in the incomplete frame
abbrev pub totals : ℕ → ℕ → ℕ → List ℕ
totals count bytes left_open =
    codes "items=" ++ decimal count ++ codes " bytes=" ++ decimal bytes
    ++ codes " open=" ++ decimal left_open ++ codes "\n"
