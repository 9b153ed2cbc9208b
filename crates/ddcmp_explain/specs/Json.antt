-- The lines as JSON, an object each.
use Rattle.std.specs.Prelude.{[], ℕ, ◌++◌, List, codes, decimal, if◌then◌else◌}
use Rattle.ddcmp_frame.specs.declared.header.Flags.{Flags}
use Rattle.ddcmp_frame.specs.declared.header.ControlType.{ControlType}
use Rattle.ddcmp_frame.specs.declared.header.ControlType.TheVariants.{Ack, Nak, Rep, Strt, Stack}
use Rattle.ddcmp_frame.specs.Fields.{CountedFields}
use Rattle.ddcmp_frame.specs.declared.header.Header.{Header}
use Rattle.ddcmp_frame.specs.declared.header.Header.TheVariants.{Data, Maint, Control}
use Rattle.ddcmp_frame.specs.declared.header.HeaderFault.{HeaderFault}
use Rattle.ddcmp_frame.specs.declared.header.HeaderFault.TheVariants.{NotAStart, Check, BadType}
use Rattle.ddcmp_frame.specs.declared.header.HeaderFault.TheVariants.{CountZero}
use Rattle.ddcmp_frame.specs.declared.item.Item.{Item}
use Rattle.ddcmp_frame.specs.declared.item.Item.TheVariants.{Good, HeaderCheck, DataCheck, TooLong}
use Rattle.ddcmp_frame.specs.declared.item.Item.TheVariants.{Format}
use Rattle.ddcmp_frame.specs.declared.nak.Nak.{Nak as Reason}
use Rattle.ddcmp_frame.specs.declared.nak.Nak.TheVariants as reason
use Rattle.ddcmp_frame.specs.Naks.{reason_of}
use Rattle.ddcmp_frame.specs.Reading.{ReadItem}
use Rattle.hex.specs.Hex.{encode_lower}
use Rattle.ddcmp_explain.specs.Text.{flag_text, kind_text, lends}

-- a member of an object that isn't the first: its name, and the text of its value
abbrev pub member : List ℕ → List ℕ → List ℕ
member name value = codes ",\"" ++ name ++ codes "\":" ++ value

-- a text as a value; none of those below has a character that JSON must escape
abbrev pub quoted : List ℕ → List ℕ
quoted text = codes "\"" ++ text ++ codes "\""

-- the fields that all headers have
abbrev pub json_fields : Flags → ℕ → ℕ → ℕ → List ℕ
json_fields flags resp num addr =
    member (codes "q") (flag_text flags.q) ++ member (codes "s") (flag_text flags.s)
    ++ member (codes "resp") (decimal resp) ++ member (codes "num") (decimal num)
    ++ member (codes "addr") (decimal addr)

abbrev pub json_counted : CountedFields → List ℕ
json_counted h =
    member (codes "count") (decimal h.count) ++ json_fields h.flags h.resp h.num h.addr

abbrev pub reason_in_words : Reason → List ℕ
reason_in_words reason.HeaderCheck = codes "header check"
reason_in_words reason.DataCheck = codes "data check"
reason_in_words reason.ReplyToRep = codes "reply to REP"
reason_in_words reason.NoBuffer = codes "buffer temporarily unavailable"
reason_in_words reason.Overrun = codes "receive overrun"
reason_in_words reason.TooLong = codes "message too long"
reason_in_words reason.Format = codes "header format error"
reason_in_words (reason.Other n) = codes "other"

-- the reason of a NAK; other control frames have none
abbrev pub json_reason : ControlType → ℕ → List ℕ
json_reason Nak sub = member (codes "reason") (quoted (reason_in_words (reason_of sub)))
json_reason Ack sub = []
json_reason Rep sub = []
json_reason Strt sub = []
json_reason Stack sub = []

-- the name of a header as a value, and its fields as members after it
abbrev pub json_header : Header → List ℕ
json_header (Data h) = quoted (codes "DATA") ++ json_counted h
json_header (Maint h) = quoted (codes "MAINT") ++ json_counted h
json_header (Control h) =
    quoted (kind_text h.kind) ++ member (codes "sub") (decimal h.sub) ++ json_reason h.kind h.sub
    ++ json_fields h.flags h.resp h.num h.addr

-- A reader never reports the last two.
abbrev pub json_fault : HeaderFault → List ℕ
json_fault (BadType code) = member (codes "type") (decimal code)
json_fault CountZero = member (codes "count") (codes "0")
json_fault NotAStart = member (codes "fault") (quoted (codes "start"))
json_fault Check = member (codes "fault") (quoted (codes "check"))

-- an object begins with the offset of the start byte
abbrev pub json_start : ℕ → List ℕ
json_start offset = codes "{\"offset\":" ++ decimal offset

-- an item, without the end of its object
unfoldable pub json_item : Item → List ℕ
json_item (Good offset h) = json_start offset ++ member (codes "item") (json_header h)
json_item (HeaderCheck offset) =
    json_start offset ++ member (codes "item") (quoted (codes "header check"))
json_item (DataCheck offset h) =
    json_start offset ++ member (codes "item") (quoted (codes "data check"))
    ++ member (codes "of") (json_header h)
json_item (TooLong offset h) =
    json_start offset ++ member (codes "item") (quoted (codes "too long"))
    ++ member (codes "of") (json_header h)
json_item (Format offset fault) =
    json_start offset ++ member (codes "item") (quoted (codes "format")) ++ json_fault fault

-- the line of an item, up to its data
abbrev pub json_front : Item → List ℕ
json_front item = json_item item ++ (if lends item then codes ",\"data\":\"" else codes "}\n")

-- the data of a good frame, in hexadecimal
abbrev pub json_data : Item → List ℕ → List ℕ
json_data item lent =
    if lends item then member (codes "data") (quoted (encode_lower lent)) else []

-- the line of an item with its data
unfoldable pub json_line_of : ReadItem → List ℕ
json_line_of given = json_item given.0 ++ json_data given.0 given.1 ++ codes "}\n"

-- the totals: how many items, how many bytes, and how many of these in the incomplete frame
abbrev pub json_totals : ℕ → ℕ → ℕ → List ℕ
json_totals count bytes left_open =
    codes "{\"items\":" ++ decimal count ++ member (codes "bytes") (decimal bytes)
    ++ member (codes "open") (decimal left_open) ++ codes "}\n"
