-- The reasons of NAKs, in words.
use Rattle.std.specs.Prelude.{ℕ, List, ◌++◌, codes, Option, Some, None}
use Rattle.ddcmp_frame.specs.declared.header.ControlType.{ControlType}
use Rattle.ddcmp_frame.specs.declared.header.ControlType.TheVariants.{Ack, Nak, Rep, Strt, Stack}
use Rattle.ddcmp_frame.specs.declared.header.Header.TheVariants.{Data, Maint, Control}
use Rattle.ddcmp_frame.specs.declared.item.Item.{Item}
use Rattle.ddcmp_frame.specs.declared.item.Item.TheVariants.{Good, HeaderCheck, DataCheck, TooLong}
use Rattle.ddcmp_frame.specs.declared.item.Item.TheVariants.{Format}
use Rattle.ddcmp_frame.specs.declared.nak.Nak.{Nak as Reason}
use Rattle.ddcmp_frame.specs.Naks.{reason_of}
use Rattle.ddcmp_frame.specs.Reading.{ReadItem}
use Rattle.ddcmp_explain.specs.Json.{reason_in_words}
use Rattle.ddcmp_explain.specs.Text.{item_text, line_of}
use Rattle.ddcmp_log.specs.declared.side.Side.{Side}
use Rattle.ddcmp_log.specs.declared.side.Stamp.{Stamp}
use Rattle.ddcmp_log.specs.Logged.{plain_front}

-- why a NAK was sent
abbrev pub reason_by : ControlType → ℕ → Option Reason
reason_by Nak sub = Some (reason_of sub)
reason_by Ack sub = None
reason_by Rep sub = None
reason_by Strt sub = None
reason_by Stack sub = None

abbrev pub reason_in : Item → Option Reason
reason_in (Good offset (Control h)) = reason_by h.kind h.sub
reason_in (Good offset (Data h)) = None
reason_in (Good offset (Maint h)) = None
reason_in (HeaderCheck offset) = None
reason_in (DataCheck offset h) = None
reason_in (TooLong offset h) = None
reason_in (Format offset fault) = None

-- an item with its data; a NAK, which has none, with its reason
abbrev pub with_reason : Option Reason → ReadItem → List ℕ
with_reason None given = line_of given
with_reason (Some reason) given =
    item_text given.0 ++ codes " (" ++ reason_in_words reason ++ codes ")\n"

-- the line of an item, with the reason of a NAK
abbrev pub reasoned_line : Option Stamp → Side → ReadItem → List ℕ
reasoned_line stamp side given =
    plain_front stamp side ++ with_reason (reason_in given.0) given
