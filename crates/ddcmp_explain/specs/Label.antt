-- The short label of a frame, for pictures.
use Rattle.std.specs.Prelude.{ℕ, List, ◌++◌, ◌==◌, codes, decimal, if◌then◌else◌}
use Rattle.ddcmp_frame.specs.declared.header.ControlType.{ControlType}
use Rattle.ddcmp_frame.specs.declared.header.ControlType.TheVariants.{Ack, Nak, Rep, Strt, Stack}
use Rattle.ddcmp_frame.specs.declared.header.Header.{Header}
use Rattle.ddcmp_frame.specs.declared.header.Header.TheVariants.{Data, Maint, Control}
use Rattle.ddcmp_frame.specs.declared.item.Item.{Item}
use Rattle.ddcmp_frame.specs.declared.item.Item.TheVariants.{Good, HeaderCheck, DataCheck, TooLong}
use Rattle.ddcmp_frame.specs.declared.item.Item.TheVariants.{Format}
use Rattle.ddcmp_frame.specs.Naks.{reason_of}
use Rattle.ddcmp_explain.specs.Json.{reason_in_words}
use Rattle.ddcmp_explain.specs.Text.{fault_text}

-- for a control frame, the fields that have a meaning, and the reason of a NAK
abbrev pub control_label : ControlType → ℕ → ℕ → ℕ → List ℕ
control_label Ack sub resp num = codes "ACK resp=" ++ decimal resp
control_label Nak sub resp num =
    codes "NAK " ++ decimal sub ++ codes " (" ++ reason_in_words (reason_of sub) ++ codes ") resp="
    ++ decimal resp
control_label Rep sub resp num = codes "REP " ++ decimal num
control_label Strt sub resp num = codes "STRT"
control_label Stack sub resp num = codes "STACK"

-- how many bytes of data a frame has
abbrev pub count_label : ℕ → List ℕ
count_label count =
    codes " (" ++ decimal count ++ (if count == 1 then codes " byte)" else codes " bytes)")

abbrev pub frame_label : Header → List ℕ
frame_label (Data h) =
    codes "DATA " ++ decimal h.num ++ codes " resp=" ++ decimal h.resp ++ count_label h.count
frame_label (Maint h) = codes "MAINT" ++ count_label h.count
frame_label (Control h) = control_label h.kind h.sub h.resp h.num

-- the label of any item, good or not
unfoldable pub item_label : Item → List ℕ
item_label (Good offset h) = frame_label h
item_label (HeaderCheck offset) = codes "header check"
item_label (DataCheck offset h) = codes "data check " ++ frame_label h
item_label (TooLong offset h) = codes "too long " ++ frame_label h
item_label (Format offset fault) = codes "format " ++ fault_text fault
