-- The texts of labels and notes.
use Rattle.std.specs.Prelude.{ℕ, Bool, ◌-◌, if◌then◌else◌, nat_lt, ◌&&◌, ◌==◌, List, [], ◌∷◌}
use Rattle.std.specs.Prelude.{length, take, slice_index, codes, decimal, Option, Some, None}
use Rattle.ddcmp_core.specs.Table.{StationState, is_on}
use Rattle.ddcmp_core.specs.declared.counters.Counters.{Counters}
use Rattle.ddcmp_core.specs.declared.notice.Notice.{Notice}
use Rattle.ddcmp_explain.specs.Label.{frame_label}
use Rattle.ddcmp_frame.specs.Spelling.{parsed}
use Rattle.std.specs.Result.{result_ok}
use Rattle.ddcmp_frame.specs.declared.header.Header.{Header}
use Rattle.ddcmp_pair.specs.declared.event.Reply.{Reply}
use Rattle.ddcmp_pair.specs.declared.event.Reply.TheVariants as reply
use Rattle.ddcmp_line.specs.ScriptText.{start_refusal_text, clear_refusal_text}
use Rattle.ddcmp_line.specs.ScriptText.{send_refusal_text, expired_text}
use Rattle.ddcmp_station.specs.StationText.{notice_word, notice_number, state_text}
use Rattle.ddcmp_picture.specs.declared.short_text.ShortText.{ShortText}
use Rattle.ddcmp_picture.specs.ShortTexts.{no_text, is_blank, with_text, bytes_shown}

-- a short text of these words
abbrev pub words : List ℕ → ShortText
words text = with_text no_text text

abbrev pub with_number : ShortText → ℕ → ShortText
with_number t n = with_text t (decimal n)

-- ---- frames

-- a frame without the SYN bytes before it
unfoldable pub after_fill : List ℕ → List ℕ
after_fill [] = []
after_fill (byte ∷ rest) = if byte == 150 then after_fill rest else byte ∷ rest

-- the header of a frame, after its SYN fill
abbrev pub header_in : List ℕ → Option Header
header_in bytes =
    if nat_lt (length (after_fill bytes)) 8 then None
    else result_ok (parsed (take 8 (after_fill bytes)))

abbrev pub label_by : Option Header → List ℕ → ShortText
label_by (Some header) bytes = words (frame_label header)
label_by None bytes = with_text (words (codes "bytes: ")) (bytes_shown bytes)

-- the label of a frame, by its header; for bytes that have none, their digits
abbrev pub label_of : List ℕ → ShortText
label_of bytes = label_by (header_in bytes) bytes

-- ---- ends

abbrev pub with_count : ShortText → Option ℕ → ShortText
with_count t None = t
with_count t (Some n) = with_number t n

-- a notice, with its number if it has one
abbrev pub notice_label : Notice → ShortText
notice_label notice =
    with_count (with_text (words (codes "notice ")) (notice_word notice)) (notice_number notice)

-- Appends the name of a fault, if it is there. Faults are recognised by the counters before and
-- now, and each is named once.
unfoldable pub with_fault : Bool → List ℕ → ShortText → ShortText
with_fault is_there fault t =
    if is_there then with_text (if is_blank t then t else with_text t (codes ", ")) fault else t

abbrev pub faults_label : Counters → Counters → ShortText
faults_label before now =
    with_fault (nat_lt before.formats now.formats) (codes "header format error")
    (with_fault (nat_lt before.too_longs now.too_longs) (codes "message too long")
    (with_fault (nat_lt before.data_checks now.data_checks) (codes "data check wrong")
    (with_fault (nat_lt before.header_checks now.header_checks) (codes "header check wrong")
    no_text)))

-- the state of a station and its numbers
abbrev pub numbers_label : StationState → ShortText
numbers_label s =
    with_number (with_text (with_number (with_text (with_number (with_text (with_number (with_text
    (words (state_text s.state)) (codes " R=")) s.r) (codes " N=")) s.n) (codes " A=")) s.a)
    (codes " T=")) s.t

-- how many messages are in its send queue and in its inbox, and whether its timer is on
abbrev pub holding_label : StationState → ShortText
holding_label s =
    with_text (with_number (with_text (with_number (words (codes "out=")) (length s.out))
    (codes " in=")) (length s.inbox))
    (if is_on s.timer then codes " timer=on" else codes " timer=off")

-- a line without the LF at its end
abbrev pub line_of : List ℕ → List ℕ
line_of text =
    if nat_lt 0 (length text) && (slice_index text (length text - 1) == 10)
    then take (length text - 1) text else text

-- the text of a reply
abbrev pub reply_label : Reply → ShortText
reply_label (reply.Started dropped) =
    if dropped == 0 then words (codes "start")
    else with_number (words (codes "start, dropped ")) dropped
reply_label (reply.StartRefused refusal) = words (line_of (start_refusal_text refusal))
reply_label reply.Halted = words (codes "halt")
reply_label (reply.Accepted number) = with_number (words (codes "send ")) number.0
reply_label (reply.SendRefused refusal) = words (line_of (send_refusal_text refusal))
reply_label (reply.Wrote bytes) = no_text
reply_label reply.Idle = words (codes "idle")
reply_label (reply.Notices notices) = no_text
reply_label (reply.Expired was_on) = words (line_of (expired_text was_on))
reply_label (reply.Took message) = with_text (words (codes "took ")) (bytes_shown message)
reply_label reply.Nothing = words (codes "nothing to take")
reply_label reply.Cleared = words (codes "line cleared")
reply_label (reply.ClearRefused refusal) =
    with_text (words (codes "line not cleared: ")) (line_of (clear_refusal_text refusal))
