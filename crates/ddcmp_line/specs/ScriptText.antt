-- What a script writes for replies, and its last lines.
use Rattle.std.specs.Prelude.{ℕ, Bool, if◌then◌else◌, List, [], ◌++◌, length, codes, decimal}
use Rattle.std.specs.Prelude.{Option, Some, None}
use Rattle.std.specs.List.{flat_map}
use Rattle.hex.specs.Hex.{encode_lower}
use Rattle.ddcmp_core.specs.declared.station_core.StartRefusal.{StartRefusal}
use Rattle.ddcmp_core.specs.declared.station_core.StartRefusal.TheVariants.{NotHalted, Untaken}
use Rattle.ddcmp_core.specs.SendRefusal.{SendRefusal}
use Rattle.ddcmp_core.specs.SendRefusal.TheVariants.{WrongState, Empty, TooLong, WindowFull}
use Rattle.ddcmp_core.specs.Table.{StationState, is_on}
use Rattle.ddcmp_station.specs.StationText.{notice_line, state_text}
use Rattle.ddcmp_station.specs.CountersText.{counters_line}
use Rattle.ddcmp_io.specs.declared.carrier.End.{End}
use Rattle.ddcmp_io.specs.declared.carrier.End.TheVariants.{A, B}
use Rattle.ddcmp_pair.specs.declared.event.Reply.{Reply}
use Rattle.ddcmp_pair.specs.declared.event.Reply.TheVariants as reply
use Rattle.ddcmp_pair.specs.Run.{PairState, handed_up, is_clean}

-- the name of the end that replies, at the beginning of a line
abbrev pub end_name : End → List ℕ
end_name A = codes "A "
end_name B = codes "B "

-- the same; empty, if the reply is for both ends
abbrev pub name_before : Option End → List ℕ
name_before (Some e) = end_name e
name_before None = []

abbrev pub start_refusal_text : StartRefusal → List ℕ
start_refusal_text NotHalted = codes "start refused NotHalted\n"
start_refusal_text Untaken = codes "start refused Untaken\n"

abbrev pub clear_refusal_text : StartRefusal → List ℕ
clear_refusal_text NotHalted = codes "not halted\n"
clear_refusal_text Untaken = codes "untaken\n"

abbrev pub send_refusal_text : SendRefusal → List ℕ
send_refusal_text WrongState = codes "send refused WrongState\n"
send_refusal_text Empty = codes "send refused Empty\n"
send_refusal_text TooLong = codes "send refused TooLong\n"
send_refusal_text WindowFull = codes "send refused WindowFull\n"

abbrev pub expired_text : Bool → List ℕ
expired_text was_on = if was_on then codes "expired\n" else codes "timer off\n"

-- a line with a number, or with bytes, after its words
abbrev pub counted_line : List ℕ → List ℕ → ℕ → List ℕ
counted_line who words n = who ++ words ++ decimal n ++ codes "\n"

abbrev pub bytes_line : List ℕ → List ℕ → List ℕ → List ℕ
bytes_line who words bytes = who ++ words ++ encode_lower bytes ++ codes "\n"

-- the text of a reply
unfoldable pub reply_text : List ℕ → Reply → List ℕ
reply_text who (reply.Started dropped) = counted_line who (codes "started dropped=") dropped
reply_text who (reply.StartRefused refusal) = who ++ start_refusal_text refusal
reply_text who reply.Halted = who ++ codes "halted\n"
reply_text who (reply.Accepted number) = counted_line who (codes "accepted ") number.0
reply_text who (reply.SendRefused refusal) = who ++ send_refusal_text refusal
reply_text who (reply.Wrote bytes) = bytes_line who (codes "wrote ") bytes
reply_text who reply.Idle = who ++ codes "idle\n"
reply_text who (reply.Notices notices) = flat_map (notice_line who) notices
reply_text who (reply.Expired was_on) = who ++ expired_text was_on
reply_text who (reply.Took message) = bytes_line who (codes "took ") message
reply_text who reply.Nothing = who ++ codes "nothing\n"
reply_text who reply.Cleared = who ++ codes "cleared\n"
reply_text who (reply.ClearRefused refusal) = who ++ clear_refusal_text refusal

abbrev pub timer_text : Bool → List ℕ
timer_text on = if on then codes " timer=on\n" else codes " timer=off\n"

abbrev pub numbers_text : StationState → List ℕ
numbers_text s =
    state_text s.state ++ codes " R=" ++ decimal s.r ++ codes " N=" ++ decimal s.n ++ codes " A="
    ++ decimal s.a ++ codes " T=" ++ decimal s.t

-- the line of a station
abbrev pub station_line : List ℕ → StationState → List ℕ
station_line who s =
    who ++ numbers_text s ++ codes " out=" ++ decimal (length s.out) ++ codes " in="
    ++ decimal (length s.inbox) ++ timer_text (is_on s.timer)

abbrev pub quiet_text : Bool → List ℕ
quiet_text quiet = if quiet then codes " quiet\n" else codes " busy\n"

-- the line of a settle
abbrev pub settled_text : ℕ → Bool → List ℕ
settled_text exchanges quiet = codes "settled " ++ decimal exchanges ++ quiet_text quiet

-- the line of a recovery: the exchanges of each of its settles, and whether all was done
abbrev pub done_text : Bool → List ℕ
done_text is_done = if is_done then codes "done\n" else codes "unfinished\n"

abbrev pub count_text : ℕ → List ℕ
count_text exchanges = decimal exchanges ++ codes " "

abbrev pub recovered_text : List ℕ → Bool → List ℕ
recovered_text exchanges is_done =
    codes "recovered " ++ flat_map count_text exchanges ++ done_text is_done

-- the result of damaging a byte
abbrev pub damage_text : Bool → Bool → List ℕ
damage_text is_empty is_there =
    if is_empty then codes "empty\n"
    else if is_there then codes "damaged\n" else codes "no byte\n"

abbrev pub yes_or_no : Bool → List ℕ
yes_or_no is = if is then codes "yes" else codes "no"

-- the last line: a summary since the line was cleared
abbrev pub totals_line : PairState → List ℕ
totals_line p =
    codes "honest " ++ yes_or_no p.honest ++ codes " clean " ++ yes_or_no (is_clean p)
    ++ codes " up A=" ++ decimal (length (handed_up p.a)) ++ codes " B="
    ++ decimal (length (handed_up p.b)) ++ codes " acked A=" ++ decimal p.a.acknowledged
    ++ codes " B=" ++ decimal p.b.acknowledged ++ codes "\n"

-- the counters of both stations, one line each
abbrev pub counters_lines : PairState → List ℕ
counters_lines p =
    counters_line (end_name A) p.a.core.counters ++ counters_line (end_name B) p.b.core.counters

-- the end of the text: the counters, if requested, and the last line
abbrev pub closing_text : Bool → PairState → List ℕ
closing_text counted p =
    if counted then counters_lines p ++ totals_line p else totals_line p
