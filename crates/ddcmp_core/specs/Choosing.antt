-- When a station acknowledges messages: the user's choice, and all messages taken at once.
use Rattle.std.specs.Prelude.{Bool, if◌then◌else◌, [], Result}
use Rattle.ddcmp_window.specs.Sender.{answer_unless}
use Rattle.ddcmp_core.specs.declared.station_core.StartRefusal.{StartRefusal}
use Rattle.ddcmp_core.specs.Table.{StationState, acknowledges_by_take, may_start, owed_after_take}
use Rattle.ddcmp_core.specs.Table.{start_refusal}

-- all messages are taken
abbrev pub after_take_all : StationState → StationState
after_take_all s = record s {
  inbox = [];
  reply = if acknowledges_by_take s then owed_after_take s.reply else s.reply;
}

-- acknowledge_on_take: in Halted with an empty inbox, as for a start
abbrev pub after_choose : Bool → StationState → StationState
after_choose by_user s = record s { by_user = by_user }

abbrev pub chosen : Bool → StationState → StationState
chosen by_user s = if may_start s then after_choose by_user s else s

abbrev pub answer_to_choose : StationState → Result (Unit {0}) StartRefusal
answer_to_choose s = answer_unless (start_refusal s) tt
