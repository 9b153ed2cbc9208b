-- The numbers of results in C.
use Rattle.std.specs.Prelude.{ℕ, ◌||◌, if◌then◌else◌, List, [], ◌∷◌, Option, Some, None, Result, Ok}
use Rattle.std.specs.Prelude.{Err, not, nat_eq}
use Rattle.ddcmp_num.specs.declared.seq.Seq.{Seq}
use Rattle.ddcmp_proto.specs.declared.config.Config.{Config}
use Rattle.ddcmp_proto.specs.declared.config.ConfigRefusal.{ConfigRefusal}
use Rattle.ddcmp_proto.specs.declared.config.ConfigRefusal.TheVariants as config
use Rattle.ddcmp_core.specs.declared.station_core.StartRefusal.{StartRefusal}
use Rattle.ddcmp_core.specs.declared.station_core.StartRefusal.TheVariants as start
use Rattle.ddcmp_core.specs.declared.state.State.{State}
use Rattle.ddcmp_core.specs.declared.state.State.TheVariants as state
use Rattle.ddcmp_core.specs.declared.notice.Notice.{Notice}
use Rattle.ddcmp_core.specs.declared.notice.Notice.TheVariants as notice
use Rattle.ddcmp_core.specs.declared.counters.Counters.{Counters}
use Rattle.ddcmp_core.specs.declared.counters.NakCounts.{NakCounts}
use Rattle.ddcmp_window.specs.declared.sender.SendRefusal.{SendRefusal}
use Rattle.ddcmp_window.specs.declared.sender.SendRefusal.TheVariants as send
use Rattle.ddcmp_c.specs.declared.values.CConfig.{CConfig}
use Rattle.ddcmp_c.specs.declared.values.CNotice.{CNotice}
use Rattle.ddcmp_c.specs.declared.values.CCounters.{CCounters}
use Rattle.ddcmp_c.specs.declared.values.CNakCounts.{CNakCounts}
use Rattle.ddcmp_c.specs.declared.values.CNumbers.{CNumbers}
use Rattle.ddcmp_core.specs.Table.{StationState}

abbrev pub code_of_config : ConfigRefusal → ℕ
code_of_config config.Window = 1
code_of_config config.Inbox = 2
code_of_config config.Max = 3
code_of_config config.Syn = 4
code_of_config config.Memory = 5

abbrev pub code_of_start_answer : Result ℕ StartRefusal → ℕ
code_of_start_answer (Ok n) = 0
code_of_start_answer (Err start.NotHalted) = 8
code_of_start_answer (Err start.Untaken) = 9

abbrev pub code_of_choose_answer : Result (Unit {0}) StartRefusal → ℕ
code_of_choose_answer (Ok u) = 0
code_of_choose_answer (Err start.NotHalted) = 8
code_of_choose_answer (Err start.Untaken) = 9

abbrev pub code_of_refusal : SendRefusal → ℕ
code_of_refusal send.WrongState = 10
code_of_refusal send.Empty = 11
code_of_refusal send.TooLong = 12
code_of_refusal send.WindowFull = 13

-- 0 if it would be accepted
abbrev pub code_of_send_refusal : Option SendRefusal → ℕ
code_of_send_refusal None = 0
code_of_send_refusal (Some r) = code_of_refusal r

abbrev pub code_of_send_answer : Result Seq SendRefusal → ℕ
code_of_send_answer (Ok n) = 0
code_of_send_answer (Err r) = code_of_refusal r

abbrev pub code_of_send_maintenance_answer : Result (Unit {0}) SendRefusal → ℕ
code_of_send_maintenance_answer (Ok u) = 0
code_of_send_maintenance_answer (Err r) = code_of_refusal r

abbrev pub code_of_state : State → ℕ
code_of_state state.Halted = 0
code_of_state state.IStart = 1
code_of_state state.AStart = 2
code_of_state state.Running = 3
code_of_state state.Maintenance = 4

-- the first of the notices
abbrev pub code_of_notices : List Notice → CNotice
code_of_notices [] = record { kind = 0; count = 0 }
code_of_notices (notice.Running ∷ rest) = record { kind = 1; count = 0 }
code_of_notices (notice.RunningAndHandedUp ∷ rest) = record { kind = 2; count = 0 }
code_of_notices (notice.Acknowledged m ∷ rest) = record { kind = 3; count = m }
code_of_notices (notice.HandedUp ∷ rest) = record { kind = 4; count = 0 }
code_of_notices (notice.HandedUpAndAcknowledged m ∷ rest) = record { kind = 5; count = m }
code_of_notices (notice.PeerStarts ∷ rest) = record { kind = 6; count = 0 }
code_of_notices (notice.PeerRestarted ∷ rest) = record { kind = 7; count = 0 }
code_of_notices (notice.Restarted m ∷ rest) = record { kind = 8; count = m }
code_of_notices (notice.MaintenanceSeen ∷ rest) = record { kind = 9; count = 0 }
code_of_notices (notice.MaintenanceHandedUp ∷ rest) = record { kind = 10; count = 0 }
code_of_notices (notice.MaintenanceDropped ∷ rest) = record { kind = 11; count = 0 }

-- how many messages a notice reports acknowledged
abbrev pub acknowledged_of : CNotice → ℕ
acknowledged_of c = if nat_eq c.kind 3 || nat_eq c.kind 5 then c.count else 0

-- the sizes that C passed
abbrev pub taken_config : CConfig → Config
taken_config c = record {
  window = c.window;
  inbox = c.inbox;
  max = c.max;
  syn = c.syn;
  restart = not (nat_eq c.restart 0);
}

-- the counters, for C
abbrev pub given_nak_counts : NakCounts → CNakCounts
given_nak_counts c = record {
  header_check = c.header_check;
  data_check = c.data_check;
  reply_to_rep = c.reply_to_rep;
  no_buffer = c.no_buffer;
  overrun = c.overrun;
  too_long = c.too_long;
  format = c.format;
  other = c.other;
}

abbrev pub given_counters : Counters → CCounters
given_counters c = record {
  nak_sent = given_nak_counts c.nak_sent;
  nak_received = given_nak_counts c.nak_received;
  rep_sent = c.rep_sent;
  rep_received = c.rep_received;
  messages_sent = c.messages_sent;
  bytes_sent = c.bytes_sent;
  messages_again = c.messages_again;
  bytes_again = c.bytes_again;
  messages_up = c.messages_up;
  bytes_up = c.bytes_up;
  expiries = c.expiries;
  header_checks = c.header_checks;
  data_checks = c.data_checks;
  too_longs = c.too_longs;
  formats = c.formats;
}

-- the numbers of a station, for C
abbrev pub given_numbers : StationState → CNumbers
given_numbers s = record { r = s.r; n = s.n; a = s.a; t = s.t }

-- the sizes, for C
abbrev pub given_config : Config → CConfig
given_config c = record {
  window = c.window;
  inbox = c.inbox;
  max = c.max;
  syn = c.syn;
  restart = if c.restart then 1 else 0;
}
