-- The counters after each call.
use Rattle.std.specs.Prelude.{ℕ, ◌+◌, Bool, ◌&&◌, if◌then◌else◌, ◌==◌, min, length}
use Rattle.ddcmp_frame.specs.declared.nak.Nak.{Nak as Reason}
use Rattle.ddcmp_frame.specs.declared.nak.Nak.TheVariants as reason
use Rattle.ddcmp_window.specs.Numbers.{next_number}
use Rattle.ddcmp_core.specs.declared.counters.NakCounts.{NakCounts}
use Rattle.ddcmp_core.specs.declared.counters.Counters.{Counters}
use Rattle.ddcmp_core.specs.declared.state.State.{State}
use Rattle.ddcmp_core.specs.declared.state.State.TheVariants.{Halted, IStart, AStart, Running}
use Rattle.ddcmp_core.specs.declared.state.State.TheVariants.{Maintenance}
use Rattle.ddcmp_core.specs.Table.{Limits, StationState, Data, Naked, Rep, Maint, Received, Good}
use Rattle.ddcmp_core.specs.Table.{BadHeader, BadData, TooLong, BadFormat, Next, Sends, takes_data}
use Rattle.ddcmp_core.specs.Table.{has_room, is_on}

-- a counter after k more: it stays at its largest value
abbrev pub count_plus : ℕ → ℕ → ℕ
count_plus count k = min (count + k) 4294967295

abbrev pub no_naks : NakCounts
no_naks =
    record {
      header_check = 0;
      data_check = 0;
      reply_to_rep = 0;
      no_buffer = 0;
      overrun = 0;
      too_long = 0;
      format = 0;
      other = 0;
    }

abbrev pub no_counts : Counters
no_counts = record {
  nak_sent = no_naks;
  nak_received = no_naks;
  rep_sent = 0;
  rep_received = 0;
  messages_sent = 0;
  bytes_sent = 0;
  messages_again = 0;
  bytes_again = 0;
  messages_up = 0;
  bytes_up = 0;
  expiries = 0;
  header_checks = 0;
  data_checks = 0;
  too_longs = 0;
  formats = 0;
}

-- one NAK of a reason
abbrev pub nak_counts_after : Reason → NakCounts → NakCounts
nak_counts_after reason.HeaderCheck c = record c { header_check = count_plus c.header_check 1 }
nak_counts_after reason.DataCheck c = record c { data_check = count_plus c.data_check 1 }
nak_counts_after reason.ReplyToRep c = record c { reply_to_rep = count_plus c.reply_to_rep 1 }
nak_counts_after reason.NoBuffer c = record c { no_buffer = count_plus c.no_buffer 1 }
nak_counts_after reason.Overrun c = record c { overrun = count_plus c.overrun 1 }
nak_counts_after reason.TooLong c = record c { too_long = count_plus c.too_long 1 }
nak_counts_after reason.Format c = record c { format = count_plus c.format 1 }
nak_counts_after (reason.Other n) c = record c { other = count_plus c.other 1 }

-- a message of this many bytes is sent for the first time, retransmitted, or put into the inbox
abbrev pub counters_after_sent : ℕ → Counters → Counters
counters_after_sent bytes c =
    record c {
      messages_sent = count_plus c.messages_sent 1;
      bytes_sent = count_plus c.bytes_sent bytes;
    }

abbrev pub counters_after_again : ℕ → Counters → Counters
counters_after_again bytes c =
    record c {
      messages_again = count_plus c.messages_again 1;
      bytes_again = count_plus c.bytes_again bytes;
    }

abbrev pub counters_after_up : ℕ → Counters → Counters
counters_after_up bytes c =
    record c { messages_up = count_plus c.messages_up 1; bytes_up = count_plus c.bytes_up bytes }

-- ---- input

-- in every state
abbrev pub counters_after_fault : Received → Counters → Counters
counters_after_fault (Good frame) c = c
counters_after_fault BadHeader c = record c { header_checks = count_plus c.header_checks 1 }
counters_after_fault (BadData of_data) c = record c { data_checks = count_plus c.data_checks 1 }
counters_after_fault (TooLong of_data) c = record c { too_longs = count_plus c.too_longs 1 }
counters_after_fault BadFormat c = record c { formats = count_plus c.formats 1 }

abbrev pub counters_after_up_if : Bool → ℕ → Counters → Counters
counters_after_up_if up bytes c = if up then counters_after_up bytes c else c

abbrev pub running_counters : Limits → StationState → Received → Counters → Counters
running_counters l s (Good (Naked why resp)) c =
    record c { nak_received = nak_counts_after why c.nak_received }
running_counters l s (Good (Rep num)) c = record c { rep_received = count_plus c.rep_received 1 }
running_counters l s (Good (Data resp num message)) c =
    counters_after_up_if (takes_data l s num) (length message) c
running_counters l s _ c = c

abbrev pub astart_counters : Limits → StationState → Received → Counters → Counters
astart_counters l s (Good (Data resp num message)) c =
    counters_after_up_if (resp == 0 && takes_data l s num) (length message) c
astart_counters l s _ c = c

abbrev pub maintenance_counters : Limits → StationState → Received → Counters → Counters
maintenance_counters l s (Good (Maint message)) c =
    counters_after_up_if (has_room l s) (length message) c
maintenance_counters l s _ c = c

abbrev pub counters_by : State → Limits → StationState → Received → Counters → Counters
counters_by Halted l s h c = c
counters_by IStart l s h c = c
counters_by AStart l s h c = astart_counters l s h c
counters_by Running l s h c = running_counters l s h c
counters_by Maintenance l s h c = maintenance_counters l s h c

unfoldable pub counters_on : Limits → StationState → Received → Counters → Counters
counters_on l s h c = counters_by s.state l s h (counters_after_fault h c)

-- ---- sent frames, and expiries

unfoldable pub counters_after_next : StationState → Next → Counters → Counters
counters_after_next s (Sends (Naked why resp) u) c =
    record c { nak_sent = nak_counts_after why c.nak_sent }
counters_after_next s (Sends (Rep num) u) c = record c { rep_sent = count_plus c.rep_sent 1 }
counters_after_next s (Sends (Data resp num message) u) c =
    if num == next_number s.n
    then counters_after_sent (length message) c
    else counters_after_again (length message) c
counters_after_next s (Sends (Maint message) u) c = counters_after_sent (length message) c
counters_after_next s _ c = c

abbrev pub counters_after_expire : StationState → Counters → Counters
counters_after_expire s c =
    record c { expiries = if is_on s.timer then count_plus c.expiries 1 else c.expiries }
