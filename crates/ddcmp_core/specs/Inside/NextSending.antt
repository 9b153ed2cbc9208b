-- The frame that a core is to send next, as a row of the table.
use Rattle.std.specs.Prelude.{◌≡◌, ◌<◌, true, false, [], length, drop, slice_index_or}
use Rattle.ddcmp_core.specs.declared.state.State.TheVariants.{Running, Maintenance}
use Rattle.ddcmp_core.specs.declared.state.Owed.TheVariants.{Quiet}
use Rattle.ddcmp_core.specs.declared.state.Timer.TheVariants.{Fresh}
use Rattle.ddcmp_core.specs.declared.station_core.sender.Sending.{Sending}
use Rattle.ddcmp_core.specs.declared.station_core.sender.Sending.TheVariants as sending
use Rattle.ddcmp_core.specs.Table.{StationState, resp_of, Data, Acked, Naked, Rep, Strt, Stack}
use Rattle.ddcmp_core.specs.Table.{Maint, Next}
use Rattle.ddcmp_core.specs.Table.{Idle, Sends, before_next, message_at_next, after_data}
use Rattle.ddcmp_core.specs.Core.{is_sent_reason}

-- the row: the frame that is sent, and the station after it
abbrev pub next_of : Sending → StationState → Next
next_of sending.Nothing s = Idle
next_of sending.Strt s = Sends Strt (record s { due = false; timer = Fresh })
next_of sending.Stack s = Sends Stack (record s { due = false; timer = Fresh })
next_of (sending.Nak why) s = Sends (Naked why (resp_of s)) (record s { reply = Quiet })
next_of sending.Rep s = Sends (Rep s.n) (record s { rep = false; timer = Fresh })
next_of (sending.Data number bytes) s =
    Sends (Data (resp_of s) s.t (message_at_next s)) (after_data s)
next_of sending.Ack s = Sends (Acked (resp_of s)) (record s { reply = Quiet })
next_of (sending.Maint bytes) s =
    Sends (Maint (slice_index_or s.out 0 [])) (record s { out = drop 1 s.out })

-- the reason is one that a station sends; number and length are those of the next message
abbrev pub FitsSending : Sending → StationState → Type 0
FitsSending (sending.Nak why) s = is_sent_reason why ≡ true
FitsSending (sending.Data number bytes) s = (s.state ≡ Running) × (before_next s < length s.out)
    × (number.0 ≡ s.t)
    × (bytes ≡ length (message_at_next s))
FitsSending (sending.Maint bytes) s = (s.state ≡ Maintenance) × (0 < length s.out)
    × (bytes ≡ length (slice_index_or s.out 0 []))
FitsSending _ s = Unit {0}
