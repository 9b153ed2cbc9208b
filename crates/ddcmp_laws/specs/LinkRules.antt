-- Definitions for the laws of a link's own rules.
use Rattle.std.specs.Prelude.{◌≡◌, true, ◌++◌}
use Rattle.ddcmp_core.specs.Naks.{subtype_of}
use Rattle.ddcmp_core.specs.Table.{Frame, Naked, next, after_next}
use Rattle.ddcmp_proto.specs.Bytes.{frame_on_line}
use Rattle.ddcmp_station.specs.Linking.{LinkView, puts_frame}
use Rattle.ddcmp_laws.specs.Links.{LinkCall, Wakes}

-- a NAK of a full inbox, which has the SUBTYPE 8
abbrev pub AsksForABuffer : Frame → Type 0
AsksForABuffer (Naked why resp) = subtype_of why ≡ 8
AsksForABuffer _ = ⊥

-- The whole frame is queued after the bytes pending for the line, and the station has sent it.
pub record PutsFrame (f : Frame) (before after : LinkView) : Type 0 where
  pub puts : puts_frame before ≡ true
  pub waiting : after.outbox.waiting
      ≡ before.outbox.waiting ++ frame_on_line before.station.syn f
  pub sent : after.station.core.station
      ≡ after_next (next before.station.core.station) before.station.core.station

-- any call but `wake`
abbrev pub IsNoWake : LinkCall → Type 0
IsNoWake (Wakes now) = ⊥
IsNoWake _ = Unit {0}
