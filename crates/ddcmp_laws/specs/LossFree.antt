-- A line without loss: the bytes that an end writes are in flight to the other, and arrive there
-- from the front, in chunks of any size.
use Rattle.std.specs.Prelude.{◌≡◌, ℕ, false, List, [], ◌∷◌, ◌++◌, length, drop, Option, Some, None}
use Rattle.std.specs.List.{All}
use Rattle.ddcmp_frame.specs.Reading.{ReadItem, open_at_end}
use Rattle.ddcmp_core.specs.Core.{IsSound, IsReceivable}
use Rattle.ddcmp_proto.specs.Bytes.{received_of, items_added}
use Rattle.ddcmp_io.specs.declared.carrier.End.TheVariants.{A, B}
use Rattle.ddcmp_pair.specs.declared.event.Event.{Event}
use Rattle.ddcmp_pair.specs.declared.event.Event.TheVariants as event
use Rattle.ddcmp_pair.specs.Run.{EndState, PairState, line_bytes, after_event}

-- Two ends, and the bytes in flight to each.
pub record Line : Type 0 where
  pub pair : PairState
  pub to_a : List ℕ
  pub to_b : List ℕ

-- nothing is in flight
abbrev pub empty_line : PairState → Line
empty_line p = record { pair = p; to_a = []; to_b = [] }

abbrev pub bytes_or_none : Option (List ℕ) → List ℕ
bytes_or_none None = []
bytes_or_none (Some bytes) = bytes

-- ---- what an event does on a line

abbrev pub after_on_line : Event → Line → Line
after_on_line (event.Poll A) l = record {
  pair = after_event (event.Poll A) l.pair;
  to_a = l.to_a;
  to_b = l.to_b ++ bytes_or_none (line_bytes l.pair.a);
}
after_on_line (event.Poll B) l = record {
  pair = after_event (event.Poll B) l.pair;
  to_a = l.to_a ++ bytes_or_none (line_bytes l.pair.b);
  to_b = l.to_b;
}
after_on_line (event.Arrive A bytes) l = record {
  pair = after_event (event.Arrive A bytes) l.pair;
  to_a = drop (length bytes) l.to_a;
  to_b = l.to_b;
}
after_on_line (event.Arrive B bytes) l = record {
  pair = after_event (event.Arrive B bytes) l.pair;
  to_a = l.to_a;
  to_b = drop (length bytes) l.to_b;
}
after_on_line e l = record { pair = after_event e l.pair; to_a = l.to_a; to_b = l.to_b }

-- these bytes are a prefix of those in flight
abbrev pub ComesFirst : List ℕ → List ℕ → Type 0
ComesFirst bytes way = (rest : List ℕ) × (bytes ++ rest ≡ way)

-- Bytes arrive from the front of those in flight. The line isn't cleared.
abbrev pub LosesNothing : Event → Line → Type 0
LosesNothing (event.Arrive A bytes) l = ComesFirst bytes l.to_a
LosesNothing (event.Arrive B bytes) l = ComesFirst bytes l.to_b
LosesNothing event.Clear l = ⊥
LosesNothing e l = Unit {0}

-- none of these events loses anything
abbrev pub IsLossFree : List Event → Line → Type 0
IsLossFree [] l = Unit {0}
IsLossFree (e ∷ rest) l = LosesNothing e l × IsLossFree rest (after_on_line e l)

-- a line after these events
unfoldable pub run_on_line : List Event → Line → Line
run_on_line [] l = l
run_on_line (e ∷ rest) l = run_on_line rest (after_on_line e l)

-- ---- where it starts

-- The bytes in flight to this end complete any frame that is partly read and leave none unfinished,
-- and the station can receive each item in them.
pub record ComesWhole (x : EndState) (way : List ℕ) : Type 0 where
  pub closed : open_at_end x.core.limits.longest (x.arrived ++ way) ≡ 0
  pub receivable : All (λ (g : ReadItem). IsReceivable x.core.limits (received_of g))
      (items_added x.core.limits.longest x.arrived way)

-- both stations acknowledge messages when they are received, and not when they are taken
pub record IsEarly (p : PairState) : Type 0 where
  pub a : p.a.core.station.by_user ≡ false
  pub b : p.b.core.station.by_user ≡ false

-- Both stations are sound, accept messages of the same lengths and acknowledge them when they are
-- received, and all that is in flight arrives whole.
pub record IsWhole (l : Line) : Type 0 where
  pub sound_a : IsSound l.pair.a.core.limits l.pair.a.core.station
  pub sound_b : IsSound l.pair.b.core.limits l.pair.b.core.station
  pub same : l.pair.a.core.limits.longest ≡ l.pair.b.core.limits.longest
  pub whole_a : ComesWhole l.pair.a l.to_a
  pub whole_b : ComesWhole l.pair.b l.to_b
  pub early : IsEarly l.pair
