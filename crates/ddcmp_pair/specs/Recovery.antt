-- Recovery: a line settles, and then twice both timers expire and it settles again.
use Rattle.std.specs.Prelude.{◌≡◌, ℕ, ◌+◌, ◌*◌, ◌≤◌, max, Bool, true, not, ◌&&◌, ◌==◌, List, []}
use Rattle.std.specs.Prelude.{◌∷◌, ◌++◌, length, bytes_eq}
use Rattle.std.specs.List.{All}
use Rattle.std.specs.Cmp.Lexicographic.{pointwise}
use Rattle.ddcmp_frame.specs.Reading.{open_at_end}
use Rattle.ddcmp_core.specs.declared.state.State.TheVariants.{Running}
use Rattle.ddcmp_core.specs.Table.{is_halted, is_running}
use Rattle.ddcmp_io.specs.declared.carrier.End.TheVariants.{A, B}
use Rattle.ddcmp_pair.specs.declared.event.Event.{Event}
use Rattle.ddcmp_pair.specs.declared.event.Event.TheVariants as event
use Rattle.ddcmp_pair.specs.Run.{EndState, PairState, handed_up, is_clean, run}
use Rattle.ddcmp_pair.specs.Settle.{Settling, most_exchanges, settling, settled}

-- ---- a round: both timers expire, and all settles

abbrev pub both_expire : List Event
both_expire = event.Expire A ∷ event.Expire B ∷ []

unfoldable pub rounding : PairState → Settling
rounding p =
    let rest = settling (run both_expire p) in
    record rest { events = both_expire ++ rest.events }

-- a pair after a round
abbrev pub rounded : PairState → PairState
rounded p = run (rounding p).events p

-- ---- recovery: a settle and two rounds

-- The events of a recovery, how many exchanges each of its settles counted, and whether the line
-- was quiet after each.
pub record Recovering : Type 0 where
  pub events : List Event
  pub exchanges : List ℕ
  pub quiet : Bool

abbrev pub in_turn : Settling → Settling → Settling → Recovering
in_turn first second third = record {
  events = first.events ++ (second.events ++ third.events);
  exchanges = first.exchanges ∷ second.exchanges ∷ third.exchanges ∷ [];
  quiet = first.quiet && (second.quiet && third.quiet);
}

unfoldable pub recovering : PairState → Recovering
recovering p = in_turn (settling p) (rounding (settled p)) (rounding (rounded (settled p)))

-- a pair after a recovery
abbrev pub recovered : PairState → PairState
recovered p = rounded (rounded (settled p))

-- ---- the state before and after

-- this end isn't halted, and no frame is unfinished here
abbrev pub is_ready_here : EndState → Bool
is_ready_here x =
    not (is_halted x.core.station.state)
    && (open_at_end x.core.limits.longest x.arrived == 0)

-- A pair after an honest and clean run is ready if both ends are, and accept messages of the same
-- lengths.
abbrev pub is_ready : PairState → Bool
is_ready p =
    (p.honest && is_clean p)
    && ((is_ready_here p.a && is_ready_here p.b)
    && (p.a.core.limits.longest == p.b.core.limits.longest))

-- An end runs, and all that it accepted was delivered at the other and reported acknowledged.
pub record IsDelivered (from to : EndState) : Type 0 where
  pub runs : from.core.station.state ≡ Running
  pub handed_up : from.given ≡ handed_up to
  pub acknowledged : from.acknowledged ≡ length from.given

-- nothing is left to do
pub record IsDone (p : PairState) : Type 0 where
  pub from_a : IsDelivered p.a p.b
  pub from_b : IsDelivered p.b p.a

-- the same, as a Bool
abbrev pub is_delivered : EndState → EndState → Bool
is_delivered from to =
    is_running from.core.station.state
    && (pointwise bytes_eq from.given (handed_up to)
    && (from.acknowledged == length from.given))

abbrev pub is_done : PairState → Bool
is_done p = is_delivered p.a p.b && is_delivered p.b p.a

-- the larger window
abbrev pub larger_window : PairState → ℕ
larger_window p = max p.a.core.limits.window p.b.core.limits.window

-- A recovery repairs a pair: it is quiet, each of its settles counts at most 16 * (w + 4) exchanges
-- and no more than 12 * w + 12, w being the larger window, and after it nothing is left to do.
pub record IsRepaired (p : PairState) : Type 0 where
  pub quiet : (recovering p).quiet ≡ true
  pub within : All (λ n. n ≤ most_exchanges p) (recovering p).exchanges
  pub fewer : All (λ n. n ≤ 12 * larger_window p + 12) (recovering p).exchanges
  pub done : IsDone (recovered p)
