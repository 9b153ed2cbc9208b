-- Settling: frames arrive whole, one after another, until neither end sends any more.
use Rattle.std.specs.Prelude.{◌≡◌, ℕ, zero, suc, ◌+◌, ◌*◌, max, Bool, true, false, ◌||◌}
use Rattle.std.specs.Prelude.{if◌then◌else◌, List, [], ◌∷◌, ◌++◌, length, replicate, is_some}
use Rattle.std.specs.Prelude.{Option, Some, None}
use Rattle.ddcmp_io.specs.Ends.{other}
use Rattle.ddcmp_io.specs.declared.carrier.End.{End}
use Rattle.ddcmp_io.specs.declared.carrier.End.TheVariants.{A, B}
use Rattle.ddcmp_pair.specs.declared.event.Event.{Event}
use Rattle.ddcmp_pair.specs.declared.event.Event.TheVariants as event
use Rattle.ddcmp_pair.specs.Run.{PairState, at, line_bytes, asks_memory, run}

-- an end has a frame to send
abbrev pub writes : End → PairState → Bool
writes e p = is_some (line_bytes (at e p))

-- all received messages of an end are taken
abbrev pub mail_events : End → PairState → List Event
mail_events e p = replicate (length (at e p).core.station.inbox) (event.Take e)

-- A frame that an end sends arrives whole at the other, whose received messages are taken.
abbrev pub carried : End → List ℕ → List Event
carried from bytes = event.Poll from ∷ event.Arrive (other from) bytes ∷ []

abbrev pub crossing_of : End → Option (List ℕ) → PairState → List Event
crossing_of from None p = event.Poll from ∷ []
crossing_of from (Some bytes) p =
    carried from bytes ++ mail_events (other from) (run (carried from bytes) p)

unfoldable pub crossing : End → PairState → List Event
crossing from p = crossing_of from (line_bytes (at from p)) p

-- an exchange: from A to B, and then from B to A
abbrev pub exchange : PairState → List Event
exchange p = crossing A p ++ crossing B (run (crossing A p) p)

-- at least one end sends a frame in an exchange
abbrev pub either_writes : PairState → Bool
either_writes p = writes A p || writes B (run (crossing A p) p)

-- The events of a settle, how many exchanges are counted, and whether the line is quiet: an
-- exchange in which neither end sends a frame isn't counted and ends the settle.
pub record Settling : Type 0 where
  pub events : List Event
  pub exchanges : ℕ
  pub quiet : Bool

abbrev pub counted : List Event → Settling → Settling
counted events rest = record {
  events = events ++ rest.events;
  exchanges = rest.exchanges + 1;
  quiet = rest.quiet;
}

unfoldable pub exchanges_within : ℕ → PairState → Settling
exchanges_within zero p = record { events = []; exchanges = 0; quiet = false }
exchanges_within (suc more) p =
    if either_writes p
    then counted (exchange p) (exchanges_within more (run (exchange p) p))
    else record { events = exchange p; exchanges = 0; quiet = true }

-- the most exchanges of a settle, by the larger window
abbrev pub most_exchanges : PairState → ℕ
most_exchanges p = 16 * (max p.a.core.limits.window p.b.core.limits.window + 4)

-- Both ends' received messages are taken, and then exchanges are made.
abbrev pub all_mail : PairState → List Event
all_mail p = mail_events A p ++ mail_events B (run (mail_events A p) p)

unfoldable pub settling : PairState → Settling
settling p =
    let exchanges = exchanges_within (most_exchanges p) (run (all_mail p) p) in
    record exchanges { events = all_mail p ++ exchanges.events }

-- a pair after a settle
abbrev pub settled : PairState → PairState
settled p = run (settling p).events p

-- An allocation failure stopped a pair between two of these events: some were done, each of them
-- whole, and the next one allocates.
pub record WantsMemory (events : List Event) (before after : PairState) : Type 0 where
  pub done : List Event
  pub next : Event
  pub rest : List Event
  pub events_are : done ++ next ∷ rest ≡ events
  pub state : after ≡ run done before
  pub asks : asks_memory next after ≡ true
