-- The steps of a run: its events, each with its reply.
use Rattle.std.specs.Prelude.{List, [], ◌∷◌, Option}
use Rattle.ddcmp_io.specs.Device.{Logs}
use Rattle.ddcmp_pair.specs.declared.event.Event.{Event}
use Rattle.ddcmp_pair.specs.declared.event.Reply.{Reply}
use Rattle.ddcmp_pair.specs.Run.{PairState, after_event, reply_to}

pub record Step : Type 0 where
  pub event : Event
  pub reply : Reply

unfoldable pub steps_of : List Event → PairState → List Step
steps_of [] p = []
steps_of (e ∷ rest) p =
    record { event = e; reply = reply_to e p } ∷ steps_of rest (after_event e p)

-- the steps of these events were reported
abbrev pub Reports : Option (List Step) → Option (List Step) → List Event → PairState → Type 0
Reports old new events p = Logs old new (steps_of events p)
