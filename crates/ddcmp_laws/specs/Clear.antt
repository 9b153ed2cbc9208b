-- A clear line: nothing is lost, no end halts, and no message arrives at a full inbox.
use Rattle.std.specs.Prelude.{◌≡◌, ◌<◌, ℕ, List, [], ◌∷◌, length, map}
use Rattle.ddcmp_frame.specs.Reading.{ReadItem}
use Rattle.ddcmp_core.specs.Core.{CoreView}
use Rattle.ddcmp_core.specs.Frames.{frame_of}
use Rattle.ddcmp_core.specs.Table.{Data, Received, Good}
use Rattle.ddcmp_proto.specs.Bytes.{received_of, after_item, items_added}
use Rattle.ddcmp_pair.specs.declared.event.Event.{Event}
use Rattle.ddcmp_pair.specs.declared.event.Event.TheVariants as event
use Rattle.ddcmp_pair.specs.Prefix.{IsPrefixOf}
use Rattle.ddcmp_pair.specs.Run.{EndState, PairState, at, after_event}
use Rattle.ddcmp_laws.specs.Counted.{is_nak, frames_of}
use Rattle.ddcmp_laws.specs.Faithful.{IsFaithful}
use Rattle.ddcmp_laws.specs.Positions.{messages_in}

-- the input is a data message
abbrev pub IsMessage : Received → Type 0
IsMessage (Good (Data resp num message)) = Unit {0}
IsMessage _ = ⊥

-- There is room in the inbox for each data message among these items.
abbrev pub FindRoom : List ReadItem → CoreView → Type 0
FindRoom [] k = Unit {0}
FindRoom (given ∷ rest) k =
    (IsMessage (received_of given) → length k.station.inbox < k.limits.room)
    × FindRoom rest (after_item given k)

-- there is room for each data message that arrives by an event
abbrev pub FindsRoom : Event → PairState → Type 0
FindsRoom (event.Arrive e bytes) p =
    FindRoom (items_added (at e p).core.limits.longest (at e p).arrived bytes) (at e p).core
FindsRoom _ p = Unit {0}

-- No event is a halt, there is room for each data message that arrives, and after each event the
-- bytes that arrived at each end are a prefix of those that the other wrote.
abbrev pub StaysClear : List Event → PairState → Type 0
StaysClear [] p = Unit {0}
StaysClear (event.Halt e ∷ rest) p = ⊥
StaysClear (e ∷ rest) p =
    FindsRoom e p × IsFaithful (after_event e p) × StaysClear rest (after_event e p)

-- the messages of the data messages that an end sent, in their order
abbrev pub messages_sent : EndState → List (List ℕ)
messages_sent x = messages_in (map (λ f. frame_of f.0 f.1) x.sent)

-- An end sent no NAK, and the messages that it sent are a prefix of those that it accepted, each
-- sent once.
pub record WastesNothing (x : EndState) : Type 0 where
  pub no_nak : frames_of is_nak x.sent ≡ 0
  pub once : IsPrefixOf (messages_sent x) x.given
