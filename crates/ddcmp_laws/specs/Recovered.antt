-- What two ends do once their line has recovered.
use Rattle.std.specs.Prelude.{◌≡◌, ℕ, ◌+◌, ◌%◌, List, [], ◌∷◌, ◌++◌, length}
use Rattle.ddcmp_io.specs.Ends.{other}
use Rattle.ddcmp_io.specs.declared.carrier.End.{End}
use Rattle.ddcmp_pair.specs.declared.event.Event.TheVariants as event
use Rattle.ddcmp_pair.specs.declared.event.Reply.TheVariants as reply
use Rattle.ddcmp_pair.specs.Run.{PairState, at, after_event, reply_to, handed_up}
use Rattle.ddcmp_pair.specs.Recovery.{recovered, IsDone}
use Rattle.ddcmp_laws.specs.Story.{number}

-- An end accepts this message, under the number that follows those of all messages that it accepted
-- before.
abbrev pub Accepts : End → List ℕ → PairState → Type 0
Accepts end message p =
    reply_to (event.Send end message) p
    ≡ reply.Accepted (number ((length (at end p).given + 1) % 256))

-- an end sends this message, and the line recovers
abbrev pub sent_over : End → List ℕ → PairState → PairState
sent_over end message p = recovered (after_event (event.Send end message) p)

-- This message is delivered at the other end, after those delivered before; nothing else is
-- delivered at either end, and nothing is left to do.
pub record HandsOver (end : End) (message : List ℕ) (before after : PairState) : Type 0 where
  pub there : handed_up (at (other end) after)
      ≡ handed_up (at (other end) before) ++ message ∷ []
  pub here : handed_up (at end after) ≡ handed_up (at end before)
  pub done : IsDone after
