-- Acknowledged means written: what two sessions promise of the messages that were acknowledged.
use Rattle.std.specs.Prelude.{◌≡◌, ℕ, ◌≤◌, false, List, [], ◌++◌, length}
use Rattle.ddcmp_streams.specs.declared.messages.MessageForm.{MessageForm}
use Rattle.ddcmp_session.specs.Calls.{SessionHistory}
use Rattle.ddcmp_session.specs.Connections.{Connection}
use Rattle.ddcmp_laws.specs.Connections.{read_since}
use Rattle.ddcmp_laws.specs.Pipe.{Made}
use Rattle.ddcmp_laws.specs.Sessions.{IsTakenAsWritten, mail_in, messages_of}

-- the messages that a session keeps until they are acknowledged
abbrev pub unacknowledged : SessionHistory → List (List ℕ)
unacknowledged h = h.session.link.station.core.station.out

-- All of these messages but at most `left`, the last of them, were written, after those `before`.
pub record AreWritten (form : MessageForm) (h : SessionHistory) (before messages : List (List ℕ))
    (left : ℕ) : Type 0 where
  pub mail : List (List ℕ)
  pub rest : List (List ℕ)
  pub all : mail ++ rest ≡ messages
  pub few : length rest ≤ left
  pub written : IsTakenAsWritten form h (before ++ mail)

-- Of the messages read from one session's input, all that were acknowledged are in what was written
-- to the other's output, unless that is to acknowledge early.
abbrev pub PipesWritten : Made → Made → SessionHistory → SessionHistory → Type 0
PipesWritten made other giver taker = other.options.acknowledge_early ≡ false
    → AreWritten other.options.form taker []
    (messages_of made.options.form made.options.config.max giver.input)
    (length (unacknowledged giver))

-- The same of two that are connected again, since each was connected last.
abbrev pub PipesWrittenAnew : Made → Made → Connection → Connection → Type 0
PipesWrittenAnew made other giver taker = other.options.acknowledge_early ≡ false
    → AreWritten other.options.form taker.history (mail_in taker.shown_before)
    (read_since made giver) (length (unacknowledged giver.history))
