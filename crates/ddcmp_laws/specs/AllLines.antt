-- Two runs over one line after the other: what is promised of all lines together.
use Rattle.std.specs.Prelude.{◌≡◌, ℕ, ⊤, ◌⊎◌, List, [], ◌∷◌, ◌++◌, None, false, map}
use Rattle.hex.specs.Hex.{encode_lower}
use Rattle.ddcmp_input.specs.InBinary.{in_binary}
use Rattle.ddcmp_pair.specs.Prefix.{IsPrefixOf}
use Rattle.ddcmp_proto.specs.Config.{first_refusal}
use Rattle.ddcmp_streams.specs.declared.messages.MessageForm.TheVariants as form
use Rattle.ddcmp_session.specs.Session.{SessionView}
use Rattle.ddcmp_session.specs.Calls.{Connected, SessionStep}
use Rattle.ddcmp_session.specs.Connections.{AreDone}
use Rattle.ddcmp_session.specs.Devices.{Agrees, BuffersView}
use Rattle.ddcmp_session.specs.Traffic.{Traffic}
use Rattle.ddcmp_laws.specs.Connected.{connections_in}
use Rattle.ddcmp_laws.specs.Connections.{first_connection}
use Rattle.ddcmp_laws.specs.LastConnection.{RanOverConnections, StartsLast}
use Rattle.ddcmp_laws.specs.Loops.{messages_given}
use Rattle.ddcmp_laws.specs.MailLines.{mails_in}
use Rattle.ddcmp_laws.specs.Prefix.{Begins}
use Rattle.ddcmp_laws.specs.SessionRuns.{Ran, WasEnded, got_to}
use Rattle.ddcmp_laws.specs.Sessions.{mail_in}

-- ---- the lines

-- the calls of both ends over one line
pub record LineSteps : Type 0 where
  pub of_a : List SessionStep
  pub of_b : List SessionStep

-- The first of these calls connects the session, and no other does.
abbrev pub IsOneLine : List SessionStep → Type 0
IsOneLine [] = ⊥
IsOneLine (step ∷ rest) = (step.call ≡ Connected) × (connections_in rest ≡ 0)

abbrev pub and_then : Ran → List SessionStep → Ran
and_then ran steps = record { made = ran.made; steps = ran.steps ++ steps }

-- Two runs go on over a line: what their calls do is what their contracts state, both sessions were
-- started, and since then, after each call, the bytes that each has used are a prefix of those that
-- the other has written to the line.
pub record GoOverLine (a b : Ran) (line : LineSteps) : Type 0 where
  pub one_a : IsOneLine line.of_a
  pub one_b : IsOneLine line.of_b
  pub done_a : AreDone (a.steps ++ line.of_a) (first_connection a.made)
  pub done_b : AreDone (b.steps ++ line.of_b) (first_connection b.made)
  pub starts_a : StartsLast (a.steps ++ line.of_a) (first_connection a.made)
  pub starts_b : StartsLast (b.steps ++ line.of_b) (first_connection b.made)
  pub streams : RanOverConnections (and_then a line.of_a) (and_then b line.of_b)

-- and over one such line after the other
abbrev pub GoOverLines : Ran → Ran → List LineSteps → Type 0
GoOverLines a b [] = ⊤
GoOverLines a b (line ∷ rest) =
    GoOverLine a b line × GoOverLines (and_then a line.of_a) (and_then b line.of_b) rest

-- the run of one end after these lines
unfoldable pub over_lines : (LineSteps → List SessionStep) → Ran → List LineSteps → Ran
over_lines of ran [] = ran
over_lines of ran (line ∷ rest) = over_lines of (and_then ran (of line)) rest

-- A promise about two runs is kept over all their lines, however many there are, for new sessions
-- of any sizes in range that weren't connected before the first one.
abbrev pub IsKeptOverLines : (Ran → Ran → Type 0) → Type 0
IsKeptOverLines Promise = (a b : Ran) (lines : List LineSteps)
    → first_refusal a.made.options.config ≡ None → first_refusal b.made.options.config ≡ None
    → AreDone a.steps (first_connection a.made) → AreDone b.steps (first_connection b.made)
    → connections_in a.steps ≡ 0 → connections_in b.steps ≡ 0 → GoOverLines a b lines
    → Promise (over_lines (λ line. line.of_a) a lines) (over_lines (λ line. line.of_b) b lines)

-- ---- the promises

abbrev pub BothWays : (Ran → Ran → Type 0) → Ran → Ran → Type 0
BothWays Promise a b = Promise a b × Promise b a

-- these messages are among the others, in their order, each of those at most once
abbrev pub AreAmong : List (List ℕ) → List (List ℕ) → Type 0
AreAmong [] all = ⊤
AreAmong (message ∷ rest) [] = ⊥
AreAmong (message ∷ rest) (one ∷ all) =
    ((message ≡ one) × AreAmong rest all) ⊎ AreAmong (message ∷ rest) all

-- The messages that one has delivered are among those read from the other's input.
abbrev pub DeliversInOrder : Ran → Ran → Type 0
DeliversInOrder giver taker = (held : BuffersView) (t : Traffic)
    → Agrees held (got_to giver).history t
    → AreAmong (mail_in (got_to taker).history.shown) (messages_given giver.made t)

-- What it has written to its output are, in binary, the bytes of a prefix of such messages,
abbrev pub BinaryInOrder : Ran → Ran → Type 0
BinaryInOrder giver taker = taker.made.options.form ≡ form.Binary
    → (held other_held : BuffersView) (t other_t : Traffic)
    → Agrees held (got_to giver).history t → Agrees other_held (got_to taker).history other_t
    → (messages : List (List ℕ)) × AreAmong messages (messages_given giver.made t)
    × Begins other_t.written (in_binary messages)

-- or else lines, of which those that begin with `mail ` have the digits of a prefix of such
-- messages.
abbrev pub DigitsInOrder : Ran → Ran → Type 0
DigitsInOrder giver taker = taker.made.options.form ≡ form.Digits
    → (held other_held : BuffersView) (t other_t : Traffic)
    → Agrees held (got_to giver).history t → Agrees other_held (got_to taker).history other_t
    → (messages : List (List ℕ)) × AreAmong messages (messages_given giver.made t)
    × IsPrefixOf (mails_in other_t.written) (map encode_lower messages)

-- If that other run was ended and lost nothing, all messages read from its input were written, and
-- no others, unless the one is to acknowledge early: in binary,
abbrev pub AllInBinary : Ran → Ran → Type 0
AllInBinary giver taker = taker.made.options.form ≡ form.Binary
    → taker.made.options.acknowledge_early ≡ false
    → (held other_held : BuffersView) (t other_t : Traffic) (closed : SessionView)
    → WasEnded giver held t closed → closed.course.lost ≡ 0
    → Agrees other_held (got_to taker).history other_t
    → other_t.written ≡ in_binary (messages_given giver.made t)

-- and in lines.
abbrev pub AllInDigits : Ran → Ran → Type 0
AllInDigits giver taker = taker.made.options.form ≡ form.Digits
    → taker.made.options.acknowledge_early ≡ false
    → (held other_held : BuffersView) (t other_t : Traffic) (closed : SessionView)
    → WasEnded giver held t closed → closed.course.lost ≡ 0
    → Agrees other_held (got_to taker).history other_t
    → mails_in other_t.written ≡ map encode_lower (messages_given giver.made t)
