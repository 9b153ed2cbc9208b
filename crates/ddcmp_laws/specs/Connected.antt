-- Two runs over one connection, which yields its bytes in order: the input of one is the output of
-- the other. No premise about frames is needed.
use Rattle.std.specs.Prelude.{◌≡◌, ℕ, ◌+◌, ◌≤◌, ⊤, List, [], ◌∷◌, None}
use Rattle.ddcmp_proto.specs.Config.{first_refusal}
use Rattle.ddcmp_io.specs.declared.carrier.End.{End}
use Rattle.ddcmp_io.specs.declared.carrier.End.TheVariants.{A, B}
use Rattle.ddcmp_streams.specs.declared.messages.MessageForm.TheVariants as form
use Rattle.ddcmp_session.specs.Calls.{IsSessionHistory, SessionStep, after_session_steps}
use Rattle.ddcmp_session.specs.Connections.{AreDone, Connection}
use Rattle.ddcmp_laws.specs.Connections.{Connections, after_step_at, first_connection}
use Rattle.ddcmp_laws.specs.Connections.{first_connections}
use Rattle.ddcmp_laws.specs.Pipe.{AreSessionStreams, Made, Sessions, connects_in_call}
use Rattle.ddcmp_laws.specs.Pipe.{session_of}
use Rattle.ddcmp_laws.specs.SessionRuns.{InFiles, Ran, calls_of, got_to}
use Rattle.ddcmp_laws.specs.Sessions.{mail_in}

-- how often its session was connected
unfoldable pub connections_in : List SessionStep → ℕ
connections_in [] = 0
connections_in (step ∷ rest) = connects_in_call step.call + connections_in rest

abbrev pub IsConnectedOnce : Ran → Type 0
IsConnectedOnce ran = connections_in ran.steps ≤ 1

-- ---- one run

-- before the session was connected, nothing was read from its input and no message was delivered
pub record IsBareBefore (c : Connection) : Type 0 where
  pub none_read : c.input_before ≡ []
  pub none_delivered : mail_in c.shown_before ≡ []

-- The calls of a run, in which `connected` clears the line, are a history of its session, in which
-- the line was clear already; and all that the session read and delivered was after it was
-- connected.
pub record IsOneHistory (ran : Ran) : Type 0 where
  pub calls : IsSessionHistory ran.steps (session_of ran.made)
  pub same : (got_to ran).history ≡ after_session_steps ran.steps (session_of ran.made)
  pub before : IsBareBefore (got_to ran)

-- ---- two runs in some order of their calls

-- the histories of both since they were connected
abbrev pub histories_of : Connections → Sessions
histories_of p = record { a = p.a.history; b = p.b.history }

-- After each of these calls the lines are streams.
abbrev pub AreOverStreams : List (End × SessionStep) → Connections → Type 0
AreOverStreams [] p = ⊤
AreOverStreams (step ∷ rest) p =
    AreSessionStreams (histories_of (after_step_at step.0 step.1 p))
    × AreOverStreams rest (after_step_at step.0 step.1 p)

-- After each call, the bytes that each has used from its line are a prefix of those that the other
-- has written to its line.
pub record RanOverStreams (a b : Ran) : Type 0 where
  pub steps : List (End × SessionStep)
  pub of_a : calls_of A steps ≡ a.steps
  pub of_b : calls_of B steps ≡ b.steps
  pub streams : AreOverStreams steps (first_connections a.made b.made)

-- A promise about two runs is kept over one connection, for new sessions of any sizes in range,
-- each connected at most once, whatever their calls.
abbrev pub IsKeptOverOneConnection : (Ran → Ran → Type 0) → Type 0
IsKeptOverOneConnection Promise = (a b : Ran)
    → first_refusal a.made.options.config ≡ None → first_refusal b.made.options.config ≡ None
    → AreDone a.steps (first_connection a.made) → AreDone b.steps (first_connection b.made)
    → IsConnectedOnce a → IsConnectedOnce b
    → RanOverStreams a b → Promise a b

-- These steps, which are calls of two sessions over one connection, are two such runs.
pub record AreTwoRuns (first second : Made) (steps : List (End × SessionStep)) : Type 0 where
  pub of_a : AreDone (calls_of A steps) (first_connection first)
  pub of_b : AreDone (calls_of B steps) (first_connection second)
  pub once_a : connections_in (calls_of A steps) ≤ 1
  pub once_b : connections_in (calls_of B steps) ≤ 1
  pub streams : AreOverStreams steps (first_connections first second)

-- If two runs are in binary, they satisfy `InFiles`, since there was no line before.
abbrev pub BinaryIsInFiles : Ran → Ran → Type 0
BinaryIsInFiles giver taker = giver.made.options.form ≡ form.Binary
    → taker.made.options.form ≡ form.Binary → InFiles giver taker
