-- Two runs over one connection after the other: what is promised of the last one, since both were
-- connected. No premise about frames is needed.
use Rattle.std.specs.Prelude.{◌≡◌, true, ⊤, List, [], ◌∷◌, None}
use Rattle.ddcmp_proto.specs.Config.{first_refusal}
use Rattle.ddcmp_io.specs.declared.carrier.End.{End}
use Rattle.ddcmp_io.specs.declared.carrier.End.TheVariants.{A, B}
use Rattle.ddcmp_session.specs.Calls.{Connected, SessionCall, SessionStep}
use Rattle.ddcmp_session.specs.Connections.{AreDone, Connection, after_step}
use Rattle.ddcmp_session.specs.Session.{SessionView, starts}
use Rattle.ddcmp_laws.specs.Connected.{connections_in, histories_of}
use Rattle.ddcmp_laws.specs.Connections.{Connections, after_step_at, first_connection}
use Rattle.ddcmp_laws.specs.Connections.{first_connections}
use Rattle.ddcmp_laws.specs.Pipe.{AreSessionStreams, connects}
use Rattle.ddcmp_laws.specs.SessionRuns.{Ran, calls_of}

-- A call that connects a session starts it, since no received message was undelivered.
abbrev pub StartsIf : SessionCall → SessionView → Type 0
StartsIf Connected s = starts s ≡ true
StartsIf _ s = ⊤

-- The last call that connected the session started it.
abbrev pub StartsLast : List SessionStep → Connection → Type 0
StartsLast [] c = ⊤
StartsLast (step ∷ rest) c =
    (connections_in rest ≡ 0 → StartsIf step.call c.history.session)
    × StartsLast rest (after_step step c)

-- Each call that connected its session started it.
abbrev pub StartsEach : List SessionStep → Connection → Type 0
StartsEach [] c = ⊤
StartsEach (step ∷ rest) c =
    StartsIf step.call c.history.session × StartsEach rest (after_step step c)

-- After each of these calls, if no later one connects either session, the lines are streams.
abbrev pub EndOverStreams : List (End × SessionStep) → Connections → Type 0
EndOverStreams [] p = ⊤
EndOverStreams (step ∷ rest) p =
    (connects A rest ≡ 0 → connects B rest ≡ 0
    → AreSessionStreams (histories_of (after_step_at step.0 step.1 p)))
    × EndOverStreams rest (after_step_at step.0 step.1 p)

-- Since both were connected last, after each call, the bytes that each has used from its line are a
-- prefix of those that the other has written to its line.
pub record RanOverConnections (a b : Ran) : Type 0 where
  pub steps : List (End × SessionStep)
  pub of_a : calls_of A steps ≡ a.steps
  pub of_b : calls_of B steps ≡ b.steps
  pub streams : EndOverStreams steps (first_connections a.made b.made)

-- A promise about two runs is kept over the last connection, for new sessions of any sizes in
-- range, connected any number of times, whatever their calls.
abbrev pub IsKeptOverLastConnection : (Ran → Ran → Type 0) → Type 0
IsKeptOverLastConnection Promise = (a b : Ran)
    → first_refusal a.made.options.config ≡ None → first_refusal b.made.options.config ≡ None
    → AreDone a.steps (first_connection a.made) → AreDone b.steps (first_connection b.made)
    → StartsLast a.steps (first_connection a.made)
    → StartsLast b.steps (first_connection b.made)
    → RanOverConnections a b → Promise a b
