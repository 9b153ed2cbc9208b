-- Two sessions on a line, as pipes: the output of one is the input of the other.
use Rattle.std.specs.Prelude.{◌≡◌, ℕ, ◌+◌, ◌≤◌, Bool, true, not, List, [], ◌∷◌, ◌++◌, drop}
use Rattle.std.specs.Prelude.{map, None}
use Rattle.std.specs.List.{All}
use Rattle.ddcmp_frame.specs.Reader.{ReaderView}
use Rattle.ddcmp_input.specs.InBinary.{in_binary, Fits}
use Rattle.ddcmp_proto.specs.Config.{first_refusal}
use Rattle.ddcmp_io.specs.declared.carrier.End.{End}
use Rattle.ddcmp_io.specs.declared.carrier.End.TheVariants.{A, B}
use Rattle.ddcmp_pair.specs.Prefix.{IsPrefixOf}
use Rattle.ddcmp_pair.specs.Choices.{after_choice}
use Rattle.ddcmp_pair.specs.Run.{PairState, new_pair}
use Rattle.ddcmp_laws.specs.Prefix.{Begins}
use Rattle.ddcmp_streams.specs.declared.messages.MessageForm.TheVariants as form
use Rattle.ddcmp_io.specs.declared.line_kind.LineKind.{LineKind}
use Rattle.ddcmp_streams.specs.Options.{takes_at_once}
use Rattle.ddcmp_streams.specs.declared.options.Options.{Options}
use Rattle.ddcmp_session.specs.Session.{SessionView, is_delivered, lost_among, lost_at_end}
use Rattle.ddcmp_laws.specs.PairCalls.{run_calls}
use Rattle.ddcmp_laws.specs.Links.{LinkHistory, LinkStep, Links, count_if}
use Rattle.ddcmp_laws.specs.LinkLines.{calls_of_steps}
use Rattle.ddcmp_session.specs.Calls.{HasClosed, SessionCall, Connected, SessionDoes}
use Rattle.ddcmp_session.specs.Calls.{SessionHistory}
use Rattle.ddcmp_session.specs.Calls.{new_session, SessionStep, after_session_step}
use Rattle.ddcmp_laws.specs.Sessions.{IsPlain, history_begun, messages_of, mail_in, link_steps_of}

-- how a session of data messages is made
pub record Made : Type 0 where
  pub options : Options
  pub plain : IsPlain options
  pub kind : LineKind
  pub line : ReaderView

abbrev pub session_of : Made → SessionHistory
session_of made = new_session made.options made.kind made.line

-- the histories of two sessions
pub record Sessions : Type 0 where
  pub a : SessionHistory
  pub b : SessionHistory

abbrev pub new_sessions : Made → Made → Sessions
new_sessions first second = record { a = session_of first; b = session_of second }

abbrev pub link_made_of : Made → LinkHistory
link_made_of made = history_begun made.options made.line

abbrev pub links_made : Made → Made → Links
links_made first second = record { a = link_made_of first; b = link_made_of second }

-- the stations of both
abbrev pub pair_made : Made → Made → PairState
pair_made first second =
    after_choice B (not (takes_at_once second.options))
    (after_choice A (not (takes_at_once first.options))
    (new_pair first.options.config second.options.config))

abbrev pub session_at : End → Sessions → SessionHistory
session_at A p = p.a
session_at B p = p.b

abbrev pub after_session_at : End → SessionStep → Sessions → Sessions
after_session_at A step p = record { a = after_session_step step p.a; b = p.b }
after_session_at B step p = record { a = p.a; b = after_session_step step p.b }

-- Each step is a call of one of two sessions, which does what its contract states.
abbrev pub AreSessionCalls : List (End × SessionStep) → Sessions → Type 0
AreSessionCalls [] p = Unit {0}
AreSessionCalls (step ∷ rest) p =
    SessionDoes step.1.call (session_at step.0 p).used (session_at step.0 p).session step.1.session
    × AreSessionCalls rest (after_session_at step.0 step.1 p)

unfoldable pub after_sessions : List (End × SessionStep) → Sessions → Sessions
after_sessions [] p = p
after_sessions (step ∷ rest) p = after_sessions rest (after_session_at step.0 step.1 p)

-- the calls of both links that these steps make
abbrev pub steps_at_end : End → List LinkStep → List (End × LinkStep)
steps_at_end end steps = map (λ step. (end, step)) steps

unfoldable pub link_steps_at : List (End × SessionStep) → Sessions → List (End × LinkStep)
link_steps_at [] p = []
link_steps_at (step ∷ rest) p =
    steps_at_end step.0
    (link_steps_of step.1.call (session_at step.0 p).session step.1.session.link)
    ++ link_steps_at rest (after_session_at step.0 step.1 p)

-- how often a session is connected
abbrev pub connects_in_call : SessionCall → ℕ
connects_in_call Connected = 1
connects_in_call _ = 0

unfoldable pub connects : End → List (End × SessionStep) → ℕ
connects e [] = 0
connects e (step ∷ rest) = count_if e step.0 (connects_in_call step.1.call) + connects e rest

-- each is connected at most once
pub record AreConnectedOnce (steps : List (End × SessionStep)) : Type 0 where
  pub at_a : connects A steps ≤ 1
  pub at_b : connects B steps ≤ 1

-- A promise about two sessions is kept over honest lines, for two new sessions of any sizes in
-- range, each connected at most once, whatever the calls, the moments and the chunks of bytes. The
-- line is honest if the good frames that each received are, in their order, among those that the
-- other sent.
abbrev pub IsKeptByPipes : (Made → Made → Sessions → Type 0) → Type 0
IsKeptByPipes Promise = (first second : Made) (steps : List (End × SessionStep))
    → first_refusal first.options.config ≡ None → first_refusal second.options.config ≡ None
    → AreSessionCalls steps (new_sessions first second)
    → (run_calls
    (calls_of_steps (link_steps_at steps (new_sessions first second)) (links_made first second))
    (pair_made first second)).honest ≡ true
    → AreConnectedOnce steps
    → Promise first second (after_sessions steps (new_sessions first second))

-- the bytes that each used are a prefix of those that the other wrote to its line
pub record AreSessionStreams (p : Sessions) : Type 0 where
  pub to_a : Begins p.a.used p.b.gone
  pub to_b : Begins p.b.used p.a.gone

-- Each step is a call of one of two sessions, which does what its contract states, and after each
-- the lines are streams.
abbrev pub SessionsOverStreams : List (End × SessionStep) → Sessions → Type 0
SessionsOverStreams [] p = Unit {0}
SessionsOverStreams (step ∷ rest) p =
    SessionDoes step.1.call (session_at step.0 p).used (session_at step.0 p).session step.1.session
    × AreSessionStreams (after_session_at step.0 step.1 p)
    × SessionsOverStreams rest (after_session_at step.0 step.1 p)

-- The same over connections, which yield their bytes in order: no other premise is needed.
abbrev pub IsKeptOverConnections : (Made → Made → Sessions → Type 0) → Type 0
IsKeptOverConnections Promise = (first second : Made) (steps : List (End × SessionStep))
    → first_refusal first.options.config ≡ None → first_refusal second.options.config ≡ None
    → SessionsOverStreams steps (new_sessions first second)
    → AreConnectedOnce steps
    → Promise first second (after_sessions steps (new_sessions first second))

-- the received messages that aren't delivered yet
abbrev pub undelivered : SessionHistory → List (List ℕ)
undelivered h = drop h.session.unwritten h.session.link.station.core.station.inbox

-- The messages that one session delivered are a prefix of those read from the other's input, each
-- once and unchanged.
abbrev pub Pipes : Made → SessionHistory → SessionHistory → Type 0
Pipes made giver taker =
    IsPrefixOf (mail_in taker.shown)
    (messages_of made.options.form made.options.config.max giver.input)

-- If `is_delivered` holds for one session, the other has received all messages read from that one's
-- input: these, and no others.
abbrev pub PipesAll : Made → SessionHistory → SessionHistory → Type 0
PipesAll made giver taker = is_delivered giver.session ≡ true
    → mail_in taker.shown ++ undelivered taker
    ≡ messages_of made.options.form made.options.config.max giver.input

-- If one session is closed and nothing was lost, the other has received all messages read from that
-- one's input, and the rest of that input has no message.
abbrev pub PipesClosed : Made → SessionHistory → SessionHistory → Type 0
PipesClosed made giver taker = (left : List ℕ) (is_at_end is_reported : Bool) (closed : SessionView)
    → HasClosed left is_at_end is_reported giver.session closed → closed.course.lost ≡ 0
    → (mail_in taker.shown ++ undelivered taker
    ≡ messages_of made.options.form made.options.config.max giver.input)
    × (lost_among left giver.session ≡ 0)
    × (lost_at_end left is_at_end giver.session ≡ 0)

-- In binary, if the bytes read from one's input are a prefix of a file of messages that fit, then
-- those written to the other's output are a prefix of that file, too.
abbrev pub PipesBytes : Made → Made → SessionHistory → SessionHistory → Type 0
PipesBytes made other giver taker = made.options.form ≡ form.Binary
    → other.options.form ≡ form.Binary
    → (messages : List (List ℕ)) → All (Fits made.options.config.max) messages
    → Begins giver.input (in_binary messages)
    → Begins taker.written (in_binary messages)

-- And if the whole file was read, and `is_delivered` holds for that session, then the whole file
-- was written to the other's output, once no received message is undelivered and nothing is queued
-- there.
abbrev pub PipesWhole : Made → Made → SessionHistory → SessionHistory → Type 0
PipesWhole made other giver taker = made.options.form ≡ form.Binary
    → other.options.form ≡ form.Binary
    → (messages : List (List ℕ)) → All (Fits made.options.config.max) messages
    → giver.input ≡ in_binary messages
    → is_delivered giver.session ≡ true → undelivered taker ≡ [] → taker.session.output.waiting ≡ []
    → taker.written ≡ in_binary messages
