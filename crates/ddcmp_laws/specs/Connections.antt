-- Two sessions that are connected any number of times: what is promised since each was connected
-- last.
use Rattle.std.specs.Prelude.{◌≡◌, ℕ, Bool, true, List, [], ◌∷◌, ◌++◌, length, drop, None}
use Rattle.ddcmp_proto.specs.Config.{first_refusal}
use Rattle.ddcmp_io.specs.declared.carrier.End.{End}
use Rattle.ddcmp_io.specs.declared.carrier.End.TheVariants.{A, B}
use Rattle.ddcmp_pair.specs.Prefix.{IsPrefixOf}
use Rattle.ddcmp_pair.specs.Run.{is_clean}
use Rattle.ddcmp_input.specs.InBinary.{in_binary}
use Rattle.ddcmp_streams.specs.declared.messages.MessageForm.TheVariants as form
use Rattle.ddcmp_session.specs.Session.{SessionView, is_delivered, lost_among, lost_at_end}
use Rattle.ddcmp_laws.specs.Links.{LinkStep}
use Rattle.ddcmp_laws.specs.LinkRestarts.{calls_of_links}
use Rattle.ddcmp_laws.specs.StationRuns.{run_station_calls}
use Rattle.ddcmp_session.specs.Calls.{HasClosed, SessionStep}
use Rattle.ddcmp_session.specs.Connections.{Connection, Does, after_step, first_connection_of}
use Rattle.ddcmp_laws.specs.Sessions.{messages_of, mail_in, link_steps_of}
use Rattle.ddcmp_laws.specs.Pipe.{Made, session_of, links_made, pair_made, steps_at_end, undelivered}

abbrev pub first_connection : Made → Connection
first_connection made = first_connection_of (session_of made)

-- both ends
pub record Connections : Type 0 where
  pub a : Connection
  pub b : Connection

abbrev pub first_connections : Made → Made → Connections
first_connections first second =
    record { a = first_connection first; b = first_connection second }

abbrev pub at : End → Connections → Connection
at A p = p.a
at B p = p.b

abbrev pub after_step_at : End → SessionStep → Connections → Connections
after_step_at A step p = record { a = after_step step p.a; b = p.b }
after_step_at B step p = record { a = p.a; b = after_step step p.b }

-- Each step is a call of one of two sessions.
abbrev pub AreCalls : List (End × SessionStep) → Connections → Type 0
AreCalls [] p = Unit {0}
AreCalls (step ∷ rest) p =
    Does step.1.call (at step.0 p).history.used (at step.0 p).history.session step.1.session
    × AreCalls rest (after_step_at step.0 step.1 p)

unfoldable pub after_steps : List (End × SessionStep) → Connections → Connections
after_steps [] p = p
after_steps (step ∷ rest) p = after_steps rest (after_step_at step.0 step.1 p)

unfoldable pub link_steps : List (End × SessionStep) → Connections → List (End × LinkStep)
link_steps [] p = []
link_steps (step ∷ rest) p =
    steps_at_end step.0
    (link_steps_of step.1.call (at step.0 p).history.session step.1.session.link)
    ++ link_steps rest (after_step_at step.0 step.1 p)

-- the messages read from its input since then
abbrev pub read_since : Made → Connection → List (List ℕ)
read_since made c =
    drop (length (messages_of made.options.form made.options.config.max c.input_before))
    (messages_of made.options.form made.options.config.max c.history.input)

-- the messages that it has delivered since then
abbrev pub delivered_since : Connection → List (List ℕ)
delivered_since c = drop (length (mail_in c.shown_before)) (mail_in c.history.shown)

-- The messages that one session has delivered since it was connected are a prefix of those read
-- from the other's input since that was connected, each once and unchanged.
abbrev pub PipesAnew : Made → Connection → Connection → Type 0
PipesAnew made giver taker = IsPrefixOf (delivered_since taker) (read_since made giver)

-- If `is_delivered` holds for one session, the other has received all messages read from that one's
-- input since then: these, and no others.
abbrev pub PipesAllAnew : Made → Connection → Connection → Type 0
PipesAllAnew made giver taker = is_delivered giver.history.session ≡ true
    → delivered_since taker ++ undelivered taker.history ≡ read_since made giver

-- If one session is closed and nothing was lost, the other has received all messages read from that
-- one's input since then, and the rest of that input has no message.
abbrev pub PipesClosedAnew : Made → Connection → Connection → Type 0
PipesClosedAnew made giver taker =
    (left : List ℕ) (is_at_end is_reported : Bool) (closed : SessionView)
    → HasClosed left is_at_end is_reported giver.history.session closed → closed.course.lost ≡ 0
    → (delivered_since taker ++ undelivered taker.history ≡ read_since made giver)
    × (lost_among left giver.history.session ≡ 0)
    × (lost_at_end left is_at_end giver.history.session ≡ 0)

-- In binary, the bytes written to the output and those queued for it are the messages that were
-- delivered before, and then those delivered since.
abbrev pub WritesAnew : Made → Connection → Type 0
WritesAnew made c = made.options.form ≡ form.Binary
    → c.history.written ++ c.history.session.output.waiting
    ≡ in_binary (mail_in c.shown_before) ++ in_binary (delivered_since c)

-- A promise about two sessions is kept however often they are connected, for two new sessions of
-- any sizes in range, whatever the calls, the moments and the chunks of bytes, if the line is
-- honest and the run clean since the lines were cleared.
abbrev pub IsKeptAnew : (Made → Made → Connections → Type 0) → Type 0
IsKeptAnew Promise = (first second : Made) (steps : List (End × SessionStep))
    → first_refusal first.options.config ≡ None → first_refusal second.options.config ≡ None
    → AreCalls steps (first_connections first second)
    → (run_station_calls
    (calls_of_links (link_steps steps (first_connections first second)) (links_made first second))
    (pair_made first second)).honest ≡ true
    → is_clean
    (run_station_calls
    (calls_of_links (link_steps steps (first_connections first second)) (links_made first second))
    (pair_made first second)) ≡ true
    → Promise first second (after_steps steps (first_connections first second))
