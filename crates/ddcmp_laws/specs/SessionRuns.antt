-- Two runs over devices, over one line after the other: the input of one is the output of the
-- other.
use Rattle.std.specs.Prelude.{◌≡◌, ℕ, true, List, [], ◌∷◌, ◌++◌, length}
use Rattle.std.specs.Prelude.{drop, None}
use Rattle.std.specs.List.{All}
use Rattle.ddcmp_input.specs.InBinary.{in_binary, Fits}
use Rattle.ddcmp_proto.specs.Config.{first_refusal}
use Rattle.ddcmp_io.specs.declared.carrier.End.{End}
use Rattle.ddcmp_io.specs.declared.carrier.End.TheVariants.{A, B}
use Rattle.ddcmp_pair.specs.Prefix.{IsPrefixOf}
use Rattle.ddcmp_pair.specs.Run.{is_clean}
use Rattle.ddcmp_laws.specs.Prefix.{Begins}
use Rattle.ddcmp_laws.specs.LinkRestarts.{calls_of_links}
use Rattle.ddcmp_laws.specs.StationRuns.{run_station_calls}
use Rattle.ddcmp_streams.specs.declared.messages.MessageForm.TheVariants as form
use Rattle.ddcmp_session.specs.Session.{SessionView}
use Rattle.ddcmp_session.specs.Calls.{SessionStep}
use Rattle.ddcmp_session.specs.Connections.{AreDone, Connection, after_all}
use Rattle.ddcmp_session.specs.Devices.{Agrees, BuffersView}
use Rattle.ddcmp_session.specs.Traffic.{Traffic}
use Rattle.ddcmp_session.specs.Lines.{AllKeepOpen, Closes}
use Rattle.ddcmp_laws.specs.Sessions.{messages_of, mail_in}
use Rattle.ddcmp_laws.specs.Pipe.{Made, links_made, pair_made, undelivered}
use Rattle.ddcmp_laws.specs.Connections.{first_connection, first_connections, link_steps}
use Rattle.ddcmp_laws.specs.Connections.{delivered_since}
use Rattle.ddcmp_laws.specs.Loops.{messages_given}

-- a run: how its session was made, and its calls
pub record Ran : Type 0 where
  pub made : Made
  pub steps : List SessionStep

abbrev pub got_to : Ran → Connection
got_to ran = after_all ran.steps (first_connection ran.made)

-- ---- two runs in some order of their calls

-- the calls of one end, among those of both
abbrev pub calls_if : End → End → SessionStep → List SessionStep
calls_if A A step = step ∷ []
calls_if B B step = step ∷ []
calls_if _ _ step = []

unfoldable pub calls_of : End → List (End × SessionStep) → List SessionStep
calls_of e [] = []
calls_of e (step ∷ rest) = calls_if e step.0 step.1 ++ calls_of e rest

-- The line is honest, and the run clean since the lines were cleared.
pub record RanTogether (a b : Ran) : Type 0 where
  pub steps : List (End × SessionStep)
  pub of_a : calls_of A steps ≡ a.steps
  pub of_b : calls_of B steps ≡ b.steps
  pub honest : (run_station_calls
      (calls_of_links (link_steps steps (first_connections a.made b.made))
      (links_made a.made b.made))
      (pair_made a.made b.made)).honest ≡ true
  pub clean : is_clean
      (run_station_calls
      (calls_of_links (link_steps steps (first_connections a.made b.made))
      (links_made a.made b.made))
      (pair_made a.made b.made)) ≡ true

-- A promise about two runs is kept, for new sessions of any sizes in range, whatever their calls.
abbrev pub IsKeptByRuns : (Ran → Ran → Type 0) → Type 0
IsKeptByRuns Promise = (a b : Ran)
    → first_refusal a.made.options.config ≡ None → first_refusal b.made.options.config ≡ None
    → AreDone a.steps (first_connection a.made) → AreDone b.steps (first_connection b.made)
    → RanTogether a b → Promise a b

-- the messages in the bytes read from the input, without those that the session had read before it
-- was connected last
abbrev pub given_since : Made → Connection → Traffic → List (List ℕ)
given_since made c t =
    drop (length (messages_of made.options.form made.options.config.max c.input_before))
    (messages_given made t)

-- The run was ended: its session, which no call had closed before, was closed with the input held.
pub record WasEnded (ran : Ran) (held : BuffersView) (t : Traffic) (closed : SessionView) : Type 0
  where
    pub only : AllKeepOpen ran.steps
    pub agrees : Agrees held (got_to ran).history t
    pub closes : Closes held (got_to ran).history.session closed

-- ---- the promises

-- The messages that one has delivered since it was connected are a prefix of those read from the
-- other's input since that was connected, each once and unchanged.
abbrev pub DeliversFirst : Ran → Ran → Type 0
DeliversFirst giver taker = (held : BuffersView) (t : Traffic)
    → Agrees held (got_to giver).history t
    → IsPrefixOf (delivered_since (got_to taker)) (given_since giver.made (got_to giver) t)

-- If that other run was ended and lost nothing, the one has received all of them.
abbrev pub DeliversAll : Ran → Ran → Type 0
DeliversAll giver taker = (held : BuffersView) (t : Traffic) (closed : SessionView)
    → WasEnded giver held t closed → closed.course.lost ≡ 0
    → delivered_since (got_to taker) ++ undelivered (got_to taker).history
    ≡ given_since giver.made (got_to giver) t

-- both are in binary, and no message went over an earlier line
pub record InFiles (giver taker : Ran) : Type 0 where
  pub giver_form : giver.made.options.form ≡ form.Binary
  pub taker_form : taker.made.options.form ≡ form.Binary
  pub none_read : (got_to giver).input_before ≡ []
  pub none_delivered : mail_in (got_to taker).shown_before ≡ []

-- If the bytes read from one's input are a prefix of a file of messages that fit, those written to
-- the other's output are a prefix of that file, too.
abbrev pub FilesBegin : Ran → Ran → Type 0
FilesBegin giver taker = InFiles giver taker
    → (messages : List (List ℕ)) → All (Fits giver.made.options.config.max) messages
    → (held other_held : BuffersView) (t other_t : Traffic)
    → Agrees held (got_to giver).history t → Agrees other_held (got_to taker).history other_t
    → Begins t.read (in_binary messages) → Begins other_t.written (in_binary messages)

-- If the whole file was read, and that run was ended and lost nothing, the whole file was written
-- to the other's output, once no received message is undelivered and nothing is queued there.
abbrev pub FilesPass : Ran → Ran → Type 0
FilesPass giver taker = InFiles giver taker
    → (messages : List (List ℕ)) → All (Fits giver.made.options.config.max) messages
    → (held other_held : BuffersView) (t other_t : Traffic) (closed : SessionView)
    → WasEnded giver held t closed → Agrees other_held (got_to taker).history other_t
    → closed.course.lost ≡ 0 → t.read ≡ in_binary messages
    → undelivered (got_to taker).history ≡ []
    → (got_to taker).history.session.output.waiting ≡ []
    → other_t.written ≡ in_binary messages
