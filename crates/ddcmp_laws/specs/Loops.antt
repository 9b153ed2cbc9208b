-- Sessions that run over devices.
use Rattle.std.specs.Prelude.{◌≡◌, ℕ, true, if◌then◌else◌, List, [], ◌++◌}
use Rattle.std.specs.List.{All}
use Rattle.ddcmp_input.specs.InBinary.{in_binary, Fits}
use Rattle.ddcmp_laws.specs.Prefix.{Begins}
use Rattle.ddcmp_streams.specs.declared.messages.MessageForm.TheVariants as form
use Rattle.ddcmp_session.specs.Session.{SessionView, is_delivered}
use Rattle.ddcmp_session.specs.Calls.{SessionHistory, SessionStep, IsSessionHistory}
use Rattle.ddcmp_session.specs.Calls.{after_session_steps, end_in}
use Rattle.ddcmp_session.specs.Devices.{Agrees, BuffersView}
use Rattle.ddcmp_session.specs.Traffic.{Traffic}
use Rattle.ddcmp_session.specs.Lines.{Closes}
use Rattle.ddcmp_laws.specs.Pipe.{Made, session_of, undelivered}
use Rattle.ddcmp_laws.specs.Sessions.{mail_in, messages_of}

-- A history of a session from its beginning, which agrees with its devices at its end.
pub record HasRun (made : Made) (new : SessionView) (held : BuffersView) (t : Traffic) : Type 0
  where
    pub steps : List SessionStep
    pub calls : IsSessionHistory steps (session_of made)
    pub session : (after_session_steps steps (session_of made)).session ≡ new
    pub agrees : Agrees held (after_session_steps steps (session_of made)) t

-- In binary, if the bytes read from one's input are a prefix of a file of messages that fit, then
-- those written to the other's output are a prefix of that file, too.
abbrev pub DevicesPipe : Made → Made → SessionHistory → SessionHistory → Type 0
DevicesPipe made other giver taker = made.options.form ≡ form.Binary
    → other.options.form ≡ form.Binary
    → (messages : List (List ℕ)) → All (Fits made.options.config.max) messages
    → (held other_held : BuffersView) (t other_t : Traffic)
    → Agrees held giver t → Agrees other_held taker other_t
    → Begins t.read (in_binary messages) → Begins other_t.written (in_binary messages)

-- And if the whole file was read and none of it is held, and `is_delivered` holds for that session,
-- then the whole file was written to the other's output, once no received message is undelivered
-- and nothing is queued there.
abbrev pub DevicesPipeAll : Made → Made → SessionHistory → SessionHistory → Type 0
DevicesPipeAll made other giver taker = made.options.form ≡ form.Binary
    → other.options.form ≡ form.Binary
    → (messages : List (List ℕ)) → All (Fits made.options.config.max) messages
    → (held other_held : BuffersView) (t other_t : Traffic)
    → Agrees held giver t → Agrees other_held taker other_t
    → t.read ≡ in_binary messages → held.input ≡ [] → is_delivered giver.session ≡ true
    → undelivered taker ≡ [] → taker.session.output.waiting ≡ []
    → other_t.written ≡ in_binary messages

-- ---- until the session is closed

-- the messages in the bytes read from the input, whose end ends a last line
abbrev pub messages_given : Made → Traffic → List (List ℕ)
messages_given made t =
    messages_of made.options.form made.options.config.max
    (t.read ++ (if t.is_over then end_in made.options.form else []))

-- If one session, which no call had closed before, is closed with the input that is held, and
-- nothing was lost, the other has received all messages read from that input: these, in their
-- order, each once and unchanged, and no others.
abbrev pub DevicesDeliver : Made → SessionHistory → SessionHistory → Type 0
DevicesDeliver made giver taker = (held : BuffersView) (t : Traffic) (closed : SessionView)
    → (giver.session.is_read ≡ true → giver.is_told ≡ true)
    → Agrees held giver t → Closes held giver.session closed → closed.course.lost ≡ 0
    → mail_in taker.shown ++ undelivered taker ≡ messages_given made t

-- And in binary, if the input was a whole file of messages that fit, that file was written to the
-- other's output, once no received message is undelivered and nothing is queued there.
abbrev pub DevicesPipeClosed : Made → Made → SessionHistory → SessionHistory → Type 0
DevicesPipeClosed made other giver taker = made.options.form ≡ form.Binary
    → other.options.form ≡ form.Binary
    → (messages : List (List ℕ)) → All (Fits made.options.config.max) messages
    → (held other_held : BuffersView) (t other_t : Traffic) (closed : SessionView)
    → (giver.session.is_read ≡ true → giver.is_told ≡ true)
    → Agrees held giver t → Agrees other_held taker other_t
    → Closes held giver.session closed → closed.course.lost ≡ 0
    → t.read ≡ in_binary messages → undelivered taker ≡ []
    → taker.session.output.waiting ≡ []
    → other_t.written ≡ in_binary messages
