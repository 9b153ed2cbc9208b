-- Runs over devices to their end: all received messages are delivered and written to the output.
use Rattle.std.specs.Prelude.{◌≡◌, ◌⊎◌, ℕ, Bool, true, false, List, [], ◌++◌, map, Some}
use Rattle.std.specs.List.{All}
use Rattle.ddcmp_input.specs.InBinary.{in_binary, Fits}
use Rattle.ddcmp_streams.specs.declared.messages.MessageForm.{MessageForm}
use Rattle.ddcmp_streams.specs.declared.messages.MessageForm.TheVariants as form
use Rattle.ddcmp_streams.specs.Messages.{is_in_lines}
use Rattle.ddcmp_session.specs.Session.{SessionView}
use Rattle.ddcmp_session.specs.Calls.{SessionHistory, Shown, Mail, losses}
use Rattle.ddcmp_session.specs.Devices.{BuffersView}
use Rattle.ddcmp_session.specs.Traffic.{Traffic}
use Rattle.ddcmp_session.specs.EndText.{end_text}
use Rattle.ddcmp_session.specs.Finishing.{Finishes}
use Rattle.ddcmp_laws.specs.Pipe.{undelivered}
use Rattle.ddcmp_laws.specs.SessionRuns.{InFiles, Ran, WasEnded, got_to}
use Rattle.ddcmp_laws.specs.Sessions.{texts_of}

-- A run was ended and finished: `t` is the traffic of its devices before that, and `after` their
-- traffic in the end.
pub record WasFinished (is_well : Bool) (ran : Ran) (held : BuffersView) (t : Traffic)
    (last : SessionView) (after : Traffic) : Type 0 where
  pub closed : SessionView
  pub ended : WasEnded ran held t closed
  pub finishes : Finishes is_well closed (Some t) last (Some after)

-- all that a session delivers and reports: what it did until it was closed, the loss reported then,
-- and the messages that it had received
abbrev pub shown_at_last : Bool → SessionHistory → List Shown
shown_at_last is_reported h =
    h.shown ++ (losses is_reported h.session ++ map Mail (undelivered h))

-- the last lines of the output; in binary they are no part of it
abbrev pub last_text : MessageForm → SessionView → List ℕ
last_text form.Digits s = end_text s.options.counters s.link
last_text form.Binary s = []
last_text form.Events s = []
last_text form.EventLines s = end_text s.options.counters s.link

-- Nothing is queued, and no received message is left. The output is the text of all that was
-- delivered and reported, and then the last lines (in lines, if there was room for these).
pub record TookAll (is_reported : Bool) (ran : Ran) (last : SessionView) (after : Traffic) : Type 0
  where
    pub none_waits : last.output.waiting ≡ []
    pub no_mail : last.link.station.core.station.inbox ≡ []
    pub wrote : (is_in_lines ran.made.options.form ≡ false) ⊎ (last.output.is_cut ≡ false)
        → after.written
        ≡ texts_of ran.made.options.form (shown_at_last is_reported (got_to ran).history)
        ++ last_text ran.made.options.form last

-- Two runs ended well, and the first lost nothing: in binary, if the input of the first was a file
-- of messages that fit, that file is the output of the other.
abbrev pub FilesArrive : Ran → Ran → Type 0
FilesArrive giver taker = InFiles giver taker
    → (messages : List (List ℕ)) → All (Fits giver.made.options.config.max) messages
    → (held other_held : BuffersView) (t other_t after other_after : Traffic)
    (last other_last : SessionView)
    → WasFinished true giver held t last after → last.course.lost ≡ 0
    → WasFinished true taker other_held other_t other_last other_after
    → after.read ≡ in_binary messages → other_after.written ≡ in_binary messages
