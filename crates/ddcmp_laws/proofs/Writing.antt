-- What a session writes is the text of what it delivers and reports, of data and of maintenance.
use Rattle.std.proofs.Common.{◌≡◌, ◌∙◌, ap, refl, ℕ, Bool, true, false, cond, List, [], ◌∷◌}
use Rattle.std.proofs.Common.{◌++◌, map, option_to_list}
use Rattle.ddcmp_frame.specs.Reader.{ReaderView}
use Rattle.ddcmp_input.specs.declared.entry.Entry.{Entry}
use Rattle.ddcmp_input.specs.declared.entry.Entry.TheVariants.{Message, NotHexadecimal, TooLong}
use Rattle.ddcmp_input.specs.declared.entry.Entry.TheVariants.{Empty}
use Rattle.ddcmp_input.specs.declared.entry.Entry.TheVariants as entry
use Rattle.ddcmp_streams.specs.Messages.{command_in}
use Rattle.ddcmp_streams.specs.declared.messages.Command.{Command}
use Rattle.ddcmp_streams.specs.declared.messages.Command.TheVariants as command
use Rattle.ddcmp_session.specs.Session.{after_command, after_message, is_held}
use Rattle.ddcmp_proto.specs.Bytes.{notices_of_piece}
use Rattle.ddcmp_streams.specs.declared.messages.MessageForm.{MessageForm}
use Rattle.ddcmp_streams.specs.declared.messages.MessageForm.TheVariants as form
use Rattle.ddcmp_streams.specs.declared.messages.Messages.{Messages}
use Rattle.ddcmp_streams.specs.declared.messages.Messages.TheVariants.{Digits, Binary, Events}
use Rattle.ddcmp_streams.specs.declared.messages.Messages.TheVariants.{EventLines}
use Rattle.ddcmp_io.specs.declared.line_kind.LineKind.{LineKind}
use Rattle.ddcmp_streams.specs.declared.options.Options.{Options}
use Rattle.ddcmp_streams.specs.Messages.{messages_begun, after_input, entries_of_input, after_last}
use Rattle.ddcmp_streams.specs.Messages.{entry_of_last, is_message_unfinished}
use Rattle.ddcmp_session.specs.Session.{SessionView, form_of, takes_end, after_entries}
use Rattle.ddcmp_session.specs.Session.{after_last_line, after_unfinished, after_input_end}
use Rattle.ddcmp_session.specs.Session.{lost_by_end, next_mail}
use Rattle.ddcmp_session.specs.Text.{reported_end, reported_lost, mail_text, notices_text}
use Rattle.ddcmp_session.specs.Calls.{SessionCall, InputRead, InputEnded, Connected, LineEnded}
use Rattle.ddcmp_session.specs.Calls.{Received, Filled, LineTook, TimedOut, TimePassed, Delivered}
use Rattle.ddcmp_session.specs.Calls.{OutputTook, Closed, SessionDoes, Mail, Reports, ends, losses}
use Rattle.ddcmp_session.specs.Calls.{SessionHistory, SessionStep, new_session, IsSessionHistory}
use Rattle.ddcmp_session.specs.Calls.{after_session_step, after_session_steps}
use Rattle.ddcmp_session.proofs.InputLaws.{form-stays}
use Rattle.ddcmp_laws.proofs.Texts.{IsText, writes, keeps, took, no_text, notices_are}
use Rattle.ddcmp_laws.proofs.Texts.{end_text_is, mail_text_is, lost_text_is}

pub record Writes (f : MessageForm) (h : SessionHistory) : Type 0 where
  pub kind : form_of h.session.messages ≡ f
  pub text : IsText f h.written h.session.output h.shown

-- ---- calls that write nothing

text_stays : (f : MessageForm) (h : SessionHistory) (new : SessionView) → Writes f h
    → new.output ≡ h.session.output → IsText f (h.written ++ []) new.output (h.shown ++ [])
text_stays f h new w same =
    writes f h.written h.shown [] h.session.output new.output [] w.text
    (keeps h.session.output new.output same) (no_text f)

abbrev pub Keeps : SessionView → SessionView → Type 0
Keeps s new = (new.output ≡ s.output) × (form_of new.messages ≡ form_of s.messages)

pub entries_keep : (es : List Entry) (s : SessionView) → Keeps s (after_entries es s)
entries_keep [] s = (refl, refl)
entries_keep (Message ∷ rest) s = by (is_held s)
  where
    by : (held : Bool) → Keeps s (after_message held s)
    by true = (refl, refl)
    by false = (refl, refl)
entries_keep (NotHexadecimal ∷ rest) s = (refl, refl)
entries_keep (TooLong ∷ rest) s = (refl, refl)
entries_keep (Empty ∷ rest) s = (refl, refl)
entries_keep (entry.Command ∷ rest) s = by (command_in s.messages)
  where
    by : (c : Command) → Keeps s (after_command c s)
    by command.Ready = (refl, refl)
    by command.Restart = (refl, refl)
    by command.Halt = (refl, refl)
    by command.Start = (refl, refl)
    by command.Report = (refl, refl)
    by command.Quit = (refl, refl)
    by command.Unknown = (refl, refl)

unfinished_keeps : (s : SessionView) → Keeps s (after_unfinished s)
unfinished_keeps s = by (is_message_unfinished s.messages)
  where
    by : (b : Bool) → Keeps s (cond b (record s { was_refused = true }) s)
    by true = (refl, refl)
    by false = (refl, refl)

last_form : (m : Messages) → form_of (after_last m) ≡ form_of m
last_form (Digits v) = refl
last_form (Binary v) = refl
last_form (Events v) = refl
last_form (EventLines v) = refl

pub ended_keeps : (s : SessionView) → Keeps s (after_input_end s)
ended_keeps s = by (takes_end s)
  where
    last : SessionView
    last = record s { messages = after_last s.messages; is_read = true }

    e : Keeps last (after_last_line s)
    e = entries_keep (option_to_list (entry_of_last s.messages)) last

    u : Keeps (after_last_line s) (after_unfinished (after_last_line s))
    u = unfinished_keeps (after_last_line s)

    by : (b : Bool) → Keeps s (cond b (after_unfinished (after_last_line s)) s)
    by true = (u.0 ∙ e.0, u.1 ∙ e.1 ∙ last_form s.messages)
    by false = (refl, refl)

-- ---- each call

pub writes_step : (f : MessageForm) (step : SessionStep) (h : SessionHistory)
    → SessionDoes step.call h.used h.session step.session → Writes f h
    → Writes f (after_session_step step h)
writes_step f step h does w = by step.call step.session does
  where
    same : (new to : SessionView) → new ≡ to → form_of to.messages ≡ form_of h.session.messages
        → form_of new.messages ≡ f
    same new to is kept = ap (λ (x : SessionView). form_of x.messages) is ∙ kept ∙ w.kind

    lost : (r : Bool) → reported_lost r (form_of h.session.messages) (lost_by_end h.session)
        ≡ reported_lost r f (lost_by_end h.session)
    lost r = ap (λ g. reported_lost r g (lost_by_end h.session)) w.kind

    by : (call : SessionCall) (new : SessionView) → SessionDoes call h.used h.session new
        → Writes f (after_session_step (record { call = call; session = new }) h)
    by (InputRead used) new d =
        let s = record h.session { messages = after_input used h.session.messages } in
        let es = entries_of_input used h.session.messages in
        let e = entries_keep es s in
        record {
          kind = same new (after_entries es s) d.state
              (e.1 ∙ form-stays used h.session.messages);
          text = text_stays f h new w (ap (λ (x : SessionView). x.output) d.state ∙ e.0);
        }
    by InputEnded new d =
        let e = ended_keeps h.session in
        record {
          kind = same new (after_input_end h.session) d e.1;
          text = text_stays f h new w (ap (λ (x : SessionView). x.output) d ∙ e.0);
        }
    by Connected new d = record {
      kind = ap (λ (x : SessionView). form_of x.messages) d.0 ∙ w.kind;
      text = text_stays f h new w (ap (λ (x : SessionView). x.output) d.0);
    }
    by (LineEnded how r) new d = record {
      kind = ap (λ (x : SessionView). form_of x.messages) d.stays ∙ w.kind;
      text = writes f h.written h.shown (ends how r h.session) h.session.output new.output
          (reported_end r (form_of h.session.messages) how (lost_by_end h.session)) w.text d.wrote
          (ap (λ g. reported_end r g how (lost_by_end h.session)) w.kind
          ∙ end_text_is how r f h.session);
    }
    by (Received used) new d =
        let notices = notices_of_piece h.used used h.session.link.station.core in
        record {
          kind = ap (λ (x : SessionView). form_of x.messages) d.stays ∙ w.kind;
          text = writes f h.written h.shown (map Reports notices) h.session.output new.output
              (notices_text (form_of h.session.messages) notices) w.text d.wrote
              (ap (λ g. notices_text g notices) w.kind ∙ notices_are f notices);
        }
    by (Filled frames) new d = record {
      kind = ap (λ (x : SessionView). form_of x.messages) d.0 ∙ w.kind;
      text = text_stays f h new w (ap (λ (x : SessionView). x.output) d.0);
    }
    by (LineTook n) new d = record {
      kind = ap (λ (x : SessionView). form_of x.messages) d ∙ w.kind;
      text = text_stays f h new w (ap (λ (x : SessionView). x.output) d);
    }
    by (TimedOut now) new d = record {
      kind = ap (λ (x : SessionView). form_of x.messages) d ∙ w.kind;
      text = text_stays f h new w (ap (λ (x : SessionView). x.output) d);
    }
    by TimePassed new d = record {
      kind = ap (λ (x : SessionView). form_of x.messages) d.stays ∙ w.kind;
      text = text_stays f h new w (ap (λ (x : SessionView). x.output) d.stays);
    }
    by (Delivered true) new d =
        let first = next_mail h.session in
        record {
          kind = ap (λ (x : SessionView). form_of x.messages) d.stays ∙ w.kind;
          text = writes f h.written h.shown (map Mail (option_to_list first)) h.session.output
              new.output (mail_text (form_of h.session.messages) d.wrote.0) w.text d.wrote.2
              (ap (λ g. mail_text g d.wrote.0) w.kind
              ∙ mail_text_is f first d.wrote.0 d.wrote.1);
        }
    by (Delivered false) new d = record {
      kind = ap (λ (x : SessionView). form_of x.messages) d.stays ∙ w.kind;
      text = writes f h.written h.shown [] h.session.output new.output [] w.text d.wrote
          (no_text f);
    }
    by (OutputTook n) new d = record {
      kind = ap (λ (x : SessionView). form_of x.messages) d ∙ w.kind;
      text = took f h.written n h.shown h.session.output new.output w.text
          (ap (λ (x : SessionView). x.output.waiting) d);
    }
    by (Closed left over r) new d = record {
      kind = d.form ∙ w.kind;
      text = writes f h.written h.shown (losses r h.session) h.session.output new.output
          (reported_lost r (form_of h.session.messages) (lost_by_end h.session)) w.text d.wrote
          (lost r ∙ lost_text_is r f h.session);
    }

pub writes_all : (f : MessageForm) (steps : List SessionStep) (h : SessionHistory)
    → IsSessionHistory steps h → Writes f h → Writes f (after_session_steps steps h)
unfolding after_session_steps
writes_all f [] h does w = w
writes_all f (step ∷ rest) h does w =
    writes_all f rest (after_session_step step h) does.1 (writes_step f step h does.0 w)

-- ---- a new session

begun_kind : (f : MessageForm) (max : ℕ) → form_of (messages_begun f max) ≡ f
begun_kind form.Digits max = refl
begun_kind form.Binary max = refl
begun_kind form.Events max = refl
begun_kind form.EventLines max = refl

pub is_text : (o : Options) (kind : LineKind) (line : ReaderView) (steps : List SessionStep)
    → IsSessionHistory steps (new_session o kind line)
    → IsText o.form
    (after_session_steps steps (new_session o kind line)).written
    (after_session_steps steps (new_session o kind line)).session.output
    (after_session_steps steps (new_session o kind line)).shown
is_text o kind line steps does =
    (writes_all o.form steps (new_session o kind line) does
    (record { kind = begun_kind o.form o.config.max; text = no_text o.form })).text
