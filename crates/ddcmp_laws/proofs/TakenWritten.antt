-- The messages that a session took are those whose text its output has taken.
use Rattle.std.proofs.Common.{◌≡◌, ◌∙◌, ap, refl, sym, subst, ℕ, zero, suc, ◌+◌, ◌-◌, Bool, true}
use Rattle.std.proofs.Common.{false, cond, List, [], ◌∷◌, ◌++◌, length, arith, nat_le}
use Rattle.std.proofs.Common.{append-nil, append_assoc, option_to_list}
use Rattle.std.specs.Prelude.{◌||◌}
use Rattle.std.proofs.lemmas.List.{drop_all}
use Rattle.ddcmp_frame.specs.Reader.{ReaderView}
use Rattle.ddcmp_input.specs.declared.entry.Entry.{Entry}
use Rattle.ddcmp_input.specs.declared.entry.Entry.TheVariants.{Message, NotHexadecimal, TooLong}
use Rattle.ddcmp_input.specs.declared.entry.Entry.TheVariants.{Empty}
use Rattle.ddcmp_input.specs.declared.entry.Entry.TheVariants as entry
use Rattle.ddcmp_io.specs.declared.line_kind.LineKind.{LineKind}
use Rattle.ddcmp_station.specs.Linking.{LinkView, after_frame}
use Rattle.ddcmp_streams.specs.declared.messages.Command.{Command}
use Rattle.ddcmp_streams.specs.declared.messages.Command.TheVariants as command
use Rattle.ddcmp_streams.specs.declared.messages.MessageForm.{MessageForm}
use Rattle.ddcmp_streams.specs.declared.options.Options.{Options}
use Rattle.ddcmp_streams.specs.Messages.{after_input, after_last, command_in, entries_of_input}
use Rattle.ddcmp_streams.specs.Messages.{entry_of_last, is_message_unfinished, message_in}
use Rattle.ddcmp_streams.specs.Options.{takes_at_once}
use Rattle.ddcmp_session.specs.Session.{SessionView, after_command, after_entries, after_input_end}
use Rattle.ddcmp_session.specs.Session.{after_last_line, after_message, after_unfinished}
use Rattle.ddcmp_session.specs.Session.{is_held, takes_end, taken_at_once, taken_when_written}
use Rattle.ddcmp_session.specs.Calls.{SessionCall, InputRead, InputEnded, Connected, LineEnded}
use Rattle.ddcmp_session.specs.Calls.{Received, Filled, LineTook, TimedOut, TimePassed, Delivered}
use Rattle.ddcmp_session.specs.Calls.{OutputTook, Closed, SessionDoes, SessionHistory, SessionStep}
use Rattle.ddcmp_session.specs.Calls.{new_session, IsSessionHistory, after_session_step}
use Rattle.ddcmp_session.specs.Calls.{after_session_steps, shown_in, written_in}
use Rattle.ddcmp_laws.specs.Links.{LinkHistory, FillsOne, after_history, after_step}
use Rattle.ddcmp_laws.specs.Sessions.{IsPlain, IsTakenAsWritten, frames_put, history_begun, link_step}
use Rattle.ddcmp_laws.specs.Sessions.{link_steps_in, link_steps_of, mail_in, offers_of, takes_put}
use Rattle.ddcmp_laws.specs.Sessions.{texts_of}
use Rattle.ddcmp_laws.proofs.Histories.{history_leads}
use Rattle.ddcmp_laws.proofs.Holding.{Holds, link_history}
use Rattle.ddcmp_laws.proofs.LinkSteps.{begins, step_leads}
use Rattle.ddcmp_laws.proofs.Queues.{but-none, but_last, take-none, taken_of}

-- ---- the options stay

entries_same : (es : List Entry) (s : SessionView) → (after_entries es s).options ≡ s.options
entries_same [] s = refl
entries_same (Message ∷ rest) s = by (is_held s)
  where
    by : (held : Bool) → (after_message held s).options ≡ s.options
    by true = refl
    by false = refl
entries_same (NotHexadecimal ∷ rest) s = refl
entries_same (TooLong ∷ rest) s = refl
entries_same (Empty ∷ rest) s = refl
entries_same (entry.Command ∷ rest) s = by (command_in s.messages)
  where
    by : (c : Command) → (after_command c s).options ≡ s.options
    by command.Ready = refl
    by command.Restart = refl
    by command.Halt = refl
    by command.Start = refl
    by command.Report = refl
    by command.Quit = refl
    by command.Unknown = refl

ended_same : (s : SessionView) → (after_input_end s).options ≡ s.options
ended_same s = by (takes_end s)
  where
    last : SessionView
    last = record s { messages = after_last s.messages; is_read = true }

    e : (after_last_line s).options ≡ s.options
    e = entries_same (option_to_list (entry_of_last s.messages)) last

    u : (b : Bool)
        → (cond b (record (after_last_line s) { was_refused = true }) (after_last_line s)).options
        ≡ (after_last_line s).options
    u true = refl
    u false = refl

    by : (b : Bool) → (cond b (after_unfinished (after_last_line s)) s).options ≡ s.options
    by true = u (is_message_unfinished (after_last_line s).messages) ∙ e
    by false = refl

abbrev options_of : SessionView → Options
options_of s = s.options

options_stay : (step : SessionStep) (h : SessionHistory)
    → SessionDoes step.call h.used h.session step.session
    → step.session.options ≡ h.session.options
options_stay step h does = by step.call step.session does
  where
    by : (call : SessionCall) (new : SessionView) → SessionDoes call h.used h.session new
        → new.options ≡ h.session.options
    by (InputRead used) new d =
        let s = record h.session { messages = after_input used h.session.messages } in
        ap options_of d.state ∙ entries_same (entries_of_input used h.session.messages) s
    by InputEnded new d = ap options_of d ∙ ended_same h.session
    by Connected new d = ap options_of d.0
    by (LineEnded how r) new d = ap options_of d.stays
    by (Received used) new d = ap options_of d.stays
    by (Filled frames) new d = ap options_of d.0
    by (LineTook n) new d = ap options_of d
    by (TimedOut now) new d = ap options_of d
    by TimePassed new d = ap options_of d.stays
    by (Delivered true) new d = ap options_of d.stays
    by (Delivered false) new d = ap options_of d.stays
    by (OutputTook n) new d = ap options_of d
    by (Closed left over r) new d = ap options_of d.stays

-- ---- calls by which no message is taken

offers_quiet : (es : List Entry) (m : List ℕ) (new : LinkView) (l : LinkHistory)
    → (after_history (offers_of es m new) l).taken ≡ l.taken
unfolding after_history
offers_quiet [] m new l = refl
offers_quiet (Message ∷ rest) m new l = append-nil l.taken
offers_quiet (NotHexadecimal ∷ rest) m new l = refl
offers_quiet (TooLong ∷ rest) m new l = refl
offers_quiet (Empty ∷ rest) m new l = refl
offers_quiet (entry.Command ∷ rest) m new l = refl

frames_quiet : (n : ℕ) (d : LinkView) (l : LinkHistory)
    → (after_history (frames_put n d) l).taken ≡ l.taken
unfolding after_history frames_put
frames_quiet zero d l = refl
frames_quiet (suc n) d l =
    frames_quiet n (after_frame d) (after_step (link_step FillsOne (after_frame d)) l)
    ∙ append-nil l.taken

takes_quiet : (n : ℕ) (d : LinkView) (l : LinkHistory) → n ≡ 0
    → (after_history (takes_put n d) l).taken ≡ l.taken
unfolding after_history takes_put
takes_quiet n d l none = ap (λ m. (after_history (takes_put m d) l).taken) none

-- ---- each call

abbrev pub AsWritten : MessageForm → SessionHistory → Type 0
AsWritten f h = IsTakenAsWritten f h (taken_of h.session h.shown)

-- a session that takes a message once its text was written, and what it took
pub record IsLate (f : MessageForm) (h : SessionHistory) : Type 0 where
  pub late : takes_at_once h.session.options ≡ false
  pub taken : AsWritten f h

module _ (f : MessageForm) (max : ℕ) (step : SessionStep) (h : SessionHistory)
    (does : SessionDoes step.call h.used h.session step.session) (holds : Holds f max h)
    (late : takes_at_once h.session.options ≡ false) (p : AsWritten f h) where
  abbrev l : LinkHistory
  l = link_history f max h 0

  abbrev then : SessionHistory
  then = after_session_step step h

  quiet : (after_history (link_steps_of step.call h.session step.session.link) l).taken ≡ l.taken
      → AsWritten f then
  quiet same =
      let leads = (step_leads f max step h 0 does holds).0 in
      let more = shown_in step.call h.used h.session in
      let text = written_in step.call h.session in
      record {
        front = p.front;
        back = p.back ++ more;
        shown = sym (append_assoc p.front p.back more) ∙ ap (λ xs. xs ++ more) p.shown;
        mail = sym (ap (λ (x : LinkHistory). x.taken) leads.1.1) ∙ same ∙ p.mail;
        text = (
          p.text.0 ++ text,
          sym (append_assoc (texts_of f p.front) p.text.0 text)
              ∙ ap (λ xs. xs ++ text) p.text.1,
        );
      }

  emptied : then.session.output.waiting ≡ [] → then.session.unwritten ≡ 0 → AsWritten f then
  emptied none all =
      let next = (step_leads f max step h 0 does holds).1 in
      record {
        front = then.shown;
        back = [];
        shown = append-nil then.shown;
        mail = ap (λ u. but_last u (mail_in then.shown)) all ∙ but-none (mail_in then.shown);
        text = (
          [],
          append-nil (texts_of f then.shown) ∙ sym next.text
              ∙ ap (λ xs. then.written ++ xs) none ∙ append-nil then.written,
        );
      }

module _ (f : MessageForm) (max : ℕ) (h : SessionHistory) (holds : Holds f max h)
    (late : takes_at_once h.session.options ≡ false) (p : AsWritten f h) where
  abbrev to : SessionCall → SessionView → SessionStep
  to call new = record { call = call; session = new }

  by_call : (call : SessionCall) (new : SessionView) → SessionDoes call h.used h.session new
      → AsWritten f (after_session_step (to call new) h)
  unfolding after_history
  by_call (InputRead used) new d =
      quiet f max (to (InputRead used) new) h d holds late p
      (offers_quiet (entries_of_input used h.session.messages)
      (message_in (after_input used h.session.messages)) new.link (link_history f max h 0))
  by_call InputEnded new d =
      quiet f max (to InputEnded new) h d holds late p (ended (takes_end h.session))
    where
      es : List Entry
      es = option_to_list (entry_of_last h.session.messages)

      m : List ℕ
      m = message_in (after_last h.session.messages)

      ended : (b : Bool)
          → (after_history (cond b (offers_of es m new.link) []) (link_history f max h 0)).taken
          ≡ (link_history f max h 0).taken
      ended true = offers_quiet es m new.link (link_history f max h 0)
      ended false = refl
  by_call Connected new d =
      quiet f max (to Connected new) h d holds late p (append-nil (taken_of h.session h.shown))
  by_call (LineEnded how r) new d =
      quiet f max (to (LineEnded how r) new) h d holds late p
      (append-nil (taken_of h.session h.shown))
  by_call (Received used) new d =
      quiet f max (to (Received used) new) h d holds late p
      (append-nil (taken_of h.session h.shown))
  by_call (Filled frames) new d =
      quiet f max (to (Filled frames) new) h d holds late p
      (frames_quiet frames h.session.link (link_history f max h 0))
  by_call (LineTook n) new d =
      quiet f max (to (LineTook n) new) h d holds late p
      (append-nil (taken_of h.session h.shown))
  by_call (TimedOut now) new d =
      quiet f max (to (TimedOut now) new) h d holds late p
      (append-nil (taken_of h.session h.shown))
  by_call TimePassed new d = quiet f max (to TimePassed new) h d holds late p refl
  by_call (Delivered true) new d =
      quiet f max (to (Delivered true) new) h d holds late p
      (takes_quiet (taken_at_once h.session) h.session.link (link_history f max h 0)
      (ap (λ b. cond b (h.session.unwritten + 1) 0) late))
  by_call (Delivered false) new d = quiet f max (to (Delivered false) new) h d holds late p refl
  by_call (OutputTook n) new d = by (nat_le (length h.session.output.waiting) n) refl
    where
      by : (b : Bool) → nat_le (length h.session.output.waiting) n ≡ b
          → AsWritten f (after_session_step (to (OutputTook n) new) h)
      by true is =
          emptied f max (to (OutputTook n) new) h d holds late p
          (ap (λ (s : SessionView). s.output.waiting) d
          ∙ drop_all n h.session.output.waiting (grind (arith, is)))
          (ap (λ (s : SessionView). s.unwritten) d
          ∙ ap (λ b. h.session.unwritten - cond b h.session.unwritten 0) is
          ∙ omega arith)
      by false is =
          quiet f max (to (OutputTook n) new) h d holds late p
          (takes_quiet (taken_when_written n h.session) h.session.link (link_history f max h 0)
          (ap (λ b. cond b h.session.unwritten 0) is))
  by_call (Closed left over r) new d =
      quiet f max (to (Closed left over r) new) h d holds late p
      (append-nil (taken_of h.session h.shown))

pub late_step : (f : MessageForm) (max : ℕ) (step : SessionStep) (h : SessionHistory)
    → SessionDoes step.call h.used h.session step.session → Holds f max h → IsLate f h
    → IsLate f (after_session_step step h)
late_step f max step h does holds l = record {
  late = ap takes_at_once (options_stay step h does) ∙ l.late;
  taken = by_call f max h holds l.late l.taken step.call step.session does;
}

-- ---- all calls of a new session

all_late : (f : MessageForm) (max : ℕ) (steps : List SessionStep) (h : SessionHistory)
    → IsSessionHistory steps h → Holds f max h → IsLate f h
    → IsLate f (after_session_steps steps h)
unfolding after_session_steps
all_late f max [] h does holds l = l
all_late f max (step ∷ rest) h does holds l =
    all_late f max rest (after_session_step step h) does.1
    (step_leads f max step h 0 does.0 holds).1 (late_step f max step h does.0 holds l)

pub late_first : (o : Options) (kind : LineKind) (line : ReaderView) → IsPlain o
    → o.acknowledge_early ≡ false → IsLate o.form (new_session o kind line)
unfolding mail_in texts_of
late_first o kind line plain early = record {
  late = λ i. plain.of_data i || early i;
  taken = record {
    front = [];
    back = [];
    shown = refl;
    mail = take-none 0;
    text = ([], refl);
  };
}

pub is_as_written : (o : Options) (kind : LineKind) (line : ReaderView) (steps : List SessionStep)
    → IsPlain o → o.acknowledge_early ≡ false → IsSessionHistory steps (new_session o kind line)
    → IsTakenAsWritten o.form (after_session_steps steps (new_session o kind line))
    (after_history (link_steps_in steps (new_session o kind line)) (history_begun o line)).taken
is_as_written o kind line steps plain early does =
    let new = new_session o kind line in
    let holds = (begins o kind line plain).0 in
    let e =
    ap (after_history (link_steps_in steps new)) (begins o kind line plain).1
    ∙ (history_leads o.form o.config.max steps new 0 does holds).0.1.1 in
    subst (IsTakenAsWritten o.form (after_session_steps steps new))
    (sym (ap (λ (l : LinkHistory). l.taken) e))
    (all_late o.form o.config.max steps new does holds (late_first o kind line plain early)).taken
