-- Two sessions, of which one takes a message once its text was written.
use Rattle.std.proofs.Common.{◌≡◌, ◌∙◌, ap, sym, ℕ, ◌+◌, ◌≤◌, List, [], ◌∷◌, ◌++◌}
use Rattle.std.proofs.Common.{append-nil, arith, length, length-append, subst}
use Rattle.ddcmp_io.specs.declared.carrier.End.{End}
use Rattle.ddcmp_io.specs.declared.carrier.End.TheVariants.{A, B}
use Rattle.ddcmp_pair.specs.Prefix.{IsPrefixOf}
use Rattle.ddcmp_streams.specs.Options.{takes_at_once}
use Rattle.ddcmp_streams.specs.declared.messages.MessageForm.{MessageForm}
use Rattle.ddcmp_session.specs.Session.{SessionView}
use Rattle.ddcmp_session.specs.Calls.{SessionCall, InputRead, InputEnded, Connected, LineEnded}
use Rattle.ddcmp_session.specs.Calls.{Received, Filled, LineTook, TimedOut, TimePassed, Delivered}
use Rattle.ddcmp_session.specs.Calls.{OutputTook, Closed, SessionDoes, SessionHistory, SessionStep}
use Rattle.ddcmp_session.specs.Calls.{after_session_step}
use Rattle.ddcmp_session.specs.Connections.{Connection, Does, after_step}
use Rattle.ddcmp_laws.specs.Connections.{AreCalls, Connections, after_step_at, after_steps}
use Rattle.ddcmp_laws.specs.Pipe.{AreSessionCalls, Made, Sessions, after_session_at, after_sessions}
use Rattle.ddcmp_laws.specs.Written.{AreWritten}
use Rattle.ddcmp_laws.specs.Sessions.{IsTakenAsWritten, mail_in}
use Rattle.ddcmp_laws.proofs.Anew.{Stays, follows, none_yet}
use Rattle.ddcmp_laws.proofs.Holding.{Holds}
use Rattle.ddcmp_laws.proofs.LinkSteps.{step_leads}
use Rattle.ddcmp_laws.proofs.Queues.{but_last, taken_of}
use Rattle.ddcmp_laws.proofs.TakenWritten.{AsWritten, IsLate, late_step}

-- ---- connected at most once

pub late_a : (first : Made) (steps : List (End × SessionStep)) (p : Sessions)
    → AreSessionCalls steps p → Holds first.options.form first.options.config.max p.a
    → IsLate first.options.form p.a → IsLate first.options.form (after_sessions steps p).a
unfolding after_sessions
late_a first [] p does holds l = l
late_a first ((A, step) ∷ rest) p does holds l =
    let f = first.options.form in
    let max = first.options.config.max in
    late_a first rest (after_session_at A step p) does.1 (step_leads f max step p.a 0 does.0 holds).1
    (late_step f max step p.a does.0 holds l)
late_a first ((B, step) ∷ rest) p does holds l =
    late_a first rest (after_session_at B step p) does.1 holds l

pub late_b : (second : Made) (steps : List (End × SessionStep)) (p : Sessions)
    → AreSessionCalls steps p → Holds second.options.form second.options.config.max p.b
    → IsLate second.options.form p.b → IsLate second.options.form (after_sessions steps p).b
unfolding after_sessions
late_b second [] p does holds l = l
late_b second ((A, step) ∷ rest) p does holds l =
    late_b second rest (after_session_at A step p) does.1 holds l
late_b second ((B, step) ∷ rest) p does holds l =
    let f = second.options.form in
    let max = second.options.config.max in
    late_b second rest (after_session_at B step p) does.1
    (step_leads f max step p.b 0 does.0 holds).1 (late_step f max step p.b does.0 holds l)

-- ---- connected any number of times

connected : (made : Made) (c : Connection) (new : SessionView)
    → Does Connected c.history.used c.history.session new → IsLate made.options.form c.history
    → IsLate made.options.form
    (after_step (record { call = Connected; session = new }) c).history
connected made c new d l =
    let h = c.history in
    let shown = append-nil h.shown in
    let left : new.unwritten ≡ h.session.unwritten = ap (λ (s : SessionView). s.unwritten) d in
    record {
      late = ap (λ (s : SessionView). takes_at_once s.options) d ∙ l.late;
      taken = record {
        front = l.taken.front;
        back = l.taken.back;
        shown = l.taken.shown ∙ sym shown;
        mail = (λ i. but_last (left i) (mail_in (shown i))) ∙ l.taken.mail;
        text = (l.taken.text.0, l.taken.text.1 ∙ sym (append-nil h.written));
      };
    }

late_done : (made : Made) (step : SessionStep) (c : Connection)
    → Does step.call c.history.used c.history.session step.session → Stays made c
    → IsLate made.options.form c.history → IsLate made.options.form (after_step step c).history
late_done made step c does stays l = by step.call step.session does
  where
    to : SessionCall → SessionView → SessionStep
    to call new = record { call = call; session = new }

    same : (call : SessionCall) (new : SessionView)
        → SessionDoes call c.history.used c.history.session new
        → IsLate made.options.form (after_session_step (to call new) c.history)
    same call new d =
        late_step made.options.form made.options.config.max (to call new) c.history d stays.holds l

    by : (call : SessionCall) (new : SessionView)
        → Does call c.history.used c.history.session new
        → IsLate made.options.form (after_step (to call new) c).history
    by Connected new d = connected made c new d l
    by (InputRead used) new d = same (InputRead used) new d
    by InputEnded new d = same InputEnded new d
    by (LineEnded how r) new d = same (LineEnded how r) new d
    by (Received used) new d = same (Received used) new d
    by (Filled n) new d = same (Filled n) new d
    by (LineTook n) new d = same (LineTook n) new d
    by (TimedOut now) new d = same (TimedOut now) new d
    by TimePassed new d = same TimePassed new d
    by (Delivered has) new d = same (Delivered has) new d
    by (OutputTook n) new d = same (OutputTook n) new d
    by (Closed left over r) new d = same (Closed left over r) new d

pub late_anew_a : (first : Made) (steps : List (End × SessionStep)) (c : Connections)
    → AreCalls steps c → Stays first c.a → IsLate first.options.form c.a.history
    → IsLate first.options.form (after_steps steps c).a.history
unfolding after_steps
late_anew_a first [] c does stays l = l
late_anew_a first ((A, step) ∷ rest) c does stays l =
    late_anew_a first rest (after_step_at A step c) does.1
    (follows first step c.a none_yet does.0 stays).2 (late_done first step c.a does.0 stays l)
late_anew_a first ((B, step) ∷ rest) c does stays l =
    late_anew_a first rest (after_step_at B step c) does.1 stays l

pub late_anew_b : (second : Made) (steps : List (End × SessionStep)) (c : Connections)
    → AreCalls steps c → Stays second c.b → IsLate second.options.form c.b.history
    → IsLate second.options.form (after_steps steps c).b.history
unfolding after_steps
late_anew_b second [] c does stays l = l
late_anew_b second ((A, step) ∷ rest) c does stays l =
    late_anew_b second rest (after_step_at A step c) does.1 stays l
late_anew_b second ((B, step) ∷ rest) c does stays l =
    late_anew_b second rest (after_step_at B step c) does.1
    (follows second step c.b none_yet does.0 stays).2 (late_done second step c.b does.0 stays l)

-- ---- what was written of the messages that the other accepted

pub are_written : (f : MessageForm) (taker : SessionHistory) (before mail accepted : List (List ℕ))
    (left : ℕ) → IsPrefixOf mail accepted → length accepted ≤ length mail + left
    → taken_of taker.session taker.shown ≡ before ++ mail → AsWritten f taker
    → AreWritten f taker before accepted left
are_written f taker before mail accepted left order few is taken = record {
  mail = mail;
  rest = order.0;
  all = order.1;
  few =
      let n = length-append mail order.0 in
      let e = ap length order.1 in
      omega (arith, n, e, few);
  written = subst (IsTakenAsWritten f taker) is taken;
}
