-- What a session has lost that is connected again.
use Rattle.std.proofs.Common.{◌≡◌, refl, sym, subst, inr, ℕ, List, [], ◌∷◌}
use Rattle.ddcmp_io.specs.declared.carrier.End.{End}
use Rattle.ddcmp_io.specs.declared.carrier.End.TheVariants.{A, B}
use Rattle.ddcmp_session.specs.Session.{SessionView}
use Rattle.ddcmp_session.specs.Calls.{SessionCall, InputRead, InputEnded, Connected, LineEnded}
use Rattle.ddcmp_session.specs.Calls.{Received, Filled, LineTook, TimedOut, TimePassed, Delivered}
use Rattle.ddcmp_session.specs.Calls.{OutputTook, Closed, SessionStep}
use Rattle.ddcmp_session.specs.Connections.{Connection, Does, after_step}
use Rattle.ddcmp_laws.specs.Connections.{AreCalls, Connections, after_step_at, after_steps, at}
use Rattle.ddcmp_laws.proofs.Losing.{Counted, Outcome, counts, outcome}

does-so : (call : SessionCall) (text : List ℕ) (old new : SessionView)
    → Does call text old new → Outcome old new
does-so Connected text old new d = inr (inr d)
does-so (InputRead used) text old new d = outcome (InputRead used) text old new d
does-so InputEnded text old new d = outcome InputEnded text old new d
does-so (LineEnded how r) text old new d = outcome (LineEnded how r) text old new d
does-so (Received used) text old new d = outcome (Received used) text old new d
does-so (Filled n) text old new d = outcome (Filled n) text old new d
does-so (LineTook n) text old new d = outcome (LineTook n) text old new d
does-so (TimedOut now) text old new d = outcome (TimedOut now) text old new d
does-so TimePassed text old new d = outcome TimePassed text old new d
does-so (Delivered has) text old new d = outcome (Delivered has) text old new d
does-so (OutputTook n) text old new d = outcome (OutputTook n) text old new d
does-so (Closed left over r) text old new d = outcome (Closed left over r) text old new d

-- a call leads to its session
pub session-after : (call : SessionCall) (new : SessionView) (c : Connection)
    → (after_step (record { call = call; session = new }) c).history.session ≡ new
session-after Connected new c = refl
session-after (InputRead used) new c = refl
session-after InputEnded new c = refl
session-after (LineEnded how r) new c = refl
session-after (Received used) new c = refl
session-after (Filled n) new c = refl
session-after (LineTook n) new c = refl
session-after (TimedOut now) new c = refl
session-after TimePassed new c = refl
session-after (Delivered has) new c = refl
session-after (OutputTook n) new c = refl
session-after (Closed left over r) new c = refl

pub one-does : (one : SessionStep) (c : Connection)
    → Does one.call c.history.used c.history.session one.session
    → Outcome c.history.session (after_step one c).history.session
one-does one c d =
    subst (Outcome c.history.session) (sym (session-after one.call one.session c))
    (does-so one.call c.history.used c.history.session one.session d)

pub one-counts : (one : SessionStep) (c : Connection)
    → Does one.call c.history.used c.history.session one.session → Counted c.history.session
    → Counted (after_step one c).history.session
one-counts one c d was =
    counts c.history.session (after_step one c).history.session (one-does one c d) was

pub counts-anew-a : (steps : List (End × SessionStep)) (p : Connections) → AreCalls steps p
    → Counted p.a.history.session → Counted (after_steps steps p).a.history.session
unfolding after_steps
counts-anew-a [] p does was = was
counts-anew-a (step ∷ rest) p does was =
    counts-anew-a rest (after_step_at step.0 step.1 p) does.1 (by step.0 step.1 does.0)
  where
    by : (end : End) (one : SessionStep)
        → Does one.call (at end p).history.used (at end p).history.session one.session
        → Counted (after_step_at end one p).a.history.session
    by A one d = one-counts one p.a d was
    by B one d = was

pub counts-anew-b : (steps : List (End × SessionStep)) (p : Connections) → AreCalls steps p
    → Counted p.b.history.session → Counted (after_steps steps p).b.history.session
unfolding after_steps
counts-anew-b [] p does was = was
counts-anew-b (step ∷ rest) p does was =
    counts-anew-b rest (after_step_at step.0 step.1 p) does.1 (by step.0 step.1 does.0)
  where
    by : (end : End) (one : SessionStep)
        → Does one.call (at end p).history.used (at end p).history.session one.session
        → Counted (after_step_at end one p).b.history.session
    by A one d = was
    by B one d = one-counts one p.b d was
