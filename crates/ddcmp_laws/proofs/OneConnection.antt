-- A session that is connected at most once: its calls are a history on a clear line.
use Rattle.std.proofs.Common.{◌≡◌, ◌∙◌, ◌⊎◌, inl, inr, ap, sym, subst, refl, ℕ}
use Rattle.std.proofs.Common.{List, [], ◌∷◌, ◌++◌, append-nil, arith}
use Rattle.std.specs.Prelude.{◌≤◌}
use Rattle.ddcmp_session.specs.Session.{SessionView}
use Rattle.ddcmp_session.specs.Calls.{Closed, Connected, Delivered, Filled, InputEnded}
use Rattle.ddcmp_session.specs.Calls.{IsSessionHistory, LineEnded, LineTook, OutputTook, Received}
use Rattle.ddcmp_session.specs.Calls.{SessionCall, SessionDoes, SessionHistory, SessionStep}
use Rattle.ddcmp_session.specs.Calls.{TimePassed, TimedOut, InputRead, after_session_step}
use Rattle.ddcmp_session.specs.Calls.{after_session_steps, gone_in, input_in, shown_in, used_in}
use Rattle.ddcmp_session.specs.Connections.{AreDone, Connection, Does, after_all, after_step}
use Rattle.ddcmp_laws.specs.Connected.{IsBareBefore, IsConnectedOnce, IsOneHistory, connections_in}
use Rattle.ddcmp_laws.specs.Connections.{first_connection}
use Rattle.ddcmp_laws.specs.Pipe.{Made, connects_in_call, session_of}
use Rattle.ddcmp_laws.specs.SessionRuns.{Ran}
use Rattle.ddcmp_laws.specs.Sessions.{mail_in}
use Rattle.ddcmp_laws.proofs.Texts.{mail_more}
use Rattle.ddcmp_laws.proofs.Unconnected.{IsIdle, call-none, none-more}

-- ---- its history

-- it hasn't been connected
pub record IsNew (h : SessionHistory) : Type 0 where
  pub idle : IsIdle h.session
  pub used : h.used ≡ []
  pub gone : h.gone ≡ []
  pub input : h.input ≡ []
  pub mail : mail_in h.shown ≡ []

pub stays-new : (call : SessionCall) (new : SessionView) (h : SessionHistory)
    → connects_in_call call ≡ 0 → SessionDoes call h.used h.session new → IsNew h
    → IsNew (after_session_step (record { call = call; session = new }) h)
stays-new call new h none d was =
    let adds = call-none call none h.used h.session new d was.idle in
    record {
      idle = adds.idle;
      used = none-more h.used (used_in call) was.used adds.used;
      gone = none-more h.gone (gone_in call h.session) was.gone adds.gone;
      input = none-more h.input (input_in call h.session) was.input adds.input;
      mail =
          mail_more h.shown (shown_in call h.used h.session)
          ∙ none-more (mail_in h.shown) (mail_in (shown_in call h.used h.session)) was.mail
          adds.mail;
    }

-- It isn't connected by these calls, or once, and wasn't before.
abbrev pub Once : List SessionStep → SessionHistory → Type 0
Once steps h = (connections_in steps ≡ 0) ⊎ ((connections_in steps ≤ 1) × IsNew h)

-- what a call does of a session that is connected once
abbrev pub StepOnce : SessionCall → SessionView → List SessionStep → Connection → Type 0
StepOnce call new rest c =
    SessionDoes call c.history.used c.history.session new
    × ((after_step (record { call = call; session = new }) c).history
    ≡ after_session_step (record { call = call; session = new }) c.history)
    × Once rest (after_step (record { call = call; session = new }) c).history
    × IsBareBefore (after_step (record { call = call; session = new }) c)

-- a call that doesn't connect it
goes-on : (call : SessionCall) (new : SessionView) (rest : List SessionStep) (c : Connection)
    → connects_in_call call ≡ 0 → SessionDoes call c.history.used c.history.session new
    → after_step (record { call = call; session = new }) c
    ≡ record c { history = after_session_step (record { call = call; session = new }) c.history }
    → Once (record { call = call; session = new } ∷ rest) c.history → IsBareBefore c
    → StepOnce call new rest c
unfolding connections_in
goes-on call new rest c none does is once bare = (
  does,
  ap (λ (x : Connection). x.history) is,
  subst (λ (x : Connection). Once rest x.history) (sym is) (more once),
  subst IsBareBefore (sym is)
      (record { none_read = bare.none_read; none_delivered = bare.none_delivered }),
)
  where
    more : Once (record { call = call; session = new } ∷ rest) c.history
        → Once rest (after_session_step (record { call = call; session = new }) c.history)
    more (inl never) = inl (omega (arith, never))
    more (inr w) = inr (omega (arith, w.0, none), stays-new call new c.history none does w.1)

pub step-once : (call : SessionCall) (new : SessionView) (rest : List SessionStep) (c : Connection)
    → Does call c.history.used c.history.session new
    → Once (record { call = call; session = new } ∷ rest) c.history → IsBareBefore c
    → StepOnce call new rest c
unfolding connections_in
step-once Connected new rest c d (inl never) bare = no (omega (arith, never))
  where
    no : {P : Type 0} → ◌≡◌ {A = ℕ} 1 0 → P
    no e = cc
step-once Connected new rest c d (inr w) bare =
    let h = after_session_step (record { call = Connected; session = new }) c.history in
    let used = none-more c.history.used [] w.1.used refl in
    let gone = none-more c.history.gone [] w.1.gone refl in (
      (d, w.1.used, w.1.idle.waiting),
      λ i. record h { used = sym used i; gone = sym gone i },
      inl (omega (arith, w.0)),
      record {
        none_read = none-more c.history.input [] w.1.input refl;
        none_delivered = ap mail_in (none-after c.history.shown) ∙ w.1.mail;
      },
    )
  where
    none-after : {A : Type 0} (xs : List A) → xs ++ [] ≡ xs
    none-after xs = append-nil xs
step-once (InputRead used) new rest c d once bare =
    goes-on (InputRead used) new rest c refl d refl once bare
step-once InputEnded new rest c d once bare =
    goes-on InputEnded new rest c refl d refl once bare
step-once (LineEnded how r) new rest c d once bare =
    goes-on (LineEnded how r) new rest c refl d refl once bare
step-once (Received used) new rest c d once bare =
    goes-on (Received used) new rest c refl d refl once bare
step-once (Filled n) new rest c d once bare =
    goes-on (Filled n) new rest c refl d refl once bare
step-once (LineTook n) new rest c d once bare =
    goes-on (LineTook n) new rest c refl d refl once bare
step-once (TimedOut now) new rest c d once bare =
    goes-on (TimedOut now) new rest c refl d refl once bare
step-once TimePassed new rest c d once bare =
    goes-on TimePassed new rest c refl d refl once bare
step-once (Delivered has) new rest c d once bare =
    goes-on (Delivered has) new rest c refl d refl once bare
step-once (OutputTook n) new rest c d once bare =
    goes-on (OutputTook n) new rest c refl d refl once bare
step-once (Closed left over r) new rest c d once bare =
    goes-on (Closed left over r) new rest c refl d refl once bare

pub first-new : (made : Made) → IsNew (session_of made)
unfolding mail_in
first-new made = record {
  idle = record {
    shut = refl;
    halted = refl;
    inbox = refl;
    waiting = refl;
    never = refl;
  };
  used = refl;
  gone = refl;
  input = refl;
  mail = refl;
}

pub first-once : (made : Made) (steps : List SessionStep) → connections_in steps ≤ 1
    → Once steps (session_of made)
first-once made steps once = inr (once, first-new made)

pub first-bare : (made : Made) → IsBareBefore (first_connection made)
unfolding mail_in
first-bare made = record { none_read = refl; none_delivered = refl }

all-once : (steps : List SessionStep) (c : Connection) → AreDone steps c → Once steps c.history
    → IsBareBefore c
    → IsSessionHistory steps c.history
    × ((after_all steps c).history ≡ after_session_steps steps c.history)
    × IsBareBefore (after_all steps c)
unfolding after_all after_session_steps
all-once [] c does once bare = (tt, refl, bare)
all-once (step ∷ rest) c does once bare =
    let s = step-once step.call step.session rest c does.0 once bare in
    let r = all-once rest (after_step step c) does.1 s.2 s.3 in (
      (s.0, subst (IsSessionHistory rest) s.1 r.0),
      r.1 ∙ ap (after_session_steps rest) s.1,
      r.2,
    )

pub one_history : (ran : Ran) → AreDone ran.steps (first_connection ran.made)
    → IsConnectedOnce ran → IsOneHistory ran
one_history ran does once =
    let r =
    all-once ran.steps (first_connection ran.made) does (first-once ran.made ran.steps once)
    (first-bare ran.made) in
    record { calls = r.0; same = r.1; before = r.2 }
