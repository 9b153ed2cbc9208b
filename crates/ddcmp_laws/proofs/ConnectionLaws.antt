-- Two runs, each connected at most once, over streams: the one connection of each is its last.
use Rattle.std.proofs.Common.{◌≡◌, ◌⊎◌, inl, inr, ap, sym, subst, ℕ, List, [], ◌∷◌, None, true}
use Rattle.std.proofs.Common.{arith}
use Rattle.std.specs.Prelude.{◌≤◌, is_ok}
use Rattle.ddcmp_core.specs.Table.{after_halt, answer_to_start}
use Rattle.ddcmp_proto.specs.Config.{first_refusal}
use Rattle.ddcmp_io.specs.declared.carrier.End.{End}
use Rattle.ddcmp_io.specs.declared.carrier.End.TheVariants.{A, B}
use Rattle.ddcmp_session.specs.Session.{SessionView, starts}
use Rattle.ddcmp_session.specs.Calls.{Closed, Connected, Delivered, Filled, InputEnded, LineEnded}
use Rattle.ddcmp_session.specs.Calls.{LineTook, OutputTook, Received, SessionCall, SessionDoes}
use Rattle.ddcmp_session.specs.Calls.{SessionStep, TimePassed, TimedOut, InputRead}
use Rattle.ddcmp_session.specs.Connections.{AreDone, Connection, Does, after_step}
use Rattle.ddcmp_laws.specs.Connected.{AreOverStreams, AreTwoRuns, BinaryIsInFiles, IsBareBefore}
use Rattle.ddcmp_laws.specs.Connected.{IsConnectedOnce, RanOverStreams, connections_in}
use Rattle.ddcmp_laws.specs.Connected.{histories_of}
use Rattle.ddcmp_laws.specs.Connections.{Connections, after_step_at, first_connection}
use Rattle.ddcmp_laws.specs.Connections.{first_connections}
use Rattle.ddcmp_laws.specs.LastConnection.{EndOverStreams, StartsEach, StartsIf, StartsLast}
use Rattle.ddcmp_laws.specs.Pipe.{AreConnectedOnce, AreSessionStreams, Made, SessionsOverStreams}
use Rattle.ddcmp_laws.specs.Pipe.{after_session_at, connects_in_call, new_sessions}
use Rattle.ddcmp_laws.specs.SessionRuns.{Ran, RanTogether, calls_of}
use Rattle.ddcmp_laws.proofs.LastConnection.{connected-at}
use Rattle.ddcmp_laws.proofs.LastRuns.{runs-together}
use Rattle.ddcmp_laws.proofs.OneConnection.{Once, first-bare, first-once, one_history}
use Rattle.ddcmp_laws.proofs.OneConnection.{step-once}

-- ---- calls of sessions are those of runs

pub does-so : (call : SessionCall) (text : List ℕ) (old new : SessionView)
    → SessionDoes call text old new → Does call text old new
does-so Connected text old new d = d.0
does-so (InputRead used) text old new d = d
does-so InputEnded text old new d = d
does-so (LineEnded how r) text old new d = d
does-so (Received used) text old new d = d
does-so (Filled n) text old new d = d
does-so (LineTook n) text old new d = d
does-so (TimedOut now) text old new d = d
does-so TimePassed text old new d = d
does-so (Delivered has) text old new d = d
does-so (OutputTook n) text old new d = d
does-so (Closed left over r) text old new d = d

abbrev BothDone : List (End × SessionStep) → Connections → Type 0
BothDone steps p =
    AreDone (calls_of A steps) p.a × AreDone (calls_of B steps) p.b × AreOverStreams steps p

both-done : (steps : List (End × SessionStep)) (p : Connections)
    → SessionsOverStreams steps (histories_of p) → Once (calls_of A steps) p.a.history
    → Once (calls_of B steps) p.b.history → IsBareBefore p.a → IsBareBefore p.b
    → BothDone steps p
unfolding calls_of
both-done [] p over at_a at_b bare_a bare_b = (tt, tt, tt)
both-done ((A, step) ∷ rest) p over at_a at_b bare_a bare_b =
    let d = does-so step.call p.a.history.used p.a.history.session step.session over.0 in
    let s = step-once step.call step.session (calls_of A rest) p.a d at_a bare_a in
    let e : histories_of (after_step_at A step p) ≡ after_session_at A step (histories_of p) =
    λ i. record { a = s.1 i; b = p.b.history } in
    let r =
    both-done rest (after_step_at A step p) (subst (SessionsOverStreams rest) (sym e) over.2) s.2
    at_b s.3 bare_b in
    ((d, r.0), r.1, (subst AreSessionStreams (sym e) over.1, r.2))
both-done ((B, step) ∷ rest) p over at_a at_b bare_a bare_b =
    let d = does-so step.call p.b.history.used p.b.history.session step.session over.0 in
    let s = step-once step.call step.session (calls_of B rest) p.b d at_b bare_b in
    let e : histories_of (after_step_at B step p) ≡ after_session_at B step (histories_of p) =
    λ i. record { a = p.a.history; b = s.1 i } in
    let r =
    both-done rest (after_step_at B step p) (subst (SessionsOverStreams rest) (sym e) over.2) at_a
    s.2 bare_a s.3 in
    (r.0, (d, r.1), (subst AreSessionStreams (sym e) over.1, r.2))

pub two_runs : (first second : Made) (steps : List (End × SessionStep))
    → SessionsOverStreams steps (new_sessions first second) → AreConnectedOnce steps
    → AreTwoRuns first second steps
two_runs first second steps over once =
    let once_a = subst (λ n. n ≤ 1) (sym (connected-at A steps)) once.at_a in
    let once_b = subst (λ n. n ≤ 1) (sym (connected-at B steps)) once.at_b in
    let d =
    both-done steps (first_connections first second) over
    (first-once first (calls_of A steps) once_a) (first-once second (calls_of B steps) once_b)
    (first-bare first) (first-bare second) in
    record { of_a = d.0; of_b = d.1; once_a = once_a; once_b = once_b; streams = d.2 }

-- ---- one connection is the last

-- with an empty inbox it is started
pub starts-new : (s : SessionView) → s.link.station.core.station.inbox ≡ [] → starts s ≡ true
starts-new s empty =
    ap
    (λ inbox. is_ok (answer_to_start (record (after_halt s.link.station.core.station) {
      inbox = inbox;
    }))) empty

starts-if : (call : SessionCall) (s : SessionView)
    → (connects_in_call call ≡ 0) ⊎ (s.link.station.core.station.inbox ≡ []) → StartsIf call s
starts-if Connected s (inl never) = no never
  where
    no : {P : Type 0} → ◌≡◌ {A = ℕ} 1 0 → P
    no e = cc
starts-if Connected s (inr empty) = starts-new s empty
starts-if (InputRead used) s is = tt
starts-if InputEnded s is = tt
starts-if (LineEnded how r) s is = tt
starts-if (Received used) s is = tt
starts-if (Filled n) s is = tt
starts-if (LineTook n) s is = tt
starts-if (TimedOut now) s is = tt
starts-if TimePassed s is = tt
starts-if (Delivered has) s is = tt
starts-if (OutputTook n) s is = tt
starts-if (Closed left over r) s is = tt

starts-last : (steps : List SessionStep) (c : Connection) → AreDone steps c → Once steps c.history
    → IsBareBefore c → StartsLast steps c
unfolding connections_in
starts-last [] c does once bare = tt
starts-last (step ∷ rest) c does once bare =
    let s = step-once step.call step.session rest c does.0 once bare in (
      λ e. starts-if step.call c.history.session (by once),
      starts-last rest (after_step step c) does.1 s.2 s.3,
    )
  where
    by : Once (step ∷ rest) c.history
        → (connects_in_call step.call ≡ 0)
        ⊎ (c.history.session.link.station.core.station.inbox ≡ [])
    by (inl never) = inl (omega (arith, never))
    by (inr w) = inr w.1.idle.inbox

starts-all : (steps : List SessionStep) (c : Connection) → AreDone steps c → Once steps c.history
    → IsBareBefore c → StartsEach steps c
unfolding connections_in
starts-all [] c does once bare = tt
starts-all (step ∷ rest) c does once bare =
    let s = step-once step.call step.session rest c does.0 once bare in (
      starts-if step.call c.history.session (by once),
      starts-all rest (after_step step c) does.1 s.2 s.3,
    )
  where
    by : Once (step ∷ rest) c.history
        → (connects_in_call step.call ≡ 0)
        ⊎ (c.history.session.link.station.core.station.inbox ≡ [])
    by (inl never) = inl (omega (arith, never))
    by (inr w) = inr w.1.idle.inbox

pub starts-each : (ran : Ran) → AreDone ran.steps (first_connection ran.made) → IsConnectedOnce ran
    → StartsEach ran.steps (first_connection ran.made)
starts-each ran done once =
    starts-all ran.steps (first_connection ran.made) done (first-once ran.made ran.steps once)
    (first-bare ran.made)

end-streams : (steps : List (End × SessionStep)) (p : Connections) → AreOverStreams steps p
    → EndOverStreams steps p
end-streams [] p over = tt
end-streams (step ∷ rest) p over =
    (λ d e. over.0, end-streams rest (after_step_at step.0 step.1 p) over.1)

starts-once : (ran : Ran) → AreDone ran.steps (first_connection ran.made) → IsConnectedOnce ran
    → StartsLast ran.steps (first_connection ran.made)
starts-once ran done once =
    starts-last ran.steps (first_connection ran.made) done (first-once ran.made ran.steps once)
    (first-bare ran.made)

pub once-together : (a b : Ran) → first_refusal a.made.options.config ≡ None
    → first_refusal b.made.options.config ≡ None → AreDone a.steps (first_connection a.made)
    → AreDone b.steps (first_connection b.made) → IsConnectedOnce a → IsConnectedOnce b
    → RanOverStreams a b → RanTogether a b
once-together a b f g done_a done_b once_a once_b ran =
    runs-together a b f g done_a done_b (starts-once a done_a once_a) (starts-once b done_b once_b)
    (record {
      steps = ran.steps;
      of_a = ran.of_a;
      of_b = ran.of_b;
      streams = end-streams ran.steps (first_connections a.made b.made) ran.streams;
    })

pub once-in-files : (giver taker : Ran) → AreDone giver.steps (first_connection giver.made)
    → AreDone taker.steps (first_connection taker.made) → IsConnectedOnce giver
    → IsConnectedOnce taker → BinaryIsInFiles giver taker
once-in-files giver taker done_g done_t once_g once_t giver_form taker_form = record {
  giver_form = giver_form;
  taker_form = taker_form;
  none_read = (one_history giver done_g once_g).before.none_read;
  none_delivered = (one_history taker done_t once_t).before.none_delivered;
}
