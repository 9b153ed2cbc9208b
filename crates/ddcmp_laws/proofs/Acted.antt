-- What the calls of a session do at its line, and when.
use Rattle.std.proofs.Common.{◌≡◌, ◌∙◌, ◌⊎◌, inl, inr, ap, sym, refl, ℕ, List, [], ◌∷◌}
use Rattle.std.proofs.Common.{◌++◌, append_assoc, append-nil, arith, take, ◌+◌}
use Rattle.ddcmp_session.specs.Traffic.{LineAct, LineLog, Receives, Writes, log_begun, received}
use Rattle.ddcmp_session.specs.Traffic.{sent}
use Rattle.ddcmp_session.specs.Session.{SessionView}
use Rattle.ddcmp_session.specs.Calls.{Closed, Connected, Delivered, Filled, InputEnded, InputRead}
use Rattle.ddcmp_session.specs.Calls.{LineEnded, LineTook, OutputTook, Received, SessionCall}
use Rattle.ddcmp_session.specs.Calls.{SessionStep, TimePassed, TimedOut, gone_in, used_in}
use Rattle.ddcmp_session.specs.Connections.{Connection, after_step}
use Rattle.ddcmp_session.specs.Orders.{log_after, log_over}
use Rattle.ddcmp_laws.specs.Connected.{connections_in}
use Rattle.ddcmp_laws.specs.Pipe.{connects_in_call}
use Rattle.ddcmp_laws.proofs.LastSteps.{zero-or}

abbrev pub act_of : SessionCall → SessionView → List LineAct
act_of (Received used) s = Receives used ∷ []
act_of (LineTook n) s = Writes (take n s.link.outbox.waiting) ∷ []
act_of _ s = []

unfoldable pub acts_in : List SessionStep → SessionView → List LineAct
acts_in [] s = []
acts_in (step ∷ rest) s = act_of step.call s ++ acts_in rest step.session

unfoldable pub session_over : List SessionStep → SessionView → SessionView
session_over [] s = s
session_over (step ∷ rest) s = session_over rest step.session

abbrev pub AreAlone : List SessionStep → Type 0
AreAlone [] = Unit {0}
AreAlone (step ∷ rest) = (connects_in_call step.call ≡ 0) × AreAlone rest

pub are-alone : (steps : List SessionStep) → connections_in steps ≡ 0 → AreAlone steps
unfolding connections_in
are-alone [] e = tt
are-alone (step ∷ rest) e = (omega (arith, e), are-alone rest (omega (arith, e)))

pub alone-front : (xs ys : List SessionStep) → AreAlone (xs ++ ys) → AreAlone xs
alone-front [] ys a = tt
alone-front (x ∷ xs) ys a = (a.0, alone-front xs ys a.1)

pub alone-back : (xs ys : List SessionStep) → AreAlone (xs ++ ys) → AreAlone ys
alone-back [] ys a = a
alone-back (x ∷ xs) ys a = alone-back xs ys a.1

-- ---- one call

pub one-act : (call : SessionCall) (s : SessionView)
    → (act_of call s ≡ []) ⊎ ((act : LineAct) × (act_of call s ≡ act ∷ []))
one-act Connected s = inl refl
one-act (InputRead used) s = inl refl
one-act InputEnded s = inl refl
one-act (LineEnded how r) s = inl refl
one-act (Received used) s = inr (Receives used, refl)
one-act (Filled n) s = inl refl
one-act (LineTook n) s = inr (Writes (take n s.link.outbox.waiting), refl)
one-act (TimedOut now) s = inl refl
one-act TimePassed s = inl refl
one-act (Delivered has) s = inl refl
one-act (OutputTook n) s = inl refl
one-act (Closed left over r) s = inl refl

pub act-used : (call : SessionCall) (s : SessionView) → received (act_of call s) ≡ used_in call
unfolding received
act-used Connected s = refl
act-used (InputRead used) s = refl
act-used InputEnded s = refl
act-used (LineEnded how r) s = refl
act-used (Received used) s = append-nil used
act-used (Filled n) s = refl
act-used (LineTook n) s = refl
act-used (TimedOut now) s = refl
act-used TimePassed s = refl
act-used (Delivered has) s = refl
act-used (OutputTook n) s = refl
act-used (Closed left over r) s = refl

pub act-gone : (call : SessionCall) (s : SessionView) → sent (act_of call s) ≡ gone_in call s
unfolding sent
act-gone Connected s = refl
act-gone (InputRead used) s = refl
act-gone InputEnded s = refl
act-gone (LineEnded how r) s = refl
act-gone (Received used) s = refl
act-gone (Filled n) s = refl
act-gone (LineTook n) s = append-nil (take n s.link.outbox.waiting)
act-gone (TimedOut now) s = refl
act-gone TimePassed s = refl
act-gone (Delivered has) s = refl
act-gone (OutputTook n) s = refl
act-gone (Closed left over r) s = refl

pub used-anew : (call : SessionCall) (new : SessionView) (c : Connection)
    → (connects_in_call call ≡ 0 → ⊥)
    → (after_step (record { call = call; session = new }) c).history.used ≡ []
used-anew Connected new c is = refl
used-anew (InputRead used) new c is = absurd (is refl)
used-anew InputEnded new c is = absurd (is refl)
used-anew (LineEnded how r) new c is = absurd (is refl)
used-anew (Received used) new c is = absurd (is refl)
used-anew (Filled n) new c is = absurd (is refl)
used-anew (LineTook n) new c is = absurd (is refl)
used-anew (TimedOut now) new c is = absurd (is refl)
used-anew TimePassed new c is = absurd (is refl)
used-anew (Delivered has) new c is = absurd (is refl)
used-anew (OutputTook n) new c is = absurd (is refl)
used-anew (Closed left over r) new c is = absurd (is refl)

pub log-anew : (call : SessionCall) (s : SessionView) (log : LineLog)
    → (connects_in_call call ≡ 0 → ⊥) → log_after call s log ≡ log_begun log
log-anew Connected s log is = refl
log-anew (InputRead used) s log is = absurd (is refl)
log-anew InputEnded s log is = absurd (is refl)
log-anew (LineEnded how r) s log is = absurd (is refl)
log-anew (Received used) s log is = absurd (is refl)
log-anew (Filled n) s log is = absurd (is refl)
log-anew (LineTook n) s log is = absurd (is refl)
log-anew (TimedOut now) s log is = absurd (is refl)
log-anew TimePassed s log is = absurd (is refl)
log-anew (Delivered has) s log is = absurd (is refl)
log-anew (OutputTook n) s log is = absurd (is refl)
log-anew (Closed left over r) s log is = absurd (is refl)

pub connects-once : (call : SessionCall) → (connects_in_call call ≡ 0 → ⊥)
    → connects_in_call call ≡ 1
connects-once Connected is = refl
connects-once (InputRead used) is = absurd (is refl)
connects-once InputEnded is = absurd (is refl)
connects-once (LineEnded how r) is = absurd (is refl)
connects-once (Received used) is = absurd (is refl)
connects-once (Filled n) is = absurd (is refl)
connects-once (LineTook n) is = absurd (is refl)
connects-once (TimedOut now) is = absurd (is refl)
connects-once TimePassed is = absurd (is refl)
connects-once (Delivered has) is = absurd (is refl)
connects-once (OutputTook n) is = absurd (is refl)
connects-once (Closed left over r) is = absurd (is refl)

abbrev LogAdds : SessionCall → SessionView → LineLog → Type 0
LogAdds call s log =
    ((log_after call s log).acts ≡ log.acts ++ act_of call s)
    × ((log_after call s log).lines ≡ log.lines)

log-adds : (call : SessionCall) (s : SessionView) (log : LineLog) → connects_in_call call ≡ 0
    → LogAdds call s log
log-adds Connected s log e = no e
  where
    no : {P : Type 0} → ◌≡◌ {A = ℕ} 1 0 → P
    no e = cc
log-adds (InputRead used) s log e = (sym (append-nil log.acts), refl)
log-adds InputEnded s log e = (sym (append-nil log.acts), refl)
log-adds (LineEnded how r) s log e = (sym (append-nil log.acts), refl)
log-adds (Received used) s log e = (refl, refl)
log-adds (Filled n) s log e = (sym (append-nil log.acts), refl)
log-adds (LineTook n) s log e = (refl, refl)
log-adds (TimedOut now) s log e = (sym (append-nil log.acts), refl)
log-adds TimePassed s log e = (sym (append-nil log.acts), refl)
log-adds (Delivered has) s log e = (sym (append-nil log.acts), refl)
log-adds (OutputTook n) s log e = (sym (append-nil log.acts), refl)
log-adds (Closed left over r) s log e = (sym (append-nil log.acts), refl)

pub log-alone : (steps : List SessionStep) (s : SessionView) (log : LineLog) → AreAlone steps
    → (log_over steps s log).acts ≡ log.acts ++ acts_in steps s
unfolding log_over acts_in
log-alone [] s log alone = sym (append-nil log.acts)
log-alone (step ∷ rest) s log alone =
    log-alone rest step.session (log_after step.call s log) alone.1
    ∙ ap (λ (xs : List LineAct). xs ++ acts_in rest step.session)
    (log-adds step.call s log alone.0).0
    ∙ append_assoc log.acts (act_of step.call s) (acts_in rest step.session)

-- how often it was connected
pub log-lines : (steps : List SessionStep) (s : SessionView) (log : LineLog)
    → (log_over steps s log).lines ≡ log.lines + connections_in steps
unfolding log_over connections_in
log-lines [] s log = omega arith
log-lines (step ∷ rest) s log =
    let e = log-lines rest step.session (log_after step.call s log) in
    by (zero-or (connects_in_call step.call)) e
  where
    by : (connects_in_call step.call ≡ 0) ⊎ (connects_in_call step.call ≡ 0 → ⊥)
        → (log_over rest step.session (log_after step.call s log)).lines
        ≡ (log_after step.call s log).lines + connections_in rest
        → (log_over rest step.session (log_after step.call s log)).lines
        ≡ log.lines + (connects_in_call step.call + connections_in rest)
    by (inl z) e = let f = (log-adds step.call s log z).1 in omega (arith, e, f, z)
    by (inr n) e =
        let f = ap (λ (l : LineLog). l.lines) (log-anew step.call s log n) in
        let g = connects-once step.call n in
        omega (arith, e, f, g)

-- ---- the first calls, up to an act

pub record Split (sa : List SessionStep) (s : SessionView) (uses : List LineAct) (act : LineAct)
    (r : List LineAct) : Type 0 where
  pub xs : List SessionStep
  pub step : SessionStep
  pub ys : List SessionStep
  pub parts : sa ≡ xs ++ step ∷ ys
  pub before : acts_in xs s ≡ uses
  pub here : act_of step.call (session_over xs s) ≡ act ∷ []
  pub after : acts_in ys step.session ≡ r

head : {x y : LineAct} {xs ys : List LineAct} → x ∷ xs ≡ y ∷ ys → x ≡ y
head e = cc

tail : {x y : LineAct} {xs ys : List LineAct} → x ∷ xs ≡ y ∷ ys → xs ≡ ys
tail e = cc

pub split : (sa : List SessionStep) (s : SessionView) (uses : List LineAct) (act : LineAct)
    (r : List LineAct) → acts_in sa s ≡ uses ++ act ∷ r → Split sa s uses act r
unfolding acts_in session_over
split [] s uses act r e = absurd (no uses e)
  where
    no : (uses : List LineAct) → [] ≡ uses ++ act ∷ r → ⊥
    no [] e = cc
    no (u ∷ us) e = cc
split (one ∷ rest) s uses act r e =
    by (one-act one.call s) uses e (λ us f. split rest one.session us act r f)
  where
    by : (act_of one.call s ≡ []) ⊎ ((a : LineAct) × (act_of one.call s ≡ a ∷ []))
        → (us : List LineAct) → act_of one.call s ++ acts_in rest one.session ≡ us ++ act ∷ r
        → ((vs : List LineAct) → acts_in rest one.session ≡ vs ++ act ∷ r
        → Split rest one.session vs act r)
        → Split (one ∷ rest) s us act r
    by (inl none) us e more =
        let m =
        more us (ap (λ (xs : List LineAct). xs ++ acts_in rest one.session) (sym none) ∙ e) in
        record {
          xs = one ∷ m.xs;
          step = m.step;
          ys = m.ys;
          parts = ap (λ (xs : List SessionStep). one ∷ xs) m.parts;
          before =
              ap (λ (xs : List LineAct). xs ++ acts_in m.xs one.session) none ∙ m.before;
          here = m.here;
          after = m.after;
        }
    by (inr a) [] e more =
        let f : ◌≡◌ {A = List LineAct} (a.0 ∷ acts_in rest one.session) (act ∷ r) =
        ap (λ (xs : List LineAct). xs ++ acts_in rest one.session) (sym a.1) ∙ e in
        record {
          xs = [];
          step = one;
          ys = rest;
          parts = refl;
          before = refl;
          here = a.1 ∙ ap (λ (x : LineAct). x ∷ []) (head f);
          after = tail f;
        }
    by (inr a) (u ∷ us) e more =
        let f : ◌≡◌ {A = List LineAct} (a.0 ∷ acts_in rest one.session) (u ∷ (us ++ act ∷ r)) =
        ap (λ (xs : List LineAct). xs ++ acts_in rest one.session) (sym a.1) ∙ e in
        let m = more us (tail f) in
        record {
          xs = one ∷ m.xs;
          step = m.step;
          ys = m.ys;
          parts = ap (λ (xs : List SessionStep). one ∷ xs) m.parts;
          before =
              ap (λ (xs : List LineAct). xs ++ acts_in m.xs one.session) a.1
              ∙ ap (λ (x : LineAct). x ∷ acts_in m.xs one.session) (head f)
              ∙ ap (λ (xs : List LineAct). u ∷ xs) m.before;
          here = m.here;
          after = m.after;
        }
