-- Calls of A, in an order of what the devices did.
use Rattle.std.proofs.Common.{◌≡◌, ◌∙◌, ◌⊎◌, inl, inr, ap, sym, subst, refl, ℕ, List, [], ◌∷◌}
use Rattle.std.proofs.Common.{◌++◌, append_assoc, append-nil, arith}
use Rattle.std.specs.Prelude.{◌≤◌}
use Rattle.ddcmp_io.specs.declared.carrier.End.{End}
use Rattle.ddcmp_io.specs.declared.carrier.End.TheVariants.{A}
use Rattle.ddcmp_session.specs.Traffic.{LineAct, LineLog, Receives, Writes, received, sent}
use Rattle.ddcmp_session.proofs.OrderLaws.{received-more}
use Rattle.ddcmp_session.specs.Session.{SessionView}
use Rattle.ddcmp_session.specs.Calls.{SessionHistory, SessionStep, after_session_step}
use Rattle.ddcmp_session.specs.Calls.{used_in}
use Rattle.ddcmp_session.specs.Connections.{AreDone, Connection, after_step}
use Rattle.ddcmp_session.specs.Orders.{AreReceipts, log_after, log_over}
use Rattle.ddcmp_laws.specs.Connected.{IsBareBefore, connections_in}
use Rattle.ddcmp_laws.specs.Connections.{Connections, after_step_at}
use Rattle.ddcmp_laws.specs.Pipe.{Made, connects_in_call}
use Rattle.ddcmp_laws.specs.Traces.{acts_of}
use Rattle.ddcmp_laws.proofs.Acted.{AreAlone, act-gone, act-used, act_of, acts_in}
use Rattle.ddcmp_laws.proofs.Acted.{are-alone, connects-once, log-anew}
use Rattle.ddcmp_laws.proofs.Acted.{log-alone, session_over, used-anew}
use Rattle.ddcmp_laws.proofs.LastSteps.{after-same, gone-anew, zero-or}
use Rattle.ddcmp_laws.proofs.LosingAnew.{session-after}
use Rattle.ddcmp_laws.proofs.MergeSteps.{IsHonestNow, Merged, Stands, frames-at, then-a}
use Rattle.ddcmp_laws.proofs.OneConnection.{IsNew, Once, step-once}
use Rattle.ddcmp_laws.proofs.FrameSteps.{AreFrames}

-- what a call that doesn't connect A does
pub stands-a : (past : List (End × LineAct)) (p : Connections) (step : SessionStep)
    (pa pb left : List ℕ) → connects_in_call step.call ≡ 0 → Stands past p pa pb
    → received (act_of step.call p.a.history.session) ++ left ≡ pa
    → sent (act_of step.call p.a.history.session) ≡ []
    → Stands past (after_step_at A step p) left pb
stands-a past p step pa pb left alone s uses writes =
    let h = p.a.history in
    let same : (after_step step p.a).history ≡ after_session_step step h =
    ap (λ (c : Connection). c.history) (after-same step.call step.session p.a alone) in
    record {
      used_a =
          ap (λ (x : SessionHistory). x.used ++ left) same
          ∙ append_assoc h.used (used_in step.call) left
          ∙ ap (λ xs. h.used ++ (xs ++ left)) (sym (act-used step.call h.session))
          ∙ ap (λ xs. h.used ++ xs) uses
          ∙ s.used_a;
      gone_a =
          ap (λ (x : SessionHistory). x.gone) same
          ∙ ap (λ xs. h.gone ++ xs) (sym (act-gone step.call h.session) ∙ writes)
          ∙ append-nil h.gone
          ∙ s.gone_a;
      used_b = s.used_b;
      gone_b = s.gone_b;
    }

pub no-writes : (xs ys : List LineAct) → AreReceipts (xs ++ ys) → sent xs ≡ []
unfolding sent
no-writes [] ys are = refl
no-writes (Receives bytes ∷ xs) ys are = no-writes xs ys are
no-writes (Writes bytes ∷ xs) ys are = absurd are

pub receipts-back : (xs ys : List LineAct) → AreReceipts (xs ++ ys) → AreReceipts ys
receipts-back [] ys are = are
receipts-back (Receives bytes ∷ xs) ys are = receipts-back xs ys are
receipts-back (Writes bytes ∷ xs) ys are = absurd are

abbrev pub Next-a : Made → Made → List (End × LineAct) → List SessionStep → List SessionStep
    → List ℕ → List ℕ → Connections → SessionView → Type 0
Next-a first second past ys sb left pb p s =
    (q : Connections) → q.a.history.session ≡ s → q.b ≡ p.b → Stands past q left pb
    → Merged first second ys sb q

-- calls that write nothing
pub runs-a : (first second : Made) (past : List (End × LineAct)) (xs ys sb : List SessionStep)
    (p : Connections) (pa left pb : List ℕ) → IsHonestNow first second past → AreAlone xs
    → AreReceipts (acts_in xs p.a.history.session)
    → received (acts_in xs p.a.history.session) ++ left ≡ pa → Stands past p pa pb
    → Next-a first second past ys sb left pb p (session_over xs p.a.history.session)
    → Merged first second (xs ++ ys) sb p
unfolding acts_in session_over received
runs-a first second past [] ys sb p pa left pb honest alone are uses s next =
    next p refl refl (subst (λ xs. Stands past p xs pb) (sym uses) s)
runs-a first second past (x ∷ xs) ys sb p pa left pb honest alone are uses s next =
    let q = after_step_at A x p in
    let acts = act_of x.call p.a.history.session in
    let is : q.a.history.session ≡ x.session = session-after x.call x.session p.a in
    let rest = received (acts_in xs x.session) ++ left in
    let t : Stands past q rest pb =
    stands-a past p x pa pb rest alone.0 s
    (sym (append_assoc (received acts) (received (acts_in xs x.session)) left)
    ∙ ap (λ zs. zs ++ left) (sym (received-more acts (acts_in xs x.session)))
    ∙ uses)
    (no-writes acts (acts_in xs x.session) are) in
    then-a first second x (xs ++ ys) sb p (frames-at first second past q rest pb honest t)
    (runs-a first second past xs ys sb q rest left pb honest alone.1
    (subst (λ v. AreReceipts (acts_in xs v)) (sym is)
    (receipts-back acts (acts_in xs x.session) are))
    (ap (λ v. received (acts_in xs v) ++ left) is) t
    (λ r e f u. next r (e ∙ ap (session_over xs) is) f u))

-- ---- before it is connected

abbrev pub AreBare : SessionHistory → Type 0
AreBare h = (h.used ≡ []) × (h.gone ≡ [])

pub bare-new : (h : SessionHistory) → IsNew h → AreBare h
bare-new h n = (n.used, n.gone)

pub bare-stands : (p : Connections) → AreBare p.a.history → AreBare p.b.history → Stands [] p [] []
unfolding received sent acts_of
bare-stands p a b = record {
  used_a = append-nil p.a.history.used ∙ a.0;
  gone_a = a.1;
  used_b = append-nil p.b.history.used ∙ b.0;
  gone_b = b.1;
}

pub frames-bare : (first second : Made) (p : Connections) → IsHonestNow first second []
    → AreBare p.a.history → AreBare p.b.history → AreFrames first second p
frames-bare first second p honest a b =
    frames-at first second [] p [] [] honest (bare-stands p a b)

abbrev pub Begun-a : Made → Made → List SessionStep → List LineAct → Connections → Type 0
Begun-a first second sb acts p =
    (post : List SessionStep) (q : Connections) → AreAlone post
    → acts_in post q.a.history.session ≡ acts → AreBare q.a.history → q.b ≡ p.b
    → Merged first second post sb q

pub new-once : (steps : List SessionStep) (h : SessionHistory) → (connections_in steps ≡ 0 → ⊥)
    → Once steps h → IsNew h
new-once steps h some (inl never) = absurd (some never)
new-once steps h some (inr w) = w.1

pub once-most : (steps : List SessionStep) (h : SessionHistory) → Once steps h
    → connections_in steps ≤ 1
once-most steps h (inl never) = omega (arith, never)
once-most steps h (inr w) = w.0

begins-some-a : (first second : Made) (steps sb : List SessionStep) (p : Connections)
    (log : LineLog) → IsHonestNow first second [] → (connections_in steps ≡ 0 → ⊥)
    → AreDone steps p.a → Once steps p.a.history → IsBareBefore p.a → AreBare p.b.history
    → Begun-a first second sb (log_over steps p.a.history.session log).acts p
    → Merged first second steps sb p
unfolding connections_in log_over
begins-some-a first second [] sb p log honest some done once bare other next = absurd (some refl)
begins-some-a first second (x ∷ rest) sb p log honest some done once bare other next =
    let one = step-once x.call x.session rest p.a done.0 once bare in
    by one.2 (zero-or (connects_in_call x.call)) (λ none.
    begins-some-a first second rest sb (after_step_at A x p)
    (log_after x.call p.a.history.session log) honest none
    done.1 one.2 one.3 other)
  where
    is : (after_step_at A x p).a.history.session ≡ x.session
    is = session-after x.call x.session p.a

    by : Once rest (after_step_at A x p).a.history
        → (connects_in_call x.call ≡ 0) ⊎ (connects_in_call x.call ≡ 0 → ⊥)
        → ((connections_in rest ≡ 0 → ⊥)
        → Begun-a first second sb
        (log_over rest (after_step_at A x p).a.history.session
        (log_after x.call p.a.history.session log)).acts (after_step_at A x p)
        → Merged first second rest sb (after_step_at A x p))
        → Merged first second (x ∷ rest) sb p
    by later (inl z) more =
        let none : connections_in rest ≡ 0 → ⊥ = λ e. some (omega (arith, z, e)) in
        then-a first second x rest sb p
        (frames-bare first second (after_step_at A x p) honest
        (bare-new (after_step_at A x p).a.history
        (new-once rest (after_step_at A x p).a.history none later)) other)
        (more none (λ post r alone acts bare_r same.
        next post r alone (acts ∙ ap
        (λ v. (log_over rest v (log_after x.call p.a.history.session log)).acts) is) bare_r same))
    by later (inr n) more =
        let last : connections_in rest ≡ 0 =
        let m = once-most (x ∷ rest) p.a.history once in
        let k = connects-once x.call n in
        omega (arith, m, k) in
        let empty : AreBare (after_step_at A x p).a.history =
        (used-anew x.call x.session p.a n, gone-anew x.call x.session p.a n) in
        then-a first second x rest sb p
        (frames-bare first second (after_step_at A x p) honest empty other)
        (next rest (after_step_at A x p) (are-alone rest last)
        (ap (acts_in rest) is
        ∙ sym (log-alone rest x.session (log_after x.call p.a.history.session log)
        (are-alone rest last)
        ∙ ap (λ (l : LineLog). l.acts ++ acts_in rest x.session)
        (log-anew x.call p.a.history.session log n))) empty refl)

pub begins-a : (first second : Made) (steps sb : List SessionStep) (p : Connections)
    (log : LineLog) → log.acts ≡ [] → IsHonestNow first second []
    → AreDone steps p.a → Once steps p.a.history → IsBareBefore p.a → AreBare p.a.history
    → AreBare p.b.history
    → Begun-a first second sb (log_over steps p.a.history.session log).acts p
    → Merged first second steps sb p
begins-a first second steps sb p log none honest done once bare own other next =
    by (zero-or (connections_in steps))
  where
    by : (connections_in steps ≡ 0) ⊎ (connections_in steps ≡ 0 → ⊥)
        → Merged first second steps sb p
    by (inl never) =
        next steps p (are-alone steps never)
        (sym
        (log-alone steps p.a.history.session log (are-alone steps never)
        ∙ ap (λ (xs : List LineAct). xs ++ acts_in steps p.a.history.session) none)) own refl
    by (inr some) =
        begins-some-a first second steps sb p log honest some done once bare other next
