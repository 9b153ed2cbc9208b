-- Calls of B, in an order of what the devices did.
use Rattle.std.proofs.Common.{◌≡◌, ◌∙◌, ◌⊎◌, inl, inr, ap, sym, subst, refl, ℕ, List, [], ◌∷◌}
use Rattle.std.proofs.Common.{◌++◌, append_assoc, append-nil, arith}
use Rattle.ddcmp_io.specs.declared.carrier.End.{End}
use Rattle.ddcmp_io.specs.declared.carrier.End.TheVariants.{B}
use Rattle.ddcmp_session.specs.Traffic.{LineAct, LineLog, received, sent}
use Rattle.ddcmp_session.proofs.OrderLaws.{received-more}
use Rattle.ddcmp_session.specs.Session.{SessionView}
use Rattle.ddcmp_session.specs.Calls.{SessionHistory, SessionStep, after_session_step}
use Rattle.ddcmp_session.specs.Calls.{used_in}
use Rattle.ddcmp_session.specs.Connections.{AreDone, Connection, after_step}
use Rattle.ddcmp_session.specs.Orders.{AreReceipts, log_after, log_over}
use Rattle.ddcmp_laws.specs.Connected.{IsBareBefore, connections_in}
use Rattle.ddcmp_laws.specs.Connections.{Connections, after_step_at}
use Rattle.ddcmp_laws.specs.Pipe.{Made, connects_in_call}
use Rattle.ddcmp_laws.proofs.Acted.{AreAlone, act-gone, act-used, act_of, acts_in}
use Rattle.ddcmp_laws.proofs.Acted.{are-alone, connects-once, log-anew}
use Rattle.ddcmp_laws.proofs.Acted.{log-alone, session_over, used-anew}
use Rattle.ddcmp_laws.proofs.LastSteps.{after-same, gone-anew, zero-or}
use Rattle.ddcmp_laws.proofs.LosingAnew.{session-after}
use Rattle.ddcmp_laws.proofs.MergeA.{AreBare, bare-new, frames-bare, new-once, no-writes, once-most}
use Rattle.ddcmp_laws.proofs.MergeA.{receipts-back}
use Rattle.ddcmp_laws.proofs.MergeSteps.{IsHonestNow, Merged, Stands, frames-at, then-b}
use Rattle.ddcmp_laws.proofs.OneConnection.{Once, step-once}

-- what a call that doesn't connect B does
pub stands-b : (past : List (End × LineAct)) (p : Connections) (step : SessionStep)
    (pb pa left : List ℕ) → connects_in_call step.call ≡ 0 → Stands past p pa pb
    → received (act_of step.call p.b.history.session) ++ left ≡ pb
    → sent (act_of step.call p.b.history.session) ≡ []
    → Stands past (after_step_at B step p) pa left
stands-b past p step pb pa left alone s uses writes =
    let h = p.b.history in
    let same : (after_step step p.b).history ≡ after_session_step step h =
    ap (λ (c : Connection). c.history) (after-same step.call step.session p.b alone) in
    record {
      used_b =
          ap (λ (x : SessionHistory). x.used ++ left) same
          ∙ append_assoc h.used (used_in step.call) left
          ∙ ap (λ xs. h.used ++ (xs ++ left)) (sym (act-used step.call h.session))
          ∙ ap (λ xs. h.used ++ xs) uses
          ∙ s.used_b;
      gone_b =
          ap (λ (x : SessionHistory). x.gone) same
          ∙ ap (λ xs. h.gone ++ xs) (sym (act-gone step.call h.session) ∙ writes)
          ∙ append-nil h.gone
          ∙ s.gone_b;
      used_a = s.used_a;
      gone_a = s.gone_a;
    }

abbrev pub Next-b : Made → Made → List (End × LineAct) → List SessionStep → List SessionStep
    → List ℕ → List ℕ → Connections → SessionView → Type 0
Next-b first second past ys sa left pa p s =
    (q : Connections) → q.b.history.session ≡ s → q.a ≡ p.a → Stands past q pa left
    → Merged first second sa ys q

-- calls that write nothing
pub runs-b : (first second : Made) (past : List (End × LineAct)) (xs ys sa : List SessionStep)
    (p : Connections) (pb left pa : List ℕ) → IsHonestNow first second past → AreAlone xs
    → AreReceipts (acts_in xs p.b.history.session)
    → received (acts_in xs p.b.history.session) ++ left ≡ pb → Stands past p pa pb
    → Next-b first second past ys sa left pa p (session_over xs p.b.history.session)
    → Merged first second sa (xs ++ ys) p
unfolding acts_in session_over received
runs-b first second past [] ys sa p pb left pa honest alone are uses s next =
    next p refl refl (subst (λ xs. Stands past p pa xs) (sym uses) s)
runs-b first second past (x ∷ xs) ys sa p pb left pa honest alone are uses s next =
    let q = after_step_at B x p in
    let acts = act_of x.call p.b.history.session in
    let is : q.b.history.session ≡ x.session = session-after x.call x.session p.b in
    let rest = received (acts_in xs x.session) ++ left in
    let t : Stands past q pa rest =
    stands-b past p x pb pa rest alone.0 s
    (sym (append_assoc (received acts) (received (acts_in xs x.session)) left)
    ∙ ap (λ zs. zs ++ left) (sym (received-more acts (acts_in xs x.session)))
    ∙ uses)
    (no-writes acts (acts_in xs x.session) are) in
    then-b first second x sa (xs ++ ys) p (frames-at first second past q pa rest honest t)
    (runs-b first second past xs ys sa q rest left pa honest alone.1
    (subst (λ v. AreReceipts (acts_in xs v)) (sym is)
    (receipts-back acts (acts_in xs x.session) are))
    (ap (λ v. received (acts_in xs v) ++ left) is) t
    (λ r e f u. next r (e ∙ ap (session_over xs) is) f u))

-- ---- before it is connected

abbrev pub Begun-b : Made → Made → List SessionStep → List LineAct → Connections → Type 0
Begun-b first second sa acts p =
    (post : List SessionStep) (q : Connections) → AreAlone post
    → acts_in post q.b.history.session ≡ acts → AreBare q.b.history → q.a ≡ p.a
    → Merged first second sa post q

begins-some-b : (first second : Made) (steps sa : List SessionStep) (p : Connections)
    (log : LineLog) → IsHonestNow first second [] → (connections_in steps ≡ 0 → ⊥)
    → AreDone steps p.b → Once steps p.b.history → IsBareBefore p.b → AreBare p.a.history
    → Begun-b first second sa (log_over steps p.b.history.session log).acts p
    → Merged first second sa steps p
unfolding connections_in log_over
begins-some-b first second [] sa p log honest some done once bare other next = absurd (some refl)
begins-some-b first second (x ∷ rest) sa p log honest some done once bare other next =
    let one = step-once x.call x.session rest p.b done.0 once bare in
    by one.2 (zero-or (connects_in_call x.call)) (λ none.
    begins-some-b first second rest sa (after_step_at B x p)
    (log_after x.call p.b.history.session log) honest none
    done.1 one.2 one.3 other)
  where
    is : (after_step_at B x p).b.history.session ≡ x.session
    is = session-after x.call x.session p.b

    by : Once rest (after_step_at B x p).b.history
        → (connects_in_call x.call ≡ 0) ⊎ (connects_in_call x.call ≡ 0 → ⊥)
        → ((connections_in rest ≡ 0 → ⊥)
        → Begun-b first second sa
        (log_over rest (after_step_at B x p).b.history.session
        (log_after x.call p.b.history.session log)).acts (after_step_at B x p)
        → Merged first second sa rest (after_step_at B x p))
        → Merged first second sa (x ∷ rest) p
    by later (inl z) more =
        let none : connections_in rest ≡ 0 → ⊥ = λ e. some (omega (arith, z, e)) in
        then-b first second x sa rest p
        (frames-bare first second (after_step_at B x p) honest other
        (bare-new (after_step_at B x p).b.history
        (new-once rest (after_step_at B x p).b.history none later)))
        (more none (λ post r alone acts bare_r same.
        next post r alone (acts ∙ ap
        (λ v. (log_over rest v (log_after x.call p.b.history.session log)).acts) is) bare_r same))
    by later (inr n) more =
        let last : connections_in rest ≡ 0 =
        let m = once-most (x ∷ rest) p.b.history once in
        let k = connects-once x.call n in
        omega (arith, m, k) in
        let empty : AreBare (after_step_at B x p).b.history =
        (used-anew x.call x.session p.b n, gone-anew x.call x.session p.b n) in
        then-b first second x sa rest p
        (frames-bare first second (after_step_at B x p) honest other empty)
        (next rest (after_step_at B x p) (are-alone rest last)
        (ap (acts_in rest) is
        ∙ sym (log-alone rest x.session (log_after x.call p.b.history.session log)
        (are-alone rest last)
        ∙ ap (λ (l : LineLog). l.acts ++ acts_in rest x.session)
        (log-anew x.call p.b.history.session log n))) empty refl)

pub begins-b : (first second : Made) (steps sa : List SessionStep) (p : Connections)
    (log : LineLog) → log.acts ≡ [] → IsHonestNow first second []
    → AreDone steps p.b → Once steps p.b.history → IsBareBefore p.b → AreBare p.b.history
    → AreBare p.a.history
    → Begun-b first second sa (log_over steps p.b.history.session log).acts p
    → Merged first second sa steps p
begins-b first second steps sa p log none honest done once bare own other next =
    by (zero-or (connections_in steps))
  where
    by : (connections_in steps ≡ 0) ⊎ (connections_in steps ≡ 0 → ⊥)
        → Merged first second sa steps p
    by (inl never) =
        next steps p (are-alone steps never)
        (sym
        (log-alone steps p.b.history.session log (are-alone steps never)
        ∙ ap (λ (xs : List LineAct). xs ++ acts_in steps p.b.history.session) none)) own refl
    by (inr some) =
        begins-some-b first second steps sa p log honest some done once bare other next
