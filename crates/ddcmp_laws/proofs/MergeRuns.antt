-- Two runs in an order of what their devices did at the line are in an order of their calls.
use Rattle.std.proofs.Common.{◌≡◌, ◌∙◌, ap, sym, subst, refl, ℕ, List, [], ◌∷◌, ◌++◌}
use Rattle.std.proofs.Common.{append_assoc, append-nil}
use Rattle.ddcmp_io.specs.declared.carrier.End.{End}
use Rattle.ddcmp_io.specs.declared.carrier.End.TheVariants.{A, B}
use Rattle.ddcmp_session.specs.Traffic.{LineAct, LineLog, Receives, Writes, received, sent}
use Rattle.ddcmp_session.specs.Calls.{SessionHistory, SessionStep, after_session_step}
use Rattle.ddcmp_session.specs.Connections.{AreDone, Connection, after_step}
use Rattle.ddcmp_session.specs.Orders.{AreReceipts, IsBehind, log_over}
use Rattle.ddcmp_laws.specs.Connected.{IsBareBefore, IsConnectedOnce}
use Rattle.ddcmp_laws.specs.Connections.{Connections, after_step_at, first_connection}
use Rattle.ddcmp_laws.specs.Connections.{first_connections}
use Rattle.ddcmp_laws.specs.Pipe.{Made, connects_in_call, session_of}
use Rattle.ddcmp_laws.specs.SessionRuns.{Ran}
use Rattle.ddcmp_laws.specs.Traces.{IsHonest, acts_of}
use Rattle.ddcmp_laws.proofs.Acted.{AreAlone, Split, act-gone, act-used, act_of, acts_in}
use Rattle.ddcmp_laws.proofs.Acted.{alone-back}
use Rattle.ddcmp_laws.proofs.Acted.{alone-front, split}
use Rattle.ddcmp_laws.proofs.FramesTogether.{RanOverFrames}
use Rattle.ddcmp_laws.proofs.LastSteps.{after-same}
use Rattle.ddcmp_laws.proofs.LosingAnew.{session-after}
use Rattle.ddcmp_laws.proofs.MergeA.{AreBare, bare-stands, begins-a, runs-a}
use Rattle.ddcmp_laws.proofs.MergeB.{begins-b, runs-b}
use Rattle.ddcmp_laws.proofs.MergeSteps.{IsHonestNow, Merged, Stands, frames-at, merged-none}
use Rattle.ddcmp_laws.proofs.MergeSteps.{received-then, sent-then, then-a, then-b}
use Rattle.ddcmp_laws.proofs.OneConnection.{Once, first-bare, first-once}

-- the devices of one received more
came-a : (past : List (End × LineAct)) (bytes : List ℕ) (p : Connections) (pa pb : List ℕ)
    → Stands past p pa pb → Stands (past ++ (A, Receives bytes) ∷ []) p (pa ++ bytes) pb
unfolding received sent
came-a past bytes p pa pb s =
    let step : End × LineAct = (A, Receives bytes) in
    record {
      used_a =
          sym (append_assoc p.a.history.used pa bytes)
          ∙ ap (λ xs. xs ++ bytes) s.used_a
          ∙ ap (λ xs. received (acts_of A past) ++ xs) (sym (append-nil bytes))
          ∙ sym (received-then A past step);
      gone_a = s.gone_a ∙ sym (append-nil (sent (acts_of A past))) ∙ sym (sent-then A past step);
      used_b =
          s.used_b ∙ sym (append-nil (received (acts_of B past)))
          ∙ sym (received-then B past step);
      gone_b = s.gone_b ∙ sym (append-nil (sent (acts_of B past))) ∙ sym (sent-then B past step);
    }

came-b : (past : List (End × LineAct)) (bytes : List ℕ) (p : Connections) (pa pb : List ℕ)
    → Stands past p pa pb → Stands (past ++ (B, Receives bytes) ∷ []) p pa (pb ++ bytes)
unfolding received sent
came-b past bytes p pa pb s =
    let step : End × LineAct = (B, Receives bytes) in
    record {
      used_a =
          s.used_a ∙ sym (append-nil (received (acts_of A past)))
          ∙ sym (received-then A past step);
      gone_a = s.gone_a ∙ sym (append-nil (sent (acts_of A past))) ∙ sym (sent-then A past step);
      used_b =
          sym (append_assoc p.b.history.used pb bytes)
          ∙ ap (λ xs. xs ++ bytes) s.used_b
          ∙ ap (λ xs. received (acts_of B past) ++ xs) (sym (append-nil bytes))
          ∙ sym (received-then B past step);
      gone_b = s.gone_b ∙ sym (append-nil (sent (acts_of B past))) ∙ sym (sent-then B past step);
    }

-- one wrote
wrote-a : (past : List (End × LineAct)) (bytes : List ℕ) (p : Connections) (step : SessionStep)
    (pa pb : List ℕ) → connects_in_call step.call ≡ 0
    → act_of step.call p.a.history.session ≡ Writes bytes ∷ [] → Stands past p pa pb
    → Stands (past ++ (A, Writes bytes) ∷ []) (after_step_at A step p) pa pb
unfolding received sent
wrote-a past bytes p step pa pb alone here s =
    let h = p.a.history in
    let act : End × LineAct = (A, Writes bytes) in
    let same : (after_step step p.a).history ≡ after_session_step step h =
    ap (λ (c : Connection). c.history) (after-same step.call step.session p.a alone) in
    record {
      used_a =
          ap (λ (x : SessionHistory). x.used ++ pa) same
          ∙ ap (λ xs. (h.used ++ xs) ++ pa)
          (sym (act-used step.call h.session) ∙ ap received here)
          ∙ ap (λ xs. xs ++ pa) (append-nil h.used)
          ∙ s.used_a
          ∙ sym (append-nil (received (acts_of A past)))
          ∙ sym (received-then A past act);
      gone_a =
          ap (λ (x : SessionHistory). x.gone) same
          ∙ ap (λ xs. h.gone ++ xs) (sym (act-gone step.call h.session) ∙ ap sent here)
          ∙ ap (λ xs. xs ++ (bytes ++ [])) s.gone_a
          ∙ sym (sent-then A past act);
      used_b =
          s.used_b ∙ sym (append-nil (received (acts_of B past)))
          ∙ sym (received-then B past act);
      gone_b = s.gone_b ∙ sym (append-nil (sent (acts_of B past))) ∙ sym (sent-then B past act);
    }

wrote-b : (past : List (End × LineAct)) (bytes : List ℕ) (p : Connections) (step : SessionStep)
    (pa pb : List ℕ) → connects_in_call step.call ≡ 0
    → act_of step.call p.b.history.session ≡ Writes bytes ∷ [] → Stands past p pa pb
    → Stands (past ++ (B, Writes bytes) ∷ []) (after_step_at B step p) pa pb
unfolding received sent
wrote-b past bytes p step pa pb alone here s =
    let h = p.b.history in
    let act : End × LineAct = (B, Writes bytes) in
    let same : (after_step step p.b).history ≡ after_session_step step h =
    ap (λ (c : Connection). c.history) (after-same step.call step.session p.b alone) in
    record {
      used_a =
          s.used_a ∙ sym (append-nil (received (acts_of A past)))
          ∙ sym (received-then A past act);
      gone_a = s.gone_a ∙ sym (append-nil (sent (acts_of A past))) ∙ sym (sent-then A past act);
      used_b =
          ap (λ (x : SessionHistory). x.used ++ pb) same
          ∙ ap (λ xs. (h.used ++ xs) ++ pb)
          (sym (act-used step.call h.session) ∙ ap received here)
          ∙ ap (λ xs. xs ++ pb) (append-nil h.used)
          ∙ s.used_b
          ∙ sym (append-nil (received (acts_of B past)))
          ∙ sym (received-then B past act);
      gone_b =
          ap (λ (x : SessionHistory). x.gone) same
          ∙ ap (λ xs. h.gone ++ xs) (sym (act-gone step.call h.session) ∙ ap sent here)
          ∙ ap (λ xs. xs ++ (bytes ++ [])) s.gone_b
          ∙ sym (sent-then B past act);
    }

-- ---- both are connected

module _ (first second : Made) (order : List (End × LineAct))
    (honest : IsHonest first.options.config.max second.options.config.max order) where
  next-is : (past rest : List (End × LineAct)) (step : End × LineAct)
      → past ++ step ∷ rest ≡ order → (past ++ step ∷ []) ++ rest ≡ order
  next-is past rest step e = append_assoc past (step ∷ []) rest ∙ e

  merges : (past rest : List (End × LineAct)) (sa sb : List SessionStep) (p : Connections)
      (pa pb : List ℕ) → past ++ rest ≡ order → AreAlone sa → AreAlone sb
      → IsBehind pa (acts_in sa p.a.history.session) (acts_of A rest)
      → IsBehind pb (acts_in sb p.b.history.session) (acts_of B rest)
      → Stands past p pa pb
      → Merged first second sa sb p
  unfolding acts_of
  merges past [] sa sb p pa pb e alone_a alone_b behind_a behind_b s =
      let now : IsHonestNow first second past = honest past [] e in
      subst (λ xs. Merged first second xs sb p) (append-nil sa)
      (runs-a first second past sa [] sb p pa behind_a.1 pb now alone_a behind_a.0 behind_a.2 s
      (λ q is same t.
      subst (λ xs. Merged first second [] xs q) (append-nil sb)
      (runs-b first second past sb [] [] q pb behind_b.1 behind_a.1 now alone_b
      (subst (λ (c : Connection). AreReceipts (acts_in sb c.history.session)) (sym same)
      behind_b.0)
      (ap (λ (c : Connection). received (acts_in sb c.history.session) ++ behind_b.1) same
      ∙ behind_b.2)
      t (λ r is' same' u. merged-none first second r))))
  merges past ((A, Receives bytes) ∷ rest) sa sb p pa pb e alone_a alone_b behind_a behind_b s =
      merges (past ++ (A, Receives bytes) ∷ []) rest sa sb p (pa ++ bytes) pb
      (next-is past rest (A, Receives bytes) e) alone_a alone_b behind_a behind_b
      (came-a past bytes p pa pb s)
  merges past ((B, Receives bytes) ∷ rest) sa sb p pa pb e alone_a alone_b behind_a behind_b s =
      merges (past ++ (B, Receives bytes) ∷ []) rest sa sb p pa (pb ++ bytes)
      (next-is past rest (B, Receives bytes) e) alone_a alone_b behind_a behind_b
      (came-b past bytes p pa pb s)
  merges past ((A, Writes bytes) ∷ rest) sa sb p pa pb e alone_a alone_b behind_a behind_b s =
      let act : End × LineAct = (A, Writes bytes) in
      let uses = behind_a.0 in
      let left = behind_a.2 in
      let m : Split sa p.a.history.session uses (Writes bytes) behind_a.1 =
      split sa p.a.history.session uses (Writes bytes) behind_a.1 behind_a.3 in
      let alone = subst AreAlone m.parts alone_a in
      let behind = alone-back m.xs (m.step ∷ m.ys) alone in
      let e' = next-is past rest act e in
      subst (λ xs. Merged first second xs sb p) (sym m.parts)
      (runs-a first second past m.xs (m.step ∷ m.ys) sb p pa left pb
      (honest past ((A, Writes bytes) ∷ rest) e) (alone-front m.xs (m.step ∷ m.ys) alone)
      (subst AreReceipts (sym m.before) behind_a.4)
      (ap (λ xs. received xs ++ left) m.before ∙ behind_a.5) s
      (λ q is same t.
      let r = after_step_at A m.step q in
      let u : Stands (past ++ act ∷ []) r left pb =
      wrote-a past bytes q m.step left pb behind.0 (ap (act_of m.step.call) is ∙ m.here) t in
      then-a first second m.step m.ys sb q
      (frames-at first second (past ++ act ∷ []) r left pb (honest (past ++ act ∷ []) rest e') u)
      (merges (past ++ act ∷ []) rest m.ys sb r left pb e' behind.1 alone_b
      (subst (λ xs. IsBehind left xs (acts_of A rest))
      (sym (ap (acts_in m.ys) (session-after m.step.call m.step.session q.a) ∙ m.after))
      behind_a.6)
      (subst (λ (c : Connection). IsBehind pb (acts_in sb c.history.session) (acts_of B rest))
      (sym same) behind_b) u)))
  merges past ((B, Writes bytes) ∷ rest) sa sb p pa pb e alone_a alone_b behind_a behind_b s =
      let act : End × LineAct = (B, Writes bytes) in
      let uses = behind_b.0 in
      let left = behind_b.2 in
      let m : Split sb p.b.history.session uses (Writes bytes) behind_b.1 =
      split sb p.b.history.session uses (Writes bytes) behind_b.1 behind_b.3 in
      let alone = subst AreAlone m.parts alone_b in
      let behind = alone-back m.xs (m.step ∷ m.ys) alone in
      let e' = next-is past rest act e in
      subst (λ xs. Merged first second sa xs p) (sym m.parts)
      (runs-b first second past m.xs (m.step ∷ m.ys) sa p pb left pa
      (honest past ((B, Writes bytes) ∷ rest) e) (alone-front m.xs (m.step ∷ m.ys) alone)
      (subst AreReceipts (sym m.before) behind_b.4)
      (ap (λ xs. received xs ++ left) m.before ∙ behind_b.5) s
      (λ q is same t.
      let r = after_step_at B m.step q in
      let u : Stands (past ++ act ∷ []) r pa left =
      wrote-b past bytes q m.step pa left behind.0 (ap (act_of m.step.call) is ∙ m.here) t in
      then-b first second m.step sa m.ys q
      (frames-at first second (past ++ act ∷ []) r pa left (honest (past ++ act ∷ []) rest e') u)
      (merges (past ++ act ∷ []) rest sa m.ys r pa left e' alone_a behind.1
      (subst (λ (c : Connection). IsBehind pa (acts_in sa c.history.session) (acts_of A rest))
      (sym same) behind_a)
      (subst (λ xs. IsBehind left xs (acts_of B rest))
      (sym (ap (acts_in m.ys) (session-after m.step.call m.step.session q.b) ∙ m.after))
      behind_b.6) u)))

-- ---- from the beginning

abbrev pub no_log : LineLog
no_log = record { acts = []; lines = 0 }

abbrev pub log_of : Ran → LineLog
log_of ran = log_over ran.steps (session_of ran.made).session no_log

pub merged-runs : (a b : Ran) (order : List (End × LineAct))
    → AreDone a.steps (first_connection a.made) → AreDone b.steps (first_connection b.made)
    → IsConnectedOnce a → IsConnectedOnce b
    → IsHonest a.made.options.config.max b.made.options.config.max order
    → IsBehind [] (log_of a).acts (acts_of A order) → IsBehind [] (log_of b).acts (acts_of B order)
    → RanOverFrames a b
unfolding acts_of received sent
merged-runs a b order done_a done_b once_a once_b honest behind_a behind_b =
    let p = first_connections a.made b.made in
    let now : IsHonestNow a.made b.made [] = honest [] order refl in
    let m : Merged a.made b.made a.steps b.steps p =
    begins-a a.made b.made a.steps b.steps p no_log refl now done_a
    (first-once a.made a.steps once_a) (first-bare a.made) (refl, refl) (refl, refl)
    (λ post q alone acts bare same.
    begins-b a.made b.made b.steps post q no_log refl now
    (subst (AreDone b.steps) (sym same) done_b)
    (subst (λ (c : Connection). Once b.steps c.history) (sym same)
    (first-once b.made b.steps once_b))
    (subst IsBareBefore (sym same) (first-bare b.made))
    (subst (λ (c : Connection). AreBare c.history) (sym same) (refl, refl)) bare
    (λ then r alone' acts' bare' same'.
    merges a.made b.made order honest [] order post then r [] [] refl alone alone'
    (subst (λ xs. IsBehind [] xs (acts_of A order))
    (sym (ap (λ (c : Connection). acts_in post c.history.session) same' ∙ acts)) behind_a)
    (subst (λ xs. IsBehind [] xs (acts_of B order))
    (sym
    (acts'
    ∙ ap (λ (c : Connection). (log_over b.steps c.history.session no_log).acts) same)) behind_b)
    (bare-stands r (subst (λ (c : Connection). AreBare c.history) (sym same') bare) bare'))) in
    record { steps = m.steps; of_a = m.of_a; of_b = m.of_b; frames = m.over }
