-- What was lost is retransmitted: two running ends of which each knew at rest what was delivered.
use Rattle.std.proofs.Common.{◌≡◌, ◌≢◌, ◌⊎◌, inl, inr, ℕ, ◌+◌, ◌<◌, ◌≤◌, max, Bool, true, false}
use Rattle.std.proofs.Common.{cond, List, [], ◌∷◌, ◌++◌, refl, sym, ap, ◌∙◌, subst, arith}
use Rattle.std.specs.Prelude.{◌==◌, nat_le}
use Rattle.ddcmp_frame.specs.declared.nak.Nak.TheVariants as reason
use Rattle.ddcmp_core.specs.declared.state.State.TheVariants.{Running}
use Rattle.ddcmp_core.specs.declared.state.Owed.{Owed}
use Rattle.ddcmp_core.specs.declared.state.Owed.TheVariants.{Quiet, Ack, Nak}
use Rattle.ddcmp_core.specs.Table.{is_starting}
use Rattle.ddcmp_core.specs.NextFrame.{is_nak}
use Rattle.ddcmp_pair.proofs.Views.{View, tells, back}
use Rattle.ddcmp_laws.proofs.Flights.{Flight, data_flies, ack_flies, nak_flies, rep_flies}
use Rattle.ddcmp_laws.proofs.Flights.{strt_flies, stack_flies, moved, reach, Chained, TellsAll}
use Rattle.ddcmp_laws.proofs.Flights.{is_start, is_rep_flight, is_nak_flight, Has, Each}
use Rattle.ddcmp_laws.proofs.Flights.{has-behind, has-last, has-first, has-none, each-behind}
use Rattle.ddcmp_laws.proofs.Flights.{each-first, rises-first, near-ends, reach-behind}
use Rattle.ddcmp_laws.proofs.Flights.{reach-grows, reach-sent, reach-other, reach-first}
use Rattle.ddcmp_laws.proofs.Flights.{chained-data, chained-other, chained-moves, chained-first}
use Rattle.ddcmp_laws.proofs.Traffic.{Polls, p_strt, p_stack, p_nak, p_rep, p_data, p_ack, Told}
use Rattle.ddcmp_laws.proofs.Traffic.{t_runs, t_starts, Heard, h_strt, h_stack, h_stack_again}
use Rattle.ddcmp_laws.proofs.Traffic.{h_ack, h_nak, h_rep_all, h_rep, h_up, h_full, h_other}
use Rattle.ddcmp_laws.proofs.Traffic.{h_passes, Expires, x_asks, x_told, x_repeats, x_back}
use Rattle.ddcmp_laws.proofs.Traffic.{Base, not-starting}
use Rattle.ddcmp_laws.proofs.Starting.{Idles, i_starts, i_runs}

-- What v sends next w will deliver in its turn, or v will be sent back to it. Before its timer ran
-- out (expired) v may also sleep: nothing in flight is delivered.
pub data Resends (expired : Bool) (v w : View) (fl gl : List Flight) : Type 0 where
  r_sleeps : expired ≡ false → v.acked ≡ w.up → reach w.up fl ≡ w.up → w.up + 1 < v.next
      → Resends expired v w fl gl
  r_asks : v.rep ≡ true → v.acked ≡ w.up → reach w.up fl ≡ w.up → Resends expired v w fl gl
  r_asked : Has is_rep_flight fl → Resends expired v w fl gl
  r_owed : is_nak w.reply ≡ true → Resends expired v w fl gl
  r_nak : Has is_nak_flight gl → Resends expired v w fl gl
  r_chain : v.next ≤ reach w.up fl + 1 → Resends expired v w fl gl

pub record Repeats (expired : Bool) (v w : View) (fl gl : List Flight) : Type 0 where
  pub runs : v.state ≡ Running
  pub runs_there : w.state ≡ Running
  pub calm : Each is_start false fl
  pub chained : Chained w.up v.next fl
  pub resends : Resends expired v w fl gl

-- ---- v sends

-- any frame but a message
sends-other : (x : Bool) (v v' w : View) (fl gl : List Flight) (f : Flight) → v'.state ≡ v.state
    → v'.acked ≡ v.acked → v'.next ≡ v.next → is_start f ≡ false → TellsAll v.next f
    → (v.rep ≡ true → (v'.rep ≡ true) ⊎ (is_rep_flight f ≡ true)) → Repeats x v w fl gl
    → Repeats x v' w (fl ++ f ∷ []) gl
sends-other x v v' w fl gl f s a n c t r h = record {
  runs = s ∙ h.runs;
  runs_there = h.runs_there;
  calm = each-behind is_start false fl f c h.calm;
  chained =
      subst (λ k. Chained w.up k (fl ++ f ∷ [])) (sym n)
      (chained-other w.up v.next fl f t h.chained);
  resends = by h.resends;
}
  where
    same : reach w.up (fl ++ f ∷ []) ≡ reach w.up fl
    same = reach-other w.up v.next fl f t

    asks : (v'.rep ≡ true) ⊎ (is_rep_flight f ≡ true) → v.acked ≡ w.up → reach w.up fl ≡ w.up
        → Resends x v' w (fl ++ f ∷ []) gl
    asks (inl p) e u = r_asks p (a ∙ e) (same ∙ u)
    asks (inr p) e u = r_asked (has-last is_rep_flight fl f p)

    by : Resends x v w fl gl → Resends x v' w (fl ++ f ∷ []) gl
    by (r_sleeps y e u g) = r_sleeps y (a ∙ e) (same ∙ u) (omega (arith, g, n))
    by (r_asks p e u) = asks (r p) e u
    by (r_asked p) = r_asked (has-behind is_rep_flight fl f p)
    by (r_owed p) = r_owed p
    by (r_nak p) = r_nak p
    by (r_chain p) = r_chain (let z = same in omega (arith, z, p, n))

not-next : (u next : ℕ) → u + 1 < next → cond (next == u + 1) next u ≡ u
not-next u next h = by (next == u + 1) refl
  where
    by : (b : Bool) → (next == u + 1) ≡ b → cond b next u ≡ u
    by true e = let z : next ≡ u + 1 = grind (arith) in absurd (omega (arith, z, h))
    by false e = refl

sends-data : (x : Bool) (v w : View) (fl gl : List Flight) (m : List ℕ) → v.rep ≡ false
    → Repeats x v w fl gl
    → Repeats x (record v { sent = max v.sent v.next; next = v.next + 1; reply = Quiet }) w
    (fl ++ data_flies v.up v.next m ∷ []) gl
sends-data x v w fl gl m f h = record {
  runs = h.runs;
  runs_there = h.runs_there;
  calm = each-behind is_start false fl (data_flies v.up v.next m) refl h.calm;
  chained = chained-data w.up v.next v.up m fl h.chained;
  resends = by h.resends;
}
  where
    by : Resends x v w fl gl
        → Resends x (record v { sent = max v.sent v.next; next = v.next + 1; reply = Quiet }) w
        (fl ++ data_flies v.up v.next m ∷ []) gl
    by (r_sleeps y e u g) =
        r_sleeps y e
        (reach-behind w.up fl (data_flies v.up v.next m)
        ∙ ap (λ r. cond (v.next == r + 1) v.next r) u ∙ not-next w.up v.next g)
        (omega (arith, g))
    by (r_asks p e u) = absurd (cc (p, f))
    by (r_asked p) = r_asked (has-behind is_rep_flight fl (data_flies v.up v.next m) p)
    by (r_owed p) = r_owed p
    by (r_nak p) = r_nak p
    by (r_chain p) = r_chain (reach-sent w.up v.next v.up m fl p)

pub repeats-polls : (W : ℕ) (x : Bool) (v w : View) (fl gl : List Flight) → Base W v w fl gl
    → (v' : View) (f : Flight) → Polls v v' f → Repeats x v w fl gl
    → Repeats x v' w (fl ++ f ∷ []) gl
repeats-polls W x v w fl gl b _ _ (p_strt s d) h = not-starting v.state h.runs (ap is_starting s)
repeats-polls W x v w fl gl b _ _ (p_stack s d) h = not-starting v.state h.runs (ap is_starting s)
repeats-polls W x v w fl gl b _ _ (p_nak c s r) h =
    sends-other x v (record v { reply = Quiet }) w fl gl (nak_flies c v.up) refl refl refl refl tt
    (λ p. inl p) h
repeats-polls W x v w fl gl b _ _ (p_rep s r t) h =
    sends-other x v (record v { rep = false }) w fl gl (rep_flies v.sent)
    refl refl refl refl b.bounds.high (λ p. inr refl) h
repeats-polls W x v w fl gl b _ _ (p_ack s r t room) h =
    sends-other x v (record v { reply = Quiet }) w fl gl (ack_flies v.up) refl refl refl refl tt
    (λ p. inl p) h
repeats-polls W x v w fl gl b _ _ (p_data m s r t room) h = sends-data x v w fl gl m t h

-- ---- w sends

sent-there : (x : Bool) (v w w' : View) (fl gl : List Flight) (f : Flight) → w'.state ≡ w.state
    → w'.up ≡ w.up → (is_nak w.reply ≡ true → is_nak_flight f ≡ true) → Repeats x v w fl gl
    → Repeats x v w' fl (gl ++ f ∷ [])
sent-there x v w w' fl gl f s u r h = record {
  runs = h.runs;
  runs_there = s ∙ h.runs_there;
  calm = h.calm;
  chained = subst (λ n. Chained n v.next fl) (sym u) h.chained;
  resends = by h.resends;
}
  where
    by : Resends x v w fl gl → Resends x v w' fl (gl ++ f ∷ [])
    by (r_sleeps y e q g) =
        r_sleeps y (e ∙ sym u) (ap (λ n. reach n fl) u ∙ q ∙ sym u) (omega (arith, g, u))
    by (r_asks p e q) = r_asks p (e ∙ sym u) (ap (λ n. reach n fl) u ∙ q ∙ sym u)
    by (r_asked p) = r_asked p
    by (r_owed p) = r_nak (has-last is_nak_flight gl f (r p))
    by (r_nak p) = r_nak (has-behind is_nak_flight gl f p)
    by (r_chain p) = r_chain (let z = ap (λ n. reach n fl) u in omega (arith, z, p))

pub repeats-answers : (x : Bool) (v w : View) (fl gl : List Flight) (w' : View) (f : Flight)
    → Polls w w' f → Repeats x v w fl gl → Repeats x v w' fl (gl ++ f ∷ [])
repeats-answers x v w fl gl _ _ (p_strt s d) h =
    not-starting w.state h.runs_there (ap is_starting s)
repeats-answers x v w fl gl _ _ (p_stack s d) h =
    not-starting w.state h.runs_there (ap is_starting s)
repeats-answers x v w fl gl _ _ (p_nak c s r) h =
    sent-there x v w (record w { reply = Quiet }) fl gl (nak_flies c w.up) refl refl (λ p. refl) h
repeats-answers x v w fl gl _ _ (p_rep s r t) h =
    sent-there x v w (record w { rep = false }) fl gl (rep_flies w.sent) refl refl
    (λ p. absurd (cc (p, r))) h
repeats-answers x v w fl gl _ _ (p_data m s r t room) h =
    sent-there x v w (record w { sent = max w.sent w.next; next = w.next + 1; reply = Quiet }) fl gl
    (data_flies w.up w.next m) refl refl (λ p. absurd (cc (p, r))) h
repeats-answers x v w fl gl _ _ (p_ack s r t room) h =
    sent-there x v w (record w { reply = Quiet }) fl gl (ack_flies w.up) refl refl
    (λ p. absurd (let z = ap is_nak r in cc (z, p))) h

-- ---- v hears

-- nothing that v goes by changes
hears-other : (x : Bool) (v v' w : View) (fl : List Flight) (f : Flight) (gl : List Flight)
    → v'.state ≡ v.state → v'.acked ≡ v.acked → v'.next ≡ v.next → v'.rep ≡ v.rep
    → is_nak_flight f ≡ false
    → Repeats x v w fl (f ∷ gl) → Repeats x v' w fl gl
hears-other x v v' w fl f gl s a n r c h = record {
  runs = s ∙ h.runs;
  runs_there = h.runs_there;
  calm = h.calm;
  chained = subst (λ k. Chained w.up k fl) (sym n) h.chained;
  resends = by h.resends;
}
  where
    nak : (is_nak_flight f ≡ true) ⊎ Has is_nak_flight gl → Resends x v' w fl gl
    nak (inl e) = absurd (cc (e, c))
    nak (inr p) = r_nak p

    by : Resends x v w fl (f ∷ gl) → Resends x v' w fl gl
    by (r_sleeps y e q g) = r_sleeps y (a ∙ e) q (omega (arith, g, n))
    by (r_asks p e q) = r_asks (r ∙ p) (a ∙ e) q
    by (r_asked p) = r_asked p
    by (r_owed p) = r_owed p
    by (r_nak p) = nak (has-first is_nak_flight f gl p)
    by (r_chain p) = r_chain (omega (arith, n, p))

kept-rep : (q acked : ℕ) (b : Bool) → q ≡ acked → cond (q == acked) b false ≡ b
kept-rep q acked b e = by (q == acked) refl
  where
    by : (c : Bool) → (q == acked) ≡ c → cond c b false ≡ b
    by true z = refl
    by false z = absurd (grind (arith, e))

-- v takes a count
hears-count : (x : Bool) (v v' w : View) (fl : List Flight) (f : Flight) (gl : List Flight) (q : ℕ)
    → v.acked ≤ q → q ≤ w.up → v'.state ≡ Running → v'.acked ≡ q → v'.next ≡ max v.next (q + 1)
    → v'.rep ≡ cond (q == v.acked) v.rep false → is_nak_flight f ≡ false → Repeats x v w fl (f ∷ gl)
    → Repeats x v' w fl gl
hears-count x v v' w fl f gl q lo hi s a n r c h = record {
  runs = s;
  runs_there = h.runs_there;
  calm = h.calm;
  chained =
      chained-moves w.up w.up v.next v'.next fl (omega arith) (omega (arith, n, hi)) h.chained;
  resends = by h.resends;
}
  where
    nak : (is_nak_flight f ≡ true) ⊎ Has is_nak_flight gl → Resends x v' w fl gl
    nak (inl e) = absurd (cc (e, c))
    nak (inr p) = r_nak p

    by : Resends x v w fl (f ∷ gl) → Resends x v' w fl gl
    by (r_sleeps y e u g) = r_sleeps y (a ∙ omega (arith, lo, hi, e)) u (omega (arith, g, n))
    by (r_asks p e u) =
        let z : q ≡ v.acked = omega (arith, lo, hi, e) in
        r_asks (r ∙ kept-rep q v.acked v.rep z ∙ p) (a ∙ z ∙ e) u
    by (r_asked p) = r_asked p
    by (r_owed p) = r_owed p
    by (r_nak p) = nak (has-first is_nak_flight f gl p)
    by (r_chain p) = r_chain (let z = reach-grows w.up fl in omega (arith, z, n, p, hi))

hears-told : (x : Bool) (v w : View) (q : ℕ) (u : View) (fl : List Flight) (f : Flight)
    (gl : List Flight) (up : ℕ) (reply : Owed) → v.acked ≤ q → q ≤ w.up → Told v q u
    → is_nak_flight f ≡ false
    → Repeats x v w fl (f ∷ gl) → Repeats x (record u { up = up; reply = reply }) w fl gl
hears-told x v w q _ fl f gl up reply lo hi (t_runs p) c h =
    hears-count x v (record (tells v q) { up = up; reply = reply })
    w fl f gl q lo hi p refl refl refl c h
hears-told x v w q _ fl f gl up reply lo hi (t_starts p e) c h =
    not-starting v.state h.runs (ap is_starting p)

-- v is sent back
hears-nak : (x : Bool) (v w : View) (fl : List Flight) (f : Flight) (gl : List Flight) (q : ℕ)
    → q ≤ w.up → Repeats x v w fl (f ∷ gl) → Repeats x (back (tells v q)) w fl gl
hears-nak x v w fl f gl q hi h = record {
  runs = h.runs;
  runs_there = h.runs_there;
  calm = h.calm;
  chained = chained-moves w.up w.up v.next (q + 1) fl (omega arith) (omega (arith, hi)) h.chained;
  resends = r_chain (let z = reach-grows w.up fl in omega (arith, z, hi));
}

no-start : {X : Type 0} (f : Flight) (gl : List Flight) → Each is_start false (f ∷ gl)
    → is_start f ≡ true → X
no-start f gl u e = let z = (each-first is_start false f gl u).0 in absurd (cc (z, e))

pub repeats-hears : (W : ℕ) (x y : Bool) (v w : View) (fl : List Flight) (f : Flight)
    (gl : List Flight) → Base W v w fl (f ∷ gl) → (v' : View) → Heard v f v'
    → Repeats y w v (f ∷ gl) fl → Repeats x v w fl (f ∷ gl) → Repeats x v' w fl gl
repeats-hears W x y v w fl _ gl b _ (h_strt s) o h = no-start strt_flies gl o.calm refl
repeats-hears W x y v w fl _ gl b _ (h_stack s) o h = no-start stack_flies gl o.calm refl
repeats-hears W x y v w fl _ gl b _ (h_stack_again p) o h = no-start stack_flies gl o.calm refl
repeats-hears W x y v w fl _ gl b _ (h_ack q u t) o h =
    let r = rises-first v.acked w.up (ack_flies q) gl b.rising in
    hears-told x v w q u fl (ack_flies q) gl u.up u.reply r.0 r.1 t refl h
repeats-hears W x y v w fl _ gl b _ (h_nak c q p) o h =
    hears-nak x v w fl (nak_flies c q) gl q
    (rises-first v.acked w.up (nak_flies c q) gl b.rising).1 h
repeats-hears W x y v w fl _ gl b _ (h_rep_all n p e) o h =
    hears-other x v (record v { reply = Ack }) w fl (rep_flies n) gl refl refl refl refl refl h
repeats-hears W x y v w fl _ gl b _ (h_rep n p) o h =
    hears-other x v (record v { reply = Nak reason.ReplyToRep }) w fl (rep_flies n)
    gl refl refl refl refl refl h
repeats-hears W x y v w fl _ gl b _ (h_up q k m u t e) o h =
    let r = rises-first v.acked w.up (data_flies q k m) gl b.rising in
    hears-told x v w q u fl (data_flies q k m) gl k Ack r.0 r.1 t refl h
repeats-hears W x y v w fl _ gl b _ (h_full q k m u t) o h =
    let r = rises-first v.acked w.up (data_flies q k m) gl b.rising in
    hears-told x v w q u fl (data_flies q k m) gl u.up (Nak reason.NoBuffer) r.0 r.1 t refl h
repeats-hears W x y v w fl _ gl b _ (h_other q k m u t e) o h =
    let r = rises-first v.acked w.up (data_flies q k m) gl b.rising in
    hears-told x v w q u fl (data_flies q k m) gl u.up u.reply r.0 r.1 t refl h
repeats-hears W x y v w fl _ gl b _ (h_passes f s r e) o h = not-starting v.state h.runs s

-- ---- w hears

-- nothing is delivered
heard-still : (x : Bool) (v w w' : View) (f : Flight) (fl gl : List Flight) → w'.state ≡ Running
    → w'.up ≡ w.up → w'.reply ≡ w.reply → moved f w.up ≡ w.up → is_rep_flight f ≡ false
    → Repeats x v w (f ∷ fl) gl → Repeats x v w' fl gl
heard-still x v w w' f fl gl s u r m c h = record {
  runs = h.runs;
  runs_there = s;
  calm = (each-first is_start false f fl h.calm).1;
  chained = subst (λ n. Chained n v.next fl) (sym u) (chained-first w.up v.next f fl h.chained).1;
  resends = by h.resends;
}
  where
    same : reach w'.up fl ≡ reach w.up (f ∷ fl)
    same = ap (λ n. reach n fl) (u ∙ sym m) ∙ sym (reach-first w.up f fl)

    rep : (is_rep_flight f ≡ true) ⊎ Has is_rep_flight fl → Resends x v w' fl gl
    rep (inl e) = absurd (cc (e, c))
    rep (inr p) = r_asked p

    by : Resends x v w (f ∷ fl) gl → Resends x v w' fl gl
    by (r_sleeps y e q g) = r_sleeps y (e ∙ sym u) (same ∙ q ∙ sym u) (omega (arith, g, u))
    by (r_asks p e q) = r_asks p (e ∙ sym u) (same ∙ q ∙ sym u)
    by (r_asked p) = rep (has-first is_rep_flight f fl p)
    by (r_owed p) = r_owed (ap is_nak r ∙ p)
    by (r_nak p) = r_nak p
    by (r_chain p) = r_chain (let z = same in omega (arith, z, p))

-- an answer is owed by which all is well
heard-then : (x : Bool) (v w w' : View) (f : Flight) (fl gl : List Flight) → w'.state ≡ Running
    → w.up ≤ w'.up → Resends x v w' fl gl → Repeats x v w (f ∷ fl) gl → Repeats x v w' fl gl
heard-then x v w w' f fl gl s u r h = record {
  runs = h.runs;
  runs_there = s;
  calm = (each-first is_start false f fl h.calm).1;
  chained =
      chained-moves w.up w'.up v.next v.next fl u (omega arith)
      (chained-first w.up v.next f fl h.chained).1;
  resends = r;
}

still-up : (w : View) (q k : ℕ) (m : List ℕ) → k ≢ w.up + 1 → moved (data_flies q k m) w.up ≡ w.up
still-up w q k m n = by (k == w.up + 1) refl
  where
    by : (b : Bool) → (k == w.up + 1) ≡ b → cond b k w.up ≡ w.up
    by true e = absurd (n (grind (arith)))
    by false e = refl

data-heard : (x : Bool) (v w : View) (q : ℕ) (u : View) (f : Flight) (fl gl : List Flight)
    → Told w q u → moved f w.up ≡ w.up → is_rep_flight f ≡ false → Repeats x v w (f ∷ fl) gl
    → Repeats x v u fl gl
data-heard x v w q _ f fl gl (t_runs p) m c h =
    heard-still x v w (tells w q) f fl gl p refl refl m c h
data-heard x v w q _ f fl gl (t_starts p e) m c h =
    not-starting w.state h.runs_there (ap is_starting p)

told-up : (w : View) (q : ℕ) (u : View) → Told w q u → (u.state ≡ Running) × (u.up ≡ w.up)
told-up w q _ (t_runs p) = (p, refl)
told-up w q _ (t_starts p e) = (refl, refl)

pub repeats-heard : (x : Bool) (v w : View) (f : Flight) (fl gl : List Flight) (w' : View)
    → Heard w f w' → Repeats x v w (f ∷ fl) gl → Repeats x v w' fl gl
repeats-heard x v w _ fl gl _ (h_strt s) h = no-start strt_flies fl h.calm refl
repeats-heard x v w _ fl gl _ (h_stack s) h = no-start stack_flies fl h.calm refl
repeats-heard x v w _ fl gl _ (h_stack_again p) h = no-start stack_flies fl h.calm refl
repeats-heard x v w _ fl gl _ (h_ack q u t) h =
    data-heard x v w q u (ack_flies q) fl gl t refl refl h
repeats-heard x v w _ fl gl _ (h_nak c q p) h =
    heard-still x v w (back (tells w q)) (nak_flies c q) fl gl p refl refl refl refl h
repeats-heard x v w _ fl gl _ (h_rep_all n p e) h =
    let c = (chained-first w.up v.next (rep_flies n) fl h.chained).0 (omega (arith, e)) in
    let z = ap (λ k. reach k fl) e in
    heard-then x v w (record w { reply = Ack }) (rep_flies n) fl gl p (omega arith)
    (r_chain (omega (arith, c, z))) h
repeats-heard x v w _ fl gl _ (h_rep n p) h =
    heard-then x v w (record w { reply = Nak reason.ReplyToRep }) (rep_flies n) fl gl p
    (omega arith) (r_owed refl) h
repeats-heard x v w _ fl gl _ (h_up q k m u t e) h =
    let c = (chained-first w.up v.next (data_flies q k m) fl h.chained).0 (omega (arith, e)) in
    heard-then x v w (record u { up = k; reply = Ack }) (data_flies q k m) fl gl (told-up w q u t).0
    (omega (arith, e)) (r_chain c) h
repeats-heard x v w _ fl gl _ (h_full q k m u t) h =
    let z = (told-up w q u t).1 in
    heard-then x v w (record u { reply = Nak reason.NoBuffer }) (data_flies q k m) fl gl
    (told-up w q u t).0 (omega (arith, z)) (r_owed refl) h
repeats-heard x v w _ fl gl _ (h_other q k m u t e) h =
    data-heard x v w q u (data_flies q k m) fl gl t (still-up w q k m e) refl h
repeats-heard x v w _ fl gl _ (h_passes f s r e) h = not-starting w.state h.runs_there s

-- ---- timers, and what the users do

pub repeats-kept : (x : Bool) (v v' w w' : View) (fl gl : List Flight) → v'.state ≡ v.state
    → v'.acked ≡ v.acked → v'.next ≡ v.next → v'.rep ≡ v.rep → w'.state ≡ w.state → w'.up ≡ w.up
    → w'.reply ≡ w.reply
    → Repeats x v w fl gl → Repeats x v' w' fl gl
repeats-kept x v v' w w' fl gl s a n r s' u q h = record {
  runs = s ∙ h.runs;
  runs_there = s' ∙ h.runs_there;
  calm = h.calm;
  chained = subst (λ (k : ℕ × ℕ). Chained k.0 k.1 fl) (λ i. (sym u i, sym n i)) h.chained;
  resends = by h.resends;
}
  where
    same : reach w'.up fl ≡ reach w.up fl
    same = ap (λ k. reach k fl) u

    by : Resends x v w fl gl → Resends x v' w' fl gl
    by (r_sleeps y e z g) = r_sleeps y (a ∙ e ∙ sym u) (same ∙ z ∙ sym u) (omega (arith, g, u, n))
    by (r_asks p e z) = r_asks (r ∙ p) (a ∙ e ∙ sym u) (same ∙ z ∙ sym u)
    by (r_asked p) = r_asked p
    by (r_owed p) = r_owed (ap is_nak q ∙ p)
    by (r_nak p) = r_nak p
    by (r_chain p) = r_chain (let z = same in omega (arith, z, p, n))

awakened : (x : Bool) (v v' w : View) (fl gl : List Flight) → v'.state ≡ v.state
    → v'.acked ≡ v.acked → v'.next ≡ v.next → (v.rep ≡ true → v'.rep ≡ true)
    → (v.acked ≡ w.up → reach w.up fl ≡ w.up → w.up + 1 < v.next → Resends true v' w fl gl)
    → Repeats x v w fl gl → Repeats true v' w fl gl
awakened x v v' w fl gl s a n r wake h = record {
  runs = s ∙ h.runs;
  runs_there = h.runs_there;
  calm = h.calm;
  chained = subst (λ k. Chained w.up k fl) (sym n) h.chained;
  resends = by h.resends;
}
  where
    by : Resends x v w fl gl → Resends true v' w fl gl
    by (r_sleeps y e z g) = wake e z g
    by (r_asks p e z) = r_asks (r p) (a ∙ e) z
    by (r_asked p) = r_asked p
    by (r_owed p) = r_owed p
    by (r_nak p) = r_nak p
    by (r_chain p) = r_chain (omega (arith, p, n))

pub repeats-expires : (W : ℕ) (x : Bool) (v w : View) (fl gl : List Flight) → Base W v w fl gl
    → (v' : View) → Expires v v' → Repeats x v w fl gl → Repeats true v' w fl gl
repeats-expires W x v w fl gl b _ (x_asks s) h = not-starting v.state h.runs s
repeats-expires W x v w fl gl b _ (x_told p t) h =
    let c = b.bounds.high in
    awakened x v v w fl gl refl refl refl (λ r. r) (λ e z g. absurd (omega (arith, e, t, c, g))) h
repeats-expires W x v w fl gl b _ (x_repeats p) h =
    awakened x v (record v { rep = true }) w fl gl refl refl refl (λ r. refl)
    (λ e z g. r_asks refl e z) h
repeats-expires W x v w fl gl b _ (x_back p t) h =
    awakened x v v w fl gl refl refl refl (λ r. r) (λ e z g. absurd (omega (arith, e, t, g))) h

-- ---- at rest

reach-nothing : (n : ℕ) → reach n [] ≡ n
unfolding reach
reach-nothing n = refl

pub repeated : (W : ℕ) (v w : View) → Base W v w [] [] → Repeats true v w [] [] → Idles v
    → w.reply ≡ Quiet → w.up ≡ v.given
repeated W v w b h (i_starts s d) r = not-starting v.state h.runs s
repeated W v w b h (i_runs p q f room) r = by h.resends
  where
    by : Resends true v w [] [] → w.up ≡ v.given
    by (r_sleeps y e z g) = absurd (cc y)
    by (r_asks t e z) = absurd (cc (t, f))
    by (r_asked t) = absurd (has-none is_rep_flight t)
    by (r_owed t) = absurd (let z = ap is_nak r in cc (z, t))
    by (r_nak t) = absurd (has-none is_nak_flight t)
    by (r_chain t) =
        let z = reach-nothing w.up in
        let n = near-ends W v.sent w.up [] b.near in
        let c = b.bounds.sent_given in
        omega (arith, t, z, n, c, room)

-- a round begins
pub begins : (W : ℕ) (v w : View) → Base W v w [] [] → v.state ≡ Running → w.state ≡ Running
    → v.acked ≡ w.up → Repeats false v w [] []
unfolding Each Chained reach
begins W v w b p q e = record {
  runs = p;
  runs_there = q;
  calm = tt;
  chained = tt;
  resends = by (nat_le v.next (w.up + 1)) refl;
}
  where
    by : (c : Bool) → nat_le v.next (w.up + 1) ≡ c → Resends false v w [] []
    by true l = r_chain (grind (arith, l))
    by false l = r_sleeps refl e refl (grind (arith, l))
