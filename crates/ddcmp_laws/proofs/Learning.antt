-- What an end comes to know of what is delivered at the other, once its timer expired.
use Rattle.std.proofs.Common.{◌≡◌, ◌⊎◌, inl, inr, ℕ, ◌+◌, ◌<◌, max, Bool, true, false, List, []}
use Rattle.std.proofs.Common.{◌∷◌, ◌++◌, refl, sym, ap, ◌∙◌, arith}
use Rattle.ddcmp_frame.specs.declared.nak.Nak.TheVariants as reason
use Rattle.ddcmp_core.specs.declared.state.State.TheVariants.{AStart}
use Rattle.ddcmp_core.specs.declared.state.Owed.TheVariants.{Quiet, Ack, Nak}
use Rattle.ddcmp_core.specs.Table.{is_starting}
use Rattle.ddcmp_pair.proofs.Views.{View, tells, back, ran}
use Rattle.ddcmp_pair.proofs.Waking.{is_quiet}
use Rattle.ddcmp_laws.proofs.Flights.{Flight, data_flies, ack_flies, nak_flies, rep_flies}
use Rattle.ddcmp_laws.proofs.Flights.{strt_flies, stack_flies, told, latest, Uncounted}
use Rattle.ddcmp_laws.proofs.Flights.{tells_count, is_rep_flight, Has, latest-behind}
use Rattle.ddcmp_laws.proofs.Flights.{latest-within, latest-first, latest-none}
use Rattle.ddcmp_laws.proofs.Flights.{uncounted-behind, uncounted-first, has-behind, has-last}
use Rattle.ddcmp_laws.proofs.Flights.{has-first, has-none, rises-ends, near-ends}
use Rattle.ddcmp_laws.proofs.Traffic.{Polls, p_strt, p_stack, p_nak, p_rep, p_data, p_ack, Told}
use Rattle.ddcmp_laws.proofs.Traffic.{t_runs, t_starts, Heard, h_strt, h_stack, h_stack_again}
use Rattle.ddcmp_laws.proofs.Traffic.{h_ack, h_nak, h_rep_all, h_rep, h_up, h_full, h_other}
use Rattle.ddcmp_laws.proofs.Traffic.{h_passes, Expires, x_asks, x_told, x_repeats, x_back}
use Rattle.ddcmp_laws.proofs.Traffic.{Base}

-- v knows what is up at w, or will: an answer is owed, or the last count in flight reports it, or
-- it asks. Before its timer expired (expired) it may also sleep, and hears nothing.
pub data Learns (expired : Bool) (v w : View) (fl gl : List Flight) : Type 0 where
  l_owed : is_quiet w.reply ≡ false → Learns expired v w fl gl
  l_latest : latest v.acked gl ≡ w.up → Learns expired v w fl gl
  l_asks : Uncounted gl → v.rep ≡ true → Learns expired v w fl gl
  l_asked : Uncounted gl → Has is_rep_flight fl → Learns expired v w fl gl
  l_sleeps : expired ≡ false → Uncounted gl → (v.acked + 1 < v.next) ⊎ (v.acked ≡ v.sent)
      → Learns expired v w fl gl

-- ---- v sends

pub learns-polls : (W : ℕ) (x : Bool) (v w : View) (fl gl : List Flight) → Base W v w fl gl
    → (v' : View) (f : Flight) → Polls v v' f → Learns x v w fl gl → Learns x v' w (fl ++ f ∷ []) gl
learns-polls W x v w fl gl b _ _ p (l_owed r) = l_owed r
learns-polls W x v w fl gl b _ _ (p_strt s d) (l_latest e) = l_latest e
learns-polls W x v w fl gl b _ _ (p_stack s d) (l_latest e) = l_latest e
learns-polls W x v w fl gl b _ _ (p_nak c s r) (l_latest e) = l_latest e
learns-polls W x v w fl gl b _ _ (p_rep s r t) (l_latest e) = l_latest e
learns-polls W x v w fl gl b _ _ (p_data m s r t room) (l_latest e) = l_latest e
learns-polls W x v w fl gl b _ _ (p_ack s r t room) (l_latest e) = l_latest e
learns-polls W x v w fl gl b _ _ (p_strt s d) (l_asks u e) = l_asks u e
learns-polls W x v w fl gl b _ _ (p_stack s d) (l_asks u e) = l_asks u e
learns-polls W x v w fl gl b _ _ (p_nak c s r) (l_asks u e) = l_asks u e
learns-polls W x v w fl gl b _ _ (p_rep s r t) (l_asks u e) =
    l_asked u (has-last is_rep_flight fl (rep_flies v.sent) refl)
learns-polls W x v w fl gl b _ _ (p_data m s r t room) (l_asks u e) = l_asks u e
learns-polls W x v w fl gl b _ _ (p_ack s r t room) (l_asks u e) = l_asks u e
learns-polls W x v w fl gl b _ f p (l_asked u h) = l_asked u (has-behind is_rep_flight fl f h)
learns-polls W x v w fl gl b _ _ (p_strt s d) (l_sleeps n u e) = l_sleeps n u e
learns-polls W x v w fl gl b _ _ (p_stack s d) (l_sleeps n u e) = l_sleeps n u e
learns-polls W x v w fl gl b _ _ (p_nak c s r) (l_sleeps n u e) = l_sleeps n u e
learns-polls W x v w fl gl b _ _ (p_rep s r t) (l_sleeps n u e) = l_sleeps n u e
learns-polls W x v w fl gl b _ _ (p_data m s r t room) (l_sleeps n u e) =
    l_sleeps n u (inl (let c = b.bounds.low in omega (arith, c)))
learns-polls W x v w fl gl b _ _ (p_ack s r t room) (l_sleeps n u e) = l_sleeps n u e

-- ---- w sends

-- a frame with a count reports what is up
counted : (x : Bool) (v w w' : View) (fl gl : List Flight) (f : Flight) → w'.up ≡ w.up
    → ((low : ℕ) → told f low ≡ w.up) → Learns x v w' fl (gl ++ f ∷ [])
counted x v w w' fl gl f u t = l_latest (latest-behind v.acked gl f ∙ t (latest v.acked gl) ∙ sym u)

-- another one leaves what was
uncounted : (x : Bool) (v w w' : View) (fl gl : List Flight) (f : Flight) → w'.up ≡ w.up
    → w'.reply ≡ w.reply → tells_count f ≡ false → ((low : ℕ) → told f low ≡ low)
    → Learns x v w fl gl → Learns x v w' fl (gl ++ f ∷ [])
uncounted x v w w' fl gl f u r c t (l_owed q) = l_owed (ap is_quiet r ∙ q)
uncounted x v w w' fl gl f u r c t (l_latest e) =
    l_latest (latest-behind v.acked gl f ∙ t (latest v.acked gl) ∙ e ∙ sym u)
uncounted x v w w' fl gl f u r c t (l_asks n e) = l_asks (uncounted-behind gl f c n) e
uncounted x v w w' fl gl f u r c t (l_asked n h) = l_asked (uncounted-behind gl f c n) h
uncounted x v w w' fl gl f u r c t (l_sleeps y n e) = l_sleeps y (uncounted-behind gl f c n) e

pub learns-answers : (x : Bool) (v w : View) (fl gl : List Flight) (w' : View) (f : Flight)
    → Polls w w' f → Learns x v w fl gl → Learns x v w' fl (gl ++ f ∷ [])
learns-answers x v w fl gl _ _ (p_strt s d) h =
    uncounted x v w (record w { due = false }) fl gl strt_flies refl refl refl (λ low. refl) h
learns-answers x v w fl gl _ _ (p_stack s d) h =
    uncounted x v w (record w { due = false }) fl gl stack_flies refl refl refl (λ low. refl) h
learns-answers x v w fl gl _ _ (p_rep s r t) h =
    uncounted x v w (record w { rep = false }) fl gl (rep_flies w.sent) refl refl refl (λ low. refl)
    h
learns-answers x v w fl gl _ _ (p_nak c s r) h =
    counted x v w (record w { reply = Quiet }) fl gl (nak_flies c w.up) refl (λ low. refl)
learns-answers x v w fl gl _ _ (p_data m s r t room) h =
    counted x v w (record w { sent = max w.sent w.next; next = w.next + 1; reply = Quiet }) fl gl
    (data_flies w.up w.next m) refl (λ low. refl)
learns-answers x v w fl gl _ _ (p_ack s r t room) h =
    counted x v w (record w { reply = Quiet }) fl gl (ack_flies w.up) refl (λ low. refl)

-- ---- v hears

-- a count comes
count-comes : (x : Bool) (v v' w : View) (fl gl : List Flight) (f : Flight) → tells_count f ≡ true
    → v'.acked ≡ told f v.acked → Learns x v w fl (f ∷ gl) → Learns x v' w fl gl
count-comes x v v' w fl gl f c a (l_owed r) = l_owed r
count-comes x v v' w fl gl f c a (l_latest e) =
    l_latest (ap (λ n. latest n gl) a ∙ sym (latest-first v.acked f gl) ∙ e)
count-comes x v v' w fl gl f c a (l_asks u e) =
    absurd (let z = (uncounted-first f gl u).0 in cc (z, c))
count-comes x v v' w fl gl f c a (l_asked u h) =
    absurd (let z = (uncounted-first f gl u).0 in cc (z, c))
count-comes x v v' w fl gl f c a (l_sleeps n u e) =
    absurd (let z = (uncounted-first f gl u).0 in cc (z, c))

-- no count comes
other-comes : (x : Bool) (v v' w : View) (fl gl : List Flight) (f : Flight)
    → told f v.acked ≡ v.acked → v'.acked ≡ v.acked → v'.rep ≡ v.rep → v'.sent ≡ v.sent
    → v'.next ≡ v.next
    → Learns x v w fl (f ∷ gl) → Learns x v' w fl gl
other-comes x v v' w fl gl f c a r s t (l_owed q) = l_owed q
other-comes x v v' w fl gl f c a r s t (l_latest e) =
    l_latest (ap (λ n. latest n gl) (a ∙ sym c) ∙ sym (latest-first v.acked f gl) ∙ e)
other-comes x v v' w fl gl f c a r s t (l_asks u e) = l_asks (uncounted-first f gl u).1 (r ∙ e)
other-comes x v v' w fl gl f c a r s t (l_asked u h) = l_asked (uncounted-first f gl u).1 h
other-comes x v v' w fl gl f c a r s t (l_sleeps n u (inl e)) =
    l_sleeps n (uncounted-first f gl u).1 (inl (omega (arith, e, a, t)))
other-comes x v v' w fl gl f c a r s t (l_sleeps n u (inr e)) =
    l_sleeps n (uncounted-first f gl u).1 (inr (a ∙ e ∙ sym s))

pub told-is : (v : View) (q : ℕ) (u : View) → Told v q u → u.acked ≡ q
told-is v q _ (t_runs p) = refl
told-is v q _ (t_starts p e) = sym e

pub learns-hears : (x : Bool) (v w : View) (fl : List Flight) (f : Flight) (gl : List Flight)
    (v' : View) → Heard v f v' → Learns x v w fl (f ∷ gl) → Learns x v' w fl gl
learns-hears x v w fl _ gl _ (h_strt s) h =
    other-comes x v (record v { state = AStart; due = true })
    w fl gl strt_flies refl refl refl refl refl h
learns-hears x v w fl _ gl _ (h_stack s) h =
    other-comes x v (record (ran v) { reply = Ack }) w fl gl stack_flies refl refl refl refl refl h
learns-hears x v w fl _ gl _ (h_stack_again p) h =
    other-comes x v (record v { reply = Ack }) w fl gl stack_flies refl refl refl refl refl h
learns-hears x v w fl _ gl _ (h_ack q u t) h =
    count-comes x v u w fl gl (ack_flies q) refl (told-is v q u t) h
learns-hears x v w fl _ gl _ (h_nak c q p) h =
    count-comes x v (back (tells v q)) w fl gl (nak_flies c q) refl refl h
learns-hears x v w fl _ gl _ (h_rep_all n p e) h =
    other-comes x v (record v { reply = Ack }) w fl gl (rep_flies n) refl refl refl refl refl h
learns-hears x v w fl _ gl _ (h_rep n p) h =
    other-comes x v (record v { reply = Nak reason.ReplyToRep }) w fl gl (rep_flies n)
    refl refl refl refl refl h
learns-hears x v w fl _ gl _ (h_up q k m u t e) h =
    count-comes x v (record u { up = k; reply = Ack }) w fl gl (data_flies q k m) refl
    (told-is v q u t) h
learns-hears x v w fl _ gl _ (h_full q k m u t) h =
    count-comes x v (record u { reply = Nak reason.NoBuffer }) w fl gl (data_flies q k m) refl
    (told-is v q u t) h
learns-hears x v w fl _ gl _ (h_other q k m u t e) h =
    count-comes x v u w fl gl (data_flies q k m) refl (told-is v q u t) h
learns-hears x v w fl _ gl _ (h_passes f s r e) h =
    other-comes x v v w fl gl f e refl refl refl refl h

-- ---- w hears

-- no REP is lost that v relies on
other-heard : (x : Bool) (v w w' : View) (fl gl : List Flight) (f : Flight)
    → is_rep_flight f ≡ false → w'.up ≡ w.up → w'.reply ≡ w.reply → Learns x v w (f ∷ fl) gl
    → Learns x v w' fl gl
other-heard x v w w' fl gl f c u r (l_owed q) = l_owed (ap is_quiet r ∙ q)
other-heard x v w w' fl gl f c u r (l_latest e) = l_latest (e ∙ sym u)
other-heard x v w w' fl gl f c u r (l_asks n e) = l_asks n e
other-heard x v w w' fl gl f c u r (l_asked n h) = by (has-first is_rep_flight f fl h)
  where
    by : (is_rep_flight f ≡ true) ⊎ Has is_rep_flight fl → Learns x v w' fl gl
    by (inl e) = absurd (cc (e, c))
    by (inr h) = l_asked n h
other-heard x v w w' fl gl f c u r (l_sleeps y n e) = l_sleeps y n e

told-reply : (v : View) (q : ℕ) (u : View) → Told v q u → (u.reply ≡ v.reply) × (u.up ≡ v.up)
told-reply v q _ (t_runs p) = (refl, refl)
told-reply v q _ (t_starts p e) = (refl, refl)

-- an end that starts hears a REP: nothing is up there
starting-heard : (W V : ℕ) (x : Bool) (v w : View) (fl gl : List Flight) (f : Flight)
    → Base W v w (f ∷ fl) gl → Base V w v gl (f ∷ fl) → is_starting w.state ≡ true
    → Learns x v w (f ∷ fl) gl → Learns x v w fl gl
starting-heard W V x v w fl gl f b b' s (l_owed r) = l_owed r
starting-heard W V x v w fl gl f b b' s (l_latest e) = l_latest e
starting-heard W V x v w fl gl f b b' s (l_asks u e) = l_asks u e
starting-heard W V x v w fl gl f b b' s (l_asked u h) =
    let y = b'.young s in
    let l = rises-ends v.acked w.up gl b.rising in
    l_latest (latest-none v.acked gl u ∙ omega (arith, y, l))
starting-heard W V x v w fl gl f b b' s (l_sleeps y u e) = l_sleeps y u e

pub learns-heard : (W V : ℕ) (x : Bool) (v w : View) (f : Flight) (fl gl : List Flight)
    → Base W v w (f ∷ fl) gl → Base V w v gl (f ∷ fl) → (w' : View) → Heard w f w'
    → Learns x v w (f ∷ fl) gl → Learns x v w' fl gl
learns-heard W V x v w _ fl gl b b' _ (h_strt s) h =
    other-heard x v w (record w { state = AStart; due = true }) fl gl strt_flies refl refl refl h
learns-heard W V x v w _ fl gl b b' _ (h_stack s) h = l_owed refl
learns-heard W V x v w _ fl gl b b' _ (h_stack_again p) h = l_owed refl
learns-heard W V x v w _ fl gl b b' _ (h_ack q u t) h =
    let e = told-reply w q u t in other-heard x v w u fl gl (ack_flies q) refl e.1 e.0 h
learns-heard W V x v w _ fl gl b b' _ (h_nak c q p) h =
    other-heard x v w (back (tells w q)) fl gl (nak_flies c q) refl refl refl h
learns-heard W V x v w _ fl gl b b' _ (h_rep_all n p e) h = l_owed refl
learns-heard W V x v w _ fl gl b b' _ (h_rep n p) h = l_owed refl
learns-heard W V x v w _ fl gl b b' _ (h_up q k m u t e) h = l_owed refl
learns-heard W V x v w _ fl gl b b' _ (h_full q k m u t) h = l_owed refl
learns-heard W V x v w _ fl gl b b' _ (h_other q k m u t e) h =
    let z = told-reply w q u t in other-heard x v w u fl gl (data_flies q k m) refl z.1 z.0 h
learns-heard W V x v w _ fl gl b b' _ (h_passes f s r e) h =
    starting-heard W V x v w fl gl f b b' s h

-- ---- timers, and what the users do

knows-all : (W V : ℕ) (v w : View) (fl gl : List Flight) → Base W v w fl gl → v.acked ≡ v.sent
    → latest v.acked gl ≡ w.up
knows-all W V v w fl gl b e =
    let r = latest-within v.acked w.up gl b.rising in
    let n = near-ends W v.sent w.up fl b.near in
    omega (arith, r.0, r.1, n, e)

pub learns-expires : (W V : ℕ) (x : Bool) (v w : View) (fl gl : List Flight) → Base W v w fl gl
    → (v' : View) → Expires v v' → Learns x v w fl gl → Learns true v' w fl gl
learns-expires W V x v w fl gl b _ (x_asks s) (l_owed r) = l_owed r
learns-expires W V x v w fl gl b _ (x_asks s) (l_latest e) = l_latest e
learns-expires W V x v w fl gl b _ (x_asks s) (l_asks u e) = l_asks u e
learns-expires W V x v w fl gl b _ (x_asks s) (l_asked u h) = l_asked u h
learns-expires W V x v w fl gl b _ (x_asks s) (l_sleeps n u e) =
    let g = b.fresh s in
    let c = b.bounds in
    let l = rises-ends v.acked w.up gl b.rising in
    let m = near-ends W v.sent w.up fl b.near in
    l_latest (latest-none v.acked gl u ∙ omega (arith, g, c.sent_given, l, m))
learns-expires W V x v w fl gl b _ (x_told p e) h = l_latest (knows-all W V v w fl gl b e)
learns-expires W V x v w fl gl b _ (x_repeats p) (l_owed r) = l_owed r
learns-expires W V x v w fl gl b _ (x_repeats p) (l_latest e) = l_latest e
learns-expires W V x v w fl gl b _ (x_repeats p) (l_asks u e) = l_asks u refl
learns-expires W V x v w fl gl b _ (x_repeats p) (l_asked u h) = l_asked u h
learns-expires W V x v w fl gl b _ (x_repeats p) (l_sleeps n u e) = l_asks u refl
learns-expires W V x v w fl gl b _ (x_back p t) (l_owed r) = l_owed r
learns-expires W V x v w fl gl b _ (x_back p t) (l_latest e) = l_latest e
learns-expires W V x v w fl gl b _ (x_back p t) (l_asks u e) = l_asks u e
learns-expires W V x v w fl gl b _ (x_back p t) (l_asked u h) = l_asked u h
learns-expires W V x v w fl gl b _ (x_back p t) (l_sleeps n u (inl e)) =
    absurd (omega (arith, t, e))
learns-expires W V x v w fl gl b _ (x_back p t) (l_sleeps n u (inr e)) =
    l_latest (knows-all W V v w fl gl b e)

-- what else v and w do leaves what v learns by
pub learns-kept : (x : Bool) (v v' w w' : View) (fl gl : List Flight) → v'.acked ≡ v.acked
    → v'.rep ≡ v.rep → v'.sent ≡ v.sent → v'.next ≡ v.next → w'.up ≡ w.up → w'.reply ≡ w.reply
    → Learns x v w fl gl → Learns x v' w' fl gl
learns-kept x v v' w w' fl gl a r s t u q (l_owed o) = l_owed (ap is_quiet q ∙ o)
learns-kept x v v' w w' fl gl a r s t u q (l_latest e) =
    l_latest (ap (λ n. latest n gl) a ∙ e ∙ sym u)
learns-kept x v v' w w' fl gl a r s t u q (l_asks n e) = l_asks n (r ∙ e)
learns-kept x v v' w w' fl gl a r s t u q (l_asked n h) = l_asked n h
learns-kept x v v' w w' fl gl a r s t u q (l_sleeps y n (inl e)) =
    l_sleeps y n (inl (omega (arith, e, a, t)))
learns-kept x v v' w w' fl gl a r s t u q (l_sleeps y n (inr e)) =
    l_sleeps y n (inr (a ∙ e ∙ sym s))

-- ---- at rest

no-rep : Has is_rep_flight [] → ⊥
no-rep h = has-none is_rep_flight h

latest-nothing : (n : ℕ) → latest n [] ≡ n
unfolding latest
latest-nothing n = refl

pub learnt : (v w : View) → Learns true v w [] [] → v.rep ≡ false → w.reply ≡ Quiet → v.acked ≡ w.up
learnt v w (l_owed o) f q = absurd (let z = ap is_quiet q in cc (z, o))
learnt v w (l_latest e) f q = sym (latest-nothing v.acked) ∙ e
learnt v w (l_asks n e) f q = absurd (cc (e, f))
learnt v w (l_asked n h) f q = absurd (no-rep h)
learnt v w (l_sleeps y n e) f q = absurd (cc y)
