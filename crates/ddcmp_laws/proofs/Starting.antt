-- Each end comes to run, once its timer expired.
use Rattle.std.proofs.Common.{◌≡◌, ◌⊎◌, inl, inr, ℕ, ◌<◌, true, false, List, [], ◌∷◌, ◌++◌, refl}
use Rattle.std.proofs.Common.{ap, ◌∙◌}
use Rattle.ddcmp_core.specs.declared.state.State.{State}
use Rattle.ddcmp_core.specs.declared.state.State.TheVariants.{Halted, IStart, AStart, Running}
use Rattle.ddcmp_core.specs.declared.state.State.TheVariants.{Maintenance}
use Rattle.ddcmp_core.specs.declared.state.Owed.TheVariants.{Quiet, Ack}
use Rattle.ddcmp_core.specs.Table.{is_starting}
use Rattle.ddcmp_pair.proofs.Views.{View, ran}
use Rattle.ddcmp_laws.proofs.Flights.{Flight, data_flies, ack_flies, nak_flies, rep_flies}
use Rattle.ddcmp_laws.proofs.Flights.{strt_flies, stack_flies, rouses, is_start, Has, Each}
use Rattle.ddcmp_laws.proofs.Flights.{has-behind, has-last, has-first, has-none, each-first}
use Rattle.ddcmp_laws.proofs.Traffic.{Polls, p_strt, p_stack, p_nak, p_rep, p_data, p_ack, Told}
use Rattle.ddcmp_laws.proofs.Traffic.{t_runs, t_starts, Heard, h_strt, h_stack, h_stack_again}
use Rattle.ddcmp_laws.proofs.Traffic.{h_ack, h_nak, h_rep_all, h_rep, h_up, h_full, h_other}
use Rattle.ddcmp_laws.proofs.Traffic.{h_passes, Expires, x_asks, x_told, x_repeats, x_back}
use Rattle.ddcmp_laws.proofs.Traffic.{Base, not-starting}

-- v runs, or will run
pub data Wakes (v w : View) (fl gl : List Flight) : Type 0 where
  k_runs : v.state ≡ Running → Wakes v w fl gl
  k_due : v.due ≡ true → Wakes v w fl gl
  k_peer : is_starting w.state ≡ true → w.due ≡ true → Wakes v w fl gl
  k_owed : v.state ≡ AStart → w.state ≡ Running → w.reply ≡ Ack → Wakes v w fl gl
  k_asked : Has is_start fl → Wakes v w fl gl
  k_comes : Has rouses gl → Wakes v w fl gl

-- ---- v sends, and w sends

pub wakes-polls : (v w : View) (fl gl : List Flight) (v' : View) (f : Flight) → Polls v v' f
    → Wakes v w fl gl → Wakes v' w (fl ++ f ∷ []) gl
wakes-polls v w fl gl _ _ (p_strt s d) h = k_asked (has-last is_start fl strt_flies refl)
wakes-polls v w fl gl _ _ (p_stack s d) h = k_asked (has-last is_start fl stack_flies refl)
wakes-polls v w fl gl _ _ (p_nak c s r) h = k_runs s
wakes-polls v w fl gl _ _ (p_rep s r t) h = k_runs s
wakes-polls v w fl gl _ _ (p_data m s r t room) h = k_runs s
wakes-polls v w fl gl _ _ (p_ack s r t room) h = k_runs s

pub wakes-answers : (v w : View) (fl gl : List Flight) (w' : View) (f : Flight) → Polls w w' f
    → Wakes v w fl gl → Wakes v w' fl (gl ++ f ∷ [])
wakes-answers v w fl gl _ _ p (k_runs r) = k_runs r
wakes-answers v w fl gl _ _ p (k_due d) = k_due d
wakes-answers v w fl gl _ _ p (k_asked h) = k_asked h
wakes-answers v w fl gl _ f p (k_comes h) = k_comes (has-behind rouses gl f h)
wakes-answers v w fl gl _ _ (p_strt s d) h = k_comes (has-last rouses gl strt_flies refl)
wakes-answers v w fl gl _ _ (p_stack s d) h = k_comes (has-last rouses gl stack_flies refl)
wakes-answers v w fl gl _ _ (p_data m s r t room) h =
    k_comes (has-last rouses gl (data_flies w.up w.next m) refl)
wakes-answers v w fl gl _ _ (p_ack s r t room) h =
    k_comes (has-last rouses gl (ack_flies w.up) refl)
wakes-answers v w fl gl _ _ (p_nak c s r) (k_peer p d) = not-starting w.state s p
wakes-answers v w fl gl _ _ (p_nak c s r) (k_owed p q a) = absurd (cc (r, a))
wakes-answers v w fl gl _ _ (p_rep s r t) (k_peer p d) = not-starting w.state s p
wakes-answers v w fl gl _ _ (p_rep s r t) (k_owed p q a) = k_owed p q a

-- ---- v hears

told-runs : (v : View) (q : ℕ) (u : View) → Told v q u → u.state ≡ Running
told-runs v q _ (t_runs p) = p
told-runs v q _ (t_starts p e) = refl

passed-by : (v w : View) (fl : List Flight) (f : Flight) (gl : List Flight) → rouses f ≡ false
    → Wakes v w fl (f ∷ gl) → Wakes v w fl gl
passed-by v w fl f gl r (k_runs p) = k_runs p
passed-by v w fl f gl r (k_due d) = k_due d
passed-by v w fl f gl r (k_peer p d) = k_peer p d
passed-by v w fl f gl r (k_owed p q a) = k_owed p q a
passed-by v w fl f gl r (k_asked h) = k_asked h
passed-by v w fl f gl r (k_comes h) = by (has-first rouses f gl h)
  where
    by : (rouses f ≡ true) ⊎ Has rouses gl → Wakes v w fl gl
    by (inl e) = absurd (cc (e, r))
    by (inr h) = k_comes h

pub wakes-hears : (v w : View) (fl : List Flight) (f : Flight) (gl : List Flight) (v' : View)
    → Heard v f v' → Wakes v w fl (f ∷ gl) → Wakes v' w fl gl
wakes-hears v w fl _ gl _ (h_strt s) h = k_due refl
wakes-hears v w fl _ gl _ (h_stack s) h = k_runs refl
wakes-hears v w fl _ gl _ (h_stack_again p) h = k_runs p
wakes-hears v w fl _ gl _ (h_ack q u t) h = k_runs (told-runs v q u t)
wakes-hears v w fl _ gl _ (h_nak c q p) h = k_runs p
wakes-hears v w fl _ gl _ (h_rep_all n p e) h = k_runs p
wakes-hears v w fl _ gl _ (h_rep n p) h = k_runs p
wakes-hears v w fl _ gl _ (h_up q k m u t e) h = k_runs (told-runs v q u t)
wakes-hears v w fl _ gl _ (h_full q k m u t) h = k_runs (told-runs v q u t)
wakes-hears v w fl _ gl _ (h_other q k m u t e) h = k_runs (told-runs v q u t)
wakes-hears v w fl _ gl _ (h_passes f s r e) h = passed-by v w fl f gl r h

-- ---- w hears

-- w owes an ACK, and v runs or waits for it
answered : (W V : ℕ) (v w' : View) (fl gl fl' gl' : List Flight) → Base W v w' fl gl
    → Base V w' v gl' fl' → w'.state ≡ Running → w'.reply ≡ Ack → Wakes v w' fl gl
answered W V v w' fl gl fl' gl' b b' r a = by v.state refl
  where
    by : (p : State) → v.state ≡ p → Wakes v w' fl gl
    by Halted e = absurd (b.awake e)
    by IStart e = absurd (b'.apart r e)
    by AStart e = k_owed e r a
    by Running e = k_runs e
    by Maintenance e = absurd (b.no_maintenance e)

-- a running end sent it
grown-runs : (W : ℕ) (v w w' : View) (f : Flight) (fl gl : List Flight) → Base W v w (f ∷ fl) gl
    → is_start f ≡ false → Wakes v w' fl gl
grown-runs W v w w' f fl gl b e = by b.grown
  where
    by : (v.state ≡ Running) ⊎ Each is_start true (f ∷ fl) → Wakes v w' fl gl
    by (inl r) = k_runs r
    by (inr u) = absurd (let z = (each-first is_start true f fl u).0 in cc (z, e))

start-rouses : {X : Type 0} (f : Flight) → is_start f ≡ true → rouses f ≡ false → X
start-rouses (data_flies q k m) e r = absurd (cc e)
start-rouses (ack_flies q) e r = absurd (cc e)
start-rouses (nak_flies c q) e r = absurd (cc e)
start-rouses (rep_flies n) e r = absurd (cc e)
start-rouses strt_flies e r = absurd (cc r)
start-rouses stack_flies e r = absurd (cc r)

passed-there : (v w : View) (f : Flight) (fl gl : List Flight) → rouses f ≡ false
    → Wakes v w (f ∷ fl) gl → Wakes v w fl gl
passed-there v w f fl gl r (k_runs p) = k_runs p
passed-there v w f fl gl r (k_due d) = k_due d
passed-there v w f fl gl r (k_peer p d) = k_peer p d
passed-there v w f fl gl r (k_owed p q a) = k_owed p q a
passed-there v w f fl gl r (k_comes h) = k_comes h
passed-there v w f fl gl r (k_asked h) = by (has-first is_start f fl h)
  where
    by : (is_start f ≡ true) ⊎ Has is_start fl → Wakes v w fl gl
    by (inl e) = start-rouses f e r
    by (inr h) = k_asked h

pub wakes-heard : (W V : ℕ) (v w : View) (f : Flight) (fl gl : List Flight) → Base W v w (f ∷ fl) gl
    → (w' : View) → Base W v w' fl gl → Base V w' v gl fl → Heard w f w' → Wakes v w (f ∷ fl) gl
    → Wakes v w' fl gl
wakes-heard W V v w _ fl gl b _ n n' (h_strt s) h = k_peer refl refl
wakes-heard W V v w _ fl gl b _ n n' (h_stack s) h =
    answered W V v (record (ran w) { reply = Ack }) fl gl fl gl n n' refl refl
wakes-heard W V v w _ fl gl b _ n n' (h_stack_again p) h =
    answered W V v (record w { reply = Ack }) fl gl fl gl n n' p refl
wakes-heard W V v w _ fl gl b w' n n' (h_ack q u t) h =
    grown-runs W v w u (ack_flies q) fl gl b refl
wakes-heard W V v w _ fl gl b w' n n' (h_nak c q p) h =
    grown-runs W v w _ (nak_flies c q) fl gl b refl
wakes-heard W V v w _ fl gl b w' n n' (h_rep_all k p e) h =
    grown-runs W v w _ (rep_flies k) fl gl b refl
wakes-heard W V v w _ fl gl b w' n n' (h_rep k p) h = grown-runs W v w _ (rep_flies k) fl gl b refl
wakes-heard W V v w _ fl gl b w' n n' (h_up q k m u t e) h =
    grown-runs W v w _ (data_flies q k m) fl gl b refl
wakes-heard W V v w _ fl gl b w' n n' (h_full q k m u t) h =
    grown-runs W v w _ (data_flies q k m) fl gl b refl
wakes-heard W V v w _ fl gl b w' n n' (h_other q k m u t e) h =
    grown-runs W v w u (data_flies q k m) fl gl b refl
wakes-heard W V v w _ fl gl b w' n n' (h_passes f s r e) h = passed-there v w f fl gl r h

-- ---- timers, and what the users do

pub wakes-expires : (v w : View) (fl gl : List Flight) (v' : View) → Expires v v' → Wakes v' w fl gl
wakes-expires v w fl gl _ (x_asks s) = k_due refl
wakes-expires v w fl gl _ (x_told p e) = k_runs p
wakes-expires v w fl gl _ (x_repeats p) = k_runs p
wakes-expires v w fl gl _ (x_back p e) = k_runs p

pub wakes-kept : (v v' w w' : View) (fl gl : List Flight) → v'.state ≡ v.state → v'.due ≡ v.due
    → w'.state ≡ w.state → (w.due ≡ true → w'.due ≡ true) → w'.reply ≡ w.reply → Wakes v w fl gl
    → Wakes v' w' fl gl
wakes-kept v v' w w' fl gl s d t c r (k_runs p) = k_runs (s ∙ p)
wakes-kept v v' w w' fl gl s d t c r (k_due e) = k_due (d ∙ e)
wakes-kept v v' w w' fl gl s d t c r (k_peer p e) = k_peer (ap is_starting t ∙ p) (c e)
wakes-kept v v' w w' fl gl s d t c r (k_owed p q a) = k_owed (s ∙ p) (t ∙ q) (r ∙ a)
wakes-kept v v' w w' fl gl s d t c r (k_asked h) = k_asked h
wakes-kept v v' w w' fl gl s d t c r (k_comes h) = k_comes h

-- ---- at rest

pub data Idles (v : View) : Type 0 where
  i_starts : is_starting v.state ≡ true → v.due ≡ false → Idles v
  i_runs : v.state ≡ Running → v.reply ≡ Quiet → v.rep ≡ false → v.given < v.next → Idles v

pub woken : (v w : View) → Wakes v w [] [] → Idles v → Idles w → v.state ≡ Running
woken v w h (i_runs p r f room) j = p
woken v w (k_runs r) (i_starts s d) j = r
woken v w (k_due e) (i_starts s d) j = absurd (cc (e, d))
woken v w (k_peer p e) (i_starts s d) (i_starts s' d') = absurd (cc (e, d'))
woken v w (k_peer p e) (i_starts s d) (i_runs p' r f room) = not-starting w.state p' p
woken v w (k_owed p q a) (i_starts s d) (i_starts s' d') = not-starting w.state q s'
woken v w (k_owed p q a) (i_starts s d) (i_runs p' r f room) = absurd (cc (r, a))
woken v w (k_asked h) (i_starts s d) j = absurd (has-none is_start h)
woken v w (k_comes h) (i_starts s d) j = absurd (has-none rouses h)
