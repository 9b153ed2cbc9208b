-- A settle and two rounds, and after them all is done.
use Rattle.std.proofs.Common.{◌≡◌, ◌≢◌, ◌⊎◌, inl, inr, ℕ, ◌+◌, ◌-◌, ◌*◌, ◌%◌, ◌<◌, ◌≤◌, max, Bool}
use Rattle.std.proofs.Common.{true, false, cond, List, [], ◌∷◌, ◌++◌, length, refl, sym, ap, ◌∙◌}
use Rattle.std.proofs.Common.{subst, arith, append-nil, length-append}
use Rattle.std.specs.Prelude.{◌==◌, is_some}
use Rattle.ddcmp_frame.specs.Reading.{open_at_end}
use Rattle.ddcmp_core.specs.Sequence.{distance}
use Rattle.ddcmp_core.specs.Numbers.{next_number}
use Rattle.ddcmp_core.specs.declared.state.State.{State}
use Rattle.ddcmp_core.specs.declared.state.State.TheVariants.{Halted, IStart, AStart, Running}
use Rattle.ddcmp_core.specs.declared.state.State.TheVariants.{Maintenance}
use Rattle.ddcmp_core.specs.declared.state.Owed.TheVariants.{Quiet}
use Rattle.ddcmp_core.specs.declared.state.Timer.{Timer}
use Rattle.ddcmp_core.specs.declared.state.Timer.TheVariants.{Off, Fresh, On}
use Rattle.ddcmp_core.specs.Table.{StationState, before_next, after_expire_in, after_expire_with}
use Rattle.ddcmp_core.specs.Table.{after_expire, is_starting}
use Rattle.ddcmp_core.specs.Core.{IsSound, IsTimed}
use Rattle.ddcmp_core.proofs.Sound.{sound_expired}
use Rattle.ddcmp_core.proofs.TimedLaws.{timed_expired}
use Rattle.ddcmp_core.proofs.StartLaws.{expired_state}
use Rattle.ddcmp_pair.specs.Prefix.{IsPrefixOf}
use Rattle.ddcmp_pair.specs.Run.{EndState, PairState, handed_up, after_expire_here, after_event}
use Rattle.ddcmp_pair.specs.Run.{line_bytes, run, is_clean}
use Rattle.ddcmp_pair.specs.Settle.{all_mail, settling, settled}
use Rattle.ddcmp_pair.specs.Recovery.{both_expire, rounding, rounded, IsDelivered, IsDone}
use Rattle.ddcmp_pair.proofs.Recoveries.{rounding-exchanges, rounding-quiet, rounded-is}
use Rattle.ddcmp_pair.proofs.Crossings.{emptied, mailed, all-mail, turned, half}
use Rattle.ddcmp_pair.proofs.Views.{View, Ordered, Crossing, c_waits, c_rests}
use Rattle.ddcmp_pair.proofs.Sees.{looks}
use Rattle.ddcmp_pair.proofs.Waking.{Learns, Wakes, Resends, learns_there, learns_here, wakes_there}
use Rattle.ddcmp_pair.proofs.Waking.{wakes_here, resends_there, resends_here, runs_there, woken}
use Rattle.ddcmp_pair.proofs.Waking.{learnt, resent}
use Rattle.ddcmp_pair.proofs.Steady.{IsKept, run-keeps, expired-inbox, Settles, Steady}
use Rattle.ddcmp_pair.proofs.Steady.{steady-turned, steady-shows}
use Rattle.ddcmp_core.proofs.Taken.{sound_taken_all, timed_taken_all}
use Rattle.ddcmp_pair.proofs.Halves.{view, view-emptied, steady-ordered}
use Rattle.ddcmp_pair.proofs.Halves.{steady-half, steady-crossing}
use Rattle.ddcmp_pair.proofs.Quiets.{Rests, Quiets, settles-quiet}

-- ---- both timers run out

abbrev pub expired-both : PairState → PairState
expired-both p = record p { a = after_expire_here p.a; b = after_expire_here p.b }

pub both-expire-is : (p : PairState) → run both_expire p ≡ expired-both p
unfolding run after_event
both-expire-is p = refl

-- an end that rested, after its timer expired
data Expired (v : View) : Type 0 where
  asks : is_starting v.state ≡ true → v.due ≡ true → Expired v
  idles : v.state ≡ Running → v.reply ≡ Quiet → v.given < v.next → v.acked ≡ v.sent → Expired v
  repeats : v.state ≡ Running → v.reply ≡ Quiet → v.given < v.next → v.rep ≡ true → Expired v

expired-waits : (s : StationState) (acked : ℕ) (taken given : List (List ℕ))
    → is_starting s.state ≡ true → s.due ≡ false → IsTimed s
    → Expired (looks (after_expire s) acked taken given)
expired-waits s acked taken given e d t = at s.timer refl
  where
    by : (p : State) → s.state ≡ p → Expired (looks (after_expire_in p s) acked taken given)
    by IStart p = asks e refl
    by AStart p = asks e refl
    by Halted p = let z = ap is_starting p in absurd (cc (z, e))
    by Running p = let z = ap is_starting p in absurd (cc (z, e))
    by Maintenance p = let z = ap is_starting p in absurd (cc (z, e))

    at : (i : Timer) → s.timer ≡ i → Expired (looks (after_expire_with i s) acked taken given)
    at Off i = let z = t.asks e i in absurd (cc (z, d))
    at Fresh i = by s.state refl
    at On i = by s.state refl

all-told : (a n t acked given : ℕ) → a < 256 → acked + distance a n ≤ given
    → given < acked + 1 + (t + 511 - a) % 256 → (a ≡ n) ⊎ (t ≡ next_number a)
    → acked ≡ acked + distance a n
all-told a n t acked given h s g (inl e) = omega (arith, h, s, g, e)
all-told a n t acked given h s g (inr e) = omega (arith, h, s, g, e)

expired-rests : (s : StationState) (acked : ℕ) (taken given : List (List ℕ)) → s.a < 256
    → s.state ≡ Running → s.reply ≡ Quiet → s.rep ≡ false → acked + distance s.a s.n ≤ length given
    → length given < acked + 1 + before_next s → IsTimed s
    → Expired (looks (after_expire s) acked taken given)
expired-rests s acked taken given h e r f m g t = at s.timer refl
  where
    told : (s.a ≡ s.n) ⊎ (s.t ≡ next_number s.a) → acked ≡ acked + distance s.a s.n
    told a = all-told s.a s.n s.t acked (length given) h m g a

    waits : (s.a ≡ s.n) ⊎ ((s.rep ≡ true) ⊎ (s.t ≡ next_number s.a))
        → Expired (looks s acked taken given)
    waits (inl a) = idles e r g (told (inl a))
    waits (inr (inl a)) = absurd (cc (a, f))
    waits (inr (inr a)) = idles e r g (told (inr a))

    runs : (b : Bool) → (s.a == s.n) ≡ b
        → Expired (looks (record s { rep = cond b s.rep true; timer = Off }) acked taken given)
    runs true a = idles e r g (told (inl (grind (arith))))
    runs false a = repeats e r g refl

    by : (p : State) → s.state ≡ p → Expired (looks (after_expire_in p s) acked taken given)
    by Running p = runs (s.a == s.n) refl
    by IStart p = absurd (cc (p, e))
    by AStart p = absurd (cc (p, e))
    by Halted p = absurd (cc (p, e))
    by Maintenance p = absurd (cc (p, e))

    at : (i : Timer) → s.timer ≡ i → Expired (looks (after_expire_with i s) acked taken given)
    at Off i = waits (t.waits e i)
    at Fresh i = by s.state refl
    at On i = by s.state refl

expired-learns : (W : ℕ) (v w : View) → Ordered W v w → Expired v → Learns v w
expired-learns W v w o (asks s d) =
    let g = o.fresh s in inl (omega (arith, o.low, o.high, o.sent_given, g))
expired-learns W v w o (idles p r g e) = inl (omega (arith, e, o.low, o.high))
expired-learns W v w o (repeats p r g e) = inr (inr e)

expired-wakes : (v w : View) → Expired v → Wakes v w
expired-wakes v w (asks s d) = inr (inl d)
expired-wakes v w (idles p r g e) = inl p
expired-wakes v w (repeats p r g e) = inl p

expired-resends : (W : ℕ) (v w : View) → Ordered W v w → v.state ≡ Running → v.acked ≡ w.up
    → Expired v → Resends v w
expired-resends W v w o p a (asks s d) = let z = ap is_starting p in absurd (cc (z, s))
expired-resends W v w o p a (idles q r g e) =
    inr (inr (omega (arith, o.next_high, o.sent_given, o.low, o.high, g, e)))
expired-resends W v w o p a (repeats q r g e) =
    inl (e, a, omega (arith, o.next_high, o.sent_given, g))

-- a prefix as long as the whole
prefix-whole : (xs ys : List (List ℕ)) → IsPrefixOf xs ys → length xs ≡ length ys → ys ≡ xs
prefix-whole xs ys (([]), e) n = sym e ∙ append-nil xs
prefix-whole xs ys ((z ∷ zs), e) n =
    absurd (omega (arith, n, ap length e, length-append xs (z ∷ zs)))

rests-turned : (p : PairState) → Rests p → Rests (turned p)
rests-turned p r = record { a = r.b; b = r.a }

module _ (Holds : PairState → Type 0) (k : IsKept Holds) (W : ℕ) where
  -- what the first round keeps
  pub record Learning (p : PairState) : Type 0 where
    pub steady : Steady Holds W p
    pub learns_a : Learns (view p.a) (view p.b)
    pub learns_b : Learns (view p.b) (view p.a)
    pub wakes_a : Wakes (view p.a) (view p.b)
    pub wakes_b : Wakes (view p.b) (view p.a)

  -- and what the second one keeps
  pub record Resending (p : PairState) : Type 0 where
    pub steady : Steady Holds W p
    pub learns_a : Learns (view p.a) (view p.b)
    pub learns_b : Learns (view p.b) (view p.a)
    pub runs_a : p.a.core.station.state ≡ Running
    pub runs_b : p.b.core.station.state ≡ Running
    pub resends_a : Resends (view p.a) (view p.b)
    pub resends_b : Resends (view p.b) (view p.a)

  ordered : (p : PairState) → Steady Holds W p → Ordered W (view p.a) (view p.b)
  ordered p h = steady-ordered Holds k W p h

  ordered-back : (p : PairState) → Steady Holds W p → Ordered W (view p.b) (view p.a)
  ordered-back p h = steady-ordered Holds k W (turned p) (steady-turned Holds W p h)

  halved : (p : PairState) → Steady Holds W p → Steady Holds W (half p)
  halved p h = steady-half Holds k W p h

  crossing : (p : PairState) → Steady Holds W p
      → Crossing (view p.a) (view p.b) (is_some (line_bytes p.a)) (view (half p).b)
      (view (half p).a)
  crossing p h = steady-crossing Holds k W p h

  learning-half : (p : PairState) → Learning p → Learning (half p)
  learning-half p h =
      let s = h.steady in
      let b = is_some (line_bytes p.a) in
      let o = ordered p s in
      let o' = ordered-back p s in
      let after = ordered-back (half p) (halved p s) in
      let c = crossing p s in
      record {
        steady = halved p s;
        learns_a =
            learns_here W (view p.a) (view p.b) b (view (half p).b) (view (half p).a)
            o o' c h.learns_b;
        learns_b =
            learns_there W (view p.a) (view p.b) b (view (half p).b) (view (half p).a)
            o o' after c h.learns_a;
        wakes_a =
            wakes_here W (view p.a) (view p.b) b (view (half p).b) (view (half p).a)
            o o' c h.wakes_b;
        wakes_b =
            wakes_there W (view p.a) (view p.b) b (view (half p).b) (view (half p).a)
            o o' c h.wakes_a;
      }

  resending-half : (p : PairState) → Resending p → Resending (half p)
  resending-half p h =
      let s = h.steady in
      let b = is_some (line_bytes p.a) in
      let o = ordered p s in
      let o' = ordered-back p s in
      let after = ordered-back (half p) (halved p s) in
      let c = crossing p s in
      let z =
      runs_there W (view p.a) (view p.b) b (view (half p).b) (view (half p).a)
      h.runs_a h.runs_b c in
      record {
        steady = halved p s;
        learns_a =
            learns_here W (view p.a) (view p.b) b (view (half p).b) (view (half p).a)
            o o' c h.learns_b;
        learns_b =
            learns_there W (view p.a) (view p.b) b (view (half p).b) (view (half p).a)
            o o' after c h.learns_a;
        runs_a = z.1;
        runs_b = z.0;
        resends_a =
            resends_here W (view p.a) (view p.b) b (view (half p).b) (view (half p).a)
            h.runs_a h.runs_b c h.resends_b;
        resends_b =
            resends_there W (view p.a) (view p.b) b (view (half p).b) (view (half p).a)
            h.runs_a h.runs_b o c h.resends_a;
      }

  -- neither sends, as the numbers see it
  crossing-rests : (p : PairState) → Steady Holds W p → Rests p
      → Crossing (view p.a) (view p.b) false (view (half p).b) (view (half p).a)
  crossing-rests p h r =
      subst (λ (b : Bool). Crossing (view p.a) (view p.b) b (view (half p).b) (view (half p).a)) r.a
      (crossing p h)

  crossing-rests-back : (p : PairState) → Steady Holds W p → Rests p
      → Crossing (view p.b) (view p.a) false (view (half (turned p)).b) (view (half (turned p)).a)
  crossing-rests-back p h r =
      crossing-rests (turned p) (steady-turned Holds W p h) (rests-turned p r)

  expired-crossing : (p : PairState) → Steady Holds W p → {v w : View}
      → Crossing (view p.a) (view p.b) false v w → Expired (view (after_expire_here p.a))
  expired-crossing p h (c_waits e d) =
      expired-waits p.a.core.station p.a.acknowledged p.a.taken p.a.given e d h.a.timed
  expired-crossing p h (c_rests e r f g) =
      let c = (steady-shows Holds k W p h).numbers.a_is in
      let o = ordered p h in
      expired-rests p.a.core.station p.a.acknowledged p.a.taken p.a.given (omega (arith, c))
      e r f o.sent_given g h.a.timed

  expired-here : (p : PairState) → Steady Holds W p → Rests p
      → Expired (view (emptied (after_expire_here p.a)))
  expired-here p h r =
      subst Expired
      (sym
      (view-emptied (after_expire_here p.a) (expired-inbox p.a.core.station ∙ h.a.empty)))
      (expired-crossing p h (crossing-rests p h r))

  -- ---- a settle begins

  pub record Calm (x : EndState) : Type 0 where
    pub sound : IsSound x.core.limits x.core.station
    pub timed : IsTimed x.core.station
    pub awake : x.core.station.state ≢ Halted
    pub window : x.core.limits.window ≤ W
    pub closed : open_at_end x.core.limits.longest x.arrived ≡ 0

  settles-mailed : (x : EndState) → Calm x → Settles W (emptied x)
  settles-mailed x h = record {
    sound = sound_taken_all x.core.limits x.core.station h.sound;
    timed = timed_taken_all x.core.station h.timed;
    awake = h.awake;
    empty = refl;
    window = h.window;
    closed = h.closed;
  }

  mail-kept : (p : PairState) → Holds p ⊎ Holds (turned p)
      → Holds (mailed p) ⊎ Holds (turned (mailed p))
  mail-kept p (inl h) =
      inl (subst (λ (q : PairState). Holds q) (all-mail p) (run-keeps Holds k (all_mail p) p h))
  mail-kept p (inr h) =
      inr
      (subst (λ (q : PairState). Holds q) (all-mail (turned p))
      (run-keeps Holds k (all_mail (turned p)) (turned p) h))

  pub steady-mailed : (p : PairState) → Holds p ⊎ Holds (turned p) → p.honest ≡ true
      → is_clean p ≡ true → Calm p.a → Calm p.b → p.a.core.limits.longest ≡ p.b.core.limits.longest
      → max p.a.core.limits.window p.b.core.limits.window ≡ W → Steady Holds W (mailed p)
  steady-mailed p h honest clean a b same larger = record {
    kept = mail-kept p h;
    honest = honest;
    clean = clean;
    a = settles-mailed p.a a;
    b = settles-mailed p.b b;
    same = same;
    larger = larger;
  }

  calm-expired : (x : EndState) → Settles W x → Calm (after_expire_here x)
  calm-expired x h =
      record {
        sound = sound_expired x.core.limits x.core.station h.sound;
        timed =
            timed_expired x.core.station h.timed;
        awake =
            λ e. h.awake (sym (expired_state x.core.station) ∙ e);
        window = h.window;
        closed = h.closed;
      }

  expired-kept : (p : PairState) → Holds p ⊎ Holds (turned p)
      → Holds (expired-both p) ⊎ Holds (turned (expired-both p))
  expired-kept p (inl h) =
      inl
      (subst (λ (q : PairState). Holds q) (both-expire-is p) (run-keeps Holds k both_expire p h))
  expired-kept p (inr h) =
      inr
      (subst (λ (q : PairState). Holds q) (both-expire-is (turned p))
      (run-keeps Holds k both_expire (turned p) h))

  steady-expired : (p : PairState) → Steady Holds W p → Steady Holds W (mailed (expired-both p))
  steady-expired p h =
      steady-mailed (expired-both p) (expired-kept p h.kept) h.honest h.clean (calm-expired p.a h.a)
      (calm-expired p.b h.b) h.same h.larger

  -- ---- after a settle, the first round begins

  learning-starts : (p : PairState) → Steady Holds W p → Rests p
      → Learning (mailed (expired-both p))
  learning-starts p h r =
      let q = mailed (expired-both p) in
      let s = steady-expired p h in
      let e = expired-here p h r in
      let e' = expired-here (turned p) (steady-turned Holds W p h) (rests-turned p r) in
      record {
        steady = s;
        learns_a = expired-learns W (view q.a) (view q.b) (ordered q s) e;
        learns_b = expired-learns W (view q.b) (view q.a) (ordered-back q s) e';
        wakes_a = expired-wakes (view q.a) (view q.b) e;
        wakes_b = expired-wakes (view q.b) (view q.a) e';
      }

  learning-runs : (p : PairState) → Learning p → Rests p
      → (p.a.core.station.state ≡ Running) × (p.b.core.station.state ≡ Running)
  learning-runs p h r =
      let c = crossing-rests p h.steady r in
      let c' = crossing-rests-back p h.steady r in (
        woken W (view p.a) (view p.b) _ _ _ _ c c' h.wakes_a,
        woken W (view p.b) (view p.a) _ _ _ _ c' c h.wakes_b,
      )

  -- an expiry leaves what was delivered
  expired-up : (x : EndState) → (view (emptied (after_expire_here x))).up ≡ (view x).up
  expired-up x =
      ap length (append-nil (x.taken ++ (after_expire x.core.station).inbox))
      ∙ ap (λ l. length (x.taken ++ l)) (expired-inbox x.core.station)

  -- ---- after the first round, the second begins

  resending-starts : (p : PairState) → Learning p → Rests p → Resending (mailed (expired-both p))
  resending-starts p h r =
      let q = mailed (expired-both p) in
      let s = steady-expired p h.steady in
      let e = expired-here p h.steady r in
      let e' = expired-here (turned p) (steady-turned Holds W p h.steady) (rests-turned p r) in
      let g = learning-runs p h r in
      let c = crossing-rests p h.steady r in
      let c' = crossing-rests-back p h.steady r in
      let m : (view p.a).acked ≡ (view p.b).up =
      learnt W (view p.a) (view p.b) _ _ _ _ c c' g.0 g.1 h.learns_a in
      let m' : (view p.b).acked ≡ (view p.a).up =
      learnt W (view p.b) (view p.a) _ _ _ _ c' c g.1 g.0 h.learns_b in
      let n = expired_state p.a.core.station ∙ g.0 in
      let n' = expired_state p.b.core.station ∙ g.1 in
      record {
        steady = s;
        learns_a = expired-learns W (view q.a) (view q.b) (ordered q s) e;
        learns_b = expired-learns W (view q.b) (view q.a) (ordered-back q s) e';
        runs_a = n;
        runs_b = n';
        resends_a =
            expired-resends W (view q.a) (view q.b) (ordered q s) n (m ∙ sym (expired-up p.b)) e;
        resends_b =
            expired-resends W (view q.b) (view q.a) (ordered-back q s) n'
            (m' ∙ sym (expired-up p.a)) e';
      }

  -- ---- and after that all is done

  delivered : (p : PairState) → Resending p → Rests p → IsDelivered p.a p.b
  delivered p h r =
      let c = crossing-rests p h.steady r in
      let c' = crossing-rests-back p h.steady r in
      let u : length (handed_up p.b) ≡ length p.a.given =
      resent W (view p.a) (view p.b) _ _ _ _ c c' h.runs_a h.runs_b (ordered p h.steady)
      h.resends_a in
      let a : p.a.acknowledged ≡ length (handed_up p.b) =
      learnt W (view p.a) (view p.b) _ _ _ _ c c' h.runs_a h.runs_b h.learns_a in
      record {
        runs = h.runs_a;
        handed_up =
            prefix-whole (handed_up p.b) p.a.given (steady-shows Holds k W p h.steady).prefix u;
        acknowledged = a ∙ u;
      }

  resending-turned : (p : PairState) → Resending p → Resending (turned p)
  resending-turned p h = record {
    steady = steady-turned Holds W p h.steady;
    learns_a = h.learns_b;
    learns_b = h.learns_a;
    runs_a = h.runs_b;
    runs_b = h.runs_a;
    resends_a = h.resends_b;
    resends_b = h.resends_a;
  }

  all-done : (p : PairState) → Resending p → Rests p → IsDone p
  all-done p h r =
      record {
        from_a = delivered p h r;
        from_b = delivered (turned p) (resending-turned p h) (rests-turned p r);
      }

  -- ---- a settle, and both rounds

  module _ (Kept : PairState → Type 0) (steady : (p : PairState) → Kept p → Steady Holds W p)
      (keeps : (p : PairState) → Kept p → Kept (half p)) where
    round-quiets : (p : PairState) → Kept (mailed (expired-both p))
        → max p.a.core.limits.window p.b.core.limits.window ≡ W
        → Quiets Kept (12 * W + 12) (rounding p) (rounded p)
    round-quiets p h larger =
        let q = settles-quiet Holds k W Kept steady keeps (expired-both p) h larger in
        let e = ap (λ (z : PairState). settled z) (both-expire-is p) in
        let x =
        rounding-exchanges p
        ∙ ap (λ (z : PairState). (settling z).exchanges) (both-expire-is p) in
        let c = q.count in
        record {
          quiet =
              rounding-quiet p ∙ ap (λ (z : PairState). (settling z).quiet) (both-expire-is p)
              ∙ q.quiet;
          count = omega (arith, x, c);
          kept = subst (λ (z : PairState). Kept z) (sym (rounded-is p ∙ e)) q.kept;
          rests = subst (λ (z : PairState). Rests z) (sym (rounded-is p ∙ e)) q.rests;
        }

  pub record Recovers (p : PairState) : Type 0 where
    pub settles : Quiets (Steady Holds W) (12 * W + 12) (settling p) (settled p)
    pub once : Quiets Learning (12 * W + 12) (rounding (settled p)) (rounded (settled p))
    pub twice : Quiets Resending (12 * W + 12) (rounding (rounded (settled p)))
        (rounded (rounded (settled p)))
    pub done : IsDone (rounded (rounded (settled p)))

  pub steady-recovers : (p : PairState) → max p.a.core.limits.window p.b.core.limits.window ≡ W
      → Steady Holds W (mailed p) → Recovers p
  steady-recovers p larger h =
      let q0 = settles-quiet Holds k W (Steady Holds W) (λ q s. s) halved p h larger in
      let y0 = settled p in
      let q1 =
      round-quiets Learning (λ q l. l.steady) learning-half y0
      (learning-starts y0 q0.kept q0.rests) q0.kept.larger in
      let y1 = rounded y0 in
      let q2 =
      round-quiets Resending (λ q l. l.steady) resending-half y1
      (resending-starts y1 q1.kept q1.rests) q1.kept.steady.larger in
      record { settles = q0; once = q1; twice = q2; done = all-done (rounded y1) q2.kept q2.rests }
