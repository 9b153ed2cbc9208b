-- What the settles after an expiry keep, and what it gives where they are quiet.
use Rattle.std.proofs.Common.{◌≡◌, ℕ, ◌+◌, ◌≤◌, ◌⊎◌, inl, inr, max, Bool, true, false, cond, refl}
use Rattle.std.proofs.Common.{sym, ap, ◌∙◌, subst, arith}
use Rattle.std.specs.Prelude.{◌==◌}
use Rattle.ddcmp_core.specs.declared.state.State.{State}
use Rattle.ddcmp_core.specs.declared.state.State.TheVariants.{Halted, IStart, AStart, Running}
use Rattle.ddcmp_core.specs.declared.state.State.TheVariants.{Maintenance}
use Rattle.ddcmp_core.specs.declared.state.Owed.{Owed}
use Rattle.ddcmp_core.specs.declared.state.Owed.TheVariants.{Quiet, Ack, Nak}
use Rattle.ddcmp_frame.specs.declared.nak.Nak.{Nak as Reason}
use Rattle.ddcmp_frame.specs.declared.nak.Nak.TheVariants as reason
use Rattle.ddcmp_core.specs.Table.{is_starting}
use Rattle.ddcmp_core.specs.NextFrame.{is_nak}
use Rattle.ddcmp_pair.proofs.Views.{View, Ordered, Crossing, c_strt, c_stack, c_nak, c_rep, c_data}
use Rattle.ddcmp_pair.proofs.Views.{c_ack, c_waits, c_rests, tells, comes_up, hears_strt}
use Rattle.ddcmp_pair.proofs.Views.{hears_stack, hears_nak, hears_rep, hears_ack, hears_data}

abbrev pub is_quiet : Owed → Bool
is_quiet Quiet = true
is_quiet _ = false

-- v knows what is up at w, or will learn it
abbrev pub Learns : View → View → Type 0
Learns v w = (v.acked ≡ w.up) ⊎ ((is_quiet w.reply ≡ false) ⊎ (v.rep ≡ true))

-- v runs, or will run
abbrev pub Wakes : View → View → Type 0
Wakes v w =
    (v.state ≡ Running)
    ⊎ ((v.due ≡ true)
    ⊎ (((is_starting w.state ≡ true) × (w.due ≡ true))
    ⊎ ((v.state ≡ AStart) × (w.state ≡ Running) × (w.reply ≡ Ack))))

-- v sends what w expects, or will
abbrev pub Resends : View → View → Type 0
Resends v w =
    ((v.rep ≡ true) × (v.acked ≡ w.up) × (v.sent ≡ v.given))
    ⊎ (((w.reply ≡ Nak reason.ReplyToRep) × (v.acked ≡ w.up) × (v.sent ≡ v.given))
    ⊎ (v.next ≡ w.up + 1))

module _ (W : ℕ) where
  -- an end that starts has nothing to learn
  young : (v w : View) → is_starting v.state ≡ true → Ordered W v w → v.acked ≡ w.up
  young v w s o = let g = o.fresh s in omega (arith, o.low, o.high, o.sent_given)

  learns_new : (v w : View) → is_starting w.state ≡ true → Ordered W v w → Ordered W w v
      → v.acked ≡ w.up
  learns_new v w s o o' = let g = o'.young s in omega (arith, o.low)

  replied : (b : Bool) → is_quiet (cond b Ack (Nak reason.ReplyToRep)) ≡ false
  replied true = refl
  replied false = refl

  pub learns_there : (v w : View) (b : Bool) (v' w' : View) → Ordered W v w → Ordered W w v
      → Ordered W v' w' → Crossing v w b v' w' → Learns v w → Learns v' w'
  learns_there v w _ _ _ o o' n (c_strt p d) h =
      inl (young (record v { due = false }) (hears_strt w.state w) (ap is_starting p) n)
  learns_there v w _ _ _ o o' n (c_stack p d) h =
      inl (young (record v { due = false }) (hears_stack w.state w) (ap is_starting p) n)
  learns_there v w _ _ _ o o' n (c_nak c p r) h = by w.state
    where
      by : (p : State) → Learns (record v { reply = Quiet }) (hears_nak p w v.up)
      by Running = h
      by IStart = h
      by AStart = h
      by Halted = h
      by Maintenance = h
  learns_there v w _ _ _ o o' n (c_rep p r f) h = by w.state refl
    where
      by : (p : State) → w.state ≡ p → Learns (record v { rep = false }) (hears_rep p w v.sent)
      by Running e = inr (inl (replied (v.sent == w.up)))
      by IStart e = inl (learns_new v w (ap is_starting e) o o')
      by AStart e = inl (learns_new v w (ap is_starting e) o o')
      by Halted e = absurd (o'.awake e)
      by Maintenance e = absurd (o'.no_maintenance e)
  learns_there v w _ _ _ o o' n (c_data p r f room) h = by w.state
    where
      up : (b : Bool)
          → (v.acked ≡ cond b v.next w.up)
          ⊎ ((is_quiet (cond b Ack w.reply) ≡ false) ⊎ (v.rep ≡ true))
      up true = inr (inl refl)
      up false = h

      by : (p : State)
          → Learns (record v { sent = max v.sent v.next; next = v.next + 1; reply = Quiet })
          (hears_data p w v.up v.next)
      by Running = up (v.next == w.up + 1)
      by AStart = up (v.next == w.up + 1)
      by IStart = h
      by Halted = h
      by Maintenance = h
  learns_there v w _ _ _ o o' n (c_ack p r f room) h = by w.state
    where
      by : (p : State) → Learns (record v { reply = Quiet }) (hears_ack p w v.up)
      by Running = h
      by AStart = h
      by IStart = h
      by Halted = h
      by Maintenance = h
  learns_there v w _ _ _ o o' n (c_waits p d) h = h
  learns_there v w _ _ _ o o' n (c_rests p r f room) h = h

  pub learns_here : (v w : View) (b : Bool) (v' w' : View) → Ordered W v w → Ordered W w v
      → Crossing v w b v' w' → Learns w v → Learns w' v'
  learns_here v w _ _ _ o o' (c_strt p d) h = by w.state refl
    where
      by : (q : State) → w.state ≡ q → Learns (hears_strt q w) (record v { due = false })
      by IStart e = h
      by AStart e = h
      by Running e = absurd (o'.apart e p)
      by Halted e = h
      by Maintenance e = h
  learns_here v w _ _ _ o o' (c_stack p d) h = by w.state
    where
      by : (q : State) → Learns (hears_stack q w) (record v { due = false })
      by IStart = h
      by AStart = h
      by Running = h
      by Halted = h
      by Maintenance = h
  learns_here v w _ _ _ o o' (c_nak c p r) h = by w.state refl
    where
      by : (q : State) → w.state ≡ q → Learns (hears_nak q w v.up) (record v { reply = Quiet })
      by Running e = inl refl
      by IStart e = inl (young w v (ap is_starting e) o')
      by AStart e = inl (young w v (ap is_starting e) o')
      by Halted e = absurd (o'.awake e)
      by Maintenance e = absurd (o'.no_maintenance e)
  learns_here v w _ _ _ o o' (c_rep p r f) h = by w.state
    where
      by : (q : State) → Learns (hears_rep q w v.sent) (record v { rep = false })
      by Running = h
      by IStart = h
      by AStart = h
      by Halted = h
      by Maintenance = h
  learns_here v w _ _ _ o o' (c_data p r f room) h = by w.state refl
    where
      by : (q : State) → w.state ≡ q
          → Learns (hears_data q w v.up v.next)
          (record v { sent = max v.sent v.next; next = v.next + 1; reply = Quiet })
      by Running e = inl refl
      by AStart e = inl refl
      by IStart e = absurd (o.apart p e)
      by Halted e = absurd (o'.awake e)
      by Maintenance e = absurd (o'.no_maintenance e)
  learns_here v w _ _ _ o o' (c_ack p r f room) h = by w.state refl
    where
      by : (q : State) → w.state ≡ q → Learns (hears_ack q w v.up) (record v { reply = Quiet })
      by Running e = inl refl
      by AStart e = inl (young w v (ap is_starting e) o')
      by IStart e = absurd (o.apart p e)
      by Halted e = absurd (o'.awake e)
      by Maintenance e = absurd (o'.no_maintenance e)
  learns_here v w _ _ _ o o' (c_waits p d) h = h
  learns_here v w _ _ _ o o' (c_rests p r f room) h = h

  pub wakes_there : (v w : View) (b : Bool) (v' w' : View) → Ordered W v w → Ordered W w v
      → Crossing v w b v' w' → Wakes v w → Wakes v' w'
  wakes_there v w _ _ _ o o' (c_strt p d) h = by w.state refl
    where
      by : (q : State) → w.state ≡ q → Wakes (record v { due = false }) (hears_strt q w)
      by IStart e = inr (inr (inl (refl, refl)))
      by AStart e = inr (inr (inl (ap is_starting e, refl)))
      by Running e = absurd (o'.apart e p)
      by Halted e = absurd (o'.awake e)
      by Maintenance e = absurd (o'.no_maintenance e)
  wakes_there v w _ _ _ o o' (c_stack p d) h = by w.state refl
    where
      by : (q : State) → w.state ≡ q → Wakes (record v { due = false }) (hears_stack q w)
      by IStart e = inr (inr (inr (p, refl, refl)))
      by AStart e = inr (inr (inr (p, refl, refl)))
      by Running e = inr (inr (inr (p, e, refl)))
      by Halted e = absurd (o'.awake e)
      by Maintenance e = absurd (o'.no_maintenance e)
  wakes_there v w _ _ _ o o' (c_nak c p r) h = inl p
  wakes_there v w _ _ _ o o' (c_rep p r f) h = inl p
  wakes_there v w _ _ _ o o' (c_data p r f room) h = inl p
  wakes_there v w _ _ _ o o' (c_ack p r f room) h = inl p
  wakes_there v w _ _ _ o o' (c_waits p d) h = h
  wakes_there v w _ _ _ o o' (c_rests p r f room) h = h

  -- w hears a NAK as it starts, which answers no STACK
  still_wakes : (v w : View) (c : Reason) → v.state ≡ Running → w.state ≡ AStart → v.reply ≡ Nak c
      → Wakes w v → w.due ≡ true
  still_wakes v w c p e r (inl h) = absurd (cc)
  still_wakes v w c p e r (inr (inl h)) = h
  still_wakes v w c p e r (inr (inr (inl h))) = let s = ap is_starting p in absurd (cc (s, h.0))
  still_wakes v w c p e r (inr (inr (inr h))) = absurd (cc (r, h.2))

  pub wakes_here : (v w : View) (b : Bool) (v' w' : View) → Ordered W v w → Ordered W w v
      → Crossing v w b v' w' → Wakes w v → Wakes w' v'
  wakes_here v w _ _ _ o o' (c_strt p d) h = by w.state refl
    where
      by : (q : State) → w.state ≡ q → Wakes (hears_strt q w) (record v { due = false })
      by IStart e = inr (inl refl)
      by AStart e = inr (inl refl)
      by Running e = absurd (o'.apart e p)
      by Halted e = absurd (o'.awake e)
      by Maintenance e = absurd (o'.no_maintenance e)
  wakes_here v w _ _ _ o o' (c_stack p d) h = by w.state refl
    where
      by : (q : State) → w.state ≡ q → Wakes (hears_stack q w) (record v { due = false })
      by IStart e = inl refl
      by AStart e = inl refl
      by Running e = inl e
      by Halted e = absurd (o'.awake e)
      by Maintenance e = absurd (o'.no_maintenance e)
  wakes_here v w _ _ _ o o' (c_nak c p r) h = by w.state refl
    where
      by : (q : State) → w.state ≡ q → Wakes (hears_nak q w v.up) (record v { reply = Quiet })
      by Running e = inl e
      by AStart e = inr (inl (still_wakes v w c p e r h))
      by IStart e = absurd (o.apart p e)
      by Halted e = absurd (o'.awake e)
      by Maintenance e = absurd (o'.no_maintenance e)
  wakes_here v w _ _ _ o o' (c_rep p r f) h = by w.state
    where
      by : (q : State) → Wakes (hears_rep q w v.sent) (record v { rep = false })
      by Running = h
      by AStart = h
      by IStart = h
      by Halted = h
      by Maintenance = h
  wakes_here v w _ _ _ o o' (c_data p r f room) h = by w.state refl
    where
      by : (q : State) → w.state ≡ q
          → Wakes (hears_data q w v.up v.next)
          (record v { sent = max v.sent v.next; next = v.next + 1; reply = Quiet })
      by Running e = inl e
      by AStart e = inl refl
      by IStart e = absurd (o.apart p e)
      by Halted e = absurd (o'.awake e)
      by Maintenance e = absurd (o'.no_maintenance e)
  wakes_here v w _ _ _ o o' (c_ack p r f room) h = by w.state refl
    where
      by : (q : State) → w.state ≡ q → Wakes (hears_ack q w v.up) (record v { reply = Quiet })
      by Running e = inl e
      by AStart e = inl refl
      by IStart e = absurd (o.apart p e)
      by Halted e = absurd (o'.awake e)
      by Maintenance e = absurd (o'.no_maintenance e)
  wakes_here v w _ _ _ o o' (c_waits p d) h = h
  wakes_here v w _ _ _ o o' (c_rests p r f room) h = h

  -- two running ends
  resends_rep : (v w : View) → Ordered W v w → Resends v w
      → Resends (record v { rep = false }) (hears_rep Running w v.sent)
  resends_rep v w o (inl (r, a, s)) = by (v.sent == w.up) refl
    where
      by : (b : Bool) → (v.sent == w.up) ≡ b
          → Resends (record v { rep = false })
          (record w { reply = cond b Ack (Nak reason.ReplyToRep) })
      by true e =
          let q : v.sent ≡ w.up = grind (arith) in
          inr (inr (omega (arith, o.next_low, o.next_high)))
      by false e = inr (inl (refl, a, s))
  resends_rep v w o (inr (inl (r, a, s))) = by (v.sent == w.up) refl
    where
      by : (b : Bool) → (v.sent == w.up) ≡ b
          → Resends (record v { rep = false })
          (record w { reply = cond b Ack (Nak reason.ReplyToRep) })
      by true e =
          let q : v.sent ≡ w.up = grind (arith) in
          inr (inr (omega (arith, o.next_low, o.next_high)))
      by false e = inr (inl (refl, a, s))
  resends_rep v w o (inr (inr n)) = inr (inr n)

  resends_data : (v w : View) → v.rep ≡ false → v.next ≤ v.given → Resends v w
      → Resends (record v { sent = max v.sent v.next; next = v.next + 1; reply = Quiet })
      (hears_data Running w v.up v.next)
  resends_data v w f room h = by (v.next == w.up + 1) refl h
    where
      by : (b : Bool) → (v.next == w.up + 1) ≡ b → Resends v w
          → Resends (record v { sent = max v.sent v.next; next = v.next + 1; reply = Quiet })
          (record (tells w v.up) { up = cond b v.next w.up; reply = cond b Ack w.reply })
      by true e h = inr (inr refl)
      by false e (inl (r, a, s)) = absurd (cc (f, r))
      by false e (inr (inl (r, a, s))) = inr (inl (r, a, omega arith))
      by false e (inr (inr n)) = absurd (grind (arith))

  pub resends_there : (v w : View) (b : Bool) (v' w' : View) → v.state ≡ Running → w.state ≡ Running
      → Ordered W v w → Crossing v w b v' w' → Resends v w → Resends v' w'
  resends_there v w _ _ _ r e o (c_strt p d) h = absurd (cc (r, p))
  resends_there v w _ _ _ r e o (c_stack p d) h = absurd (cc (r, p))
  resends_there v w _ _ _ r e o (c_nak c p q) h =
      subst (λ (ph : State). Resends (record v { reply = Quiet }) (hears_nak ph w v.up)) (sym e) h
  resends_there v w _ _ _ r e o (c_rep p q f) h =
      subst (λ (ph : State). Resends (record v { rep = false }) (hears_rep ph w v.sent)) (sym e)
      (resends_rep v w o h)
  resends_there v w _ _ _ r e o (c_data p q f room) h =
      subst
      (λ (ph : State). Resends
      (record v { sent = max v.sent v.next; next = v.next + 1; reply = Quiet })
      (hears_data ph w v.up v.next)) (sym e) (resends_data v w f room h)
  resends_there v w _ _ _ r e o (c_ack p q f room) h =
      subst (λ (ph : State). Resends (record v { reply = Quiet }) (hears_ack ph w v.up)) (sym e) h
  resends_there v w _ _ _ r e o (c_waits p d) h = h
  resends_there v w _ _ _ r e o (c_rests p q f room) h = h

  -- an acknowledgement of what w knows already clears no REP
  resends_told : (v w : View) (sent next : ℕ) → is_nak v.reply ≡ false → Resends w v
      → Resends (tells w v.up) (record v { reply = Quiet; sent = sent; next = next })
  resends_told v w sent next q (inl (r, a, s)) =
      let t : (v.up == w.acked) ≡ true = grind (arith) in
      inl (ap (λ b. cond b w.rep false) t ∙ r, refl, s)
  resends_told v w sent next q (inr (inl (r, a, s))) = let z = ap is_nak r in absurd (cc)
  resends_told v w sent next q (inr (inr n)) = inr (inr (omega arith))

  told_here : (v w : View) (sent next k : ℕ) → is_nak v.reply ≡ false → Resends w v
      → Resends (comes_up (tells w v.up) k) (record v { reply = Quiet; sent = sent; next = next })
  told_here v w sent next k q h = resends_told v w sent next q h

  pub resends_here : (v w : View) (b : Bool) (v' w' : View) → v.state ≡ Running → w.state ≡ Running
      → Crossing v w b v' w' → Resends w v → Resends w' v'
  resends_here v w _ _ _ r e (c_strt p d) h = absurd (cc (r, p))
  resends_here v w _ _ _ r e (c_stack p d) h = absurd (cc (r, p))
  resends_here v w _ _ _ r e (c_nak c p q) h =
      subst (λ (ph : State). Resends (hears_nak ph w v.up) (record v { reply = Quiet })) (sym e)
      (inr (inr refl))
  resends_here v w _ _ _ r e (c_rep p q f) h =
      subst (λ (ph : State). Resends (hears_rep ph w v.sent) (record v { rep = false })) (sym e) h
  resends_here v w _ _ _ r e (c_data p q f room) h =
      subst
      (λ (ph : State). Resends (hears_data ph w v.up v.next)
      (record v { sent = max v.sent v.next; next = v.next + 1; reply = Quiet })) (sym e)
      (told_here v w (max v.sent v.next) (v.next + 1) v.next q h)
  resends_here v w _ _ _ r e (c_ack p q f room) h =
      subst (λ (ph : State). Resends (hears_ack ph w v.up) (record v { reply = Quiet })) (sym e)
      (resends_told v w v.sent v.next (ap is_nak q) h)
  resends_here v w _ _ _ r e (c_waits p d) h = h
  resends_here v w _ _ _ r e (c_rests p q f room) h = h

  pub runs_there : (v w : View) (b : Bool) (v' w' : View) → v.state ≡ Running → w.state ≡ Running
      → Crossing v w b v' w' → (v'.state ≡ Running) × (w'.state ≡ Running)
  runs_there v w _ _ _ r e (c_strt p d) = absurd (cc (r, p))
  runs_there v w _ _ _ r e (c_stack p d) = absurd (cc (r, p))
  runs_there v w _ _ _ r e (c_nak c p q) =
      (r, subst (λ (ph : State). (hears_nak ph w v.up).state ≡ Running) (sym e) e)
  runs_there v w _ _ _ r e (c_rep p q f) =
      (r, subst (λ (ph : State). (hears_rep ph w v.sent).state ≡ Running) (sym e) e)
  runs_there v w _ _ _ r e (c_data p q f room) =
      (r, subst (λ (ph : State). (hears_data ph w v.up v.next).state ≡ Running) (sym e) e)
  runs_there v w _ _ _ r e (c_ack p q f room) =
      (r, subst (λ (ph : State). (hears_ack ph w v.up).state ≡ Running) (sym e) e)
  runs_there v w _ _ _ r e (c_waits p d) = (r, e)
  runs_there v w _ _ _ r e (c_rests p q f room) = (r, e)

  -- where neither sends
  pub woken : (v w v' w' v'' w'' : View) → Crossing v w false v' w' → Crossing w v false w'' v''
      → Wakes v w → v.state ≡ Running
  woken v w _ _ _ _ (c_rests p r f room) d h = p
  woken v w _ _ _ _ (c_waits p d) e (inl h) = h
  woken v w _ _ _ _ (c_waits p d) e (inr (inl h)) = absurd (cc)
  woken v w _ _ _ _ (c_waits p d) (c_rests q r f room) (inr (inr (inl h))) =
      let z = ap is_starting q in absurd (cc (z, h.0))
  woken v w _ _ _ _ (c_waits p d) (c_waits q g) (inr (inr (inl h))) = absurd (cc (g, h.1))
  woken v w _ _ _ _ (c_waits p d) (c_rests q r f room) (inr (inr (inr h))) = absurd (cc (r, h.2))
  woken v w _ _ _ _ (c_waits p d) (c_waits q g) (inr (inr (inr h))) =
      let z = ap is_starting h.1 in absurd (cc (z, q))

  pub learnt : (v w v' w' v'' w'' : View) → Crossing v w false v' w' → Crossing w v false w'' v''
      → v.state ≡ Running → w.state ≡ Running → Learns v w → v.acked ≡ w.up
  learnt v w _ _ _ _ c d p q (inl h) = h
  learnt v w _ _ _ _ c (c_waits s g) p q (inr h) = let z = ap is_starting q in absurd (cc (z, s))
  learnt v w _ _ _ _ c (c_rests s r f room) p q (inr (inl h)) =
      let z = ap is_quiet r in absurd (cc (z, h))
  learnt v w _ _ _ _ (c_waits s g) (c_rests q r f room) p e (inr (inr h)) =
      let z = ap is_starting p in absurd (cc (z, s))
  learnt v w _ _ _ _ (c_rests s' r' f' room') (c_rests s r f room) p q (inr (inr h)) =
      absurd (cc (f', h))

  pub resent : (v w v' w' v'' w'' : View) → Crossing v w false v' w' → Crossing w v false w'' v''
      → v.state ≡ Running → w.state ≡ Running → Ordered W v w → Resends v w → w.up ≡ v.given
  resent v w _ _ _ _ (c_waits s g) d p q o h = let z = ap is_starting p in absurd (cc (z, s))
  resent v w _ _ _ _ (c_rests s r f room) d p q o (inl h) = absurd (cc (f, h.0))
  resent v w _ _ _ _ (c_rests s r f room) (c_waits s' g) p q o (inr (inl h)) =
      let z = ap is_starting q in absurd (cc (z, s'))
  resent v w _ _ _ _ (c_rests s r f room) (c_rests s' r' f' room') p q o (inr (inl h)) =
      absurd (cc (r', h.0))
  resent v w _ _ _ _ (c_rests s r f room) d p q o (inr (inr n)) =
      omega (arith, room, n, o.high, o.sent_given)
