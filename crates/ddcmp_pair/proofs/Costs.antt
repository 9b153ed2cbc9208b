-- In a settle each frame costs something.
use Rattle.std.proofs.Common.{◌≡◌, ℕ, ◌+◌, ◌-◌, ◌*◌, ◌<◌, ◌≤◌, Bool, true, false, cond, refl, ap}
use Rattle.std.proofs.Common.{arith}
use Rattle.std.specs.Prelude.{◌==◌}
use Rattle.ddcmp_core.specs.declared.state.State.{State}
use Rattle.ddcmp_core.specs.declared.state.State.TheVariants.{Halted, IStart, AStart, Running}
use Rattle.ddcmp_core.specs.declared.state.State.TheVariants.{Maintenance}
use Rattle.ddcmp_core.specs.declared.state.Owed.{Owed}
use Rattle.ddcmp_core.specs.declared.state.Owed.TheVariants.{Quiet, Ack, Nak}
use Rattle.ddcmp_frame.specs.declared.nak.Nak.TheVariants as reason
use Rattle.ddcmp_pair.proofs.Views.{View, Ordered, Crossing, c_strt, c_stack, c_nak, c_rep, c_data}
use Rattle.ddcmp_pair.proofs.Views.{c_ack, c_waits, c_rests, hears_strt, hears_stack, hears_nak}
use Rattle.ddcmp_pair.proofs.Views.{hears_rep, hears_ack, hears_data}

abbrev cost_due : State → Bool → ℕ
cost_due IStart true = 3
cost_due AStart true = 2
cost_due _ _ = 0

abbrev cost_reply : ℕ → Owed → ℕ
cost_reply W Quiet = 0
cost_reply W Ack = 1
cost_reply W (Nak c) = 1 + 2 * W

abbrev cost_rep : ℕ → Bool → ℕ
cost_rep W true = 2 + 2 * W
cost_rep W false = 0

abbrev pub cost : ℕ → View → ℕ
cost W v =
    cost_due v.state v.due + cost_reply W v.reply + cost_rep W v.rep + 2 * (v.given + 1 - v.next)

due_most : (p : State) (b : Bool) → cost_due p b ≤ 3
due_most IStart true = omega arith
due_most AStart true = omega arith
due_most _ _ = omega arith

reply_most : (W : ℕ) (r : Owed) → cost_reply W r ≤ 1 + 2 * W
reply_most W Quiet = omega arith
reply_most W Ack = omega arith
reply_most W (Nak c) = omega arith

rep_most : (W : ℕ) (b : Bool) → cost_rep W b ≤ 2 + 2 * W
rep_most W true = omega arith
rep_most W false = omega arith

pub cost_most : (W : ℕ) (v w : View) → Ordered W v w → cost W v ≤ 6 * W + 6
cost_most W v w h =
    omega
    (arith, due_most v.state v.due, reply_most W v.reply, rep_most W v.rep, h.window, h.next_low)

rep_falls : (W : ℕ) (b c : Bool) → cost_rep W (cond b c false) ≤ cost_rep W c
rep_falls W true c = omega arith
rep_falls W false c = omega arith

reply_up : (W : ℕ) (b : Bool) (r : Owed) → cost_reply W (cond b Ack r) ≤ cost_reply W r + 1
reply_up W true r = omega arith
reply_up W false r = omega arith

module _ (W : ℕ) (w : View) where
  strt_brings : (p : State) → w.state ≡ p → cost W (hears_strt p w) ≤ cost W w + 2
  strt_brings IStart e = omega arith
  strt_brings AStart e = omega (arith, ap (λ p. cost_due p true) e)
  strt_brings Running e = omega arith
  strt_brings Halted e = omega arith
  strt_brings Maintenance e = omega arith

  stack_brings : (p : State) → cost W (hears_stack p w) ≤ cost W w + 1
  stack_brings IStart = omega arith
  stack_brings AStart = omega arith
  stack_brings Running = omega arith
  stack_brings Halted = omega arith
  stack_brings Maintenance = omega arith

  nak_brings : (p : State) (q : ℕ) → w.given ≤ w.acked + W → w.acked ≤ q
      → cost W (hears_nak p w q) ≤ cost W w + 2 * W
  nak_brings Running q h g = omega arith
  nak_brings IStart q h g = omega arith
  nak_brings AStart q h g = omega arith
  nak_brings Halted q h g = omega arith
  nak_brings Maintenance q h g = omega arith

  rep_brings : (p : State) (n : ℕ) → cost W (hears_rep p w n) ≤ cost W w + (1 + 2 * W)
  rep_brings Running n = omega (arith, reply_most W (cond (n == w.up) Ack (Nak reason.ReplyToRep)))
  rep_brings IStart n = omega arith
  rep_brings AStart n = omega arith
  rep_brings Halted n = omega arith
  rep_brings Maintenance n = omega arith

  ack_brings : (p : State) (q : ℕ) → cost W (hears_ack p w q) ≤ cost W w
  ack_brings Running q = omega (arith, rep_falls W (q == w.acked) w.rep)
  ack_brings AStart q = omega arith
  ack_brings IStart q = omega arith
  ack_brings Halted q = omega arith
  ack_brings Maintenance q = omega arith

  data_brings : (p : State) (q k : ℕ) → cost W (hears_data p w q k) ≤ cost W w + 1
  data_brings Running q k =
      omega (arith, rep_falls W (q == w.acked) w.rep, reply_up W (k == w.up + 1) w.reply)
  data_brings AStart q k =
      omega (arith, rep_falls W (q == w.acked) w.rep, reply_up W (k == w.up + 1) w.reply)
  data_brings IStart q k = omega arith
  data_brings Halted q k = omega arith
  data_brings Maintenance q k = omega arith

-- who sends pays, and the frame brings less than that
abbrev pub Falls : Bool → ℕ → ℕ → Type 0
Falls true new old = new < old
Falls false new old = new ≤ old

pub falls : (W : ℕ) (v w : View) (b : Bool) (v' w' : View) → Ordered W v w → Ordered W w v
    → Crossing v w b v' w' → Falls b (cost W v' + cost W w') (cost W v + cost W w)
falls W v w _ _ _ o o' (c_strt p d) =
    omega (
      arith,
      strt_brings W w w.state refl,
      ap (λ (e : State × Bool). cost_due e.0 e.1) (λ i. (p i, d i)),
      ap (λ e. cost_due e false) p,
    )
falls W v w _ _ _ o o' (c_stack p d) =
    omega (
      arith,
      stack_brings W w w.state,
      ap (λ (e : State × Bool). cost_due e.0 e.1) (λ i. (p i, d i)),
      ap (λ e. cost_due e false) p,
    )
falls W v w _ _ _ o o' (c_nak c p r) =
    omega (arith, nak_brings W w w.state v.up o'.window o'.low, ap (λ r. cost_reply W r) r)
falls W v w _ _ _ o o' (c_rep p r f) =
    omega (arith, rep_brings W w w.state v.sent, ap (λ b. cost_rep W b) f)
falls W v w _ _ _ o o' (c_data p r f room) = omega (arith, data_brings W w w.state v.up v.next)
falls W v w _ _ _ o o' (c_ack p r f room) =
    omega (arith, ack_brings W w w.state v.up, ap (λ r. cost_reply W r) r)
falls W v w _ _ _ o o' (c_waits p d) = omega arith
falls W v w _ _ _ o o' (c_rests p r f room) = omega arith
