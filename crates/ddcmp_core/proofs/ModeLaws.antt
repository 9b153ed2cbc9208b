-- No input and no call but one changes how messages are acknowledged.
use Rattle.std.proofs.Common.{◌≡◌, Bool, true, false, cond, refl}
use Rattle.std.specs.Prelude.{◌==◌}
use Rattle.ddcmp_core.specs.declared.state.State.{State}
use Rattle.ddcmp_core.specs.declared.state.State.TheVariants.{Halted, IStart, AStart, Running}
use Rattle.ddcmp_core.specs.declared.state.State.TheVariants.{Maintenance}
use Rattle.ddcmp_core.specs.declared.state.Timer.{Timer}
use Rattle.ddcmp_core.specs.declared.state.Timer.TheVariants.{Off, Fresh, On}
use Rattle.ddcmp_window.specs.Numbers.{is_within, next_number}
use Rattle.ddcmp_core.specs.Table.{StationState, Limits, Data, Acked, Naked, Strt, Stack, Maint}
use Rattle.ddcmp_core.specs.Table.{Received, Good, after_ack, on_data, on_by, on, after_startup}
use Rattle.ddcmp_core.specs.Table.{after_restart, after_halt, may_restart, Next, after_next, next}
use Rattle.ddcmp_core.specs.Table.{after_expire_in, after_expire_with, after_expire}
use Rattle.ddcmp_core.specs.NextFrame.{SentFor, sends_strt, sends_stack, sends_nak, sends_rep}
use Rattle.ddcmp_core.specs.NextFrame.{sends_data, sends_ack, sends_maint, halted_idles}
use Rattle.ddcmp_core.specs.NextFrame.{starting_idles, running_idles, maintenance_idles}
use Rattle.ddcmp_core.proofs.Sent.{sending}

mode_by : (l : Limits) (s : StationState) (p : State) (h : Received)
    → (on_by p l s h).by_user ≡ s.by_user
mode_by l s Halted h = refl
mode_by l s IStart (Good Strt) = refl
mode_by l s IStart (Good Stack) = refl
mode_by l s IStart h = refl
mode_by l s AStart (Good Stack) = refl
mode_by l s AStart (Good Strt) = refl
mode_by l s AStart (Good (Acked resp)) = by (resp == 0)
  where
    by : (b : Bool) → (cond b (after_startup s) s).by_user ≡ s.by_user
    by true = refl
    by false = refl
mode_by l s AStart (Good (Data resp num message)) = by (resp == 0)
  where
    by : (b : Bool)
        → (cond b (on_data l (after_startup s) resp num message) s).by_user ≡ s.by_user
    by true = refl
    by false = refl
mode_by l s AStart h = refl
mode_by l s Running (Good Strt) = by (may_restart l s)
  where
    by : (b : Bool) → (cond b (after_restart s) (after_halt s)).by_user ≡ s.by_user
    by true = refl
    by false = refl
mode_by l s Running (Good (Naked why resp)) = by (is_within s.a resp s.n)
  where
    by : (b : Bool)
        → (cond b (record (after_ack s resp) {
          t = next_number (after_ack s resp).a;
          rep = false;
          timer = Off;
        }) s).by_user ≡ s.by_user
    by true = refl
    by false = refl
mode_by l s Running h = refl
mode_by l s Maintenance (Good (Maint message)) = refl
mode_by l s Maintenance h = refl

pub mode_on : (l : Limits) (s : StationState) (h : Received) → (on l s h).by_user ≡ s.by_user
unfolding on
mode_on l s h = mode_by l s s.state h

mode_sent : (s : StationState) (z : Next) → SentFor s z → (after_next z s).by_user ≡ s.by_user
mode_sent s _ (sends_strt e d) = refl
mode_sent s _ (sends_stack e d) = refl
mode_sent s _ (sends_nak c e r) = refl
mode_sent s _ (sends_rep e r f) = refl
mode_sent s _ (sends_data e r f room) = refl
mode_sent s _ (sends_ack e r f room) = refl
mode_sent s _ (sends_maint m ms e o) = refl
mode_sent s _ (halted_idles e) = refl
mode_sent s _ (starting_idles e d) = refl
mode_sent s _ (running_idles e r f room) = refl
mode_sent s _ (maintenance_idles e o) = refl

pub mode_next : (s : StationState) → (after_next (next s) s).by_user ≡ s.by_user
mode_next s = mode_sent s (next s) (sending s)

pub mode_expired : (s : StationState) → (after_expire s).by_user ≡ s.by_user
mode_expired s = at s.timer
  where
    by : (p : State) → (after_expire_in p s).by_user ≡ s.by_user
    by Halted = refl
    by IStart = refl
    by AStart = refl
    by Running = refl
    by Maintenance = refl

    at : (t : Timer) → (after_expire_with t s).by_user ≡ s.by_user
    at Off = refl
    at Fresh = by s.state
    at On = by s.state
