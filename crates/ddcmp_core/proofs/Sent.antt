-- What is sent next is one of the cases of SentFor.
use Rattle.std.proofs.Common.{◌≡◌, ◌≤◌, ℕ, Bool, true, false, cond, List, [], ◌∷◌, length, refl}
use Rattle.std.proofs.Common.{arith}
use Rattle.std.specs.Prelude.{nat_lt}
use Rattle.ddcmp_core.specs.declared.state.State.{State}
use Rattle.ddcmp_core.specs.declared.state.State.TheVariants.{Halted, IStart, AStart, Running}
use Rattle.ddcmp_core.specs.declared.state.State.TheVariants.{Maintenance}
use Rattle.ddcmp_core.specs.declared.state.Owed.{Owed}
use Rattle.ddcmp_core.specs.declared.state.Owed.TheVariants.{Quiet, Ack, Nak}
use Rattle.ddcmp_core.specs.declared.state.Timer.TheVariants.{Fresh}
use Rattle.ddcmp_core.specs.Table.{StationState, resp_of, Data, Acked, Rep, Strt, Stack, Idle}
use Rattle.ddcmp_core.specs.Table.{Sends}
use Rattle.ddcmp_core.specs.Table.{before_next, message_at_next, is_ack, after_data, next_running}
use Rattle.ddcmp_core.specs.Table.{next_maintenance, next_by, next}
use Rattle.ddcmp_core.specs.NextFrame.{is_nak, SentFor, sends_strt, sends_stack, sends_nak}
use Rattle.ddcmp_core.specs.NextFrame.{sends_rep, sends_data, sends_ack, sends_maint, halted_idles}
use Rattle.ddcmp_core.specs.NextFrame.{starting_idles, running_idles, maintenance_idles}

pub sending : (s : StationState) → SentFor s (next s)
unfolding next
sending s = by s.state refl
  where
    strt : s.state ≡ IStart → (b : Bool) → s.due ≡ b
        → SentFor s (cond b (Sends Strt (record s { due = false; timer = Fresh })) Idle)
    strt e true d = sends_strt e d
    strt e false d = starting_idles (cc) d

    stack : s.state ≡ AStart → (b : Bool) → s.due ≡ b
        → SentFor s (cond b (Sends Stack (record s { due = false; timer = Fresh })) Idle)
    stack e true d = sends_stack e d
    stack e false d = starting_idles (cc) d

    ack_or : s.state ≡ Running → (r : Owed) → s.reply ≡ r → is_nak r ≡ false → s.rep ≡ false
        → length s.out ≤ before_next s
        → SentFor s (cond (is_ack r) (Sends (Acked (resp_of s)) (record s { reply = Quiet })) Idle)
    ack_or e Ack r k f b = sends_ack e r f b
    ack_or e Quiet r k f b = running_idles e r f b
    ack_or e (Nak why) r k f b = absurd (cc)

    data_or : s.state ≡ Running → (r : Owed) → s.reply ≡ r → is_nak r ≡ false → s.rep ≡ false
        → (b : Bool) → nat_lt (before_next s) (length s.out) ≡ b
        → SentFor s
        (cond b (Sends (Data (resp_of s) s.t (message_at_next s)) (after_data s))
        (cond (is_ack r) (Sends (Acked (resp_of s)) (record s { reply = Quiet })) Idle))
    data_or e r q k f true b = sends_data e (cc) f (grind (arith))
    data_or e r q k f false b = ack_or e r q k f (grind (arith))

    rep_or : s.state ≡ Running → (r : Owed) → s.reply ≡ r → is_nak r ≡ false → (b : Bool)
        → s.rep ≡ b
        → SentFor s (cond b (Sends (Rep s.n) (record s { rep = false; timer = Fresh }))
        (cond (nat_lt (before_next s) (length s.out))
        (Sends (Data (resp_of s) s.t (message_at_next s)) (after_data s))
        (cond (is_ack r) (Sends (Acked (resp_of s)) (record s { reply = Quiet })) Idle)))
    rep_or e r q k true f = sends_rep e (cc) f
    rep_or e r q k false f = data_or e r q k f (nat_lt (before_next s) (length s.out)) refl

    run : s.state ≡ Running → (r : Owed) → s.reply ≡ r → SentFor s (next_running r s)
    run e (Nak why) r = sends_nak why e r
    run e Ack r = rep_or e Ack r refl s.rep refl
    run e Quiet r = rep_or e Quiet r refl s.rep refl

    maintain : s.state ≡ Maintenance → (out : List (List ℕ)) → s.out ≡ out
        → SentFor s (next_maintenance out s)
    maintain e [] o = maintenance_idles e o
    maintain e (message ∷ rest) o = sends_maint message rest e o

    by : (p : State) → s.state ≡ p → SentFor s (next_by p s)
    by Halted e = halted_idles e
    by IStart e = strt e s.due refl
    by AStart e = stack e s.due refl
    by Running e = run e s.reply refl
    by Maintenance e = maintain e s.out refl
