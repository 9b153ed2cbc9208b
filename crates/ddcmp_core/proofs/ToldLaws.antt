-- What is reported acknowledged.
use Rattle.std.proofs.Common.{◌≡◌, ℕ, ◌+◌, ◌<◌, ◌≤◌, Bool, true, false, cond, List, length, drop}
use Rattle.std.proofs.Common.{refl, sym, ◌∙◌, ap, arith, length-drop, subst, Some, None}
use Rattle.std.specs.Prelude.{◌==◌}
use Rattle.ddcmp_num.specs.Sequence.{distance}
use Rattle.ddcmp_window.specs.Numbers.{is_within, next_number}
use Rattle.ddcmp_core.specs.declared.state.State.{State}
use Rattle.ddcmp_core.specs.declared.state.State.TheVariants.{Halted, IStart, AStart, Running}
use Rattle.ddcmp_core.specs.declared.state.State.TheVariants.{Maintenance}
use Rattle.ddcmp_core.specs.declared.state.Timer.TheVariants.{Off}
use Rattle.ddcmp_core.specs.declared.notice.Notice.{Notice}
use Rattle.ddcmp_core.specs.declared.notice.Notice.TheVariants as notice
use Rattle.ddcmp_core.specs.Table.{StationState, Limits, Data, Acked, Naked, Rep, Strt, Stack}
use Rattle.ddcmp_core.specs.Table.{Maint, Received, Good, BadHeader, BadData, TooLong, BadFormat}
use Rattle.ddcmp_core.specs.Table.{newly_acknowledged, after_ack, takes_data, has_room, on_data}
use Rattle.ddcmp_core.specs.Table.{on_nak, on_by, on, after_startup, after_halt, after_restart}
use Rattle.ddcmp_core.specs.Table.{may_restart, on_strt, on_running, acknowledged_notice}
use Rattle.ddcmp_core.specs.Table.{data_notice, strt_notice, running_notice, notice_by, notice_of}
use Rattle.ddcmp_core.specs.Table.{acknowledged_by}
use Rattle.ddcmp_core.specs.Core.{IsSound}

pub number_told : (m : ℕ) → acknowledged_by (acknowledged_notice m) ≡ m
number_told m = by (m == 0) refl
  where
    by : (b : Bool) → (m == 0) ≡ b
        → acknowledged_by (cond b None (Some (notice.Acknowledged m))) ≡ m
    by true e = let z : m ≡ 0 = grind (arith) in sym z
    by false e = refl

pub number_told_data : (l : Limits) (s : StationState) (resp num : ℕ)
    → acknowledged_by (data_notice l s resp num) ≡ newly_acknowledged s resp
number_told_data l s resp num = by (takes_data l s num)
  where
    one : (m : ℕ) (b : Bool) → (m == 0) ≡ b
        → acknowledged_by (Some (cond b notice.HandedUp (notice.HandedUpAndAcknowledged m))) ≡ m
    one m true e = let z : m ≡ 0 = grind (arith) in sym z
    one m false e = refl

    by : (b : Bool)
        → acknowledged_by
        (cond b
        (Some
        (cond (newly_acknowledged s resp == 0) notice.HandedUp
        (notice.HandedUpAndAcknowledged (newly_acknowledged s resp))))
        (acknowledged_notice (newly_acknowledged s resp))) ≡ newly_acknowledged s resp
    by true = one (newly_acknowledged s resp) (newly_acknowledged s resp == 0) refl
    by false = number_told (newly_acknowledged s resp)

pub newly_within : (s : StationState) (q : ℕ) → newly_acknowledged s q ≤ distance s.a s.n
newly_within s q = by (is_within s.a q s.n) refl
  where
    by : (b : Bool) → is_within s.a q s.n ≡ b → cond b (distance s.a q) 0 ≤ distance s.a s.n
    by true e = grind (arith)
    by false e = omega arith

pub acknowledging_within : (s : StationState) (q : ℕ) → s.a < 256
    → distance s.a (after_ack s q).a ≤ distance s.a s.n
acknowledging_within s q h = by (is_within s.a q s.n) refl
  where
    one : (m : ℕ) → m ≡ distance s.a q → m ≤ distance s.a s.n → (b : Bool)
        → distance s.a (cond b s.a q) ≤ distance s.a s.n
    one m d e true = omega arith
    one m d e false = omega (arith, d, e)

    by : (b : Bool) → is_within s.a q s.n ≡ b
        → distance s.a (cond (cond b (distance s.a q) 0 == 0) s.a q) ≤ distance s.a s.n
    by true e = one (distance s.a q) refl (grind (arith)) (distance s.a q == 0)
    by false e = omega arith

zero_told : (b : Bool) (x y : Notice) → acknowledged_by (Some x) ≡ 0 → acknowledged_by (Some y) ≡ 0
    → acknowledged_by (Some (cond b x y)) ≡ 0
zero_told true x y hx hy = hx
zero_told false x y hx hy = hy

-- each row reports at most what leaves
pub told_row : (l : Limits) (s : StationState) (h : Received) → distance s.a s.n ≤ length s.out
    → (acknowledged_by (notice_of l s h) ≤ distance s.a s.n)
    × (acknowledged_by (notice_of l s h) + length (on l s h).out ≤ length s.out)
unfolding on notice_of
told_row l s h kept = by s.state refl h
  where
    none : (m : ℕ) → m ≡ 0 → (m ≤ distance s.a s.n) × (m + length s.out ≤ length s.out)
    none m z = (omega (arith, z), omega (arith, z))

    left : (q m : ℕ) → m ≡ newly_acknowledged s q
        → (m ≤ distance s.a s.n) × (m + length (drop (newly_acknowledged s q) s.out) ≤ length s.out)
    left q m e =
        let w = newly_within s q in
        let d = length-drop (newly_acknowledged s q) s.out in
        (omega (arith, e, w), omega (arith, e, w, d, kept))

    nak : (q m : ℕ) → m ≡ newly_acknowledged s q
        → (m ≤ distance s.a s.n) × (m + length (on_nak s q).out ≤ length s.out)
    nak q m e = at (is_within s.a q s.n) refl
      where
        at : (b : Bool) → is_within s.a q s.n ≡ b
            → (m ≤ distance s.a s.n)
            × (m
            + length
            (cond b
            (record (after_ack s q)
            { t = next_number (after_ack s q).a; rep = false; timer = Off }) s).out
            ≤ length s.out)
        at true b = left q m e
        at false b =
            let z : newly_acknowledged s q ≡ 0 = ap (λ (x : Bool). cond x (distance s.a q) 0) b in
            none m (e ∙ z)

    strt : (acknowledged_by (Some (strt_notice l s)) ≤ distance s.a s.n)
        × (acknowledged_by (Some (strt_notice l s)) + length (on_strt l s).out ≤ length s.out)
    strt = at (may_restart l s)
      where
        at : (b : Bool)
            → (acknowledged_by
            (Some (cond b (notice.Restarted (length s.out)) notice.PeerRestarted))
            ≤ distance s.a s.n)
            × (acknowledged_by
            (Some (cond b (notice.Restarted (length s.out)) notice.PeerRestarted))
            + length (cond b (after_restart s) (after_halt s)).out ≤ length s.out)
        at true = (omega arith, omega arith)
        at false = (omega arith, omega arith)

    start_data : (resp num : ℕ) (message : List ℕ)
        → (acknowledged_by
        (cond (resp == 0)
        (Some (cond (takes_data l s num) notice.RunningAndHandedUp notice.Running)) None)
        ≤ distance s.a s.n)
        × (acknowledged_by
        (cond (resp == 0)
        (Some (cond (takes_data l s num) notice.RunningAndHandedUp notice.Running)) None)
        + length (cond (resp == 0) (on_data l (after_startup s) resp num message) s).out
        ≤ length s.out)
    start_data resp num message = at (resp == 0)
      where
        z : acknowledged_by
            (Some (cond (takes_data l s num) notice.RunningAndHandedUp notice.Running)) ≡ 0
        z = zero_told (takes_data l s num) notice.RunningAndHandedUp notice.Running refl refl

        at : (b : Bool)
            → (acknowledged_by
            (cond b (Some (cond (takes_data l s num) notice.RunningAndHandedUp notice.Running))
            None) ≤ distance s.a s.n)
            × (acknowledged_by
            (cond b (Some (cond (takes_data l s num) notice.RunningAndHandedUp notice.Running))
            None) + length (cond b (on_data l (after_startup s) resp num message) s).out
            ≤ length s.out)
        at true =
            let d = length-drop (newly_acknowledged s resp) s.out in
            (omega (arith, z), omega (arith, z, d))
        at false = none 0 refl

    start_ack : (resp : ℕ)
        → (acknowledged_by (cond (resp == 0) (Some notice.Running) None) ≤ distance s.a s.n)
        × (acknowledged_by (cond (resp == 0) (Some notice.Running) None)
        + length (cond (resp == 0) (after_startup s) s).out ≤ length s.out)
    start_ack resp = at (resp == 0)
      where
        at : (b : Bool) → (acknowledged_by (cond b (Some notice.Running) None) ≤ distance s.a s.n)
            × (acknowledged_by (cond b (Some notice.Running) None)
            + length (cond b (after_startup s) s).out ≤ length s.out)
        at true = none 0 refl
        at false = none 0 refl

    by : (p : State) → s.state ≡ p → (h : Received)
        → (acknowledged_by (notice_by p l s h) ≤ distance s.a s.n)
        × (acknowledged_by (notice_by p l s h) + length (on_by p l s h).out ≤ length s.out)
    by Halted e (Good Strt) = none 0 refl
    by Halted e (Good (Maint message)) = none 0 refl
    by Halted e h = none 0 refl
    by IStart e (Good Strt) = none 0 refl
    by IStart e (Good Stack) = none 0 refl
    by IStart e (Good (Maint message)) = none 0 refl
    by IStart e h = none 0 refl
    by AStart e (Good Strt) = none 0 refl
    by AStart e (Good Stack) = none 0 refl
    by AStart e (Good (Acked resp)) = start_ack resp
    by AStart e (Good (Data resp num message)) = start_data resp num message
    by AStart e (Good (Maint message)) = none 0 refl
    by AStart e h = none 0 refl
    by Running e (Good Strt) = strt
    by Running e (Good Stack) = none 0 refl
    by Running e (Good (Acked resp)) =
        left resp (acknowledged_by (acknowledged_notice (newly_acknowledged s resp)))
        (number_told (newly_acknowledged s resp))
    by Running e (Good (Naked why resp)) =
        nak resp (acknowledged_by (acknowledged_notice (newly_acknowledged s resp)))
        (number_told (newly_acknowledged s resp))
    by Running e (Good (Rep num)) = none 0 refl
    by Running e (Good (Data resp num message)) =
        left resp (acknowledged_by (data_notice l s resp num)) (number_told_data l s resp num)
    by Running e (Good (Maint message)) = none 0 refl
    by Running e BadHeader = none 0 refl
    by Running e (BadData b) = none 0 refl
    by Running e (TooLong b) = none 0 refl
    by Running e BadFormat = none 0 refl
    by Maintenance e (Good Strt) = none 0 refl
    by Maintenance e (Good (Maint message)) =
        let z =
        zero_told (has_room l s) notice.MaintenanceHandedUp notice.MaintenanceDropped refl refl in
        none _ z
    by Maintenance e h = none 0 refl

pub told_and_left : (l : Limits) (s : StationState) (h : Received) → IsSound l s
    → acknowledged_by (notice_of l s h) + length (on l s h).out ≤ length s.out
told_and_left l s h k = (told_row l s h k.in_window.sent_kept).1

pub told_within : (l : Limits) (s : StationState) (h : Received) → IsSound l s
    → acknowledged_by (notice_of l s h) ≤ distance s.a s.n
told_within l s h k = (told_row l s h k.in_window.sent_kept).0

-- in the state of Running, by its own row
pub running_left : (l : Limits) (s : StationState) (h : Received) → s.state ≡ Running
    → distance s.a s.n ≤ length s.out
    → acknowledged_by (running_notice l s h) + length (on_running l s h).out ≤ length s.out
unfolding on notice_of
running_left l s h running kept =
    subst (λ p. acknowledged_by (notice_by p l s h) + length (on_by p l s h).out ≤ length s.out)
    running (told_row l s h kept).1
