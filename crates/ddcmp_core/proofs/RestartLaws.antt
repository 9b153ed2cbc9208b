-- Where a station hears that its peer restarted, and what stops it.
use Rattle.std.proofs.Common.{◌≡◌, ◌≢◌, ℕ, Bool, true, false, cond, refl, sym, ◌∙◌, ap, Option}
use Rattle.std.proofs.Common.{Some, None}
use Rattle.std.specs.Prelude.{◌==◌}
use Rattle.ddcmp_core.specs.declared.state.State.{State}
use Rattle.ddcmp_core.specs.declared.state.State.TheVariants.{Halted, IStart, AStart, Running}
use Rattle.ddcmp_core.specs.declared.state.State.TheVariants.{Maintenance}
use Rattle.ddcmp_core.specs.declared.notice.Notice.{Notice}
use Rattle.ddcmp_core.specs.declared.notice.Notice.TheVariants as notice
use Rattle.ddcmp_core.specs.Table.{StationState, Limits, Data, Acked, Naked, Strt, Stack, Maint}
use Rattle.ddcmp_core.specs.Table.{Received, Good, BadHeader, BadData, TooLong, BadFormat, on_by}
use Rattle.ddcmp_core.specs.Table.{on, after_halt, after_restart, may_restart, takes_data, has_room}
use Rattle.ddcmp_core.specs.Table.{newly_acknowledged, acknowledged_notice, notice_by, notice_of}
use Rattle.ddcmp_core.specs.Laws.{tells_restart, is_fault}

-- ---- what is reported

abbrev pub TellsRestart : Option Notice → Type 0
TellsRestart None = ⊥
TellsRestart (Some n) = tells_restart n ≡ true

not-told : (m : ℕ) → TellsRestart (acknowledged_notice m) → ⊥
not-told m = by (m == 0)
  where
    by : (b : Bool) → TellsRestart (cond b None (Some (notice.Acknowledged m))) → ⊥
    by true t = t
    by false t = cc t

not-data : (c : Bool) (m : ℕ)
    → TellsRestart
    (cond c (Some (cond (m == 0) notice.HandedUp (notice.HandedUpAndAcknowledged m)))
    (acknowledged_notice m)) → ⊥
not-data true m = by (m == 0)
  where
    by : (b : Bool)
        → tells_restart (cond b notice.HandedUp (notice.HandedUpAndAcknowledged m)) ≡ true → ⊥
    by true t = cc t
    by false t = cc t
not-data false m = not-told m

not-started : (b c : Bool)
    → TellsRestart (cond b (Some (cond c notice.RunningAndHandedUp notice.Running)) None) → ⊥
not-started true true t = cc t
not-started true false t = cc t
not-started false c t = t

not-running : (b : Bool) → TellsRestart (cond b (Some notice.Running) None) → ⊥
not-running true t = cc t
not-running false t = t

not-maintenance : (b : Bool)
    → TellsRestart (Some (cond b notice.MaintenanceHandedUp notice.MaintenanceDropped)) → ⊥
not-maintenance true t = cc t
not-maintenance false t = cc t

told-by : (l : Limits) (s : StationState) (h : Received) → TellsRestart (notice_of l s h)
    → (s.state ≡ Running) × (h ≡ Good Strt)
unfolding notice_of
told-by l s h = by s.state refl h
  where
    by : (p : State) → s.state ≡ p → (h : Received) → TellsRestart (notice_by p l s h)
        → (s.state ≡ Running) × (h ≡ Good Strt)
    by Halted e (Good Strt) t = absurd (cc t)
    by Halted e (Good (Maint m)) t = absurd (cc t)
    by Halted e h t = absurd t
    by IStart e (Good Stack) t = absurd (cc t)
    by IStart e (Good (Maint m)) t = absurd (cc t)
    by IStart e h t = absurd t
    by AStart e (Good Stack) t = absurd (cc t)
    by AStart e (Good (Acked resp)) t = absurd (not-running (resp == 0) t)
    by AStart e (Good (Data resp num m)) t = absurd (not-started (resp == 0) (takes_data l s num) t)
    by AStart e (Good (Maint m)) t = absurd (cc t)
    by AStart e h t = absurd t
    by Running e (Good Strt) t = (e, refl)
    by Running e (Good (Acked resp)) t = absurd (not-told (newly_acknowledged s resp) t)
    by Running e (Good (Naked why resp)) t = absurd (not-told (newly_acknowledged s resp) t)
    by Running e (Good (Data resp num m)) t =
        absurd (not-data (takes_data l s num) (newly_acknowledged s resp) t)
    by Running e (Good (Maint m)) t = absurd (cc t)
    by Running e h t = absurd t
    by Maintenance e (Good Strt) t = absurd (cc t)
    by Maintenance e (Good (Maint m)) t = absurd (not-maintenance (has_room l s) t)
    by Maintenance e h t = absurd t

pub restart-told : (l : Limits) (s : StationState) (h : Received) (n : Notice)
    → notice_of l s h ≡ Some n → tells_restart n ≡ true
    → (s.state ≡ Running) × (h ≡ Good Strt)
restart-told l s h n e t = told-by l s h (by (notice_of l s h) e)
  where
    by : (o : Option Notice) → o ≡ Some n → TellsRestart o
    by None p = absurd (cc)
    by (Some m) p = let z : m ≡ n = cc in ap tells_restart z ∙ t

-- ---- states

pub stops : (l : Limits) (s : StationState) → (on l s (Good Strt)).state ≢ Running
unfolding on
stops l s = by s.state refl
  where
    at : (b : Bool) → (cond b (after_restart s) (after_halt s)).state ≡ Running → ⊥
    at true i = cc i
    at false i = cc i

    by : (p : State) → s.state ≡ p → (on_by p l s (Good Strt)).state ≡ Running → ⊥
    by Halted e i = let z = sym e ∙ i in cc
    by IStart e i = cc i
    by AStart e i = let z = sym e ∙ i in cc
    by Running e i = at (may_restart l s) i
    by Maintenance e i = let z = sym e ∙ i in cc

pub fault-stays : (l : Limits) (s : StationState) (h : Received) → is_fault h ≡ true
    → (on l s h).state ≡ s.state
unfolding on
fault-stays l s h f = by s.state h f
  where
    by : (p : State) (h : Received) → is_fault h ≡ true → (on_by p l s h).state ≡ s.state
    by p (Good f) g = absurd (cc)
    by Halted h g = refl
    by IStart h g = refl
    by AStart h g = refl
    by Running BadHeader g = refl
    by Running (BadData b) g = refl
    by Running (TooLong b) g = refl
    by Running BadFormat g = refl
    by Maintenance h g = refl
