-- What a station that starts hears, what is reported, and why calls are refused.
use Rattle.std.proofs.Common.{◌≡◌, ◌≢◌, ℕ, ◌≤◌, ◌<◌, ◌⊎◌, inl, inr, Bool, true, false, cond, List}
use Rattle.std.proofs.Common.{[]}
use Rattle.std.proofs.Common.{length, refl, sym, ap, ◌∙◌, subst, arith, Option, Some, None}
use Rattle.std.specs.Prelude.{◌==◌, ◌↔◌, Result, Ok, Err}
use Rattle.ddcmp_num.specs.declared.seq.Seq.{Seq}
use Rattle.ddcmp_window.specs.declared.sender.SendRefusal.{SendRefusal}
use Rattle.ddcmp_window.specs.declared.sender.SendRefusal.TheVariants as refusal
use Rattle.ddcmp_window.specs.Sender.{accept_refusal, answer_unless, number_accepted}
use Rattle.ddcmp_core.specs.declared.state.State.{State}
use Rattle.ddcmp_core.specs.declared.state.State.TheVariants.{Halted, IStart, AStart, Running}
use Rattle.ddcmp_core.specs.declared.state.State.TheVariants.{Maintenance}
use Rattle.ddcmp_core.specs.declared.state.Owed.TheVariants.{Ack}
use Rattle.ddcmp_core.specs.declared.state.Timer.TheVariants.{Off}
use Rattle.ddcmp_core.specs.declared.notice.Notice.{Notice}
use Rattle.ddcmp_core.specs.declared.notice.Notice.TheVariants as notice
use Rattle.ddcmp_core.specs.declared.station_core.StartRefusal.{StartRefusal}
use Rattle.ddcmp_core.specs.declared.station_core.StartRefusal.TheVariants.{NotHalted, Untaken}
use Rattle.ddcmp_core.specs.Table.{StationState, Limits, Data, Acked, Naked, Strt, Stack}
use Rattle.ddcmp_core.specs.Table.{Maint, Received, Good}
use Rattle.ddcmp_core.specs.Table.{newly_acknowledged, acknowledged_notice, takes_data, has_room}
use Rattle.ddcmp_core.specs.Table.{may_restart, on_data, after_startup, on_by, on, notice_by}
use Rattle.ddcmp_core.specs.Table.{notice_of}
use Rattle.ddcmp_core.specs.Table.{next_frame, next, is_starting, is_halted, is_running}
use Rattle.ddcmp_core.specs.Table.{is_maintenance, outgoing, answer_to_start, after_start}
use Rattle.ddcmp_core.specs.Table.{answer_to_send, answer_to_send_maintenance}
use Rattle.ddcmp_core.specs.Laws.{BeginsRunning}
use Rattle.ddcmp_laws.specs.Station.{IsGoodMaintenance, IsStartRefused, IsRefused}

-- ---- what is reported

-- a notice, if it is one of the three
abbrev pub one_of_three : Option Notice → Option Notice
one_of_three (Some notice.PeerStarts) = Some notice.PeerStarts
one_of_three (Some notice.MaintenanceSeen) = Some notice.MaintenanceSeen
one_of_three (Some notice.MaintenanceDropped) = Some notice.MaintenanceDropped
one_of_three _ = None

-- the one of the three that is due
abbrev pub reported : State → Bool → Received → Option Notice
reported Halted room (Good Strt) = Some notice.PeerStarts
reported Maintenance room (Good Strt) = Some notice.PeerStarts
reported Maintenance room (Good (Maint message)) =
    cond room None (Some notice.MaintenanceDropped)
reported Halted room (Good (Maint message)) = Some notice.MaintenanceSeen
reported IStart room (Good (Maint message)) = Some notice.MaintenanceSeen
reported AStart room (Good (Maint message)) = Some notice.MaintenanceSeen
reported Running room (Good (Maint message)) = Some notice.MaintenanceSeen
reported _ room _ = None

none_acknowledged : (m : ℕ) → one_of_three (acknowledged_notice m) ≡ None
none_acknowledged m = by (m == 0)
  where
    by : (b : Bool) → one_of_three (cond b None (Some (notice.Acknowledged m))) ≡ None
    by true = refl
    by false = refl

none_of_data : (c : Bool) (m : ℕ)
    → one_of_three
    (cond c (Some (cond (m == 0) notice.HandedUp (notice.HandedUpAndAcknowledged m)))
    (acknowledged_notice m)) ≡ None
none_of_data false m = none_acknowledged m
none_of_data true m = by (m == 0)
  where
    by : (b : Bool)
        → one_of_three (Some (cond b notice.HandedUp (notice.HandedUpAndAcknowledged m))) ≡ None
    by true = refl
    by false = refl

none_of_restart : (b : Bool) (m : ℕ)
    → one_of_three (Some (cond b (notice.Restarted m) notice.PeerRestarted)) ≡ None
none_of_restart true m = refl
none_of_restart false m = refl

none_of_startup : (b c : Bool)
    → one_of_three (cond b (Some (cond c notice.RunningAndHandedUp notice.Running)) None) ≡ None
none_of_startup true true = refl
none_of_startup true false = refl
none_of_startup false c = refl

none_of_running : (b : Bool) → one_of_three (cond b (Some notice.Running) None) ≡ None
none_of_running true = refl
none_of_running false = refl

of_maintenance : (b : Bool)
    → one_of_three (Some (cond b notice.MaintenanceHandedUp notice.MaintenanceDropped))
    ≡ cond b None (Some notice.MaintenanceDropped)
of_maintenance true = refl
of_maintenance false = refl

pub reports : (l : Limits) (s : StationState) (h : Received)
    → one_of_three (notice_of l s h) ≡ reported s.state (has_room l s) h
unfolding notice_of
reports l s h = by s.state h
  where
    by : (p : State) (h : Received)
        → one_of_three (notice_by p l s h) ≡ reported p (has_room l s) h
    by Halted (Good Strt) = refl
    by Halted (Good (Maint m)) = refl
    by Halted h = refl
    by IStart (Good Stack) = refl
    by IStart (Good (Maint m)) = refl
    by IStart h = refl
    by AStart (Good Stack) = refl
    by AStart (Good (Acked resp)) = none_of_running (resp == 0)
    by AStart (Good (Data resp num m)) = none_of_startup (resp == 0) (takes_data l s num)
    by AStart (Good (Maint m)) = refl
    by AStart h = refl
    by Running (Good Strt) = none_of_restart (may_restart l s) (length s.out)
    by Running (Good (Acked resp)) = none_acknowledged (newly_acknowledged s resp)
    by Running (Good (Naked why resp)) = none_acknowledged (newly_acknowledged s resp)
    by Running (Good (Data resp num m)) =
        none_of_data (takes_data l s num) (newly_acknowledged s resp)
    by Running (Good (Maint m)) = refl
    by Running h = refl
    by Maintenance (Good Strt) = refl
    by Maintenance (Good (Maint m)) = of_maintenance (has_room l s)
    by Maintenance h = refl

-- one of the three comes back
of_three : (o : Option Notice) (n : Notice) → one_of_three o ≡ Some n → o ≡ Some n
of_three (Some notice.PeerStarts) n e = e
of_three (Some notice.MaintenanceSeen) n e = e
of_three (Some notice.MaintenanceDropped) n e = e
of_three o n e = absurd (cc e)

pub peer_starts : (l : Limits) (s : StationState) (h : Received)
    → (notice_of l s h ≡ Some notice.PeerStarts)
    ↔ ((h ≡ Good Strt) × ((s.state ≡ Halted) ⊎ (s.state ≡ Maintenance)))
peer_starts l s h = (
  λ e. from s.state (has_room l s) h (sym (reports l s h) ∙ ap one_of_three e),
  λ d. of_three (notice_of l s h) notice.PeerStarts (reports l s h ∙ back s.state h d.0 d.1),
)
  where
    from : (p : State) (b : Bool) (h : Received) → reported p b h ≡ Some notice.PeerStarts
        → (h ≡ Good Strt) × ((p ≡ Halted) ⊎ (p ≡ Maintenance))
    from Halted b (Good Strt) e = (refl, inl refl)
    from Maintenance b (Good Strt) e = (refl, inr refl)
    from Maintenance true (Good (Maint m)) e = absurd (cc e)
    from Maintenance false (Good (Maint m)) e = absurd (cc e)
    from IStart b (Good (Maint m)) e = absurd (cc e)
    from AStart b (Good (Maint m)) e = absurd (cc e)
    from Running b (Good (Maint m)) e = absurd (cc e)
    from p b h e = absurd (cc e)

    back : (p : State) (h : Received) → h ≡ Good Strt → (p ≡ Halted) ⊎ (p ≡ Maintenance)
        → reported p (has_room l s) h ≡ Some notice.PeerStarts
    back p h e (inl f) =
        ap (λ x. reported p (has_room l s) x) e
        ∙ ap (λ q. reported q (has_room l s) (Good Strt)) f
    back p h e (inr f) =
        ap (λ x. reported p (has_room l s) x) e
        ∙ ap (λ q. reported q (has_room l s) (Good Strt)) f

pub maintenance_seen : (l : Limits) (s : StationState) (h : Received)
    → (notice_of l s h ≡ Some notice.MaintenanceSeen)
    ↔ (IsGoodMaintenance h × (s.state ≢ Maintenance))
maintenance_seen l s h = (
  λ e. from s.state (has_room l s) h (sym (reports l s h) ∙ ap one_of_three e),
  λ d. of_three (notice_of l s h) notice.MaintenanceSeen
      (reports l s h ∙ back s.state h d.0 d.1),
)
  where
    from : (p : State) (b : Bool) (h : Received) → reported p b h ≡ Some notice.MaintenanceSeen
        → IsGoodMaintenance h × (p ≢ Maintenance)
    from Halted b (Good (Maint m)) e = (tt, λ q. cc q)
    from IStart b (Good (Maint m)) e = (tt, λ q. cc q)
    from AStart b (Good (Maint m)) e = (tt, λ q. cc q)
    from Running b (Good (Maint m)) e = (tt, λ q. cc q)
    from Maintenance true (Good (Maint m)) e = absurd (cc e)
    from Maintenance false (Good (Maint m)) e = absurd (cc e)
    from p b h e = absurd (cc e)

    back : (p : State) (h : Received) → IsGoodMaintenance h → p ≢ Maintenance
        → reported p (has_room l s) h ≡ Some notice.MaintenanceSeen
    back Halted (Good (Maint m)) r w = refl
    back IStart (Good (Maint m)) r w = refl
    back AStart (Good (Maint m)) r w = refl
    back Running (Good (Maint m)) r w = refl
    back Maintenance (Good (Maint m)) r w = absurd (w refl)
    back p h r w = absurd r

pub maintenance_dropped : (l : Limits) (s : StationState) (h : Received)
    → (notice_of l s h ≡ Some notice.MaintenanceDropped)
    ↔ (IsGoodMaintenance h × (s.state ≡ Maintenance) × (l.room ≤ length s.inbox))
maintenance_dropped l s h = (
  λ e. from s.state (has_room l s) h refl (sym (reports l s h) ∙ ap one_of_three e),
  λ d. of_three (notice_of l s h) notice.MaintenanceDropped
      (reports l s h ∙ back s.state h d.0 d.1 d.2),
)
  where
    from : (p : State) (b : Bool) (h : Received) → has_room l s ≡ b
        → reported p b h ≡ Some notice.MaintenanceDropped
        → IsGoodMaintenance h × (p ≡ Maintenance) × (l.room ≤ length s.inbox)
    from Maintenance true (Good (Maint m)) f e = absurd (cc e)
    from Maintenance false (Good (Maint m)) f e = (tt, refl, grind (arith))
    from Halted b (Good (Maint m)) f e = absurd (cc e)
    from IStart b (Good (Maint m)) f e = absurd (cc e)
    from AStart b (Good (Maint m)) f e = absurd (cc e)
    from Running b (Good (Maint m)) f e = absurd (cc e)
    from p b h f e = absurd (cc e)

    full : l.room ≤ length s.inbox → has_room l s ≡ false
    full few = grind (arith)

    back : (p : State) (h : Received) → IsGoodMaintenance h → p ≡ Maintenance
        → l.room ≤ length s.inbox → reported p (has_room l s) h ≡ Some notice.MaintenanceDropped
    back p (Good (Maint m)) r e few =
        ap (λ q. reported q (has_room l s) (Good (Maint m))) e
        ∙ ap (λ b. cond b None (Some notice.MaintenanceDropped)) (full few)
    back p h r e few = absurd r

-- ---- refusals

pub starts_and_drops : (s : StationState) → s.state ≡ Halted → s.inbox ≡ []
    → (answer_to_start s ≡ Ok (length s.out)) × ((after_start s).out ≡ [])
starts_and_drops s e f = (
  ap
      (λ p. answer_unless
      (cond (is_halted p) (cond (length s.inbox == 0) None (Some Untaken)) (Some NotHalted))
      (length s.out)) e
      ∙ ap
      (λ (x : List (List ℕ)). answer_unless (cond (length x == 0) None (Some Untaken))
      (length s.out)) f,
  refl,
)

pub start_refused : (s : StationState) (why : StartRefusal) → IsStartRefused s why
    → answer_to_start s ≡ Err why
start_refused s NotHalted other = by s.state other
  where
    by : (p : State) → p ≢ Halted
        → answer_unless
        (cond (is_halted p) (cond (length s.inbox == 0) None (Some Untaken)) (Some NotHalted))
        (length s.out) ≡ Err NotHalted
    by Halted w = absurd (w refl)
    by IStart w = refl
    by AStart w = refl
    by Running w = refl
    by Maintenance w = refl
start_refused s Untaken (e, some) =
    ap
    (λ p. answer_unless
    (cond (is_halted p) (cond (length s.inbox == 0) None (Some Untaken)) (Some NotHalted))
    (length s.out)) e
    ∙ ap (λ b. answer_unless (cond b None (Some Untaken)) (length s.out))
    (waits (length s.inbox) some)
  where
    waits : (n : ℕ) → 0 < n → (n == 0) ≡ false
    waits n some = grind (arith)

-- of the reasons in a state for it
refusal_is : (l : Limits) (s : StationState) (message : List ℕ) (why : SendRefusal) (p : State)
    → IsRefused p l s message why → s.state ≡ p
    → accept_refusal l.window l.longest (outgoing s) message ≡ Some why
refusal_is l s message refusal.WrongState p other e = absurd (other e)
refusal_is l s message refusal.Empty p (f, none) e =
    ap (λ (x : List ℕ). accept_refusal l.window l.longest (outgoing s) x) none
refusal_is l s message refusal.TooLong p (f, many) e = grind (arith)
refusal_is l s message refusal.WindowFull p (f, some, few, full) e = grind (arith)

-- a refusal for another reason than the state comes in the state
state_known : (p : State) (l : Limits) (s : StationState) (message : List ℕ) (why : SendRefusal)
    → IsRefused p l s message why → (why ≡ refusal.WrongState) ⊎ (s.state ≡ p)
state_known p l s message refusal.WrongState is = inl refl
state_known p l s message refusal.Empty (e, none) = inr e
state_known p l s message refusal.TooLong (e, many) = inr e
state_known p l s message refusal.WindowFull (e, some, few, full) = inr e

in_wrong_state : (p : State) (l : Limits) (s : StationState) (message : List ℕ) (why : SendRefusal)
    → why ≡ refusal.WrongState → IsRefused p l s message why → s.state ≢ p
in_wrong_state p l s message why e is = subst (IsRefused p l s message) e is

pub send_refused : (l : Limits) (s : StationState) (message : List ℕ) (why : SendRefusal)
    → IsRefused Running l s message why → answer_to_send l s message ≡ Err why
send_refused l s message why is = by (state_known Running l s message why is)
  where
    answer : State → Option SendRefusal → Result Seq SendRefusal
    answer p o =
        answer_unless (cond (is_running p) o (Some refusal.WrongState))
        (number_accepted (outgoing s))

    other : (p : State) (o : Option SendRefusal) → p ≢ Running → answer p o ≡ Err refusal.WrongState
    other Halted o w = refl
    other IStart o w = refl
    other AStart o w = refl
    other Running o w = absurd (w refl)
    other Maintenance o w = refl

    kept : Option SendRefusal
    kept = accept_refusal l.window l.longest (outgoing s) message

    by : (why ≡ refusal.WrongState) ⊎ (s.state ≡ Running) → answer s.state kept ≡ Err why
    by (inl e) =
        other s.state kept (in_wrong_state Running l s message why e is)
        ∙ ap (λ x. Err x) (sym e)
    by (inr e) =
        ap (λ p. answer p kept) e ∙ ap (answer Running) (refusal_is l s message why Running is e)

pub send_maintenance_refused : (l : Limits) (s : StationState) (message : List ℕ)
    (why : SendRefusal) → IsRefused Maintenance l s message why
    → answer_to_send_maintenance l s message ≡ Err why
send_maintenance_refused l s message why is = by (state_known Maintenance l s message why is)
  where
    answer : State → Option SendRefusal → Result (Unit {0}) SendRefusal
    answer p o = answer_unless (cond (is_maintenance p) o (Some refusal.WrongState)) tt

    other : (p : State) (o : Option SendRefusal) → p ≢ Maintenance
        → answer p o ≡ Err refusal.WrongState
    other Halted o w = refl
    other IStart o w = refl
    other AStart o w = refl
    other Running o w = refl
    other Maintenance o w = absurd (w refl)

    kept : Option SendRefusal
    kept = accept_refusal l.window l.longest (outgoing s) message

    by : (why ≡ refusal.WrongState) ⊎ (s.state ≡ Maintenance) → answer s.state kept ≡ Err why
    by (inl e) =
        other s.state kept (in_wrong_state Maintenance l s message why e is)
        ∙ ap (λ x. Err x) (sym e)
    by (inr e) =
        ap (λ p. answer p kept) e
        ∙ ap (answer Maintenance) (refusal_is l s message why Maintenance is e)

-- ---- what a station that starts hears

pub strt_answered : (l : Limits) (s : StationState) → is_starting s.state ≡ true
    → next_frame (next (on l s (Good Strt))) ≡ Some Stack
unfolding on next
strt_answered l s is = by s.state refl is
  where
    by : (p : State) → s.state ≡ p → is_starting p ≡ true
        → next_frame (next (on_by p l s (Good Strt))) ≡ Some Stack
    by IStart e i = refl
    by AStart e i = ap (λ q. next_frame (next (record s { state = q; due = true }))) e
    by Halted e i = absurd (cc i)
    by Running e i = absurd (cc i)
    by Maintenance e i = absurd (cc i)

pub stack_begins : (l : Limits) (s : StationState) → is_starting s.state ≡ true
    → (on l s (Good Stack) ≡ record s { state = Running; due = false; reply = Ack; timer = Off })
    × (notice_of l s (Good Stack) ≡ Some notice.Running)
unfolding on notice_of
stack_begins l s is = by s.state is
  where
    by : (p : State) → is_starting p ≡ true
        → (on_by p l s (Good Stack)
        ≡ record s { state = Running; due = false; reply = Ack; timer = Off })
        × (notice_by p l s (Good Stack) ≡ Some notice.Running)
    by IStart i = (refl, refl)
    by AStart i = (refl, refl)
    by Halted i = absurd (cc i)
    by Running i = absurd (cc i)
    by Maintenance i = absurd (cc i)

pub ack_begins : (l : Limits) (s : StationState) → s.state ≡ AStart
    → (on l s (Good (Acked 0)) ≡ record s { state = Running; due = false; timer = Off })
    × (notice_of l s (Good (Acked 0)) ≡ Some notice.Running)
unfolding on notice_of
ack_begins l s e = (
  ap (λ p. on_by p l s (Good (Acked 0))) e,
  ap (λ p. notice_by p l s (Good (Acked 0))) e,
)

pub hears_nothing_else : (l : Limits) (s : StationState) (h : Received)
    → is_starting s.state ≡ true → h ≢ Good Strt → ¬ BeginsRunning s.state h → on l s h ≡ s
unfolding on
hears_nothing_else l s h is = by s.state h is
  where
    by : (p : State) (h : Received) → is_starting p ≡ true → h ≢ Good Strt → ¬ BeginsRunning p h
        → on_by p l s h ≡ s
    by IStart (Good Strt) i w n = absurd (w refl)
    by IStart (Good Stack) i w n = absurd (n tt)
    by IStart h i w n = refl
    by AStart (Good Strt) i w n = absurd (w refl)
    by AStart (Good Stack) i w n = absurd (n tt)
    by AStart (Good (Acked resp)) i w n = go (resp == 0) refl
      where
        go : (b : Bool) → (resp == 0) ≡ b → cond b (after_startup s) s ≡ s
        go true z = absurd (n (grind (arith)))
        go false z = refl
    by AStart (Good (Data resp num message)) i w n = go (resp == 0) refl
      where
        go : (b : Bool) → (resp == 0) ≡ b
            → cond b (on_data l (after_startup s) resp num message) s ≡ s
        go true z = absurd (n (grind (arith)))
        go false z = refl
    by AStart h i w n = refl
    by Halted h i w n = absurd (cc i)
    by Running h i w n = absurd (cc i)
    by Maintenance h i w n = absurd (cc i)
