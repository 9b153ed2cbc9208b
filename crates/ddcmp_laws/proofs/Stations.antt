-- Whether a station knows already that its timer was started makes no difference.
use Rattle.std.proofs.Common.{◌≡◌, ℕ, Bool, true, false, cond, List, [], ◌∷◌, refl, sym, ◌∙◌, ap}
use Rattle.std.specs.Prelude.{◌==◌}
use Rattle.ddcmp_core.specs.declared.state.State.{State}
use Rattle.ddcmp_core.specs.declared.state.State.TheVariants.{Halted, IStart, AStart, Running}
use Rattle.ddcmp_core.specs.declared.state.State.TheVariants.{Maintenance}
use Rattle.ddcmp_core.specs.declared.state.Owed.{Owed}
use Rattle.ddcmp_core.specs.declared.state.Owed.TheVariants.{Quiet, Ack, Nak}
use Rattle.ddcmp_core.specs.declared.state.Timer.{Timer}
use Rattle.ddcmp_core.specs.declared.state.Timer.TheVariants.{Off, Fresh, On}
use Rattle.ddcmp_core.specs.declared.counters.Counters.{Counters}
use Rattle.ddcmp_core.specs.Numbers.{is_within, next_number}
use Rattle.ddcmp_core.specs.Table.{resp_of}
use Rattle.ddcmp_core.specs.Table.{Limits, StationState, Data, Acked, Naked, Rep, Strt, Stack}
use Rattle.ddcmp_core.specs.Table.{Maint, Received, Good, BadHeader, BadData, TooLong, BadFormat}
use Rattle.ddcmp_core.specs.Table.{newly_acknowledged, after_ack, on_data, on_nak, on_rep}
use Rattle.ddcmp_core.specs.Table.{on_istart, on_astart, on_running, on_maintenance, on_by, on}
use Rattle.ddcmp_core.specs.Table.{notice_by, notice_of, after_startup, Next, Idle, Sends}
use Rattle.ddcmp_core.specs.Table.{next_frame, after_next, timer_started, has_message}
use Rattle.ddcmp_core.specs.Table.{message_at_next, after_data, is_ack, next_running}
use Rattle.ddcmp_core.specs.Table.{next_maintenance, next_by, next, is_fresh, is_on}
use Rattle.ddcmp_core.specs.Table.{after_expire_in, after_expire_with, after_expire, after_take_arm}
use Rattle.ddcmp_core.specs.Table.{after_take, after_accept}
use Rattle.ddcmp_core.specs.Counting.{counters_by, counters_after_fault, counters_on}
use Rattle.ddcmp_core.specs.Counting.{counters_after_next, counters_after_expire}

abbrev pub note : Timer → Timer
note t = cond (is_fresh t) On t

note_again : (t : Timer) → note t ≡ note (note t)
note_again Off = refl
note_again Fresh = refl
note_again On = refl

note_if : (b : Bool) (t u : Timer) → note (cond b t u) ≡ note (cond b (note t) u)
note_if true t u = note_again t
note_if false t u = refl

note_started : (t : Timer) → note (timer_started t) ≡ note (timer_started (note t))
note_started Off = refl
note_started Fresh = refl
note_started On = refl

pub is_on_noted : (t : Timer) → is_on t ≡ is_on (note t)
is_on_noted Off = refl
is_on_noted Fresh = refl
is_on_noted On = refl

-- two timers that are the same once their start is noted
timers : (s : StationState) (t u : Timer) → note t ≡ note u
    → after_take_arm (record s { timer = t }) ≡ after_take_arm (record s { timer = u })
timers s t u e = ap (λ (x : Timer). record s { timer = x }) e

-- a call leaves the timer
stays : (s u : StationState)
    → after_take_arm (record u { timer = s.timer })
    ≡ after_take_arm (record u { timer = note s.timer })
stays s u = timers u s.timer (note s.timer) (note_again s.timer)

pub again : (s : StationState) → after_take_arm s ≡ after_take_arm (after_take_arm s)
again s = stays s s

-- ---- what comes

acknowledges : (s u : StationState) (q : ℕ) (off : Timer)
    → after_take_arm (record u { timer = cond (newly_acknowledged s q == 0) s.timer off })
    ≡ after_take_arm (record u { timer = cond (newly_acknowledged s q == 0) (note s.timer) off })
acknowledges s u q off =
    timers u (cond (newly_acknowledged s q == 0) s.timer off)
    (cond (newly_acknowledged s q == 0) (note s.timer) off)
    (note_if (newly_acknowledged s q == 0) s.timer off)

nak_armed : (s : StationState) (q : ℕ)
    → after_take_arm (on_nak s q) ≡ after_take_arm (on_nak (after_take_arm s) q)
nak_armed s q = by (is_within s.a q s.n)
  where
    by : (b : Bool)
        → after_take_arm
        (cond b
        (record (after_ack s q) { t = next_number (after_ack s q).a; rep = false; timer = Off }) s)
        ≡ after_take_arm
        (cond b
        (record (after_ack s q) { t = next_number (after_ack s q).a; rep = false; timer = Off })
        (after_take_arm s))
    by true = refl
    by false = again s

running_armed : (l : Limits) (s : StationState) (h : Received)
    → after_take_arm (on_running l s h) ≡ after_take_arm (on_running l (after_take_arm s) h)
running_armed l s (Good Strt) = refl
running_armed l s (Good Stack) = stays s (record s { reply = Ack })
running_armed l s (Good (Acked q)) = acknowledges s (after_ack s q) q (cond (q == s.n) Off Fresh)
running_armed l s (Good (Naked why q)) = nak_armed s q
running_armed l s (Good (Rep num)) = stays s (on_rep s num)
running_armed l s (Good (Data q num message)) =
    acknowledges s (on_data l s q num message) q (cond (q == s.n) Off Fresh)
running_armed l s (Good (Maint message)) = again s
running_armed l s BadHeader = stays s (on_running l s BadHeader)
running_armed l s (BadData of_data) = stays s (on_running l s (BadData of_data))
running_armed l s (TooLong of_data) = stays s (on_running l s (TooLong of_data))
running_armed l s BadFormat = stays s (on_running l s BadFormat)

istart_armed : (s : StationState) (h : Received)
    → after_take_arm (on_istart s h) ≡ after_take_arm (on_istart (after_take_arm s) h)
istart_armed s (Good Strt) = refl
istart_armed s (Good Stack) = refl
istart_armed s h = again s

astart_armed : (l : Limits) (s : StationState) (h : Received)
    → after_take_arm (on_astart l s h) ≡ after_take_arm (on_astart l (after_take_arm s) h)
astart_armed l s (Good Stack) = refl
astart_armed l s (Good Strt) = stays s (record s { due = true })
astart_armed l s (Good (Acked q)) = by (q == 0)
  where
    by : (b : Bool)
        → after_take_arm (cond b (after_startup s) s)
        ≡ after_take_arm (cond b (after_startup s) (after_take_arm s))
    by true = refl
    by false = again s
astart_armed l s (Good (Data q num message)) = by (q == 0)
  where
    by : (b : Bool)
        → after_take_arm (cond b (on_data l (after_startup s) q num message) s)
        ≡ after_take_arm (cond b (on_data l (after_startup s) q num message) (after_take_arm s))
    by true = refl
    by false = again s
astart_armed l s h = again s

maintenance_armed : (l : Limits) (s : StationState) (h : Received)
    → after_take_arm (on_maintenance l s h) ≡ after_take_arm (on_maintenance l (after_take_arm s) h)
maintenance_armed l s (Good (Maint message)) = stays s (on_maintenance l s (Good (Maint message)))
maintenance_armed l s h = again s

pub on_armed : (l : Limits) (s : StationState) (h : Received)
    → after_take_arm (on l s h) ≡ after_take_arm (on l (after_take_arm s) h)
unfolding on
on_armed l s h = by s.state
  where
    by : (p : State)
        → after_take_arm (on_by p l s h) ≡ after_take_arm (on_by p l (after_take_arm s) h)
    by Halted = again s
    by IStart = istart_armed s h
    by AStart = astart_armed l s h
    by Running = running_armed l s h
    by Maintenance = maintenance_armed l s h

pub notice_armed : (l : Limits) (s : StationState) (h : Received)
    → notice_of l s h ≡ notice_of l (after_take_arm s) h
unfolding notice_of
notice_armed l s h = by s.state h
  where
    by : (p : State) (h : Received) → notice_by p l s h ≡ notice_by p l (after_take_arm s) h
    by Halted h = refl
    by IStart h = refl
    by AStart (Good Stack) = refl
    by AStart (Good (Acked q)) = refl
    by AStart (Good (Data q num message)) = refl
    by AStart (Good (Maint message)) = refl
    by AStart h = refl
    by Running (Good Strt) = refl
    by Running (Good (Acked q)) = refl
    by Running (Good (Naked why q)) = refl
    by Running (Good (Data q num message)) = refl
    by Running (Good (Maint message)) = refl
    by Running h = refl
    by Maintenance (Good Strt) = refl
    by Maintenance (Good (Maint message)) = refl
    by Maintenance h = refl

pub counters_armed : (l : Limits) (s : StationState) (h : Received) (c : Counters)
    → counters_on l s h c ≡ counters_on l (after_take_arm s) h c
unfolding counters_on
counters_armed l s h c = by s.state h (counters_after_fault h c)
  where
    by : (p : State) (h : Received) (c : Counters)
        → counters_by p l s h c ≡ counters_by p l (after_take_arm s) h c
    by Halted h c = refl
    by IStart h c = refl
    by AStart (Good (Data q num message)) c = refl
    by AStart h c = refl
    by Running (Good (Naked why q)) c = refl
    by Running (Good (Rep num)) c = refl
    by Running (Good (Data q num message)) c = refl
    by Running h c = refl
    by Maintenance (Good (Maint message)) c = refl
    by Maintenance h c = refl

-- ---- what is sent

record SameNext (s : StationState) (a b : Next) : Type 0 where
  state : after_take_arm (after_next a s) ≡ after_take_arm (after_next b (after_take_arm s))
  frame : next_frame a ≡ next_frame b
  counts : (c : Counters) → counters_after_next s a c ≡ counters_after_next (after_take_arm s) b c

idles : (s : StationState) → SameNext s Idle Idle
unfolding counters_after_next
idles s = record { state = again s; frame = refl; counts = λ c. refl }

next_running_armed : (s : StationState) (reply : Owed)
    → SameNext s (next_running reply s) (next_running reply (after_take_arm s))
unfolding counters_after_next
next_running_armed s (Nak why) =
    record { state = stays s (record s { reply = Quiet }); frame = refl; counts = λ c. refl }
next_running_armed s reply = by s.rep (has_message s) (is_ack reply)
  where
    by : (b m a : Bool)
        → SameNext s
        (cond b (Sends (Rep s.n) (record s { rep = false; timer = Fresh }))
        (cond m (Sends (Data (resp_of s) s.t (message_at_next s)) (after_data s))
        (cond a (Sends (Acked (resp_of s)) (record s { reply = Quiet })) Idle)))
        (cond b (Sends (Rep s.n) (record s { rep = false; timer = Fresh }))
        (cond m (Sends (Data (resp_of s) s.t (message_at_next s)) (after_data (after_take_arm s)))
        (cond a (Sends (Acked (resp_of s)) (record (after_take_arm s) { reply = Quiet })) Idle)))
    by true m a = record { state = refl; frame = refl; counts = λ c. refl }
    by false true a =
        record {
          state = timers (after_data s) (timer_started s.timer)
              (timer_started (note s.timer)) (note_started s.timer);
          frame = refl;
          counts = λ c. refl;
        }
    by false false true =
        record { state = stays s (record s { reply = Quiet }); frame = refl; counts = λ c. refl }
    by false false false = idles s

starting_armed : (s : StationState) (b : Bool)
    → SameNext s (cond b (Sends Strt (record s { due = false; timer = Fresh })) Idle)
    (cond b (Sends Strt (record s { due = false; timer = Fresh })) Idle)
unfolding counters_after_next
starting_armed s true = record { state = refl; frame = refl; counts = λ c. refl }
starting_armed s false = idles s

acknowledging_armed : (s : StationState) (b : Bool)
    → SameNext s (cond b (Sends Stack (record s { due = false; timer = Fresh })) Idle)
    (cond b (Sends Stack (record s { due = false; timer = Fresh })) Idle)
unfolding counters_after_next
acknowledging_armed s true = record { state = refl; frame = refl; counts = λ c. refl }
acknowledging_armed s false = idles s

maintains_armed : (s : StationState) (out : List (List ℕ))
    → SameNext s (next_maintenance out s) (next_maintenance out (after_take_arm s))
unfolding counters_after_next
maintains_armed s [] = idles s
maintains_armed s (message ∷ rest) =
    record { state = stays s (record s { out = rest }); frame = refl; counts = λ c. refl }

next_armed_all : (s : StationState) → SameNext s (next s) (next (after_take_arm s))
unfolding next
next_armed_all s = by s.state
  where
    by : (p : State) → SameNext s (next_by p s) (next_by p (after_take_arm s))
    by Halted = idles s
    by IStart = starting_armed s s.due
    by AStart = acknowledging_armed s s.due
    by Running = next_running_armed s s.reply
    by Maintenance = maintains_armed s s.out

pub next_armed : (s : StationState)
    → after_take_arm (after_next (next s) s)
    ≡ after_take_arm (after_next (next (after_take_arm s)) (after_take_arm s))
next_armed s = (next_armed_all s).state

pub frame_armed : (s : StationState) → next_frame (next s) ≡ next_frame (next (after_take_arm s))
frame_armed s = (next_armed_all s).frame

pub sent_counts_armed : (s : StationState) (c : Counters)
    → counters_after_next s (next s) c
    ≡ counters_after_next (after_take_arm s) (next (after_take_arm s)) c
sent_counts_armed s c = (next_armed_all s).counts c

-- ---- the other calls

pub accept_armed : (s : StationState) (message : List ℕ)
    → after_take_arm (after_accept s message)
    ≡ after_take_arm (after_accept (after_take_arm s) message)
accept_armed s message = stays s (after_accept s message)

pub take_armed : (s : StationState)
    → after_take_arm (after_take s) ≡ after_take_arm (after_take (after_take_arm s))
take_armed s = stays s (after_take s)

expire_in_armed : (s : StationState) (p : State)
    → after_expire_in p s ≡ after_expire_in p (after_take_arm s)
expire_in_armed s Halted = refl
expire_in_armed s IStart = refl
expire_in_armed s AStart = refl
expire_in_armed s Running = refl
expire_in_armed s Maintenance = refl

pub expire_armed : (s : StationState)
    → after_take_arm (after_expire s) ≡ after_take_arm (after_expire (after_take_arm s))
expire_armed s = by s.timer
  where
    by : (t : Timer)
        → after_take_arm (after_expire_with t s)
        ≡ after_take_arm (after_expire_with (note t) (after_take_arm s))
    by Off = again s
    by Fresh = ap after_take_arm (expire_in_armed s s.state)
    by On = ap after_take_arm (expire_in_armed s s.state)

pub expired_counts_armed : (s : StationState) (c : Counters)
    → counters_after_expire s c ≡ counters_after_expire (after_take_arm s) c
expired_counts_armed s c = by s.timer
  where
    by : (t : Timer)
        → counters_after_expire (record s { timer = t }) c
        ≡ counters_after_expire (record s { timer = note t }) c
    by Off = refl
    by Fresh = refl
    by On = refl

-- ---- two stations that are the same but for that

pub same_by : (f : StationState → StationState)
    → ((s : StationState) → after_take_arm (f s) ≡ after_take_arm (f (after_take_arm s)))
    → (s t : StationState) → after_take_arm s ≡ after_take_arm t
    → after_take_arm (f s) ≡ after_take_arm (f t)
same_by f e s t same = e s ∙ ap (λ u. after_take_arm (f u)) same ∙ sym (e t)

pub value_by : {X : Type 0} (f : StationState → X)
    → ((s : StationState) → f s ≡ f (after_take_arm s)) → (s t : StationState)
    → after_take_arm s ≡ after_take_arm t → f s ≡ f t
value_by f e s t same = e s ∙ ap f same ∙ sym (e t)
