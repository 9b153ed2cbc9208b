-- Each function of the table keeps the law of the timer.
use Rattle.std.proofs.Common.{◌≡◌, ℕ, ◌<◌, ◌⊎◌, inl, inr, Bool, true, false, cond, List, [], ◌∷◌}
use Rattle.std.proofs.Common.{◌++◌, refl, ap, ◌∙◌, arith}
use Rattle.std.specs.Prelude.{◌==◌, nat_lt}
use Rattle.ddcmp_window.specs.Numbers.{is_within, next_number}
use Rattle.ddcmp_window.specs.Sender.{outgoing_before_next}
use Rattle.ddcmp_core.specs.declared.state.State.{State}
use Rattle.ddcmp_core.specs.declared.state.State.TheVariants.{Halted, IStart, AStart, Running}
use Rattle.ddcmp_core.specs.declared.state.State.TheVariants.{Maintenance}
use Rattle.ddcmp_core.specs.declared.state.Owed.{Owed}
use Rattle.ddcmp_core.specs.declared.state.Owed.TheVariants.{Quiet}
use Rattle.ddcmp_core.specs.declared.state.Timer.{Timer}
use Rattle.ddcmp_core.specs.declared.state.Timer.TheVariants.{Off, Fresh, On}
use Rattle.ddcmp_core.specs.Table.{StationState, Limits, Data, Acked, Naked, Rep, Strt, Stack}
use Rattle.ddcmp_core.specs.Table.{Maint, Received, Good, BadHeader, BadData, TooLong, BadFormat}
use Rattle.ddcmp_core.specs.Table.{outgoing, newly_acknowledged, after_ack, after_offer, on_data}
use Rattle.ddcmp_core.specs.Table.{on_nak, on_by, on, after_startup, after_halt, after_restart}
use Rattle.ddcmp_core.specs.Table.{may_restart, on_strt, new_station, after_start}
use Rattle.ddcmp_core.specs.Table.{after_enter_maintenance, after_accept, after_take}
use Rattle.ddcmp_core.specs.Choosing.{after_choose}
use Rattle.ddcmp_core.specs.Table.{after_expire_in, after_expire_with, after_expire, is_fresh}
use Rattle.ddcmp_core.specs.Table.{after_take_arm, is_starting, Next, next, timer_started}
use Rattle.ddcmp_core.specs.Table.{after_next}
use Rattle.ddcmp_core.specs.Core.{IsTimed}
use Rattle.ddcmp_core.specs.NextFrame.{SentFor, sends_strt, sends_stack, sends_nak, sends_rep}
use Rattle.ddcmp_core.specs.NextFrame.{sends_data, sends_ack, sends_maint, halted_idles}
use Rattle.ddcmp_core.specs.NextFrame.{starting_idles, running_idles, maintenance_idles}
use Rattle.ddcmp_core.proofs.Sent.{sending}

-- a station that doesn't start, with a reason for its timer
other : (s : StationState) → is_starting s.state ≡ false
    → (s.state ≡ Running → s.timer ≡ Off → (s.a ≡ s.n) ⊎ ((s.rep ≡ true) ⊎ (s.t ≡ next_number s.a)))
    → IsTimed s
other s e w =
    record { waits = w; asks = λ p t. absurd (cc (p, e)); begins = λ p. absurd (cc (p, e)) }

starting_running : (s : StationState) → s.state ≡ Running → is_starting s.state ≡ false
starting_running s e = ap is_starting e

-- other replies, and other mail
timed_reply : (s : StationState) (reply : Owed) → IsTimed s → IsTimed (record s { reply = reply })
timed_reply s reply h = record { waits = h.waits; asks = h.asks; begins = h.begins }

timed_lists : (s : StationState) (out inbox : List (List ℕ)) → IsTimed s
    → IsTimed (record s { out = out; inbox = inbox })
timed_lists s out inbox h = record { waits = h.waits; asks = h.asks; begins = h.begins }

timer_left : (a n : ℕ) → cond (a == n) Off Fresh ≡ Off → a ≡ n
timer_left a n = by (a == n) refl
  where
    by : (b : Bool) → (a == n) ≡ b → cond b Off Fresh ≡ Off → a ≡ n
    by true e t = grind (arith)
    by false e t = absurd (cc t)

timed_acknowledging : (s : StationState) (q : ℕ) → s.state ≡ Running → IsTimed s
    → IsTimed (after_ack s q)
timed_acknowledging s q e h =
    other (after_ack s q) (starting_running s e) (waits (newly_acknowledged s q) refl)
  where
    by : (m : ℕ) → (b : Bool) → (m == 0) ≡ b → s.state ≡ Running
        → cond b s.timer (cond (q == s.n) Off Fresh) ≡ Off
        → (cond b s.a q ≡ s.n)
        ⊎ ((cond b s.rep false ≡ true)
        ⊎ (cond (nat_lt (outgoing_before_next (outgoing s)) m) (next_number q) s.t
        ≡ next_number (cond b s.a q)))
    by m false z p t = inl (timer_left q s.n t)
    by m true z p t = still (h.waits p t)
      where
        same : (b : Bool) → nat_lt (outgoing_before_next (outgoing s)) m ≡ b → s.t ≡ next_number s.a
            → cond b (next_number q) s.t ≡ next_number s.a
        same true l u =
            let none : m ≡ 0 = grind (arith) in
            let some : outgoing_before_next (outgoing s) < m = grind (arith) in
            absurd (omega (arith, none, some))
        same false l u = u

        still : (s.a ≡ s.n) ⊎ ((s.rep ≡ true) ⊎ (s.t ≡ next_number s.a))
            → (s.a ≡ s.n)
            ⊎ ((s.rep ≡ true)
            ⊎ (cond (nat_lt (outgoing_before_next (outgoing s)) m) (next_number q) s.t
            ≡ next_number s.a))
        still (inl a) = inl a
        still (inr (inl r)) = inr (inl r)
        still (inr (inr u)) = inr (inr (same (nat_lt (outgoing_before_next (outgoing s)) m) refl u))

    waits : (m : ℕ) → newly_acknowledged s q ≡ m → s.state ≡ Running → (after_ack s q).timer ≡ Off
        → ((after_ack s q).a ≡ s.n)
        ⊎ (((after_ack s q).rep ≡ true) ⊎ ((after_ack s q).t ≡ next_number (after_ack s q).a))
    waits m e p t = by (newly_acknowledged s q) (newly_acknowledged s q == 0) refl p t

timed_put : (l : Limits) (s : StationState) (num : ℕ) (message : List ℕ) → IsTimed s
    → IsTimed (after_offer l s num message)
timed_put l s num message h = record { waits = h.waits; asks = h.asks; begins = h.begins }

timed_data : (l : Limits) (s : StationState) (resp num : ℕ) (message : List ℕ) → s.state ≡ Running
    → IsTimed s → IsTimed (on_data l s resp num message)
timed_data l s resp num message e h =
    timed_put l (after_ack s resp) num message (timed_acknowledging s resp e h)

timed_nak : (s : StationState) (resp : ℕ) → s.state ≡ Running → IsTimed s → IsTimed (on_nak s resp)
timed_nak s resp e h = by (is_within s.a resp s.n)
  where
    by : (b : Bool)
        → IsTimed
        (cond b
        (record (after_ack s resp)
        { t = next_number (after_ack s resp).a; rep = false; timer = Off }) s)
    by true =
        let u = after_ack s resp in
        other (record u { t = next_number u.a; rep = false; timer = Off }) (starting_running s e)
        (λ p t. inr (inr refl))
    by false = h

timed_running : (s : StationState) → is_starting s.state ≡ true → IsTimed s
    → IsTimed (after_startup s)
timed_running s e h = other (after_startup s) refl (λ p t. inl (h.begins e))

pub timed_halted : (s : StationState) → IsTimed (after_halt s)
timed_halted s = other (after_halt s) refl (λ p t. absurd (cc p))

timed_strt : (l : Limits) (s : StationState) → IsTimed (on_strt l s)
timed_strt l s = by (may_restart l s)
  where
    by : (b : Bool) → IsTimed (cond b (after_restart s) (after_halt s))
    by true = record { waits = λ p t. absurd (cc p); asks = λ p t. refl; begins = λ p. refl }
    by false = timed_halted s

pub timed_on : (l : Limits) (s : StationState) (e : Received) → IsTimed s → IsTimed (on l s e)
unfolding on
timed_on l s e h = by s.state refl e
  where
    starting : (p : State) → s.state ≡ p → is_starting p ≡ true → is_starting s.state ≡ true
    starting p e f = ap is_starting e ∙ f

    runs : (reply : Owed) → is_starting s.state ≡ true
        → IsTimed (record s { state = Running; due = false; timer = Off; reply = reply })
    runs reply f = timed_reply (after_startup s) reply (timed_running s f h)

    by : (p : State) → s.state ≡ p → (e : Received) → IsTimed (on_by p l s e)
    by Halted e f = h
    by Maintenance e (Good (Maint message)) =
        record { waits = h.waits; asks = h.asks; begins = h.begins }
    by Maintenance e f = h
    by IStart e (Good Strt) =
        record {
          waits = λ p t. absurd (cc p);
          asks = λ p t. refl;
          begins = λ p. h.begins (starting IStart e refl);
        }
    by IStart e (Good Stack) = runs _ (starting IStart e refl)
    by IStart e f = h
    by AStart e (Good Strt) =
        record { waits = λ p t. absurd (cc (p, e)); asks = λ p t. refl; begins = h.begins }
    by AStart e (Good Stack) = runs _ (starting AStart e refl)
    by AStart e (Good (Acked resp)) = go (resp == 0)
      where
        go : (b : Bool) → IsTimed (cond b (after_startup s) s)
        go true = timed_running s (starting AStart e refl) h
        go false = h
    by AStart e (Good (Data resp num message)) = go (resp == 0)
      where
        go : (b : Bool) → IsTimed (cond b (on_data l (after_startup s) resp num message) s)
        go true =
            timed_data l (after_startup s) resp num message refl
            (timed_running s (starting AStart e refl) h)
        go false = h
    by AStart e f = h
    by Running e (Good (Data resp num message)) = timed_data l s resp num message e h
    by Running e (Good (Acked resp)) = timed_acknowledging s resp e h
    by Running e (Good (Naked why resp)) = timed_nak s resp e h
    by Running e (Good (Rep num)) = timed_reply s _ h
    by Running e (Good Strt) = timed_strt l s
    by Running e (Good Stack) = timed_reply s _ h
    by Running e (Good (Maint m)) = h
    by Running e BadHeader = timed_reply s _ h
    by Running e (BadData b) = timed_reply s _ h
    by Running e (TooLong b) = timed_reply s _ h
    by Running e BadFormat = timed_reply s _ h

-- a timer that is started
starting_not : (s : StationState) → s.state ≡ Running → is_starting s.state ≡ true → ⊥
starting_not s e f = let g = starting_running s e in cc (f, g)

timer_on : (t : Timer) → timer_started t ≡ Off → ⊥
timer_on Off e = cc e
timer_on Fresh e = cc e
timer_on On e = cc e

starts_timer : (s : StationState) (due : Bool) (n t : ℕ) (reply : Owed) (rep : Bool) (timer : Timer)
    → (timer ≡ Off → ⊥) → (is_starting s.state ≡ true → s.a ≡ n)
    → IsTimed (record s { due = due; n = n; t = t; reply = reply; rep = rep; timer = timer })
starts_timer s due n t reply rep timer on begins =
    record { waits = λ p o. absurd (on o); asks = λ p o. absurd (on o); begins = begins }

fresh_on : Fresh ≡ Off → ⊥
fresh_on e = cc e

timed_turn : (s : StationState) (t : Next) → SentFor s t → IsTimed s → IsTimed (after_next t s)
timed_turn s _ (sends_strt p d) h =
    starts_timer s false s.n s.t s.reply s.rep Fresh fresh_on h.begins
timed_turn s _ (sends_stack p d) h =
    starts_timer s false s.n s.t s.reply s.rep Fresh fresh_on h.begins
timed_turn s _ (sends_nak c p r) h = timed_reply s Quiet h
timed_turn s _ (sends_rep p r f) h =
    starts_timer s s.due s.n s.t s.reply false Fresh fresh_on h.begins
timed_turn s _ (sends_data p r f place) h =
    starts_timer s s.due (cond (s.t == next_number s.n) s.t s.n) (next_number s.t) Quiet s.rep
    (timer_started s.timer) (timer_on s.timer) (λ q. absurd (starting_not s p q))
timed_turn s _ (sends_ack p r f place) h = timed_reply s Quiet h
timed_turn s _ (sends_maint m ms p o) h = timed_lists s ms s.inbox h
timed_turn s _ (halted_idles p) h = h
timed_turn s _ (starting_idles p d) h = h
timed_turn s _ (running_idles p r f place) h = h
timed_turn s _ (maintenance_idles p o) h = h

pub timed_next : (s : StationState) → IsTimed s → IsTimed (after_next (next s) s)
timed_next s h = timed_turn s (next s) (sending s) h

-- the user's calls
pub timed_new : IsTimed new_station
timed_new = other new_station refl (λ p t. absurd (cc p))

pub timed_started : (s : StationState) → IsTimed (after_start s)
timed_started s = record { waits = λ p t. absurd (cc p); asks = λ p t. refl; begins = λ p. refl }

pub timed_in_maintenance : (s : StationState) → IsTimed (after_enter_maintenance s)
timed_in_maintenance s = other (after_enter_maintenance s) refl (λ p t. absurd (cc p))

pub timed_accepted : (s : StationState) (message : List ℕ) → IsTimed s
    → IsTimed (after_accept s message)
timed_accepted s message h = timed_lists s (s.out ++ message ∷ []) s.inbox h

pub timed_taken : (s : StationState) → IsTimed s → IsTimed (after_take s)
timed_taken s h = record { waits = h.waits; asks = h.asks; begins = h.begins }

pub timed_chosen : (s : StationState) (b : Bool) → IsTimed s → IsTimed (after_choose b s)
timed_chosen s b h = record { waits = h.waits; asks = h.asks; begins = h.begins }

pub timed_armed : (s : StationState) → IsTimed s → IsTimed (after_take_arm s)
timed_armed s h =
    record {
      waits = λ p t. h.waits p (off s.timer t);
      asks = λ p t. h.asks p (off s.timer t);
      begins = h.begins;
    }
  where
    off : (t : Timer) → cond (is_fresh t) On t ≡ Off → t ≡ Off
    off Off e = refl
    off Fresh e = absurd (cc e)
    off On e = absurd (cc e)

pub timed_expired : (s : StationState) → IsTimed s → IsTimed (after_expire s)
timed_expired s h = at s.timer
  where
    by : (p : State) → s.state ≡ p → IsTimed (after_expire_in p s)
    by Halted e = other (after_expire_in Halted s) (ap is_starting e) (λ p t. absurd (cc (p, e)))
    by IStart e =
        record { waits = λ p t. absurd (cc (p, e)); asks = λ p t. refl; begins = h.begins }
    by AStart e =
        record { waits = λ p t. absurd (cc (p, e)); asks = λ p t. refl; begins = h.begins }
    by Running e =
        other (after_expire_in Running s) (ap is_starting e) (λ p t. waits (s.a == s.n) refl)
      where
        waits : (b : Bool) → (s.a == s.n) ≡ b
            → (s.a ≡ s.n) ⊎ ((cond b s.rep true ≡ true) ⊎ (s.t ≡ next_number s.a))
        waits true d = inl (grind (arith))
        waits false d = inr (inl refl)
    by Maintenance e =
        other (after_expire_in Maintenance s) (ap is_starting e) (λ p t. absurd (cc (p, e)))

    at : (t : Timer) → IsTimed (after_expire_with t s)
    at Off = h
    at Fresh = by s.state refl
    at On = by s.state refl
