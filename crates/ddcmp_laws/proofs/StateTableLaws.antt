-- A station's table is that of rows.
use Rattle.std.proofs.Common.{◌≡◌, ◌∙◌, Bool, true, false, List, [], ◌∷◌, ◌++◌, ℕ, drop, refl}
use Rattle.std.specs.Prelude.{◌&&◌, ◌==◌, if◌then◌else◌, nat_lt, not, length}
use Rattle.ddcmp_frame.specs.declared.nak.Nak.TheVariants as reason
use Rattle.ddcmp_window.specs.declared.inbox.Offer.TheVariants as offer
use Rattle.ddcmp_window.specs.Numbers.{is_within, next_number}
use Rattle.ddcmp_core.specs.declared.state.State.{State}
use Rattle.ddcmp_core.specs.declared.state.State.TheVariants.{Halted, IStart, AStart, Running}
use Rattle.ddcmp_core.specs.declared.state.State.TheVariants.{Maintenance}
use Rattle.ddcmp_core.specs.declared.state.Owed.{Owed}
use Rattle.ddcmp_core.specs.declared.state.Owed.TheVariants.{Quiet, Ack, Nak}
use Rattle.ddcmp_core.specs.Table.{Limits, StationState, Data, Acked, Naked, Rep, Strt}
use Rattle.ddcmp_core.specs.Table.{Stack, Maint, Received, Good, BadHeader, BadData, TooLong}
use Rattle.ddcmp_core.specs.Table.{BadFormat, Idle, Sends, on, on_by, next, next_by, after_ack}
use Rattle.ddcmp_core.specs.declared.state.Timer.{Timer}
use Rattle.ddcmp_core.specs.declared.state.Timer.TheVariants.{Off, Fresh, On}
use Rattle.ddcmp_core.specs.Table.{after_expire, after_expire_in, after_expire_with, after_halt}
use Rattle.ddcmp_core.specs.Table.{after_start, is_on}
use Rattle.ddcmp_core.specs.Table.{after_startup, next_maintenance, next_running, reply_to_offer}
use Rattle.ddcmp_laws.specs.StateTable.{Acknowledge, Action, Comes, Deliver, HandOver}
use Rattle.ddcmp_laws.specs.StateTable.{HaltRequested}
use Rattle.ddcmp_laws.specs.StateTable.{Input, OweNak, OweRep, StartRequested, StopTimer}
use Rattle.ddcmp_laws.specs.StateTable.{OweForMessage}
use Rattle.ddcmp_laws.specs.StateTable.{TimerExpires, act_all}
use Rattle.ddcmp_laws.specs.StateTable.{by_table, effects_in, next_by_table, run, state_table}
use Rattle.ddcmp_laws.specs.StateTable.{first_of, first_pending, has_some, order_of}

-- what is done under a condition
choose : (i : Input) (s : StationState) (b : Bool) (one two : List Action) {x y : StationState}
    → x ≡ act_all one i s → y ≡ act_all two i s
    → (if b then x else y) ≡ act_all (if b then one else two) i s
choose i s true one two e f = e
choose i s false one two e f = f

-- a message that is offered: its number is the next one, and there is a buffer
offered : (resp num : ℕ) (message : List ℕ) (s : StationState) (b c : Bool)
    → (let u = after_ack s resp in
    record u {
      r = if b && c then num else u.r;
      inbox = if b && c then u.inbox ++ message ∷ [] else u.inbox;
      reply = reply_to_offer u.by_user (if b then (if c then offer.Accepted else offer.NoRoom)
          else offer.OutOfSequence) u.reply;
    })
    ≡ act_all
    (if b && c then Acknowledge ∷ Deliver ∷ OweForMessage ∷ []
    else if b && not c then Acknowledge ∷ OweNak reason.NoBuffer ∷ [] else Acknowledge ∷ [])
    (Comes (Good (Data resp num message))) s
offered resp num message s true true = refl
offered resp num message s true false = refl
offered resp num message s false c = refl

-- the same of the first message, by which the handshake is complete if its RESP is 0
begun : (resp num : ℕ) (message : List ℕ) (s : StationState) (z b c : Bool)
    → (let u = after_ack (after_startup s) resp in
    if z
    then record u {
      r = if b && c then num else u.r;
      inbox = if b && c then u.inbox ++ message ∷ [] else u.inbox;
      reply = reply_to_offer u.by_user (if b then (if c then offer.Accepted else offer.NoRoom)
          else offer.OutOfSequence) u.reply;
    }
    else s)
    ≡ act_all
    (if z && (b && c) then run (Acknowledge ∷ Deliver ∷ OweForMessage ∷ [])
    else if z && (b && not c) then run (Acknowledge ∷ OweNak reason.NoBuffer ∷ [])
    else if z then run (Acknowledge ∷ []) else [])
    (Comes (Good (Data resp num message))) s
begun resp num message s true true true = refl
begun resp num message s true true false = refl
begun resp num message s true false c = refl
begun resp num message s false b c = refl

-- what is owed under a condition
owed : (i : Input) (s : StationState) (b : Bool) (x y : Owed) (one two : List Action)
    → ◌≡◌ {A = StationState} (record s { reply = x }) (act_all one i s)
    → ◌≡◌ {A = StationState} (record s { reply = y }) (act_all two i s)
    → ◌≡◌ {A = StationState} (record s { reply = if b then x else y })
    (act_all (if b then one else two) i s)
owed i s true x y one two e f = e
owed i s false x y one two e f = f

-- a maintenance message, if there is a buffer
put : (message : List ℕ) (s : StationState) (b : Bool)
    → ◌≡◌ {A = StationState}
    (record s { inbox = if b then s.inbox ++ message ∷ [] else s.inbox })
    (act_all (if b then HandOver ∷ [] else []) (Comes (Good (Maint message))) s)
put message s true = refl
put message s false = refl

received : (p : State) (l : Limits) (s : StationState) (h : Received)
    → on_by p l s h ≡ act_all (effects_in state_table p l s (Comes h)) (Comes h) s
received Halted l s (Good Strt) = refl
received Halted l s (Good Stack) = refl
received Halted l s (Good (Acked resp)) = refl
received Halted l s (Good (Naked why resp)) = refl
received Halted l s (Good (Rep num)) = refl
received Halted l s (Good (Data resp num message)) = refl
received Halted l s (Good (Maint message)) = refl
received Halted l s BadHeader = refl
received Halted l s (BadData of_data) = refl
received Halted l s (TooLong of_data) = refl
received Halted l s BadFormat = refl
received IStart l s (Good Strt) = refl
received IStart l s (Good Stack) = refl
received IStart l s (Good (Acked resp)) = refl
received IStart l s (Good (Naked why resp)) = refl
received IStart l s (Good (Rep num)) = refl
received IStart l s (Good (Data resp num message)) = refl
received IStart l s (Good (Maint message)) = refl
received IStart l s BadHeader = refl
received IStart l s (BadData of_data) = refl
received IStart l s (TooLong of_data) = refl
received IStart l s BadFormat = refl
received AStart l s (Good Strt) = refl
received AStart l s (Good Stack) = refl
received AStart l s (Good (Acked resp)) =
    choose (Comes (Good (Acked resp))) s (resp == 0) _ _ refl refl
received AStart l s (Good (Naked why resp)) = refl
received AStart l s (Good (Rep num)) = refl
received AStart l s (Good (Data resp num message)) =
    begun resp num message s (resp == 0) (num == next_number s.r)
    (nat_lt (length s.inbox) l.room)
received AStart l s (Good (Maint message)) = refl
received AStart l s BadHeader = refl
received AStart l s (BadData of_data) = refl
received AStart l s (TooLong of_data) = refl
received AStart l s BadFormat = refl
received Running l s (Good Strt) =
    choose (Comes (Good Strt)) s (l.restart && length s.inbox == 0) _ _ refl refl
received Running l s (Good Stack) = refl
received Running l s (Good (Acked resp)) = refl
received Running l s (Good (Naked why resp)) =
    choose (Comes (Good (Naked why resp))) s (is_within s.a resp s.n) _ _ refl refl
received Running l s (Good (Rep num)) =
    owed (Comes (Good (Rep num))) s (num == s.r) _ _ _ _ refl refl
received Running l s (Good (Data resp num message)) =
    offered resp num message s (num == next_number s.r) (nat_lt (length s.inbox) l.room)
received Running l s (Good (Maint message)) = refl
received Running l s BadHeader = refl
received Running l s (BadData of_data) =
    owed (Comes (BadData of_data)) s of_data _ _ _ _ refl refl
received Running l s (TooLong of_data) =
    owed (Comes (TooLong of_data)) s of_data _ _ _ _ refl refl
received Running l s BadFormat = refl
received Maintenance l s (Good Strt) = refl
received Maintenance l s (Good Stack) = refl
received Maintenance l s (Good (Acked resp)) = refl
received Maintenance l s (Good (Naked why resp)) = refl
received Maintenance l s (Good (Rep num)) = refl
received Maintenance l s (Good (Data resp num message)) = refl
received Maintenance l s (Good (Maint message)) = put message s (nat_lt (length s.inbox) l.room)
received Maintenance l s BadHeader = refl
received Maintenance l s (BadData of_data) = refl
received Maintenance l s (TooLong of_data) = refl
received Maintenance l s BadFormat = refl

pub receives : (l : Limits) (s : StationState) (h : Received) → on l s h ≡ by_table l s (Comes h)
unfolding on
receives l s h = received s.state l s h

halted : (p : State) (l : Limits) (s : StationState)
    → after_halt s ≡ act_all (effects_in state_table p l s HaltRequested) HaltRequested s
halted Halted l s = refl
halted IStart l s = refl
halted AStart l s = refl
halted Running l s = refl
halted Maintenance l s = refl

pub halts : (l : Limits) (s : StationState) → after_halt s ≡ by_table l s HaltRequested
halts l s = halted s.state l s

started : (p : State) (l : Limits) (s : StationState) → p ≡ Halted
    → after_start s ≡ act_all (effects_in state_table p l s StartRequested) StartRequested s
started Halted l s e = refl
started IStart l s e = cc
started AStart l s e = cc
started Running l s e = cc
started Maintenance l s e = cc

pub starts : (l : Limits) (s : StationState) → s.state ≡ Halted
    → after_start s ≡ by_table l s StartRequested
starts l s e = started s.state l s e

asks : (l : Limits) (s : StationState) (b : Bool)
    → ◌≡◌ {A = StationState} (record s { rep = if b then s.rep else true; timer = Off })
    (act_all (if not b then OweRep ∷ StopTimer ∷ [] else StopTimer ∷ []) TimerExpires s)
asks l s true = refl
asks l s false = refl

expired : (p : State) (l : Limits) (s : StationState)
    → after_expire_in p s ≡ act_all (effects_in state_table p l s TimerExpires) TimerExpires s
expired Halted l s = refl
expired IStart l s = refl
expired AStart l s = refl
expired Running l s = asks l s (s.a == s.n)
expired Maintenance l s = refl

on-timer : (t : Timer) (s : StationState) → is_on t ≡ true
    → after_expire_with t s ≡ after_expire_in s.state s
on-timer Off s e = cc
on-timer Fresh s e = refl
on-timer On s e = refl

pub expires : (l : Limits) (s : StationState) → is_on s.timer ≡ true
    → after_expire s ≡ by_table l s TimerExpires
expires l s e = on-timer s.timer s e ∙ expired s.state l s

-- a running station, by the reply that it owes
running : (reply : Owed) (s : StationState)
    → next_running reply s ≡ first_pending (order_of Running) Running reply s
running (Nak why) s = refl
running Ack s = refl
running Quiet s = refl

leaves : (out : List (List ℕ)) (reply : Owed) (s : StationState)
    → next_maintenance out s ≡ (if has_some out
    then Sends (Maint (first_of out)) (record s { out = drop 1 out }) else Idle)
leaves [] reply s = refl
leaves (message ∷ rest) reply s = refl

sent : (p : State) (s : StationState)
    → next_by p s ≡ first_pending (order_of p) p s.reply s
sent Halted s = refl
sent IStart s = refl
sent AStart s = refl
sent Running s = running s.reply s
sent Maintenance s = leaves s.out s.reply s

pub sends : (s : StationState) → next s ≡ next_by_table s
unfolding next
sends s = sent s.state s
