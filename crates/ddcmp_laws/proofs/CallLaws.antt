-- What holds of a station over many calls.
use Rattle.std.proofs.Common.{◌≡◌, ℕ, inl, inr, Bool, true, false, cond, List, [], ◌∷◌, ◌++◌}
use Rattle.std.proofs.Common.{length, drop, map, refl, sym, ap, ◌∙◌, subst, arith, append_assoc}
use Rattle.std.specs.Prelude.{◌==◌, nat_lt, option_to_list}
use Rattle.std.proofs.lemmas.List.{append-nil}
use Rattle.ddcmp_num.specs.Sequence.{distance}
use Rattle.ddcmp_window.specs.Numbers.{is_within}
use Rattle.ddcmp_core.specs.Store.{first_message}
use Rattle.ddcmp_core.specs.declared.state.State.TheVariants.{Running, Maintenance}
use Rattle.ddcmp_core.specs.declared.state.Timer.{Timer}
use Rattle.ddcmp_core.specs.declared.state.Timer.TheVariants.{Off, Fresh, On}
use Rattle.ddcmp_core.specs.Table.{StationState, Limits, Frame, Data, Acked, Naked, Rep, Strt}
use Rattle.ddcmp_core.specs.Table.{Stack, Maint, Received, Good, BadHeader, BadData, TooLong}
use Rattle.ddcmp_core.specs.Table.{BadFormat, newly_acknowledged, after_ack, on, Next, next}
use Rattle.ddcmp_core.specs.Table.{next_by, next_frame, next_maintenance, after_next, timer_started}
use Rattle.ddcmp_core.specs.Table.{is_fresh, after_accept, after_take, after_take_arm}
use Rattle.ddcmp_core.specs.Table.{after_expire_in, after_expire_with, after_expire, on_maintenance}
use Rattle.ddcmp_core.specs.Table.{may_send, may_send_maintenance}
use Rattle.ddcmp_core.specs.NextFrame.{SentFor, sends_strt, sends_stack, sends_nak, sends_rep}
use Rattle.ddcmp_core.specs.NextFrame.{sends_data, sends_ack, sends_maint, halted_idles}
use Rattle.ddcmp_core.specs.NextFrame.{starting_idles, running_idles, maintenance_idles}
use Rattle.ddcmp_core.proofs.Sent.{sending}
use Rattle.ddcmp_laws.specs.Calls.{Call, Sending, SendingMaintenance, Taking, Polling, Coming}
use Rattle.ddcmp_laws.specs.Calls.{Expiring, Arming, after_calls, accepted_in, sent_in, taken_in}
use Rattle.ddcmp_laws.specs.Calls.{maintenance_in, IsOrLost, SendsInOrder, HandsUpInOrder}
use Rattle.ddcmp_laws.specs.Calls.{LeavesUnanswered}
use Rattle.ddcmp_laws.specs.Station.{IsNoMaintenance}
use Rattle.ddcmp_laws.proofs.StationLaws.{running_on, in_maintenance, nothing_else_in_maintenance}

-- ---- the timer

record Waits (a : ℕ) (s : StationState) : Type 0 where
  running : s.state ≡ Running
  acknowledged : s.a ≡ a
  no_rep : s.rep ≡ false
  on_is : s.timer ≡ On

waits_as : (a : ℕ) (s u : StationState) → Waits a s → u.state ≡ s.state → u.a ≡ s.a → u.rep ≡ s.rep
    → u.timer ≡ s.timer → Waits a u
waits_as a s u w e f g h =
    record {
      running = e ∙ w.running;
      acknowledged = f ∙ w.acknowledged;
      no_rep = g ∙ w.no_rep;
      on_is = h ∙ w.on_is;
    }

none_new : (s : StationState) (a resp : ℕ) → s.a ≡ a → resp ≡ a → newly_acknowledged s resp ≡ 0
none_new s a resp e f = by (is_within s.a resp s.n)
  where
    by : (b : Bool) → cond b (distance s.a resp) 0 ≡ 0
    by true = omega (arith, e, f)
    by false = refl

waits_accept : (a : ℕ) (s : StationState) (message : List ℕ) (b : Bool) → Waits a s
    → Waits a (cond b (after_accept s message) s)
waits_accept a s message true w = waits_as a s (after_accept s message) w refl refl refl refl
waits_accept a s message false w = w

waits_next : (a : ℕ) (s : StationState) (t : Next) → SentFor s t → Waits a s
    → Waits a (after_next t s)
waits_next a s _ (sends_strt p d) w = absurd (cc (p, w.running))
waits_next a s _ (sends_stack p d) w = absurd (cc (p, w.running))
waits_next a s _ (sends_nak why p r) w = waits_as a s _ w refl refl refl refl
waits_next a s _ (sends_rep p r f) w = absurd (cc (f, w.no_rep))
waits_next a s _ (sends_data p r f place) w =
    waits_as a s _ w refl refl refl (ap timer_started w.on_is ∙ sym w.on_is)
waits_next a s _ (sends_ack p r f place) w = waits_as a s _ w refl refl refl refl
waits_next a s _ (sends_maint m ms p o) w = absurd (cc (p, w.running))
waits_next a s _ (halted_idles p) w = w
waits_next a s _ (starting_idles p d) w = w
waits_next a s _ (running_idles p r f place) w = w
waits_next a s _ (maintenance_idles p o) w = w

-- what comes, by the station after it
waits_row : (a : ℕ) (l : Limits) (s u : StationState) (h : Received) → Waits a s → on l s h ≡ u
    → u.state ≡ s.state → u.a ≡ s.a → u.rep ≡ s.rep → u.timer ≡ s.timer → Waits a (on l s h)
waits_row a l s u h w is e f g k = subst (Waits a) (sym is) (waits_as a s u w e f g k)

waits_response : (a : ℕ) (s u : StationState) (resp : ℕ) → Waits a s → resp ≡ a → u.state ≡ s.state
    → u.a ≡ (after_ack s resp).a → u.rep ≡ (after_ack s resp).rep
    → u.timer ≡ (after_ack s resp).timer → Waits a u
waits_response a s u resp w is e f g h =
    let z : (newly_acknowledged s resp == 0) ≡ true = let n = none_new s a resp w.acknowledged is in
    grind (arith) in
    waits_as a s u w e (f ∙ ap (λ b. cond b s.a resp) z) (g ∙ ap (λ b. cond b s.rep false) z)
    (h ∙ ap (λ b. cond b s.timer (cond (resp == s.n) Off Fresh)) z)

stays_on : (a : ℕ) (l : Limits) (calls : List Call) (s : StationState) → Waits a s
    → LeavesUnanswered a calls → (after_calls l calls s).timer ≡ On
unfolding after_calls
stays_on a l [] s w leaves = w.on_is
stays_on a l (Sending message ∷ rest) s w leaves =
    stays_on a l rest _ (waits_accept a s message (may_send l s message) w) leaves
stays_on a l (SendingMaintenance message ∷ rest) s w leaves =
    stays_on a l rest _ (waits_accept a s message (may_send_maintenance l s message) w) leaves
stays_on a l (Taking ∷ rest) s w leaves =
    stays_on a l rest _ (waits_as a s (after_take s) w refl refl refl refl) leaves
stays_on a l (Polling ∷ rest) s w leaves =
    stays_on a l rest _ (waits_next a s (next s) (sending s) w) leaves
stays_on a l (Arming ∷ rest) s w leaves =
    stays_on a l rest _
    (waits_as a s _ w refl refl refl (ap (λ t. cond (is_fresh t) On t) w.on_is ∙ sym w.on_is))
    leaves
stays_on a l (Expiring ∷ rest) s w leaves = absurd leaves
stays_on a l (Coming (Good (Acked resp)) ∷ rest) s w leaves =
    stays_on a l rest _
    (subst (Waits a) (sym (running_on l s (Good (Acked resp)) w.running))
    (waits_response a s (after_ack s resp) resp w leaves.0 refl refl refl refl)) leaves.1
stays_on a l (Coming (Good (Data resp num m)) ∷ rest) s w leaves =
    stays_on a l rest _
    (subst (Waits a) (sym (running_on l s (Good (Data resp num m)) w.running))
    (waits_response a s _ resp w leaves.0 refl refl refl refl)) leaves.1
stays_on a l (Coming (Good (Naked why resp)) ∷ rest) s w leaves = absurd leaves
stays_on a l (Coming (Good Strt) ∷ rest) s w leaves = absurd leaves
stays_on a l (Coming (Good (Rep num)) ∷ rest) s w leaves =
    stays_on a l rest _
    (waits_row a l s _ (Good (Rep num)) w (running_on l s (Good (Rep num)) w.running)
    refl refl refl refl) leaves
stays_on a l (Coming (Good Stack) ∷ rest) s w leaves =
    stays_on a l rest _
    (waits_row a l s _ (Good Stack) w (running_on l s (Good Stack) w.running) refl refl refl refl)
    leaves
stays_on a l (Coming (Good (Maint m)) ∷ rest) s w leaves =
    stays_on a l rest _
    (waits_row a l s _ (Good (Maint m)) w (running_on l s (Good (Maint m)) w.running)
    refl refl refl refl) leaves
stays_on a l (Coming BadHeader ∷ rest) s w leaves =
    stays_on a l rest _
    (waits_row a l s _ BadHeader w (running_on l s BadHeader w.running) refl refl refl refl) leaves
stays_on a l (Coming (BadData b) ∷ rest) s w leaves =
    stays_on a l rest _
    (waits_row a l s _ (BadData b) w (running_on l s (BadData b) w.running) refl refl refl refl)
    leaves
stays_on a l (Coming (TooLong b) ∷ rest) s w leaves =
    stays_on a l rest _
    (waits_row a l s _ (TooLong b) w (running_on l s (TooLong b) w.running) refl refl refl refl)
    leaves
stays_on a l (Coming BadFormat ∷ rest) s w leaves =
    stays_on a l rest _
    (waits_row a l s _ BadFormat w (running_on l s BadFormat w.running) refl refl refl refl) leaves

pub timer_stays_on : (l : Limits) (s : StationState) (calls : List Call) → s.state ≡ Running
    → s.rep ≡ false → s.timer ≡ On → LeavesUnanswered s.a calls → (after_calls l calls s).timer ≡ On
timer_stays_on l s calls e f g leaves =
    stays_on s.a l calls s (record { running = e; acknowledged = refl; no_rep = f; on_is = g })
    leaves

-- ---- maintenance

in_place : (l : Limits) (s : StationState) (h : Received) → s.state ≡ Maintenance
    → ((on l s h).state ≡ Maintenance) × ((on l s h).out ≡ s.out)
in_place l s h e =
    in_maintenance (λ u told. (u.state ≡ Maintenance) × (u.out ≡ s.out)) l s h e (by h)
  where
    by : (h : Received)
        → ((on_maintenance l s h).state ≡ Maintenance) × ((on_maintenance l s h).out ≡ s.out)
    by (Good (Acked resp)) = (e, refl)
    by (Good (Naked why resp)) = (e, refl)
    by (Good (Data resp num message)) = (e, refl)
    by (Good (Rep num)) = (e, refl)
    by (Good Strt) = (e, refl)
    by (Good Stack) = (e, refl)
    by (Good (Maint message)) = (e, refl)
    by BadHeader = (e, refl)
    by (BadData b) = (e, refl)
    by (TooLong b) = (e, refl)
    by BadFormat = (e, refl)

-- a timer that expires in Maintenance
expired_in : (s : StationState) → s.state ≡ Maintenance
    → ((after_expire s).state ≡ Maintenance)
    × (((after_expire s).out ≡ s.out) × ((after_expire s).inbox ≡ s.inbox))
expired_in s e = at s.timer
  where
    Same : StationState → Type 0
    Same u = (u.state ≡ Maintenance) × ((u.out ≡ s.out) × (u.inbox ≡ s.inbox))

    at : (t : Timer) → Same (after_expire_with t s)
    at Off = (e, (refl, refl))
    at Fresh = subst (λ p. Same (after_expire_in p s)) (sym e) (e, (refl, refl))
    at On = subst (λ p. Same (after_expire_in p s)) (sym e) (e, (refl, refl))

next_in : (s : StationState) → s.state ≡ Maintenance → next s ≡ next_maintenance s.out s
unfolding next
next_in s e = ap (λ p. next_by p s) e

accepting : (s : StationState) (message : List ℕ) (b : Bool) → s.state ≡ Maintenance
    → (cond b (after_accept s message) s).state ≡ Maintenance
accepting s message true e = e
accepting s message false e = e

-- what is accepted stands after what is to be sent
behind : (l : Limits) (rest : List Call) (s : StationState) (message : List ℕ) (b : Bool)
    (r : SendsInOrder l rest (cond b (after_accept s message) s))
    → r.messages ++ (after_calls l rest (cond b (after_accept s message) s)).out
    ≡ s.out
    ++ (cond b (message ∷ []) [] ++ accepted_in l rest (cond b (after_accept s message) s))
behind l rest s message true r =
    r.order ∙ append_assoc s.out (message ∷ []) (accepted_in l rest (after_accept s message))
behind l rest s message false r = r.order

-- the calls after a frame, or after none
abbrev SendsAfter : Limits → List Call → StationState → Next → Type 0
SendsAfter l rest s t =
    (messages : List (List ℕ))
    × ((option_to_list (next_frame t) ++ sent_in l rest (after_next t s)
    ≡ map (λ message. Maint message) messages)
    × (messages ++ (after_calls l rest (after_next t s)).out
    ≡ s.out ++ accepted_in l rest (after_next t s)))

polling : (l : Limits) (rest : List Call) (s : StationState) → s.state ≡ Maintenance
    → ((u : StationState) → u.state ≡ Maintenance → SendsInOrder l rest u)
    → (out : List (List ℕ)) → s.out ≡ out → SendsAfter l rest s (next_maintenance out s)
polling l rest s e on_from [] o = let r = on_from s e in (r.messages, (r.frames, r.order))
polling l rest s e on_from (m ∷ ms) o =
    let r = on_from (record s { out = ms }) e in
    let order =
    ap (λ (x : List (List ℕ)). m ∷ x) r.order
    ∙ ap (λ (x : List (List ℕ)). x ++ accepted_in l rest (record s { out = ms })) (sym o) in
    (m ∷ r.messages, (ap (λ (x : List Frame). Maint m ∷ x) r.frames, order))

pub sends_in_order : (l : Limits) (calls : List Call) (s : StationState) → s.state ≡ Maintenance
    → SendsInOrder l calls s
unfolding after_calls accepted_in sent_in
sends_in_order l [] s e = record { messages = []; frames = refl; order = sym (append-nil s.out) }
sends_in_order l (Sending message ∷ rest) s e =
    let r = sends_in_order l rest _ (accepting s message (may_send l s message) e) in
    record {
      messages = r.messages;
      frames = r.frames;
      order = behind l rest s message (may_send l s message) r;
    }
sends_in_order l (SendingMaintenance message ∷ rest) s e =
    let r = sends_in_order l rest _ (accepting s message (may_send_maintenance l s message) e) in
    record {
      messages = r.messages;
      frames = r.frames;
      order = behind l rest s message (may_send_maintenance l s message) r;
    }
sends_in_order l (Taking ∷ rest) s e =
    let r = sends_in_order l rest (after_take s) e in
    record { messages = r.messages; frames = r.frames; order = r.order }
sends_in_order l (Arming ∷ rest) s e =
    let r = sends_in_order l rest (after_take_arm s) e in
    record { messages = r.messages; frames = r.frames; order = r.order }
sends_in_order l (Expiring ∷ rest) s e =
    let k = expired_in s e in
    let r = sends_in_order l rest (after_expire s) k.0 in
    record {
      messages = r.messages;
      frames = r.frames;
      order =
          r.order ∙ ap (λ (x : List (List ℕ)). x ++ accepted_in l rest (after_expire s)) k.1.0;
    }
sends_in_order l (Coming h ∷ rest) s e =
    let k = in_place l s h e in
    let r = sends_in_order l rest (on l s h) k.0 in
    record {
      messages = r.messages;
      frames = r.frames;
      order = r.order ∙ ap (λ (x : List (List ℕ)). x ++ accepted_in l rest (on l s h)) k.1;
    }
sends_in_order l (Polling ∷ rest) s e =
    let r =
    subst (SendsAfter l rest s) (sym (next_in s e))
    (polling l rest s e (λ u f. sends_in_order l rest u f) s.out refl) in
    record { messages = r.0; frames = r.1.0; order = r.1.1 }

-- ---- what comes in Maintenance

accepted_inbox : (s : StationState) (message : List ℕ) (b : Bool)
    → (cond b (after_accept s message) s).inbox ≡ s.inbox
accepted_inbox s message true = refl
accepted_inbox s message false = refl

polled_inbox : (s : StationState) (out : List (List ℕ)) → s.state ≡ Maintenance
    → ((after_next (next_maintenance out s) s).state ≡ Maintenance)
    × ((after_next (next_maintenance out s) s).inbox ≡ s.inbox)
polled_inbox s [] e = (e, refl)
polled_inbox s (m ∷ ms) e = (e, refl)

first_and_rest : (inbox : List (List ℕ))
    → option_to_list (first_message inbox) ++ drop 1 inbox ≡ inbox
first_and_rest [] = refl
first_and_rest (m ∷ inbox) = refl

one_lost : (messages came : List (List ℕ)) (m : List ℕ) → IsOrLost messages came
    → IsOrLost messages (m ∷ came)
one_lost [] came m h = tt
one_lost (x ∷ messages) came m h = inr h

-- a call that leaves the mail, by a station after it
still : (l : Limits) (calls : List Call) (s u : StationState) → u.inbox ≡ s.inbox
    → (r : HandsUpInOrder l calls u)
    → taken_in l calls u ++ (after_calls l calls u).inbox ≡ s.inbox ++ r.messages
still l calls s u e r = r.handed_up ∙ ap (λ (x : List (List ℕ)). x ++ r.messages) e

-- a maintenance message, by whether there is room
abbrev put : StationState → List ℕ → Bool → StationState
put s message b = record s { inbox = cond b (s.inbox ++ message ∷ []) s.inbox }

came : (l : Limits) (rest : List Call) (s : StationState) (message : List ℕ) (b : Bool)
    → HandsUpInOrder l rest (put s message b)
    → (messages : List (List ℕ))
    × ((taken_in l rest (put s message b) ++ (after_calls l rest (put s message b)).inbox
    ≡ s.inbox ++ messages) × IsOrLost messages (message ∷ maintenance_in rest))
came l rest s message true r = (
  message
      ∷ r.messages,
  (r.handed_up ∙ append_assoc s.inbox (message ∷ []) r.messages, inl (refl, r.order)),
)
came l rest s message false r =
    (r.messages, (r.handed_up, one_lost r.messages (maintenance_in rest) message r.order))

put_on : (l : Limits) (s : StationState) (message : List ℕ) → s.state ≡ Maintenance
    → on l s (Good (Maint message)) ≡ put s message (nat_lt (length s.inbox) l.room)
put_on l s message e =
    in_maintenance (λ u told. u ≡ put s message (nat_lt (length s.inbox) l.room)) l s
    (Good (Maint message)) e refl

-- what comes and is no maintenance message
passed : (l : Limits) (s : StationState) (h : Received) → s.state ≡ Maintenance → IsNoMaintenance h
    → (on l s h).inbox ≡ s.inbox
passed l s h e is = ap (λ (u : StationState). u.inbox) (nothing_else_in_maintenance l s h e is)

pub hands_up_in_order : (l : Limits) (calls : List Call) (s : StationState) → s.state ≡ Maintenance
    → HandsUpInOrder l calls s
unfolding after_calls taken_in maintenance_in
hands_up_in_order l [] s e =
    record { messages = []; handed_up = sym (append-nil s.inbox); order = tt }
hands_up_in_order l (Sending message ∷ rest) s e =
    let r = hands_up_in_order l rest _ (accepting s message (may_send l s message) e) in
    record {
      messages = r.messages;
      handed_up =
          still l rest s _ (accepted_inbox s message (may_send l s message)) r;
      order = r.order;
    }
hands_up_in_order l (SendingMaintenance message ∷ rest) s e =
    let r = hands_up_in_order l rest _ (accepting s message (may_send_maintenance l s message) e) in
    record {
      messages = r.messages;
      handed_up =
          still l rest s _ (accepted_inbox s message (may_send_maintenance l s message)) r;
      order =
          r.order;
    }
hands_up_in_order l (Taking ∷ rest) s e =
    let r = hands_up_in_order l rest (after_take s) e in
    let first : List (List ℕ) = option_to_list (first_message s.inbox) in
    record {
      messages = r.messages;
      handed_up =
          append_assoc first (taken_in l rest (after_take s))
          (after_calls l rest (after_take s)).inbox
          ∙ ap (λ (x : List (List ℕ)). first ++ x) r.handed_up
          ∙ sym (append_assoc first (drop 1 s.inbox) r.messages)
          ∙ ap (λ (x : List (List ℕ)). x ++ r.messages) (first_and_rest s.inbox);
      order = r.order;
    }
hands_up_in_order l (Arming ∷ rest) s e =
    let r = hands_up_in_order l rest (after_take_arm s) e in
    record { messages = r.messages; handed_up = r.handed_up; order = r.order }
hands_up_in_order l (Expiring ∷ rest) s e =
    let k = expired_in s e in
    let r = hands_up_in_order l rest (after_expire s) k.0 in
    record { messages = r.messages; handed_up = still l rest s _ k.1.1 r; order = r.order }
hands_up_in_order l (Polling ∷ rest) s e =
    let k =
    subst (λ t. ((after_next t s).state ≡ Maintenance) × ((after_next t s).inbox ≡ s.inbox))
    (sym (next_in s e)) (polled_inbox s s.out e) in
    let r = hands_up_in_order l rest (after_next (next s) s) k.0 in
    record { messages = r.messages; handed_up = still l rest s _ k.1 r; order = r.order }
hands_up_in_order l (Coming (Good (Maint message)) ∷ rest) s e =
    let r =
    hands_up_in_order l rest (on l s (Good (Maint message)))
    (in_place l s (Good (Maint message)) e).0 in
    let is = put_on l s message e in
    let k =
    came l rest s message (nat_lt (length s.inbox) l.room) (subst (HandsUpInOrder l rest) is r)
    in
    record {
      messages = k.0;
      handed_up = ap (λ u. taken_in l rest u ++ (after_calls l rest u).inbox) is ∙ k.1.0;
      order = k.1.1;
    }
hands_up_in_order l (Coming (Good (Acked resp)) ∷ rest) s e =
    let r =
    hands_up_in_order l rest (on l s (Good (Acked resp)))
    (in_place l s (Good (Acked resp)) e).0 in
    record {
      messages = r.messages;
      handed_up = still l rest s _ (passed l s (Good (Acked resp)) e tt) r;
      order = r.order;
    }
hands_up_in_order l (Coming (Good (Naked why resp)) ∷ rest) s e =
    let r =
    hands_up_in_order l rest (on l s (Good (Naked why resp)))
    (in_place l s (Good (Naked why resp)) e).0 in
    record {
      messages = r.messages;
      handed_up = still l rest s _ (passed l s (Good (Naked why resp)) e tt) r;
      order = r.order;
    }
hands_up_in_order l (Coming (Good (Data resp num message)) ∷ rest) s e =
    let r =
    hands_up_in_order l rest (on l s (Good (Data resp num message)))
    (in_place l s (Good (Data resp num message)) e).0 in
    record {
      messages = r.messages;
      handed_up =
          still l rest s _ (passed l s (Good (Data resp num message)) e tt) r;
      order = r.order;
    }
hands_up_in_order l (Coming (Good (Rep num)) ∷ rest) s e =
    let r =
    hands_up_in_order l rest (on l s (Good (Rep num))) (in_place l s (Good (Rep num)) e).0 in
    record {
      messages = r.messages;
      handed_up = still l rest s _ (passed l s (Good (Rep num)) e tt) r;
      order = r.order;
    }
hands_up_in_order l (Coming (Good Strt) ∷ rest) s e =
    let r = hands_up_in_order l rest (on l s (Good Strt)) (in_place l s (Good Strt) e).0 in
    record {
      messages = r.messages;
      handed_up = still l rest s _ (passed l s (Good Strt) e tt) r;
      order = r.order;
    }
hands_up_in_order l (Coming (Good Stack) ∷ rest) s e =
    let r = hands_up_in_order l rest (on l s (Good Stack)) (in_place l s (Good Stack) e).0 in
    record {
      messages = r.messages;
      handed_up = still l rest s _ (passed l s (Good Stack) e tt) r;
      order = r.order;
    }
hands_up_in_order l (Coming BadHeader ∷ rest) s e =
    let r = hands_up_in_order l rest (on l s BadHeader) (in_place l s BadHeader e).0 in
    record {
      messages = r.messages;
      handed_up = still l rest s _ (passed l s BadHeader e tt) r;
      order = r.order;
    }
hands_up_in_order l (Coming (BadData b) ∷ rest) s e =
    let r = hands_up_in_order l rest (on l s (BadData b)) (in_place l s (BadData b) e).0 in
    record {
      messages = r.messages;
      handed_up = still l rest s _ (passed l s (BadData b) e tt) r;
      order = r.order;
    }
hands_up_in_order l (Coming (TooLong b) ∷ rest) s e =
    let r = hands_up_in_order l rest (on l s (TooLong b)) (in_place l s (TooLong b) e).0 in
    record {
      messages = r.messages;
      handed_up = still l rest s _ (passed l s (TooLong b) e tt) r;
      order = r.order;
    }
hands_up_in_order l (Coming BadFormat ∷ rest) s e =
    let r = hands_up_in_order l rest (on l s BadFormat) (in_place l s BadFormat e).0 in
    record {
      messages = r.messages;
      handed_up = still l rest s _ (passed l s BadFormat e tt) r;
      order = r.order;
    }
