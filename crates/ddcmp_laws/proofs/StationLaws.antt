-- Each law of one station, by the rows of its table.
use Rattle.std.proofs.Common.{◌≡◌, ◌≢◌, ℕ, ◌+◌, ◌%◌, ◌<◌, ◌≤◌, ◌⊎◌, inl, inr, Bool, true, false}
use Rattle.std.proofs.Common.{cond, ◌&&◌, List, [], ◌∷◌, ◌++◌, length, drop, refl, sym, ap, ◌∙◌}
use Rattle.std.proofs.Common.{subst, arith, Option, Some, None}
use Rattle.std.specs.Prelude.{◌==◌, nat_lt}
use Rattle.ddcmp_num.specs.Sequence.{distance, Within}
use Rattle.ddcmp_frame.specs.declared.nak.Nak.{Nak as Reason}
use Rattle.ddcmp_frame.specs.declared.nak.Nak.TheVariants as reason
use Rattle.ddcmp_frame.specs.Naks.{subtype_of}
use Rattle.ddcmp_window.specs.Numbers.{is_within, next_number}
use Rattle.ddcmp_window.specs.declared.inbox.Offer.TheVariants as offer
use Rattle.ddcmp_core.specs.declared.state.State.{State}
use Rattle.ddcmp_core.specs.declared.state.State.TheVariants.{Halted, IStart, AStart, Running}
use Rattle.ddcmp_core.specs.declared.state.State.TheVariants.{Maintenance}
use Rattle.ddcmp_core.specs.declared.state.Owed.TheVariants.{Quiet, Ack, Nak}
use Rattle.ddcmp_core.specs.declared.state.Timer.{Timer}
use Rattle.ddcmp_core.specs.declared.state.Timer.TheVariants.{Off, Fresh, On}
use Rattle.ddcmp_core.specs.declared.notice.Notice.{Notice}
use Rattle.ddcmp_core.specs.declared.notice.Notice.TheVariants as notice
use Rattle.ddcmp_core.specs.Table.{StationState, Limits, Data, Acked, Naked, Rep, Strt, Stack}
use Rattle.ddcmp_core.specs.Table.{Maint, Received, Good, BadHeader, BadData, TooLong, BadFormat}
use Rattle.ddcmp_core.specs.Table.{newly_acknowledged, after_ack, acknowledged_notice}
use Rattle.ddcmp_core.specs.Table.{Frame, before_next, after_offer, resp_of}
use Rattle.ddcmp_core.specs.Table.{acknowledged_by, reply_to_offer, on_data, data_notice, on_nak}
use Rattle.ddcmp_core.specs.Table.{may_restart, after_restart, after_halt, on_maintenance}
use Rattle.ddcmp_core.specs.Table.{maintenance_notice, on_running, running_notice, takes_data}
use Rattle.ddcmp_core.specs.Table.{after_startup, on_astart, astart_notice, on_by, on, notice_by}
use Rattle.ddcmp_core.specs.Table.{notice_of, Next, Idle, Sends, next_frame, next_by, next_running}
use Rattle.ddcmp_core.specs.Table.{next_maintenance, next, timer_started, after_expire_in}
use Rattle.ddcmp_core.specs.Table.{after_expire_with, after_expire, is_running}
use Rattle.ddcmp_core.specs.Table.{owed_after_message}
use Rattle.ddcmp_core.specs.NextFrame.{SentFor, sends_strt, sends_stack, sends_nak, sends_rep}
use Rattle.ddcmp_core.specs.NextFrame.{sends_data, sends_ack, sends_maint, halted_idles}
use Rattle.ddcmp_core.specs.NextFrame.{starting_idles, running_idles, maintenance_idles}
use Rattle.ddcmp_core.proofs.Sent.{sending}
use Rattle.ddcmp_core.proofs.Taken.{owed_taken, some_more}
use Rattle.ddcmp_core.proofs.ToldLaws.{number_told, number_told_data}
use Rattle.ddcmp_laws.specs.Station.{Responds, Acknowledges, OnlyResponds, AcknowledgesUpTo}
use Rattle.ddcmp_laws.specs.Station.{AcknowledgesNothing, tells_mail, HandsUp, HandsUpNothing}
use Rattle.ddcmp_laws.specs.Station.{IsNoMessage, IsMaintenance, IsNoMaintenance, CallsFor}
use Rattle.ddcmp_laws.specs.Station.{SendsNak, BeginsAnew, HaltsAtRestart, WantsAnswer}

-- ---- a state that is known

pub deaf : (l : Limits) (s : StationState) (h : Received) → s.state ≡ Halted → on l s h ≡ s
unfolding on
deaf l s h e = ap (λ p. on_by p l s h) e

pub dumb : (s : StationState) → s.state ≡ Halted → next s ≡ Idle
unfolding next
dumb s e = ap (λ p. next_by p s) e

while_running : (P : StationState → Option Notice → Type 0) (l : Limits) (s : StationState)
    (h : Received) → s.state ≡ Running → P (on_running l s h) (running_notice l s h)
    → P (on l s h) (notice_of l s h)
unfolding on notice_of
while_running P l s h e x = subst (λ p. P (on_by p l s h) (notice_by p l s h)) (sym e) x

pub running_on : (l : Limits) (s : StationState) (h : Received) → s.state ≡ Running
    → on l s h ≡ on_running l s h
unfolding on
running_on l s h e = ap (λ p. on_by p l s h) e

-- ---- acknowledgements

is_within_true : (a q n : ℕ) → Within a q n → is_within a q n ≡ true
is_within_true a q n w = grind (arith)

is_within_false : (a q n : ℕ) → ¬ Within a q n → is_within a q n ≡ false
is_within_false a q n w = by (is_within a q n) refl
  where
    by : (b : Bool) → is_within a q n ≡ b → b ≡ false
    by true e = absurd (w (grind (arith)))
    by false e = refl

count_by_test : (s : StationState) (q : ℕ) (b : Bool) → is_within s.a q s.n ≡ b
    → newly_acknowledged s q ≡ cond b (distance s.a q) 0
count_by_test s q b e = ap (λ x. cond x (distance s.a q) 0) e

last_acknowledged : (a q m : ℕ) → m ≡ distance a q → a < 256 → q < 256 → (b : Bool) → (m == 0) ≡ b
    → cond b a q ≡ q
last_acknowledged a q m d ha hq true e = let z : m ≡ 0 = grind (arith) in omega (arith, d, z)
last_acknowledged a q m d ha hq false e = refl

up_to : (s : StationState) (q : ℕ) (told : Option Notice) → s.a < 256 → q < 256 → Within s.a q s.n
    → acknowledged_by told ≡ newly_acknowledged s q → AcknowledgesUpTo q s (after_ack s q) told
up_to s q told ha hq w e =
    let c = count_by_test s q true (is_within_true s.a q s.n w) in
    record {
      a =
          last_acknowledged s.a q (newly_acknowledged s q) c ha hq (newly_acknowledged s q == 0)
          refl;
      n = refl;
      out = ap (λ m. drop m s.out) c;
      told = e ∙ c;
    }

none_more : (s : StationState) (q : ℕ) (told : Option Notice) → ¬ Within s.a q s.n
    → acknowledged_by told ≡ newly_acknowledged s q → AcknowledgesNothing s (after_ack s q) told
none_more s q told w e =
    let c = count_by_test s q false (is_within_false s.a q s.n w) in
    record {
      a = ap (λ m. cond (m == 0) s.a q) c;
      n = refl;
      out = ap (λ m. drop m s.out) c;
      told = e ∙ c;
    }

abbrev pub nak_by : StationState → ℕ → Bool → StationState
nak_by s q b =
    cond b (record (after_ack s q) { t = next_number (after_ack s q).a; rep = false; timer = Off })
    s

pub acknowledges : (l : Limits) (s : StationState) (h : Received) (q : ℕ) → s.state ≡ Running
    → s.a < 256 → q < 256 → Responds h q → Within s.a q s.n
    → AcknowledgesUpTo q s (on l s h) (notice_of l s h)
acknowledges l s h q e ha hq responds w =
    while_running (AcknowledgesUpTo q s) l s h e (by h responds)
  where
    ack : AcknowledgesUpTo q s (after_ack s q) (acknowledged_notice (newly_acknowledged s q))
    ack =
        up_to s q (acknowledged_notice (newly_acknowledged s q)) ha hq w
        (number_told (newly_acknowledged s q))

    nak : AcknowledgesUpTo q s (on_nak s q) (acknowledged_notice (newly_acknowledged s q))
    nak =
        subst
        (λ b. AcknowledgesUpTo q s (nak_by s q b) (acknowledged_notice (newly_acknowledged s q)))
        (sym (is_within_true s.a q s.n w))
        (record { a = ack.a; n = ack.n; out = ack.out; told = ack.told })

    message_row : (num : ℕ) (message : List ℕ)
        → AcknowledgesUpTo q s (on_data l s q num message) (data_notice l s q num)
    message_row num message =
        let k = up_to s q (data_notice l s q num) ha hq w (number_told_data l s q num) in
        record { a = k.a; n = k.n; out = k.out; told = k.told }

    by : (h : Received) → Responds h q
        → AcknowledgesUpTo q s (on_running l s h) (running_notice l s h)
    by (Good (Acked resp)) r =
        subst
        (λ x. AcknowledgesUpTo q s (after_ack s x) (acknowledged_notice (newly_acknowledged s x)))
        (sym r) ack
    by (Good (Naked why resp)) r =
        subst
        (λ x. AcknowledgesUpTo q s (on_nak s x) (acknowledged_notice (newly_acknowledged s x)))
        (sym r) nak
    by (Good (Data resp num message)) r =
        subst (λ x. AcknowledgesUpTo q s (on_data l s x num message) (data_notice l s x num))
        (sym r) (message_row num message)
    by (Good (Rep num)) r = absurd r
    by (Good Strt) r = absurd r
    by (Good Stack) r = absurd r
    by (Good (Maint message)) r = absurd r
    by BadHeader r = absurd r
    by (BadData b) r = absurd r
    by (TooLong b) r = absurd r
    by BadFormat r = absurd r

pub passes_over : (l : Limits) (s : StationState) (h : Received) (q : ℕ) → s.state ≡ Running
    → Responds h q → ¬ Within s.a q s.n
    → AcknowledgesNothing s (on l s h) (notice_of l s h)
passes_over l s h q e responds w = while_running (AcknowledgesNothing s) l s h e (by h responds)
  where
    ack : AcknowledgesNothing s (after_ack s q) (acknowledged_notice (newly_acknowledged s q))
    ack =
        none_more s q (acknowledged_notice (newly_acknowledged s q)) w
        (number_told (newly_acknowledged s q))

    nak : AcknowledgesNothing s (on_nak s q) (acknowledged_notice (newly_acknowledged s q))
    nak =
        subst
        (λ b. AcknowledgesNothing s (nak_by s q b) (acknowledged_notice (newly_acknowledged s q)))
        (sym (is_within_false s.a q s.n w))
        (record { a = refl; n = refl; out = refl; told = ack.told })

    message_row : (num : ℕ) (message : List ℕ)
        → AcknowledgesNothing s (on_data l s q num message) (data_notice l s q num)
    message_row num message =
        let k = none_more s q (data_notice l s q num) w (number_told_data l s q num) in
        record { a = k.a; n = k.n; out = k.out; told = k.told }

    by : (h : Received) → Responds h q
        → AcknowledgesNothing s (on_running l s h) (running_notice l s h)
    by (Good (Acked resp)) r =
        subst
        (λ x. AcknowledgesNothing s (after_ack s x) (acknowledged_notice (newly_acknowledged s x)))
        (sym r) ack
    by (Good (Naked why resp)) r =
        subst
        (λ x. AcknowledgesNothing s (on_nak s x) (acknowledged_notice (newly_acknowledged s x)))
        (sym r) nak
    by (Good (Data resp num message)) r =
        subst (λ x. AcknowledgesNothing s (on_data l s x num message) (data_notice l s x num))
        (sym r) (message_row num message)
    by (Good (Rep num)) r = absurd r
    by (Good Strt) r = absurd r
    by (Good Stack) r = absurd r
    by (Good (Maint message)) r = absurd r
    by BadHeader r = absurd r
    by (BadData b) r = absurd r
    by (TooLong b) r = absurd r
    by BadFormat r = absurd r

-- a station after an acknowledgement of q, by the number of messages that it acknowledges
abbrev pub ack_of : StationState → ℕ → ℕ → StationState
ack_of s q m =
    record s {
      a = cond (m == 0) s.a q;
      t = cond (nat_lt (before_next s) m) (next_number q) s.t;
      out = drop m s.out;
      rep = cond (m == 0) s.rep false;
      timer = cond (m == 0) s.timer (cond (q == s.n) Off Fresh);
    }

none_before : (k : ℕ) → nat_lt k 0 ≡ false
none_before k = grind (arith)

unchanged : (s : StationState) (q : ℕ) → newly_acknowledged s q ≡ 0 → after_ack s q ≡ s
unchanged s q none =
    ap (ack_of s q) none
    ∙ ap (λ b. record s { t = cond b (next_number q) s.t }) (none_before (before_next s))

pub ignores : (l : Limits) (s : StationState) (h : Received) (q : ℕ) → s.state ≡ Running
    → OnlyResponds h q → ¬ Within s.a q s.n → (on l s h ≡ s) × (notice_of l s h ≡ None)
ignores l s h q e responds w =
    while_running (λ u told. (u ≡ s) × (told ≡ None)) l s h e (by h responds)
  where
    none : newly_acknowledged s q ≡ 0
    none = count_by_test s q false (is_within_false s.a q s.n w)

    untold : acknowledged_notice (newly_acknowledged s q) ≡ None
    untold = ap acknowledged_notice none

    by : (h : Received) → OnlyResponds h q
        → (on_running l s h ≡ s) × (running_notice l s h ≡ None)
    by (Good (Acked resp)) r =
        subst (λ x. (after_ack s x ≡ s) × (acknowledged_notice (newly_acknowledged s x) ≡ None))
        (sym r) (unchanged s q none, untold)
    by (Good (Naked why resp)) r =
        subst (λ x. (on_nak s x ≡ s) × (acknowledged_notice (newly_acknowledged s x) ≡ None))
        (sym r)
        (subst (λ b. nak_by s q b ≡ s) (sym (is_within_false s.a q s.n w)) refl, untold)
    by (Good (Data resp num message)) r = absurd r
    by (Good (Rep num)) r = absurd r
    by (Good Strt) r = absurd r
    by (Good Stack) r = absurd r
    by (Good (Maint message)) r = absurd r
    by BadHeader r = absurd r
    by (BadData b) r = absurd r
    by (TooLong b) r = absurd r
    by BadFormat r = absurd r

within_itself : (a n : ℕ) → is_within a a n ≡ true
within_itself a n =
    is_within_true a a n (let z : distance a a ≡ 0 = omega arith in omega (arith, z))

-- nothing is acknowledged: that is RESP A
pub receives_as_a : (l : Limits) (s : StationState) (q num : ℕ) (message : List ℕ)
    → s.state ≡ Running → ¬ Within s.a q s.n
    → on l s (Good (Data q num message)) ≡ on l s (Good (Data s.a num message))
receives_as_a l s q num message e w =
    running_on l s (Good (Data q num message)) e
    ∙ ap (λ u. after_offer l u num message) (unchanged s q none ∙ sym (unchanged s s.a own))
    ∙ sym (running_on l s (Good (Data s.a num message)) e)
  where
    none : newly_acknowledged s q ≡ 0
    none = count_by_test s q false (is_within_false s.a q s.n w)

    own : newly_acknowledged s s.a ≡ 0
    own =
        count_by_test s s.a true (within_itself s.a s.n)
        ∙ (let z : distance s.a s.a ≡ 0 = omega arith in z)

-- ---- messages that come

no_mail : (m : ℕ) → tells_mail (acknowledged_notice m) ≡ false
no_mail m = by (m == 0)
  where
    by : (b : Bool) → tells_mail (cond b None (Some (notice.Acknowledged m))) ≡ false
    by true = refl
    by false = refl

some_mail : (m : ℕ) (b : Bool)
    → tells_mail (Some (cond b notice.HandedUp (notice.HandedUpAndAcknowledged m))) ≡ true
some_mail m true = refl
some_mail m false = refl

-- a running station after a data message, by the two tests of its number and of the room
abbrev data_by : StationState → ℕ → ℕ → List ℕ → Bool → Bool → StationState
data_by s resp num message b c =
    record (after_ack s resp) {
      r = cond (b && c) num s.r;
      inbox = cond (b && c) (s.inbox ++ message ∷ []) s.inbox;
      reply =
          reply_to_offer s.by_user
          (cond b (cond c offer.Accepted offer.NoRoom) offer.OutOfSequence) s.reply;
    }

abbrev notice_by_tests : StationState → ℕ → Bool → Bool → Option Notice
notice_by_tests s resp b c =
    cond (b && c)
    (Some
    (cond (newly_acknowledged s resp == 0) notice.HandedUp
    (notice.HandedUpAndAcknowledged (newly_acknowledged s resp))))
    (acknowledged_notice (newly_acknowledged s resp))

by_tests : (P : StationState → Option Notice → Type 0) (l : Limits) (s : StationState)
    (resp num : ℕ) (message : List ℕ) (b c : Bool)
    → s.state ≡ Running → (num == next_number s.r) ≡ b → nat_lt (length s.inbox) l.room ≡ c
    → P (data_by s resp num message b c) (notice_by_tests s resp b c)
    → P (on l s (Good (Data resp num message))) (notice_of l s (Good (Data resp num message)))
by_tests P l s resp num message b c e eb ec x =
    let second =
    subst (λ y. P (data_by s resp num message b y) (notice_by_tests s resp b y)) (sym ec) x in
    let first =
    subst
    (λ y. P (data_by s resp num message y (nat_lt (length s.inbox) l.room))
    (notice_by_tests s resp y (nat_lt (length s.inbox) l.room))) (sym eb) second in
    while_running P l s (Good (Data resp num message)) e first

pub takes_next : (l : Limits) (s : StationState) (resp num : ℕ) (message : List ℕ)
    → s.state ≡ Running → num ≡ (s.r + 1) % 256 → length s.inbox < l.room
    → HandsUp message s (on l s (Good (Data resp num message)))
    (notice_of l s (Good (Data resp num message)))
takes_next l s resp num message e is room =
    by_tests (HandsUp message s) l s resp num message true true e (grind (arith)) (grind (arith))
    (record {
      inbox = refl;
      r = is;
      told =
          some_mail (newly_acknowledged s resp) (newly_acknowledged s resp == 0);
      owed = λ early. ap (λ b. owed_after_message b s.reply) early;
      owed_later =
          owed_taken s.by_user (is_running s.state)
          (nat_lt 0 (length (s.inbox ++ message ∷ []))) s.reply (ap is_running e)
          (some_more s.inbox message);
    })

pub takes_no_other : (l : Limits) (s : StationState) (resp num : ℕ) (message : List ℕ)
    → s.state ≡ Running → num ≢ (s.r + 1) % 256
    → HandsUpNothing s (on l s (Good (Data resp num message)))
    (notice_of l s (Good (Data resp num message)))
    × ((on l s (Good (Data resp num message))).reply ≡ s.reply)
takes_no_other l s resp num message e isnt =
    by_tests (λ u k. HandsUpNothing s u k × (u.reply ≡ s.reply)) l s resp num message false
    (nat_lt (length s.inbox) l.room) e (grind (arith)) refl
    (record { inbox = refl; r = refl; told = no_mail (newly_acknowledged s resp) }, refl)

pub takes_none_without_room : (l : Limits) (s : StationState) (resp num : ℕ) (message : List ℕ)
    → s.state ≡ Running → l.room ≤ length s.inbox
    → HandsUpNothing s (on l s (Good (Data resp num message)))
    (notice_of l s (Good (Data resp num message)))
takes_none_without_room l s resp num message e full =
    by_tests (HandsUpNothing s) l s resp num message (num == next_number s.r) false e refl
    (grind (arith)) (by (num == next_number s.r))
  where
    by : (b : Bool)
        → HandsUpNothing s (data_by s resp num message b false) (notice_by_tests s resp b false)
    by true = record { inbox = refl; r = refl; told = no_mail (newly_acknowledged s resp) }
    by false = record { inbox = refl; r = refl; told = no_mail (newly_acknowledged s resp) }

pub takes_nothing_else : (l : Limits) (s : StationState) (h : Received) → s.state ≡ Running
    → IsNoMessage h → HandsUpNothing s (on l s h) (notice_of l s h)
takes_nothing_else l s h e is = while_running (HandsUpNothing s) l s h e (by h is)
  where
    nak : (q : ℕ) (b : Bool)
        → HandsUpNothing s (nak_by s q b) (acknowledged_notice (newly_acknowledged s q))
    nak q true = record { inbox = refl; r = refl; told = no_mail (newly_acknowledged s q) }
    nak q false = record { inbox = refl; r = refl; told = no_mail (newly_acknowledged s q) }

    by : (h : Received) → IsNoMessage h → HandsUpNothing s (on_running l s h) (running_notice l s h)
    by (Good (Acked resp)) r =
        record { inbox = refl; r = refl; told = no_mail (newly_acknowledged s resp) }
    by (Good (Naked why resp)) r = nak resp (is_within s.a resp s.n)
    by (Good (Data resp num message)) r = absurd r
    by (Good (Rep num)) r = record { inbox = refl; r = refl; told = refl }
    by (Good Strt) r = absurd r
    by (Good Stack) r = record { inbox = refl; r = refl; told = refl }
    by (Good (Maint message)) r = record { inbox = refl; r = refl; told = refl }
    by BadHeader r = record { inbox = refl; r = refl; told = refl }
    by (BadData b) r = record { inbox = refl; r = refl; told = refl }
    by (TooLong b) r = record { inbox = refl; r = refl; told = refl }
    by BadFormat r = record { inbox = refl; r = refl; told = refl }

-- ---- what is asked for

nak_is_next : (s : StationState) (why : Reason) → s.state ≡ Running → s.reply ≡ Nak why
    → next_frame (next s) ≡ Some (Naked why (resp_of s))
unfolding next
nak_is_next s why e f =
    ap (λ p. next_frame (next_by p s)) e ∙ ap (λ w. next_frame (next_running w s)) f

asks : (s : StationState) (why : Reason) (k : ℕ) → s.state ≡ Running → s.reply ≡ Nak why
    → subtype_of why ≡ k → SendsNak k (resp_of s) s
asks s why k e f n = record { why = why; subtype = n; frame = nak_is_next s why e f }

-- a NAK of this reason is owed and nothing else has changed
owes : (s : StationState) (why : Reason) (k : ℕ) → s.state ≡ Running → k ≡ subtype_of why
    → SendsNak k (resp_of s) (record s { reply = Nak why })
    × (record s { reply = Nak why } ≡ record s { reply = Nak why })
owes s why k e n = (asks (record s { reply = Nak why }) why k e refl (sym n), refl)

pub asks_for_unread : (l : Limits) (s : StationState) (h : Received) (k : ℕ) → s.state ≡ Running
    → CallsFor h k
    → SendsNak k (resp_of s) (on l s h) × (on l s h ≡ record s { reply = (on l s h).reply })
asks_for_unread l s h k e calls =
    while_running (λ u told. SendsNak k (resp_of s) u × (u ≡ record s { reply = u.reply })) l s h e
    (by h calls)
  where
    by : (h : Received) → CallsFor h k
        → SendsNak k (resp_of s) (on_running l s h)
        × (on_running l s h ≡ record s { reply = (on_running l s h).reply })
    by (Good frame) r = absurd r
    by BadHeader r = owes s reason.HeaderCheck k e r
    by (BadData true) r = owes s reason.DataCheck k e r
    by (BadData false) r = absurd r
    by (TooLong true) r = owes s reason.TooLong k e r
    by (TooLong false) r = absurd r
    by BadFormat r = owes s reason.Format k e r

pub asks_for_unkept : (l : Limits) (s : StationState) (resp num : ℕ) (message : List ℕ)
    → s.state ≡ Running → num ≡ (s.r + 1) % 256 → l.room ≤ length s.inbox
    → SendsNak 8 (resp_of s) (on l s (Good (Data resp num message)))
asks_for_unkept l s resp num message e is full =
    by_tests (λ u told. SendsNak 8 (resp_of s) u) l s resp num message true false e (grind (arith))
    (grind (arith))
    (asks (data_by s resp num message true false) reason.NoBuffer 8 e refl refl)

pub asks_for_missing : (l : Limits) (s : StationState) (num : ℕ) → s.state ≡ Running → num ≢ s.r
    → SendsNak 3 (resp_of s) (on l s (Good (Rep num)))
    × (on l s (Good (Rep num)) ≡ record s { reply = (on l s (Good (Rep num))).reply })
asks_for_missing l s num e isnt =
    while_running (λ u told. SendsNak 3 (resp_of s) u × (u ≡ record s { reply = u.reply })) l s
    (Good (Rep num)) e
    (subst
    (λ b. SendsNak 3 (resp_of s) (record s { reply = cond b Ack (Nak reason.ReplyToRep) })
    × (record s { reply = cond b Ack (Nak reason.ReplyToRep) }
    ≡ record s { reply = cond b Ack (Nak reason.ReplyToRep) })) (sym other)
    (owes s reason.ReplyToRep 3 e refl))
  where
    other : (num == s.r) ≡ false
    other = grind (arith)

pub acknowledges_all : (l : Limits) (s : StationState) → s.state ≡ Running
    → on l s (Good (Rep s.r)) ≡ record s { reply = Ack }
acknowledges_all l s e =
    let same : (s.r == s.r) ≡ true = grind (arith) in
    running_on l s (Good (Rep s.r)) e
    ∙ ap (λ b. record s { reply = cond b Ack (Nak reason.ReplyToRep) }) same

-- ---- the peer restarts

pub restarting : (l : Limits) (s : StationState) → s.state ≡ Running → l.restart ≡ true
    → s.inbox ≡ [] → BeginsAnew s (on l s (Good Strt)) (notice_of l s (Good Strt))
unfolding next
restarting l s e chosen empty =
    while_running (BeginsAnew s) l s (Good Strt) e
    (subst
    (λ b. BeginsAnew s (cond b (after_restart s) (after_halt s))
    (Some (cond b (notice.Restarted (length s.out)) notice.PeerRestarted))) (sym may)
    (record { state = refl; frame = refl; out = refl; told = refl }))
  where
    may : may_restart l s ≡ true
    may =
        ap (λ b. b && length s.inbox == 0) chosen ∙ ap (λ (x : List (List ℕ)). length x == 0) empty

pub halting : (l : Limits) (s : StationState) → s.state ≡ Running
    → (l.restart ≡ false) ⊎ (0 < length s.inbox)
    → HaltsAtRestart s (on l s (Good Strt)) (notice_of l s (Good Strt))
halting l s e either =
    while_running (HaltsAtRestart s) l s (Good Strt) e
    (subst
    (λ b. HaltsAtRestart s (cond b (after_restart s) (after_halt s))
    (Some (cond b (notice.Restarted (length s.out)) notice.PeerRestarted))) (sym (may either))
    (record {
      halted =
          record {
            state = refl;
            due = refl;
            reply = refl;
            rep = refl;
            timer = refl;
            r = refl;
            n = refl;
            a = refl;
            t = refl;
            out = refl;
            inbox = refl;
          };
      told = refl;
    }))
  where
    never : (b c : Bool) → c ≡ false → (b && c) ≡ false
    never true c f = f
    never false c f = refl

    may : (l.restart ≡ false) ⊎ (0 < length s.inbox) → may_restart l s ≡ false
    may (inl f) = ap (λ b. b && length s.inbox == 0) f
    may (inr some) = never l.restart (length s.inbox == 0) (grind (arith))

-- ---- no reply to a reply

pub ack_unanswered : (l : Limits) (s : StationState) (q : ℕ) → s.state ≡ Running
    → (on l s (Good (Acked q))).reply ≡ s.reply
ack_unanswered l s q e = while_running (λ u told. u.reply ≡ s.reply) l s (Good (Acked q)) e refl

pub nak_unanswered : (l : Limits) (s : StationState) (why : Reason) (q : ℕ) → s.state ≡ Running
    → (on l s (Good (Naked why q))).reply ≡ s.reply
nak_unanswered l s why q e =
    while_running (λ u told. u.reply ≡ s.reply) l s (Good (Naked why q)) e
    (by (is_within s.a q s.n))
  where
    by : (b : Bool) → (nak_by s q b).reply ≡ s.reply
    by true = refl
    by false = refl

abbrev IsAnswered : Next → Type 0
IsAnswered (Sends (Acked r) u) = u.reply ≡ Quiet
IsAnswered (Sends (Naked why r) u) = u.reply ≡ Quiet
IsAnswered (Sends (Data r num message) u) = u.reply ≡ Quiet
IsAnswered (Sends (Rep num) u) = Unit {0}
IsAnswered (Sends Strt u) = Unit {0}
IsAnswered (Sends Stack u) = Unit {0}
IsAnswered (Sends (Maint message) u) = Unit {0}
IsAnswered Idle = Unit {0}

answered : (s : StationState) (t : Next) → SentFor s t → IsAnswered t
answered s _ (sends_strt p d) = tt
answered s _ (sends_stack p d) = tt
answered s _ (sends_nak why p r) = refl
answered s _ (sends_rep p r f) = tt
answered s _ (sends_data p r f place) = refl
answered s _ (sends_ack p r f place) = refl
answered s _ (sends_maint m ms p o) = tt
answered s _ (halted_idles p) = tt
answered s _ (starting_idles p d) = tt
answered s _ (running_idles p r f place) = tt
answered s _ (maintenance_idles p o) = tt

pub ack_is_sent_once : (s u : StationState) (r : ℕ) → next s ≡ Sends (Acked r) u → u.reply ≡ Quiet
ack_is_sent_once s u r e = subst IsAnswered e (answered s (next s) (sending s))

pub nak_is_sent_once : (s u : StationState) (why : Reason) (r : ℕ) → next s ≡ Sends (Naked why r) u
    → u.reply ≡ Quiet
nak_is_sent_once s u why r e = subst IsAnswered e (answered s (next s) (sending s))

pub data_answer : (s u : StationState) (r num : ℕ) (message : List ℕ)
    → next s ≡ Sends (Data r num message) u → u.reply ≡ Quiet
data_answer s u r num message e = subst IsAnswered e (answered s (next s) (sending s))

-- ---- the timer

abbrev IsStarted : Timer → Next → Type 0
IsStarted timer (Sends (Acked r) u) = Unit {0}
IsStarted timer (Sends (Naked why r) u) = Unit {0}
IsStarted timer (Sends (Data r num message) u) = u.timer ≡ timer_started timer
IsStarted timer (Sends (Rep num) u) = Unit {0}
IsStarted timer (Sends Strt u) = Unit {0}
IsStarted timer (Sends Stack u) = Unit {0}
IsStarted timer (Sends (Maint message) u) = Unit {0}
IsStarted timer Idle = Unit {0}

started : (s : StationState) (t : Next) → SentFor s t → IsStarted s.timer t
started s _ (sends_strt p d) = tt
started s _ (sends_stack p d) = tt
started s _ (sends_nak why p r) = tt
started s _ (sends_rep p r f) = tt
started s _ (sends_data p r f place) = refl
started s _ (sends_ack p r f place) = tt
started s _ (sends_maint m ms p o) = tt
started s _ (halted_idles p) = tt
started s _ (starting_idles p d) = tt
started s _ (running_idles p r f place) = tt
started s _ (maintenance_idles p o) = tt

data_timer : (s u : StationState) (r num : ℕ) (message : List ℕ)
    → next s ≡ Sends (Data r num message) u → u.timer ≡ timer_started s.timer
data_timer s u r num message e = subst (IsStarted s.timer) e (started s (next s) (sending s))

still_on : (t : Timer) → t ≢ Off → timer_started t ≡ t
still_on Off w = absurd (w refl)
still_on Fresh w = refl
still_on On w = refl

pub data_leave_the_timer : (s u : StationState) (r num : ℕ) (message : List ℕ)
    → next s ≡ Sends (Data r num message) u → s.timer ≢ Off → u.timer ≡ s.timer
data_leave_the_timer s u r num message e w = data_timer s u r num message e ∙ still_on s.timer w

pub data_start_the_timer : (s u : StationState) (r num : ℕ) (message : List ℕ)
    → next s ≡ Sends (Data r num message) u → s.timer ≡ Off → u.timer ≡ Fresh
data_start_the_timer s u r num message e f = data_timer s u r num message e ∙ ap timer_started f

expired_running : (s : StationState) → s.state ≡ Running → s.timer ≢ Off → s.a ≢ s.n
    → after_expire s ≡ record s { rep = true; timer = Off }
expired_running s e on waits = at s.timer refl
  where
    isnt : (s.a == s.n) ≡ false
    isnt = grind (arith)

    in_running : after_expire_in s.state s ≡ record s { rep = true; timer = Off }
    in_running =
        ap (λ p. after_expire_in p s) e
        ∙ ap (λ b. record s { rep = cond b s.rep true; timer = Off }) isnt

    at : (t : Timer) → s.timer ≡ t → after_expire_with t s ≡ record s { rep = true; timer = Off }
    at Off f = absurd (on f)
    at Fresh f = in_running
    at On f = in_running

rep_is_next : (s : StationState) → s.state ≡ Running → (s.reply ≡ Quiet) ⊎ (s.reply ≡ Ack)
    → next_frame (next (record s { rep = true; timer = Off })) ≡ Some (Rep s.n)
unfolding next
rep_is_next s e owed = ap (λ p. next_frame (next_by p u)) e ∙ by owed
  where
    u : StationState
    u = record s { rep = true; timer = Off }

    by : (s.reply ≡ Quiet) ⊎ (s.reply ≡ Ack) → next_frame (next_running s.reply u) ≡ Some (Rep s.n)
    by (inl f) = ap (λ w. next_frame (next_running w u)) f
    by (inr f) = ap (λ w. next_frame (next_running w u)) f

pub asks_at_expiry : (s : StationState) → s.state ≡ Running → s.timer ≢ Off → s.a ≢ s.n
    → (s.reply ≡ Quiet) ⊎ (s.reply ≡ Ack)
    → next_frame (next (after_expire s)) ≡ Some (Rep s.n)
asks_at_expiry s e on waits owed =
    ap (λ u. next_frame (next u)) (expired_running s e on waits) ∙ rep_is_next s e owed

after_ack_of_all : (s : StationState) (m : ℕ) → m ≢ 0 → (b c : Bool) → (m == 0) ≡ b
    → (s.n == s.n) ≡ c → cond b s.timer (cond c Off Fresh) ≡ Off
after_ack_of_all s m some true c e f = absurd (some (grind (arith)))
after_ack_of_all s m some false true e f = refl
after_ack_of_all s m some false false e f =
    absurd (let other : s.n ≢ s.n = grind (arith) in other refl)

pub ended : (l : Limits) (s : StationState) (h : Received) → s.state ≡ Running → s.a < 256
    → s.n < 256 → s.a ≢ s.n → Responds h s.n → (on l s h).timer ≡ Off
ended l s h e ha hn waits responds = while_running (λ u told. u.timer ≡ Off) l s h e (by h responds)
  where
    all : is_within s.a s.n s.n ≡ true
    all = is_within_true s.a s.n s.n (omega arith)

    ack : (after_ack s s.n).timer ≡ Off
    ack =
        let c = count_by_test s s.n true all in
        let some : newly_acknowledged s s.n ≢ 0 = λ z. waits (omega (arith, c, z, ha, hn)) in
        after_ack_of_all s (newly_acknowledged s s.n) some (newly_acknowledged s s.n == 0)
        (s.n == s.n) refl refl

    by : (h : Received) → Responds h s.n → (on_running l s h).timer ≡ Off
    by (Good (Acked resp)) r = subst (λ x. (after_ack s x).timer ≡ Off) (sym r) ack
    by (Good (Naked why resp)) r =
        subst (λ x. (on_nak s x).timer ≡ Off) (sym r)
        (subst (λ b. (nak_by s s.n b).timer ≡ Off) (sym all) refl)
    by (Good (Data resp num message)) r =
        subst (λ x. (on_data l s x num message).timer ≡ Off) (sym r) ack
    by (Good (Rep num)) r = absurd r
    by (Good Strt) r = absurd r
    by (Good Stack) r = absurd r
    by (Good (Maint message)) r = absurd r
    by BadHeader r = absurd r
    by (BadData b) r = absurd r
    by (TooLong b) r = absurd r
    by BadFormat r = absurd r

abbrev IsAnew : Next → Type 0
IsAnew (Sends (Rep num) u) = u.timer ≡ Fresh
IsAnew (Sends Strt u) = u.timer ≡ Fresh
IsAnew (Sends Stack u) = u.timer ≡ Fresh
IsAnew (Sends (Acked r) u) = Unit {0}
IsAnew (Sends (Naked why r) u) = Unit {0}
IsAnew (Sends (Data r num message) u) = Unit {0}
IsAnew (Sends (Maint message) u) = Unit {0}
IsAnew Idle = Unit {0}

asked_anew : (s : StationState) (t : Next) → SentFor s t → IsAnew t
asked_anew s _ (sends_strt p d) = refl
asked_anew s _ (sends_stack p d) = refl
asked_anew s _ (sends_nak why p r) = tt
asked_anew s _ (sends_rep p r f) = refl
asked_anew s _ (sends_data p r f place) = tt
asked_anew s _ (sends_ack p r f place) = tt
asked_anew s _ (sends_maint m ms p o) = tt
asked_anew s _ (halted_idles p) = tt
asked_anew s _ (starting_idles p d) = tt
asked_anew s _ (running_idles p r f place) = tt
asked_anew s _ (maintenance_idles p o) = tt

pub starts_anew : (s u : StationState) (f : Frame) → next s ≡ Sends f u → WantsAnswer f
    → u.timer ≡ Fresh
starts_anew s u f e = by f (subst IsAnew e (asked_anew s (next s) (sending s)))
  where
    by : (f : Frame) → IsAnew (Sends f u) → WantsAnswer f → u.timer ≡ Fresh
    by Strt i w = i
    by Stack i w = i
    by (Rep num) i w = i
    by (Data r num message) i w = absurd w
    by (Acked r) i w = absurd w
    by (Naked why r) i w = absurd w
    by (Maint message) i w = absurd w

pub ended_by_nak : (l : Limits) (s : StationState) (why : Reason) (q : ℕ) → s.state ≡ Running
    → Within s.a q s.n
    → ((on l s (Good (Naked why q))).timer ≡ Off) × ((on l s (Good (Naked why q))).rep ≡ false)
ended_by_nak l s why q e w =
    while_running (λ u told. (u.timer ≡ Off) × (u.rep ≡ false)) l s (Good (Naked why q)) e
    (subst (λ b. ((nak_by s q b).timer ≡ Off) × ((nak_by s q b).rep ≡ false))
    (sym (is_within_true s.a q s.n w)) (refl, refl))

no_rep_by : (s : StationState) (m : ℕ) → m ≢ 0 → (b : Bool) → (m == 0) ≡ b
    → cond b s.rep false ≡ false
no_rep_by s m some true e = absurd (some (grind (arith)))
no_rep_by s m some false e = refl

pub takes_back_the_rep : (l : Limits) (s : StationState) (h : Received) (q : ℕ)
    → s.state ≡ Running → s.a < 256 → q < 256 → q ≢ s.a → Within s.a q s.n → Responds h q
    → (on l s h).rep ≡ false
takes_back_the_rep l s h q e ha hq new w responds =
    while_running (λ u told. u.rep ≡ false) l s h e (by h responds)
  where
    ack : (after_ack s q).rep ≡ false
    ack =
        let c = count_by_test s q true (is_within_true s.a q s.n w) in
        let some : newly_acknowledged s q ≢ 0 = λ z. new (omega (arith, c, z, ha, hq)) in
        no_rep_by s (newly_acknowledged s q) some (newly_acknowledged s q == 0) refl

    by : (h : Received) → Responds h q → (on_running l s h).rep ≡ false
    by (Good (Acked resp)) r = subst (λ x. (after_ack s x).rep ≡ false) (sym r) ack
    by (Good (Naked why resp)) r =
        subst (λ x. (on_nak s x).rep ≡ false) (sym r)
        (subst (λ b. (nak_by s q b).rep ≡ false) (sym (is_within_true s.a q s.n w)) refl)
    by (Good (Data resp num message)) r =
        subst (λ x. (on_data l s x num message).rep ≡ false) (sym r) ack
    by (Good (Rep num)) r = absurd r
    by (Good Strt) r = absurd r
    by (Good Stack) r = absurd r
    by (Good (Maint message)) r = absurd r
    by BadHeader r = absurd r
    by (BadData b) r = absurd r
    by (TooLong b) r = absurd r
    by BadFormat r = absurd r

pub asks_nothing : (s : StationState) → s.a ≡ s.n → (after_expire s).rep ≡ s.rep
asks_nothing s all = at s.timer
  where
    same : (s.a == s.n) ≡ true
    same = grind (arith)

    by : (p : State) → (after_expire_in p s).rep ≡ s.rep
    by Halted = refl
    by IStart = refl
    by AStart = refl
    by Running = ap (λ b. cond b s.rep true) same
    by Maintenance = refl

    at : (t : Timer) → (after_expire_with t s).rep ≡ s.rep
    at Off = refl
    at Fresh = by s.state
    at On = by s.state

-- an acknowledgement of a part
after_ack_of_some : (s : StationState) (q m : ℕ) → m ≢ 0 → q ≢ s.n → (b c : Bool) → (m == 0) ≡ b
    → (q == s.n) ≡ c → cond b s.timer (cond c Off Fresh) ≡ Fresh
after_ack_of_some s q m some other true c e f = absurd (some (grind (arith)))
after_ack_of_some s q m some other false true e f = absurd (other (grind (arith)))
after_ack_of_some s q m some other false false e f = refl

pub renewed : (l : Limits) (s : StationState) (h : Received) (q : ℕ) → s.state ≡ Running
    → s.a < 256 → q < 256 → q ≢ s.a → q ≢ s.n → Within s.a q s.n → Acknowledges h q
    → (on l s h).timer ≡ Fresh
renewed l s h q e ha hq new other w responds =
    while_running (λ u told. u.timer ≡ Fresh) l s h e (by h responds)
  where
    ack : (after_ack s q).timer ≡ Fresh
    ack =
        let c = count_by_test s q true (is_within_true s.a q s.n w) in
        let some : newly_acknowledged s q ≢ 0 = λ z. new (omega (arith, c, z, ha, hq)) in
        after_ack_of_some s q (newly_acknowledged s q) some other (newly_acknowledged s q == 0)
        (q == s.n) refl refl

    by : (h : Received) → Acknowledges h q → (on_running l s h).timer ≡ Fresh
    by (Good (Acked resp)) r = subst (λ x. (after_ack s x).timer ≡ Fresh) (sym r) ack
    by (Good (Data resp num message)) r =
        subst (λ x. (on_data l s x num message).timer ≡ Fresh) (sym r) ack
    by (Good (Naked why resp)) r = absurd r
    by (Good (Rep num)) r = absurd r
    by (Good Strt) r = absurd r
    by (Good Stack) r = absurd r
    by (Good (Maint message)) r = absurd r
    by BadHeader r = absurd r
    by (BadData b) r = absurd r
    by (TooLong b) r = absurd r
    by BadFormat r = absurd r

-- ---- maintenance

pub maintenance_elsewhere : (l : Limits) (s : StationState) (h : Received)
    → s.state ≢ Maintenance → IsMaintenance h → on l s h ≡ s
unfolding on
maintenance_elsewhere l s h other is = by s.state other h is
  where
    by : (p : State) → p ≢ Maintenance → (h : Received) → IsMaintenance h → on_by p l s h ≡ s
    by Maintenance w h r = absurd (w refl)
    by Halted w h r = refl
    by IStart w (Good (Maint message)) r = refl
    by IStart w (BadData b) r = refl
    by IStart w (TooLong b) r = refl
    by AStart w (Good (Maint message)) r = refl
    by AStart w (BadData b) r = refl
    by AStart w (TooLong b) r = refl
    by Running w (Good (Maint message)) r = refl
    by Running w (BadData false) r = refl
    by Running w (TooLong false) r = refl
    by p w h r = absurd r

pub in_maintenance : (P : StationState → Option Notice → Type 0) (l : Limits) (s : StationState)
    (h : Received) → s.state ≡ Maintenance
    → P (on_maintenance l s h) (maintenance_notice l s h) → P (on l s h) (notice_of l s h)
unfolding on notice_of
in_maintenance P l s h e x = subst (λ p. P (on_by p l s h) (notice_by p l s h)) (sym e) x

pub nothing_else_in_maintenance : (l : Limits) (s : StationState) (h : Received)
    → s.state ≡ Maintenance → IsNoMaintenance h → on l s h ≡ s
nothing_else_in_maintenance l s h e is = in_maintenance (λ u told. u ≡ s) l s h e (by h is)
  where
    by : (h : Received) → IsNoMaintenance h → on_maintenance l s h ≡ s
    by (Good (Acked resp)) r = refl
    by (Good (Naked why resp)) r = refl
    by (Good (Data resp num message)) r = refl
    by (Good (Rep num)) r = refl
    by (Good Strt) r = refl
    by (Good Stack) r = refl
    by (Good (Maint message)) r = absurd r
    by BadHeader r = refl
    by (BadData b) r = refl
    by (TooLong b) r = refl
    by BadFormat r = refl

-- a station in Maintenance after a message, by the test of the room
by_room : (P : StationState → Option Notice → Type 0) (l : Limits) (s : StationState)
    (message : List ℕ) (b : Bool) → s.state ≡ Maintenance → nat_lt (length s.inbox) l.room ≡ b
    → P (record s { inbox = cond b (s.inbox ++ message ∷ []) s.inbox })
    (Some (cond b notice.MaintenanceHandedUp notice.MaintenanceDropped))
    → P (on l s (Good (Maint message))) (notice_of l s (Good (Maint message)))
by_room P l s message b e eb x =
    in_maintenance P l s (Good (Maint message)) e
    (subst
    (λ c. P (record s { inbox = cond c (s.inbox ++ message ∷ []) s.inbox })
    (Some (cond c notice.MaintenanceHandedUp notice.MaintenanceDropped))) (sym eb) x)

pub maintenance_handed_up : (l : Limits) (s : StationState) (message : List ℕ)
    → s.state ≡ Maintenance → length s.inbox < l.room
    → (on l s (Good (Maint message)) ≡ record s { inbox = s.inbox ++ message ∷ [] })
    × (tells_mail (notice_of l s (Good (Maint message))) ≡ true)
maintenance_handed_up l s message e room =
    by_room
    (λ u told. (u ≡ record s { inbox = s.inbox ++ message ∷ [] }) × (tells_mail told ≡ true))
    l s message true e (grind (arith)) (refl, refl)

pub maintenance_lost : (l : Limits) (s : StationState) (message : List ℕ) → s.state ≡ Maintenance
    → l.room ≤ length s.inbox
    → (on l s (Good (Maint message)) ≡ s)
    × (tells_mail (notice_of l s (Good (Maint message))) ≡ false)
maintenance_lost l s message e full =
    by_room (λ u told. (u ≡ s) × (tells_mail told ≡ false)) l s message false e (grind (arith))
    (refl, refl)

pub maintenance_sent : (s : StationState) (message : List ℕ) (rest : List (List ℕ))
    → s.state ≡ Maintenance → s.out ≡ message ∷ rest
    → next s ≡ Sends (Maint message) (record s { out = rest })
unfolding next
maintenance_sent s message rest e f =
    ap (λ p. next_by p s) e ∙ ap (λ (x : List (List ℕ)). next_maintenance x s) f

-- ---- data that end a startup

while_answering : (P : StationState → Option Notice → Type 0) (l : Limits) (s : StationState)
    (h : Received) → s.state ≡ AStart → P (on_astart l s h) (astart_notice l s h)
    → P (on l s h) (notice_of l s h)
unfolding on notice_of
while_answering P l s h e x = subst (λ p. P (on_by p l s h) (notice_by p l s h)) (sym e) x

by_startup_tests : (P : StationState → Option Notice → Type 0) (l : Limits) (s : StationState)
    (num : ℕ) (message : List ℕ) (b c : Bool)
    → s.state ≡ AStart → (num == next_number s.r) ≡ b → nat_lt (length s.inbox) l.room ≡ c
    → P (data_by (after_startup s) 0 num message b c)
    (Some (cond (b && c) notice.RunningAndHandedUp notice.Running))
    → P (on l s (Good (Data 0 num message))) (notice_of l s (Good (Data 0 num message)))
by_startup_tests P l s num message b c e eb ec x =
    let second =
    subst
    (λ y. P (data_by (after_startup s) 0 num message b y)
    (Some (cond (b && y) notice.RunningAndHandedUp notice.Running))) (sym ec) x in
    let first =
    subst
    (λ y. P (data_by (after_startup s) 0 num message y (nat_lt (length s.inbox) l.room))
    (Some
    (cond (y && nat_lt (length s.inbox) l.room) notice.RunningAndHandedUp notice.Running)))
    (sym eb) second in
    while_answering P l s (Good (Data 0 num message)) e first

pub startup_takes_next : (l : Limits) (s : StationState) (num : ℕ) (message : List ℕ)
    → s.state ≡ AStart → num ≡ (s.r + 1) % 256 → length s.inbox < l.room
    → ((on l s (Good (Data 0 num message))).state ≡ Running)
    × HandsUp message s (on l s (Good (Data 0 num message)))
    (notice_of l s (Good (Data 0 num message)))
startup_takes_next l s num message e is room =
    by_startup_tests (λ u told. (u.state ≡ Running) × HandsUp message s u told)
    l s num message true true e (grind (arith)) (grind (arith)) (
      refl,
      record {
        inbox = refl;
        r = is;
        told = refl;
        owed = λ early. ap (λ b. owed_after_message b s.reply) early;
        owed_later =
            owed_taken s.by_user true (nat_lt 0 (length (s.inbox ++ message ∷ []))) s.reply refl
            (some_more s.inbox message);
      },
    )

pub startup_takes_no_other : (l : Limits) (s : StationState) (num : ℕ) (message : List ℕ)
    → s.state ≡ AStart → (num ≢ (s.r + 1) % 256) ⊎ (l.room ≤ length s.inbox)
    → ((on l s (Good (Data 0 num message))).state ≡ Running)
    × HandsUpNothing s (on l s (Good (Data 0 num message)))
    (notice_of l s (Good (Data 0 num message)))
startup_takes_no_other l s num message e (inl isnt) =
    by_startup_tests (λ u told. (u.state ≡ Running) × HandsUpNothing s u told) l s num message false
    (nat_lt (length s.inbox) l.room) e (grind (arith)) refl
    (refl, record { inbox = refl; r = refl; told = refl })
startup_takes_no_other l s num message e (inr full) =
    by_startup_tests (λ u told. (u.state ≡ Running) × HandsUpNothing s u told) l s num message
    (num == next_number s.r) false e refl (grind (arith)) (by (num == next_number s.r))
  where
    by : (b : Bool)
        → ((data_by (after_startup s) 0 num message b false).state ≡ Running)
        × HandsUpNothing s (data_by (after_startup s) 0 num message b false)
        (Some (cond (b && false) notice.RunningAndHandedUp notice.Running))
    by true = (refl, record { inbox = refl; r = refl; told = refl })
    by false = (refl, record { inbox = refl; r = refl; told = refl })

pub startup_goes_on : (l : Limits) (s : StationState) (resp num : ℕ) (message : List ℕ)
    → s.state ≡ AStart → resp ≢ 0
    → (on l s (Good (Data resp num message)) ≡ s)
    × (notice_of l s (Good (Data resp num message)) ≡ None)
startup_goes_on l s resp num message e other =
    while_answering (λ u told. (u ≡ s) × (told ≡ None)) l s (Good (Data resp num message)) e
    (subst
    (λ b. (cond b (on_data l (after_startup s) resp num message) s ≡ s)
    × (cond b (Some (cond (takes_data l s num) notice.RunningAndHandedUp notice.Running)) None
    ≡ None)) (sym isnt) (refl, refl))
  where
    isnt : (resp == 0) ≡ false
    isnt = grind (arith)
