-- What each thing that happens at an end does to the price of its station.
use Rattle.std.proofs.Common.{◌≡◌, ◌⊎◌, inl, inr, ℕ, ◌+◌, ◌-◌, ◌*◌, ◌%◌, ◌<◌, ◌≤◌, Bool, true}
use Rattle.std.proofs.Common.{false, cond, List, [], ◌∷◌, length, drop, refl, ap, arith}
use Rattle.std.proofs.Common.{length-append, length-drop, Some}
use Rattle.std.specs.Prelude.{◌==◌, nat_lt}
use Rattle.ddcmp_num.specs.Sequence.{distance}
use Rattle.ddcmp_window.specs.Numbers.{is_within, next_number}
use Rattle.ddcmp_window.specs.Sender.{Outgoing, outgoing_after_ack, IsInWindow}
use Rattle.ddcmp_window.specs.Inbox.{answer_to_offer}
use Rattle.ddcmp_window.specs.declared.inbox.Offer.{Offer}
use Rattle.ddcmp_window.specs.declared.inbox.Offer.TheVariants as offer
use Rattle.ddcmp_frame.specs.declared.nak.Nak.{Nak as Reason}
use Rattle.ddcmp_frame.specs.declared.nak.Nak.TheVariants as reason
use Rattle.ddcmp_core.specs.declared.state.State.{State}
use Rattle.ddcmp_core.specs.declared.state.State.TheVariants.{Halted, IStart, AStart, Running}
use Rattle.ddcmp_core.specs.declared.state.State.TheVariants.{Maintenance}
use Rattle.ddcmp_core.specs.declared.state.Timer.{Timer}
use Rattle.ddcmp_core.specs.declared.state.Timer.TheVariants.{Off, Fresh, On}
use Rattle.ddcmp_core.specs.declared.state.Owed.{Owed}
use Rattle.ddcmp_core.specs.declared.state.Owed.TheVariants.{Quiet, Ack, Nak}
use Rattle.ddcmp_core.specs.Core.{IsSound, IsReceivable}
use Rattle.ddcmp_core.specs.NextFrame.{SentFor, sends_strt, sends_stack, sends_nak, sends_rep}
use Rattle.ddcmp_core.specs.NextFrame.{sends_data, sends_ack, sends_maint, halted_idles}
use Rattle.ddcmp_core.specs.NextFrame.{starting_idles, running_idles, maintenance_idles}
use Rattle.ddcmp_core.specs.Table.{resp_of}
use Rattle.ddcmp_core.specs.Table.{Limits, StationState, Data, Acked, Naked, Rep, Strt, Stack}
use Rattle.ddcmp_core.specs.Table.{Maint, Received, Good, BadHeader, BadData, TooLong, BadFormat}
use Rattle.ddcmp_core.specs.Table.{Next, Idle, Sends, outgoing, next_frame, after_next, after_ack}
use Rattle.ddcmp_core.specs.Table.{after_startup, reply_to_offer, on_data, on_rep, on_nak, on_strt}
use Rattle.ddcmp_core.specs.Table.{may_restart, on_by, on, newly_acknowledged, after_expire_in}
use Rattle.ddcmp_core.specs.Table.{after_expire_with, after_expire, may_send, after_accept}
use Rattle.ddcmp_core.specs.Table.{may_start, after_start, after_halt}
use Rattle.ddcmp_laws.specs.Price.{price_of_frame, price_of_received, price_of_due}
use Rattle.ddcmp_laws.specs.Price.{price_of_nak, price_of_reply, price_of_rep, price_of_station}
use Rattle.ddcmp_laws.specs.Price.{refusal_price}

-- ---- what is kept and not sent

abbrev unsent : ℕ → ℕ → List (List ℕ) → ℕ
unsent a t out = length out - (t + 511 - a) % 256

-- m messages leave
unsent_left : (a t q n m : ℕ) (out : List (List ℕ)) (b c : Bool) → (m == 0) ≡ b
    → nat_lt ((t + 511 - a) % 256) m ≡ c → a < 256 → q < 256 → t < 256
    → (m ≡ 0) ⊎ (m ≡ distance a q)
    → unsent (cond b a q) (cond c (next_number q) t) (drop m out) ≤ unsent a t out
unsent_left a t q n m out true true e f ha hq ht h =
    let z : m ≡ 0 = grind (arith) in let y : (t + 511 - a) % 256 < m = grind (arith) in
    absurd (omega (arith, z, y))
unsent_left a t q n m out true false e f ha hq ht h =
    let z : m ≡ 0 = grind (arith) in let l = length-drop m out in omega (arith, z, l)
unsent_left a t q n m out false true e f ha hq ht h =
    let y : (t + 511 - a) % 256 < m = grind (arith) in let l = length-drop m out in
    omega (arith, y, l, hq)
unsent_left a t q n m out false false e f ha hq ht (inl z) =
    absurd (let g = ap (λ k. k == 0) z in cc (g, e))
unsent_left a t q n m out false false e f ha hq ht (inr d) =
    let y : m ≤ (t + 511 - a) % 256 = grind (arith) in let l = length-drop m out in
    omega (arith, y, l, d, ha, hq, ht)

unsent_acked : (o : Outgoing) (q : ℕ) → q < 256 → IsInWindow o
    → unsent (outgoing_after_ack o q).a (outgoing_after_ack o q).t (outgoing_after_ack o q).out
    ≤ unsent o.a o.t o.out
unsent_acked o q hq h = by (is_within o.a q o.n)
  where
    by : (b : Bool)
        → (let m = cond b (distance o.a q) 0 in
        unsent (cond (m == 0) o.a q) (cond (nat_lt ((o.t + 511 - o.a) % 256) m) (next_number q) o.t)
        (drop m o.out) ≤ unsent o.a o.t o.out)
    by true =
        unsent_left o.a o.t q o.n (distance o.a q) o.out (distance o.a q == 0)
        (nat_lt ((o.t + 511 - o.a) % 256) (distance o.a q)) refl refl h.a_byte hq h.t_byte
        (inr refl)
    by false =
        unsent_left o.a o.t q o.n 0 o.out (0 == 0) (nat_lt ((o.t + 511 - o.a) % 256) 0)
        refl refl h.a_byte hq h.t_byte (inl refl)

-- ---- what comes

reply_most : (w : ℕ) (r : Owed) → price_of_reply w r ≤ 1 + 2 * w
reply_most w Quiet = omega arith
reply_most w Ack = omega arith
reply_most w (Nak reason.HeaderCheck) = omega arith
reply_most w (Nak reason.DataCheck) = omega arith
reply_most w (Nak reason.ReplyToRep) = omega arith
reply_most w (Nak reason.NoBuffer) = omega arith
reply_most w (Nak reason.Overrun) = omega arith
reply_most w (Nak reason.TooLong) = omega arith
reply_most w (Nak reason.Format) = omega arith
reply_most w (Nak (reason.Other n)) = omega arith

rep_falls : (w : ℕ) (b c : Bool) → price_of_rep w (cond b c false) ≤ price_of_rep w c
rep_falls w true c = omega arith
rep_falls w false c = omega arith

offer_brings : (w : ℕ) (b : Bool) (o : Offer) (r : Owed)
    → price_of_reply w (reply_to_offer b o r) ≤ price_of_reply w r + 1
offer_brings w true offer.Accepted Quiet = omega arith
offer_brings w true offer.Accepted Ack = omega arith
offer_brings w true offer.Accepted (Nak why) = omega arith
offer_brings w false offer.Accepted r = omega arith
offer_brings w b offer.NoRoom r = omega arith
offer_brings w b offer.OutOfSequence r = omega arith

module _ (w : ℕ) (l : Limits) where
  ack_brings : (s : StationState) (q : ℕ) → q < 256 → IsInWindow (outgoing s)
      → price_of_station w (after_ack s q) ≤ price_of_station w s
  ack_brings s q hq h =
      let u = unsent_acked (outgoing s) q hq h in
      let f = rep_falls w (newly_acknowledged s q == 0) s.rep in
      omega (arith, u, f)

  startup_brings : (s : StationState) → price_of_station w (after_startup s) ≤ price_of_station w s
  startup_brings s = omega arith

  data_brings : (s : StationState) (q num : ℕ) (message : List ℕ) → q < 256
      → IsInWindow (outgoing s)
      → price_of_station w (on_data l s q num message) ≤ price_of_station w s + 1
  data_brings s q num message hq h =
      let a = ack_brings s q hq h in
      let b =
      offer_brings w s.by_user (answer_to_offer l.room (record { r = s.r; inbox = s.inbox }) num)
      s.reply in
      omega (arith, a, b)

  nak_brings : (s : StationState) (q : ℕ) → l.window ≤ w → q < 256 → IsSound l s
      → price_of_station w (on_nak s q) ≤ price_of_station w s + 2 * w
  nak_brings s q hw hq h = by (is_within s.a q s.n)
    where
      by : (b : Bool)
          → price_of_station w
          (cond b
          (record (after_ack s q) { t = next_number (after_ack s q).a; rep = false; timer = Off })
          s) ≤ price_of_station w s + 2 * w
      by true =
          let d = length-drop (newly_acknowledged s q) s.out in let c = h.out_stored.count in
          omega (arith, d, c, hw)
      by false = omega arith

  rep_brings : (s : StationState) (num : ℕ)
      → price_of_station w (on_rep s num) ≤ price_of_station w s + (1 + 2 * w)
  rep_brings s num = let r = reply_most w (on_rep s num).reply in omega (arith, r)

  strt_brings : (s : StationState) → price_of_station w (on_strt l s) ≤ price_of_station w s + 2
  strt_brings s = by (may_restart l s)
    where
      by : (b : Bool)
          → price_of_station w
          (cond b (record (after_start s) { state = AStart; inbox = s.inbox }) (after_halt s))
          ≤ price_of_station w s + 2
      by true = omega arith
      by false = omega arith

  -- a fault is answered by a NAK at the worst
  replied : (s : StationState) (r : Owed)
      → price_of_station w (record s { reply = r }) ≤ price_of_station w s + (1 + 2 * w)
  replied s r = let z = reply_most w r in omega (arith, z)

  brings_by : (p : State) (s : StationState) (e : Received) → s.state ≡ p → l.window ≤ w
      → IsReceivable l e → IsSound l s
      → price_of_station w (on_by p l s e) ≤ price_of_station w s + price_of_received w e
  brings_by Halted s e z hw r h = omega arith
  brings_by IStart s (Good Strt) z hw r h = omega arith
  brings_by IStart s (Good Stack) z hw r h = omega arith
  brings_by IStart s e z hw r h = omega arith
  brings_by AStart s (Good Stack) z hw r h = omega arith
  brings_by AStart s (Good Strt) z hw r h =
      let x = ap (λ p. price_of_due p true) z in omega (arith, x)
  brings_by AStart s (Good (Acked q)) z hw r h = by (q == 0)
    where
      by : (b : Bool) → price_of_station w (cond b (after_startup s) s) ≤ price_of_station w s + 0
      by true = omega arith
      by false = omega arith
  brings_by AStart s (Good (Data q num message)) z hw r h = by (q == 0)
    where
      by : (b : Bool)
          → price_of_station w (cond b (on_data l (after_startup s) q num message) s)
          ≤ price_of_station w s + 1
      by true =
          let d = data_brings (after_startup s) q num message r.0 h.in_window in
          let u = startup_brings s in omega (arith, d, u)
      by false = omega arith
  brings_by AStart s e z hw r h = omega arith
  brings_by Running s (Good Strt) z hw r h = strt_brings s
  brings_by Running s (Good Stack) z hw r h = omega arith
  brings_by Running s (Good (Acked q)) z hw r h =
      let y = ack_brings s q r h.in_window in omega (arith, y)
  brings_by Running s (Good (Naked why q)) z hw r h = nak_brings s q hw r h
  brings_by Running s (Good (Rep num)) z hw r h = rep_brings s num
  brings_by Running s (Good (Data q num message)) z hw r h =
      data_brings s q num message r.0 h.in_window
  brings_by Running s (Good (Maint message)) z hw r h = omega arith
  brings_by Running s BadHeader z hw r h = replied s (Nak reason.HeaderCheck)
  brings_by Running s (BadData b) z hw r h = replied s (cond b (Nak reason.DataCheck) s.reply)
  brings_by Running s (TooLong b) z hw r h = replied s (cond b (Nak reason.TooLong) s.reply)
  brings_by Running s BadFormat z hw r h = replied s (Nak reason.Format)
  brings_by Maintenance s (Good (Maint message)) z hw r h = omega arith
  brings_by Maintenance s e z hw r h = omega arith

  pub brings : (s : StationState) (e : Received) → l.window ≤ w → IsReceivable l e → IsSound l s
      → price_of_station w (on l s e) ≤ price_of_station w s + price_of_received w e
  unfolding on
  brings s e hw r h = brings_by s.state s e refl hw r h

-- ---- a frame is sent: it is paid for

-- what a frame that is sent leads to, and what the station pays for it
abbrev pub paid : ℕ → Next → ℕ
paid w Idle = 0
paid w (Sends f u) = 1 + price_of_frame w f

pays_nak : (w : ℕ) (why : Reason) (r : ℕ)
    → 2 * w ≤ price_of_nak w why + refusal_price w (Some (Naked why r))
pays_nak w reason.HeaderCheck r = omega arith
pays_nak w reason.DataCheck r = omega arith
pays_nak w reason.ReplyToRep r = omega arith
pays_nak w reason.NoBuffer r = omega arith
pays_nak w reason.Overrun r = omega arith
pays_nak w reason.TooLong r = omega arith
pays_nak w reason.Format r = omega arith
pays_nak w (reason.Other n) r = omega arith

due_of : (p q : State) (b c : Bool) → p ≡ q → b ≡ c → price_of_due p b ≡ price_of_due q c
due_of p q b c e f = λ i. price_of_due (e i) (f i)

module _ (w : ℕ) (l : Limits) (s : StationState) (h : IsSound l s) where
  pub pays : (z : Next) → SentFor s z
      → price_of_station w (after_next z s) + paid w z
      ≤ price_of_station w s + refusal_price w (next_frame z)
  pays _ (sends_strt p d) =
      let x = due_of s.state IStart s.due true p d in
      let y = due_of s.state IStart false false p refl in omega (arith, x, y)
  pays _ (sends_stack p d) =
      let x = due_of s.state AStart s.due true p d in
      let y = due_of s.state AStart false false p refl in omega (arith, x, y)
  pays _ (sends_nak why p r) =
      let x = ap (price_of_reply w) r in let y = pays_nak w why (resp_of s) in omega (arith, x, y)
  pays _ (sends_rep p r f) = let x = ap (price_of_rep w) f in omega (arith, x)
  pays _ (sends_data p r f place) =
      let c = h.out_stored.count in let m = h.out_stored.limit_max in let i = h.in_window in
      omega (arith, place, c, m, i.a_byte, i.t_byte)
  pays _ (sends_ack p r f place) = let x = ap (price_of_reply w) r in omega (arith, x)
  pays _ (sends_maint message rest p o) =
      let t = h.fits.maintenance_t p in let n = ap length o in let a = h.in_window.a_byte in
      omega (arith, t, n, a)
  pays _ (halted_idles p) = omega arith
  pays _ (starting_idles p d) = omega arith
  pays _ (running_idles p r f place) = omega arith
  pays _ (maintenance_idles p o) = omega arith

-- ---- the timer and the user

pub expiry_brings : (w : ℕ) (s : StationState) → 1 ≤ w
    → price_of_station w (after_expire s) ≤ price_of_station w s + (2 * w + 2)
expiry_brings w s hw = at s.timer
  where
    rep : (b : Bool) → price_of_rep w (cond b s.rep true) ≤ price_of_rep w s.rep + (2 * w + 2)
    rep true = omega arith
    rep false = omega arith

    due : (p : State) → price_of_due p true ≤ 3
    due IStart = omega arith
    due AStart = omega arith
    due Halted = omega arith
    due Running = omega arith
    due Maintenance = omega arith

    by : (p : State) → price_of_station w (after_expire_in p s) ≤ price_of_station w s + (2 * w + 2)
    by Halted = omega arith
    by IStart = let d = due s.state in omega (arith, d, hw)
    by AStart = let d = due s.state in omega (arith, d, hw)
    by Running = let r = rep (s.a == s.n) in omega (arith, r)
    by Maintenance = omega arith

    at : (t : Timer)
        → price_of_station w (after_expire_with t s) ≤ price_of_station w s + (2 * w + 2)
    at Off = omega arith
    at Fresh = by s.state
    at On = by s.state

pub send_brings : (w : ℕ) (l : Limits) (s : StationState) (message : List ℕ)
    → price_of_station w (cond (may_send l s message) (after_accept s message) s)
    ≤ price_of_station w s + 2
send_brings w l s message = by (may_send l s message)
  where
    by : (b : Bool)
        → price_of_station w (cond b (after_accept s message) s) ≤ price_of_station w s + 2
    by true = let n = length-append s.out (message ∷ []) in omega (arith, n)
    by false = omega arith

pub start_brings : (w : ℕ) (s : StationState)
    → price_of_station w (cond (may_start s) (after_start s) s) ≤ price_of_station w s + 3
start_brings w s = by (may_start s)
  where
    by : (b : Bool) → price_of_station w (cond b (after_start s) s) ≤ price_of_station w s + 3
    by true = omega arith
    by false = omega arith

pub halt_brings : (w : ℕ) (s : StationState)
    → price_of_station w (after_halt s) ≤ price_of_station w s
halt_brings w s = omega arith

-- ---- the most that anything in flight leads to, and the most that a station has

pub received_most : (w : ℕ) (e : Received) → 1 ≤ w → price_of_received w e ≤ 2 * w + 1
received_most w (Good (Data q num message)) h = omega arith
received_most w (Good (Acked q)) h = omega arith
received_most w (Good (Naked why q)) h = omega arith
received_most w (Good (Rep num)) h = omega arith
received_most w (Good Strt) h = omega (arith, h)
received_most w (Good Stack) h = omega arith
received_most w (Good (Maint message)) h = omega arith
received_most w BadHeader h = omega arith
received_most w (BadData b) h = omega arith
received_most w (TooLong b) h = omega arith
received_most w BadFormat h = omega arith

due_most : (p : State) (b : Bool) → price_of_due p b ≤ 3
due_most IStart true = omega arith
due_most AStart true = omega arith
due_most _ _ = omega arith

rep_most : (w : ℕ) (b : Bool) → price_of_rep w b ≤ 2 + 2 * w
rep_most w true = omega arith
rep_most w false = omega arith

pub station_most : (w : ℕ) (l : Limits) (s : StationState) → l.window ≤ w → IsSound l s
    → price_of_station w s ≤ 6 * w + 6
station_most w l s hw h =
    let d = due_most s.state s.due in
    let r = reply_most w s.reply in
    let p = rep_most w s.rep in
    let c = h.out_stored.count in
    omega (arith, d, r, p, c, hw)
