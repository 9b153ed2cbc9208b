-- If received messages are taken in time, a NAK that says that there was no room was owed
-- before, or a message was delivered meanwhile.
use Rattle.std.proofs.Common.{◌≡◌, ◌<◌, ◌≤◌, ℕ, ◌+◌, ◌*◌, Bool, true, false, cond, List, [], ◌∷◌}
use Rattle.std.proofs.Common.{◌++◌, length, refl, sym, ap, subst, arith, length-append}
use Rattle.std.proofs.Common.{length-drop, Option, Some, None}
use Rattle.std.specs.Prelude.{◌==◌, ◌&&◌, nat_lt}
use Rattle.std.proofs.Math.Nat.{mul-le-mul_left}
use Rattle.ddcmp_frame.specs.Reading.{ReadItem}
use Rattle.ddcmp_frame.specs.declared.nak.Nak.{Nak as Reason}
use Rattle.ddcmp_frame.specs.declared.nak.Nak.TheVariants as reason
use Rattle.ddcmp_window.specs.Numbers.{is_within, next_number}
use Rattle.ddcmp_window.specs.declared.inbox.Offer.TheVariants as offer
use Rattle.ddcmp_core.specs.declared.state.State.{State}
use Rattle.ddcmp_core.specs.declared.state.State.TheVariants.{Halted, IStart, AStart, Running}
use Rattle.ddcmp_core.specs.declared.state.State.TheVariants.{Maintenance}
use Rattle.ddcmp_core.specs.declared.state.Timer.TheVariants.{Off}
use Rattle.ddcmp_core.specs.declared.state.Owed.{Owed}
use Rattle.ddcmp_core.specs.declared.state.Owed.TheVariants.{Quiet, Ack, Nak}
use Rattle.ddcmp_core.specs.NextFrame.{SentFor, sends_strt, sends_stack, sends_nak, sends_rep}
use Rattle.ddcmp_core.specs.NextFrame.{sends_data, sends_ack, sends_maint, halted_idles}
use Rattle.ddcmp_core.specs.NextFrame.{starting_idles, running_idles, maintenance_idles}
use Rattle.ddcmp_core.specs.Table.{resp_of, owed_after_take, acknowledges_by_take, after_take}
use Rattle.ddcmp_core.specs.Table.{owed_after_message}
use Rattle.ddcmp_core.specs.Table.{Limits, StationState, Data, Acked, Naked, Rep, Strt, Stack}
use Rattle.ddcmp_core.specs.Table.{Frame, has_room, Maint, Received, Good, BadHeader, BadData}
use Rattle.ddcmp_core.specs.Table.{TooLong, BadFormat, Next, next, next_frame, after_next}
use Rattle.ddcmp_core.specs.Table.{after_ack, after_startup, after_restart, after_halt}
use Rattle.ddcmp_core.specs.Table.{reply_to_offer, on_data, may_restart, on_by, on}
use Rattle.ddcmp_core.specs.Core.{CoreView}
use Rattle.ddcmp_core.proofs.Sent.{sending}
use Rattle.ddcmp_proto.specs.Bytes.{received_of, after_item, after_items, items_added}
use Rattle.ddcmp_io.specs.declared.carrier.End.TheVariants.{A, B}
use Rattle.ddcmp_pair.specs.declared.event.Event.{Event}
use Rattle.ddcmp_pair.specs.declared.event.Event.TheVariants as event
use Rattle.ddcmp_pair.specs.Pairs.{IsRun}
use Rattle.ddcmp_pair.specs.Prefix.{IsPrefixOf}
use Rattle.ddcmp_pair.specs.Recovery.{larger_window}
use Rattle.ddcmp_pair.specs.Run.{EndState, PairState, handed_up, after_poll_here, after_take_here}
use Rattle.ddcmp_pair.specs.Run.{after_arrival_here, after_event}
use Rattle.ddcmp_pair.proofs.Calls.{take-up}
use Rattle.ddcmp_pair.proofs.Ready.{kept}
use Rattle.ddcmp_pair.proofs.Steady.{Shows, IsAwake, inbox-sent}
use Rattle.ddcmp_laws.specs.LossFree.{Line, after_on_line, IsLossFree, run_on_line, IsWhole}
use Rattle.ddcmp_laws.specs.Price.{refusal_price, added_by}
use Rattle.ddcmp_laws.specs.Rests.{GoesOn, IsUnderWay}
use Rattle.ddcmp_laws.specs.Sweeps.{OnlyCarries, FindsRoom, AreTakenInTime, in_a_row, AreInTime}
use Rattle.ddcmp_laws.specs.Sweeps.{FindsRoomForAll, AreTakenAtOnce, AreAtOnce}
use Rattle.ddcmp_laws.specs.Sweeps.{AreEnough, AreSweeps}
use Rattle.ddcmp_laws.proofs.Settling.{pair_is, begins, most}
use Rattle.ddcmp_laws.proofs.Resting.{all_under}
use Rattle.ddcmp_laws.proofs.Sweeping.{carries-on, added_on, added-is}

-- whether a message that was refused as there was no room is still to be reported
abbrev refused : Owed → ℕ
refused (Nak reason.NoBuffer) = 1
refused _ = 0

refused-most : (r : Owed) → refused r ≤ 1
refused-most Quiet = omega arith
refused-most Ack = omega arith
refused-most (Nak reason.HeaderCheck) = omega arith
refused-most (Nak reason.DataCheck) = omega arith
refused-most (Nak reason.ReplyToRep) = omega arith
refused-most (Nak reason.NoBuffer) = omega arith
refused-most (Nak reason.Overrun) = omega arith
refused-most (Nak reason.TooLong) = omega arith
refused-most (Nak reason.Format) = omega arith
refused-most (Nak (reason.Other n)) = omega arith

-- ---- what comes

-- where there is room nothing is refused, and the inbox grows by one message at most
record Roomy (room : ℕ) (s t : StationState) : Type 0 where
  reply : length s.inbox < room → refused t.reply ≤ refused s.reply
  inbox : length t.inbox ≤ length s.inbox + 1
  grows : length s.inbox ≤ length t.inbox

module _ (l : Limits) where
  same : (s : StationState) → Roomy l.room s s
  same s = record { reply = λ f. omega arith; inbox = omega arith; grows = omega arith }

  keeps : (s t : StationState) → refused t.reply ≤ refused s.reply → t.inbox ≡ s.inbox
      → Roomy l.room s t
  keeps s t r e =
      let n = ap length e in
      record { reply = λ f. r; inbox = omega (arith, n); grows = omega (arith, n) }

  owes : (s : StationState) (r : Owed) → refused r ≡ 0 → Roomy l.room s (record s { reply = r })
  owes s r e = keeps s (record s { reply = r }) (omega (arith, e)) refl

  received : (b : Bool) (r : Owed) → refused (owed_after_message b r) ≤ refused r
  received true Quiet = omega arith
  received true Ack = omega arith
  received true (Nak why) = omega arith
  received false r = omega arith

  data-rooms : (s : StationState) (message : List ℕ) (b c : Bool)
      → nat_lt (length s.inbox) l.room ≡ c
      → Roomy l.room s
      (record s {
        reply =
            reply_to_offer s.by_user
            (cond b (cond c offer.Accepted offer.NoRoom) offer.OutOfSequence) s.reply;
        inbox = cond (b && c) (s.inbox ++ message ∷ []) s.inbox;
      })
  data-rooms s message true true e =
      let n = length-append s.inbox (message ∷ []) in
      record {
        reply = λ f. received s.by_user s.reply;
        inbox = omega (arith, n);
        grows = omega (arith, n);
      }
  data-rooms s message true false e =
      record {
        reply = λ f. absurd
            (let z : l.room ≤ length s.inbox = grind (arith, e) in omega (arith, z, f));
        inbox = omega arith;
        grows = omega arith;
      }
  data-rooms s message false c e = keeps s _ (omega arith) refl

  data-comes : (s : StationState) (resp num : ℕ) (message : List ℕ)
      → Roomy l.room s (on_data l s resp num message)
  data-comes s resp num message =
      let d =
      data-rooms s message (num == next_number s.r) (nat_lt (length s.inbox) l.room) refl in
      record { reply = d.reply; inbox = d.inbox; grows = d.grows }

  comes-by : (p : State) (s : StationState) (e : Received) → Roomy l.room s (on_by p l s e)
  comes-by Halted s e = same s
  comes-by IStart s (Good Stack) = keeps s _ (omega arith) refl
  comes-by IStart s (Good Strt) = keeps s _ (omega arith) refl
  comes-by IStart s e = same s
  comes-by AStart s (Good Stack) = keeps s _ (omega arith) refl
  comes-by AStart s (Good Strt) = keeps s _ (omega arith) refl
  comes-by AStart s (Good (Acked q)) = by (q == 0)
    where
      by : (b : Bool) → Roomy l.room s (cond b (after_startup s) s)
      by true = keeps s _ (omega arith) refl
      by false = same s
  comes-by AStart s (Good (Data q num message)) = by (q == 0)
    where
      by : (b : Bool) → Roomy l.room s (cond b (on_data l (after_startup s) q num message) s)
      by true =
          let d = data-comes (after_startup s) q num message in
          record { reply = d.reply; inbox = d.inbox; grows = d.grows }
      by false = same s
  comes-by AStart s e = same s
  comes-by Running s (Good Strt) = by (may_restart l s)
    where
      by : (b : Bool) → Roomy l.room s (cond b (after_restart s) (after_halt s))
      by true = keeps s _ (omega arith) refl
      by false = keeps s _ (omega arith) refl
  comes-by Running s (Good Stack) = owes s Ack refl
  comes-by Running s (Good (Acked q)) = keeps s _ (omega arith) refl
  comes-by Running s (Good (Naked why q)) = by (is_within s.a q s.n)
    where
      by : (b : Bool)
          → Roomy l.room s (cond b
          (record (after_ack s q) { t = next_number (after_ack s q).a; rep = false; timer = Off })
          s)
      by true = keeps s _ (omega arith) refl
      by false = same s
  comes-by Running s (Good (Rep num)) = by (num == s.r)
    where
      by : (b : Bool) → Roomy l.room s (record s { reply = cond b Ack (Nak reason.ReplyToRep) })
      by true = owes s Ack refl
      by false = owes s (Nak reason.ReplyToRep) refl
  comes-by Running s (Good (Data q num message)) = data-comes s q num message
  comes-by Running s (Good (Maint message)) = same s
  comes-by Running s BadHeader = owes s (Nak reason.HeaderCheck) refl
  comes-by Running s (BadData of_data) = by of_data
    where
      by : (b : Bool) → Roomy l.room s (record s { reply = cond b (Nak reason.DataCheck) s.reply })
      by true = owes s (Nak reason.DataCheck) refl
      by false = same s
  comes-by Running s (TooLong of_data) = by of_data
    where
      by : (b : Bool) → Roomy l.room s (record s { reply = cond b (Nak reason.TooLong) s.reply })
      by true = owes s (Nak reason.TooLong) refl
      by false = same s
  comes-by Running s BadFormat = owes s (Nak reason.Format) refl
  comes-by Maintenance s (Good (Maint message)) = by (nat_lt (length s.inbox) l.room)
    where
      by : (b : Bool)
          → Roomy l.room s (record s { inbox = cond b (s.inbox ++ message ∷ []) s.inbox })
      by true =
          let n = length-append s.inbox (message ∷ []) in
          record { reply = λ f. omega arith; inbox = omega (arith, n); grows = omega (arith, n) }
      by false = same s
  comes-by Maintenance s e = same s

  comes : (s : StationState) (e : Received) → Roomy l.room s (on l s e)
  unfolding on
  comes s e = comes-by s.state s e

-- where all that comes finds room
items-come : (given : List ReadItem) (k : CoreView)
    → length k.station.inbox + length given ≤ k.limits.room
    → refused (after_items given k).station.reply ≤ refused k.station.reply
unfolding after_items
items-come [] k n = omega arith
items-come (g ∷ rest) k n =
    let c = comes k.limits k.station (received_of g) in
    let i = c.inbox in
    let r = c.reply (omega (arith, n)) in
    let m = items-come rest (after_item g k) (omega (arith, n, i)) in
    omega (arith, r, m)

-- where the first does: so many were refused before, and the inbox had so many messages
record Grown (c m : ℕ) (s : StationState) : Type 0 where
  told : refused s.reply + m ≤ c + length s.inbox
  least : m ≤ length s.inbox

items-grow : (c m : ℕ) (given : List ReadItem) (k : CoreView) → m < k.limits.room
    → Grown c m k.station → Grown c m (after_items given k).station
unfolding after_items
items-grow c m [] k room h = h
items-grow c m (g ∷ rest) k room h =
    items-grow c m rest (after_item g k) room
    (by (nat_lt (length k.station.inbox) k.limits.room) refl)
  where
    z : Roomy k.limits.room k.station (on k.limits k.station (received_of g))
    z = comes k.limits k.station (received_of g)

    by : (b : Bool) → nat_lt (length k.station.inbox) k.limits.room ≡ b
        → Grown c m (on k.limits k.station (received_of g))
    by true e =
        let f : length k.station.inbox < k.limits.room = grind (arith, e) in
        let r = z.reply f in
        let i = z.grows in
        let t = h.told in
        let n = h.least in
        record { told = omega (arith, r, i, t); least = omega (arith, i, n) }
    by false e =
        let f : k.limits.room ≤ length k.station.inbox = grind (arith, e) in
        let r = refused-most (on k.limits k.station (received_of g)).reply in
        let i = z.grows in
        let n = h.least in
        record { told = omega (arith, r, i, f, room); least = omega (arith, i, n) }

-- ---- what is sent

-- a frame that says that there was no room
abbrev refuses : Option Frame → ℕ
refuses (Some (Naked reason.NoBuffer resp)) = 1
refuses _ = 0

price-of-refusal : (w : ℕ) (f : Option Frame) → refusal_price w f ≤ 2 * w * refuses f
price-of-refusal w None = omega arith
price-of-refusal w (Some (Naked reason.NoBuffer resp)) = omega arith
price-of-refusal w (Some f) = omega arith

nak-tells : (why : Reason) (r : ℕ) → refuses (Some (Naked why r)) ≤ refused (Nak why)
nak-tells reason.HeaderCheck r = omega arith
nak-tells reason.DataCheck r = omega arith
nak-tells reason.ReplyToRep r = omega arith
nak-tells reason.NoBuffer r = omega arith
nak-tells reason.Overrun r = omega arith
nak-tells reason.TooLong r = omega arith
nak-tells reason.Format r = omega arith
nak-tells (reason.Other n) r = omega arith

goes : (s : StationState) (z : Next) → SentFor s z
    → refuses (next_frame z) + refused (after_next z s).reply ≤ refused s.reply
goes s _ (sends_strt p d) = omega arith
goes s _ (sends_stack p d) = omega arith
goes s _ (sends_nak why p r) =
    let x = ap refused r in let y = nak-tells why (resp_of s) in omega (arith, x, y)
goes s _ (sends_rep p r f) = omega arith
goes s _ (sends_data p r f place) = omega arith
goes s _ (sends_ack p r f place) = omega arith
goes s _ (sends_maint message rest p o) = omega arith
goes s _ (halted_idles p) = omega arith
goes s _ (starting_idles p d) = omega arith
goes s _ (running_idles p r f place) = omega arith
goes s _ (maintenance_idles p o) = omega arith

polled : (x : EndState)
    → refuses (next_frame (next x.core.station))
    + refused (after_next (next x.core.station) x.core.station).reply
    ≤ refused x.core.station.reply
polled x = goes x.core.station (next x.core.station) (sending x.core.station)

-- ---- events

abbrev refuses_by : Event → Line → ℕ
refuses_by (event.Poll A) l = refuses (next_frame (next l.pair.a.core.station))
refuses_by (event.Poll B) l = refuses (next_frame (next l.pair.b.core.station))
refuses_by e l = 0

unfoldable refusals : List Event → Line → ℕ
refusals [] l = 0
refusals (e ∷ rest) l = refuses_by e l + refusals rest (after_on_line e l)

adds-by : (w : ℕ) (e : Event) (rest : List Event) (l : Line) → OnlyCarries (e ∷ rest)
    → added_by w e l.pair ≤ 2 * w * refuses_by e l
adds-by w (event.Poll A) rest l c = price-of-refusal w (next_frame (next l.pair.a.core.station))
adds-by w (event.Poll B) rest l c = price-of-refusal w (next_frame (next l.pair.b.core.station))
adds-by w (event.Arrive e bytes) rest l c = omega arith
adds-by w (event.Take e) rest l c = omega arith
adds-by w (event.Start e) rest l c = absurd c
adds-by w (event.Halt e) rest l c = absurd c
adds-by w (event.Send e m) rest l c = absurd c
adds-by w (event.Expire e) rest l c = absurd c
adds-by w event.Clear rest l c = absurd c

all-add : (w : ℕ) (events : List Event) (l : Line) → OnlyCarries events
    → added_on w events l ≤ 2 * w * refusals events l
unfolding added_on refusals
all-add w [] l c = omega arith
all-add w (e ∷ rest) l c =
    let a = adds-by w e rest l c in
    let m = all-add w rest (after_on_line e l) (carries-on e rest c) in
    omega (arith, a, m)

abbrev both_refused : Line → ℕ
both_refused l = refused l.pair.a.core.station.reply + refused l.pair.b.core.station.reply

-- a take refuses none
refused-taken : (s : StationState) → refused (after_take s).reply ≡ refused s.reply
refused-taken s = by (acknowledges_by_take s) s.reply
  where
    by : (b : Bool) (r : Owed) → refused (cond b (owed_after_take r) r) ≡ refused r
    by true Quiet = refl
    by true Ack = refl
    by true (Nak why) = refl
    by false r = refl

-- ---- where all finds room, no more are reported than were refused before

tells : (e : Event) (rest : List Event) (l : Line) → OnlyCarries (e ∷ rest)
    → FindsRoomForAll e l.pair → refuses_by e l + both_refused (after_on_line e l) ≤ both_refused l
unfolding after_event
tells (event.Poll A) rest l c f = let p = polled l.pair.a in omega (arith, p)
tells (event.Poll B) rest l c f = let p = polled l.pair.b in omega (arith, p)
tells (event.Arrive A bytes) rest l c f =
    let x = l.pair.a in
    let i = items-come (items_added x.core.limits.longest x.arrived bytes) x.core f in
    omega (arith, i)
tells (event.Arrive B bytes) rest l c f =
    let x = l.pair.b in
    let i = items-come (items_added x.core.limits.longest x.arrived bytes) x.core f in
    omega (arith, i)
tells (event.Take A) rest l c f =
    let n = refused-taken l.pair.a.core.station in omega (arith, n)
tells (event.Take B) rest l c f =
    let n = refused-taken l.pair.b.core.station in omega (arith, n)
tells (event.Start e) rest l c f = absurd c
tells (event.Halt e) rest l c f = absurd c
tells (event.Send e m) rest l c f = absurd c
tells (event.Expire e) rest l c f = absurd c
tells event.Clear rest l c f = absurd c

all-tell : (events : List Event) (l : Line) → OnlyCarries events
    → AreTakenAtOnce events l.pair → refusals events l ≤ both_refused l
unfolding refusals
all-tell [] l c f = omega arith
all-tell (e ∷ rest) l c f =
    let a = tells e rest l c f.0 in
    let m =
    all-tell rest (after_on_line e l) (carries-on e rest c)
    (subst (λ (p : PairState). AreTakenAtOnce rest p) (sym (pair_is e l)) f.1) in
    omega (arith, a, m)

-- ---- where one finds room, no more than were refused before and are delivered meanwhile

abbrev both_up : Line → ℕ
both_up l = length (handed_up l.pair.a) + length (handed_up l.pair.b)

arrives-up : (bytes : List ℕ) (x : EndState) → has_room x.core.limits x.core.station ≡ true
    → refused (after_arrival_here bytes x).core.station.reply + length (handed_up x)
    ≤ refused x.core.station.reply + length (handed_up (after_arrival_here bytes x))
arrives-up bytes x room =
    let s = x.core.station in
    let given = items_added x.core.limits.longest x.arrived bytes in
    let f : length s.inbox < x.core.limits.room = grind (arith, room) in
    let g =
    items-grow (refused s.reply) (length s.inbox) given x.core f
    (record { told = omega arith; least = omega arith }) in
    let t = g.told in
    let n = length-append x.taken s.inbox in
    let m = length-append x.taken (after_items given x.core).station.inbox in
    omega (arith, t, n, m)

polls-up : (x : EndState) → length (handed_up (after_poll_here x)) ≡ length (handed_up x)
polls-up x =
    ap (λ i. length (x.taken ++ i))
    (inbox-sent x.core.station (next x.core.station) (sending x.core.station))

takes-up : (x : EndState) → length (handed_up (after_take_here x)) ≡ length (handed_up x)
takes-up x = ap length (take-up x.taken x.core.station.inbox)

delivers : (e : Event) (rest : List Event) (l : Line) → OnlyCarries (e ∷ rest)
    → FindsRoom e l.pair
    → refuses_by e l + both_refused (after_on_line e l) + both_up l
    ≤ both_refused l + both_up (after_on_line e l)
unfolding after_event
delivers (event.Poll A) rest l c f =
    let p = polled l.pair.a in let u = polls-up l.pair.a in omega (arith, p, u)
delivers (event.Poll B) rest l c f =
    let p = polled l.pair.b in let u = polls-up l.pair.b in omega (arith, p, u)
delivers (event.Arrive A bytes) rest l c f =
    let i = arrives-up bytes l.pair.a f in omega (arith, i)
delivers (event.Arrive B bytes) rest l c f =
    let i = arrives-up bytes l.pair.b f in omega (arith, i)
delivers (event.Take A) rest l c f =
    let u = takes-up l.pair.a in
    let n = refused-taken l.pair.a.core.station in omega (arith, u, n)
delivers (event.Take B) rest l c f =
    let u = takes-up l.pair.b in
    let n = refused-taken l.pair.b.core.station in omega (arith, u, n)
delivers (event.Start e) rest l c f = absurd c
delivers (event.Halt e) rest l c f = absurd c
delivers (event.Send e m) rest l c f = absurd c
delivers (event.Expire e) rest l c f = absurd c
delivers event.Clear rest l c f = absurd c

all-deliver : (events : List Event) (l : Line) → OnlyCarries events
    → AreTakenInTime events l.pair
    → refusals events l + both_up l ≤ both_refused l + both_up (run_on_line events l)
unfolding refusals run_on_line
all-deliver [] l c f = omega arith
all-deliver (e ∷ rest) l c f =
    let a = delivers e rest l c f.0 in
    let m =
    all-deliver rest (after_on_line e l) (carries-on e rest c)
    (subst (λ (p : PairState). AreTakenInTime rest p) (sym (pair_is e l)) f.1) in
    omega (arith, a, m)

-- none is accepted meanwhile
gives-none : (events : List Event) (l : Line) → OnlyCarries events
    → ((run_on_line events l).pair.a.given ≡ l.pair.a.given)
    × ((run_on_line events l).pair.b.given ≡ l.pair.b.given)
unfolding run_on_line after_event
gives-none [] l c = (refl, refl)
gives-none (event.Poll A ∷ rest) l c = gives-none rest (after_on_line (event.Poll A) l) c
gives-none (event.Poll B ∷ rest) l c = gives-none rest (after_on_line (event.Poll B) l) c
gives-none (event.Arrive A bytes ∷ rest) l c =
    gives-none rest (after_on_line (event.Arrive A bytes) l) c
gives-none (event.Arrive B bytes ∷ rest) l c =
    gives-none rest (after_on_line (event.Arrive B bytes) l) c
gives-none (event.Take A ∷ rest) l c = gives-none rest (after_on_line (event.Take A) l) c
gives-none (event.Take B ∷ rest) l c = gives-none rest (after_on_line (event.Take B) l) c
gives-none (event.Start e ∷ rest) l c = absurd c
gives-none (event.Halt e ∷ rest) l c = absurd c
gives-none (event.Send e m ∷ rest) l c = absurd c
gives-none (event.Expire e ∷ rest) l c = absurd c
gives-none (event.Clear ∷ rest) l c = absurd c

pub carried-on : (events : List Event) → OnlyCarries events → GoesOn events
carried-on [] c = tt
carried-on (event.Poll e ∷ rest) c = carried-on rest c
carried-on (event.Arrive e bytes ∷ rest) c = carried-on rest c
carried-on (event.Take e ∷ rest) c = carried-on rest c
carried-on (event.Start e ∷ rest) c = absurd c
carried-on (event.Halt e ∷ rest) c = absurd c
carried-on (event.Send e m ∷ rest) c = absurd c
carried-on (event.Expire e ∷ rest) c = absurd c
carried-on (event.Clear ∷ rest) c = absurd c

-- what isn't delivered is kept, and a window holds it
left-over : (x y : EndState) → Shows x y → length x.core.station.out ≤ x.core.limits.window
    → length x.given ≤ length (handed_up y) + x.core.limits.window
left-over x y s o =
    let k = ap length s.numbers.out_is in
    let d = length-drop x.acknowledged x.given in
    let n = s.low in
    omega (arith, k, d, n, o)

prefix-shorter : (xs ys : List (List ℕ)) → IsPrefixOf xs ys → length xs ≤ length ys
prefix-shorter xs ys p =
    let n = length-append xs p.0 in let e = ap length p.1 in omega (arith, n, e)

module _ (l : Line) (r : IsRun l.pair) (h : IsWhole l) (u : IsUnderWay l) where
  delivered-most : (events : List Event) → OnlyCarries events → IsLossFree events l
      → both_up (run_on_line events l) ≤ both_up l + 2 * larger_window l.pair
  delivered-most events c n =
      let m = run_on_line events l in
      let g = all_under (larger_window l.pair) events l (carried-on events c) n r (begins l h) u in
      let awake : IsAwake l.pair = record { a = u.awake_a; b = u.awake_b } in
      let v = g.under_way in
      let awake' : IsAwake m.pair = record { a = v.awake_a; b = v.awake_b } in
      let a = kept.from_a l.pair r u.honest u.clean awake in
      let b = kept.from_b l.pair r u.honest u.clean awake in
      let a' = kept.from_a m.pair g.is_run v.honest v.clean awake' in
      let b' = kept.from_b m.pair g.is_run v.honest v.clean awake' in
      let p = prefix-shorter (handed_up m.pair.b) m.pair.a.given a'.prefix in
      let q = prefix-shorter (handed_up m.pair.a) m.pair.b.given b'.prefix in
      let s = gives-none events l c in
      let i = ap length s.0 in
      let j = ap length s.1 in
      let x = left-over l.pair.a l.pair.b a h.sound_a.out_stored.count in
      let y = left-over l.pair.b l.pair.a b h.sound_b.out_stored.count in
      omega (arith, p, q, i, j, x, y)

carries-append : (first second : List Event) → OnlyCarries first → OnlyCarries second
    → OnlyCarries (first ++ second)
carries-append [] second c d = d
carries-append (event.Poll e ∷ rest) second c d = carries-append rest second c d
carries-append (event.Arrive e bytes ∷ rest) second c d = carries-append rest second c d
carries-append (event.Take e ∷ rest) second c d = carries-append rest second c d
carries-append (event.Start e ∷ rest) second c d = absurd c
carries-append (event.Halt e ∷ rest) second c d = absurd c
carries-append (event.Send e m ∷ rest) second c d = absurd c
carries-append (event.Expire e ∷ rest) second c d = absurd c
carries-append (event.Clear ∷ rest) second c d = absurd c

pub row-carries : (sweeps : List (List Event)) (l : Line) → AreSweeps sweeps l
    → OnlyCarries (in_a_row sweeps)
unfolding in_a_row
row-carries [] l s = tt
row-carries (sweep ∷ rest) l s =
    carries-append sweep (in_a_row rest) s.0.carries (row-carries rest _ s.1)

-- ---- how many are enough

pub at-once : (sweeps : List (List Event)) (l : Line) → IsWhole l → AreAtOnce sweeps l
    → AreEnough sweeps l
at-once sweeps l h t =
    let w = larger_window l.pair in
    let events = in_a_row sweeps in
    let c = row-carries sweeps l t.each in
    let a = all-add w events l c in
    let b = all-tell events l c t.taken in
    let i = added-is w events l in
    let o = refused-most l.pair.a.core.station.reply in
    let p = refused-most l.pair.b.core.station.reply in
    let k : 2 * w * refusals events l ≤ 2 * w * 2 = mul-le-mul_left (2 * w)
    (omega (arith, b, o, p)) in
    let m = most l h in
    let n = t.enough in
    record { each = t.each; enough = omega (arith, a, i, k, m, n) }

pub in-time : (sweeps : List (List Event)) (l : Line) → IsRun l.pair → IsWhole l → IsUnderWay l
    → IsLossFree (in_a_row sweeps) l → AreInTime sweeps l → AreEnough sweeps l
in-time sweeps l r h u f t =
    let w = larger_window l.pair in
    let events = in_a_row sweeps in
    let c = row-carries sweeps l t.each in
    let a = all-add w events l c in
    let b = all-deliver events l c t.taken in
    let d = delivered-most l r h u events c f in
    let i = added-is w events l in
    let o = refused-most l.pair.a.core.station.reply in
    let p = refused-most l.pair.b.core.station.reply in
    let k : 2 * w * refusals events l ≤ 2 * w * (2 + 2 * w) =
    mul-le-mul_left (2 * w) (omega (arith, b, d, o, p)) in
    let m = most l h in
    let n = t.enough in
    record { each = t.each; enough = omega (arith, a, i, k, m, n) }
