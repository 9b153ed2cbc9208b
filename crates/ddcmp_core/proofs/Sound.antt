-- Each function of the table keeps what holds of every core.
use Rattle.std.proofs.Common.{◌≡◌, ◌≢◌, ℕ, ◌<◌, ◌≤◌, Bool, true, false, cond, List, [], ◌∷◌, ◌++◌}
use Rattle.std.proofs.Common.{length, drop, refl, ap, arith}
use Rattle.std.specs.Prelude.{◌==◌}
use Rattle.std.proofs.lemmas.List.{nil_from_length}
use Rattle.ddcmp_window.specs.declared.inbox.Offer.{Offer}
use Rattle.ddcmp_window.specs.declared.inbox.Offer.TheVariants as offer
use Rattle.ddcmp_window.specs.Store.{IsStored}
use Rattle.ddcmp_window.specs.Numbers.{is_within, next_number}
use Rattle.ddcmp_window.specs.Inbox.{answer_to_offer}
use Rattle.ddcmp_core.specs.declared.state.State.{State}
use Rattle.ddcmp_core.specs.declared.state.State.TheVariants.{Halted, IStart, AStart, Running}
use Rattle.ddcmp_core.specs.declared.state.State.TheVariants.{Maintenance}
use Rattle.ddcmp_core.specs.declared.state.Owed.{Owed}
use Rattle.ddcmp_core.specs.declared.state.Owed.TheVariants.{Quiet, Ack, Nak}
use Rattle.ddcmp_core.specs.declared.state.Timer.{Timer}
use Rattle.ddcmp_core.specs.declared.state.Timer.TheVariants.{Off, Fresh, On}
use Rattle.ddcmp_core.specs.Table.{StationState, Limits, Data, Acked, Naked, Rep, Strt, Stack}
use Rattle.ddcmp_core.specs.Table.{Maint, Received, Good, BadHeader, BadData, TooLong, BadFormat}
use Rattle.ddcmp_core.specs.Table.{outgoing, incoming, station_begun, new_station}
use Rattle.ddcmp_core.specs.Table.{newly_acknowledged, after_ack, before_next, takes_data, has_room}
use Rattle.ddcmp_core.specs.Table.{reply_to_offer, after_offer, on_data, on_nak, on_maintenance}
use Rattle.ddcmp_core.specs.Table.{on_by, on, after_startup, after_halt, after_restart, may_restart}
use Rattle.ddcmp_core.specs.Table.{on_strt, may_start, after_start, after_enter_maintenance}
use Rattle.ddcmp_core.specs.Table.{may_send, may_send_maintenance, after_accept, after_take}
use Rattle.ddcmp_core.specs.Table.{owed_after_take, acknowledges_by_take}
use Rattle.ddcmp_core.specs.Choosing.{after_choose}
use Rattle.ddcmp_core.specs.Table.{after_take_arm, after_expire_in, after_expire_with, after_expire}
use Rattle.ddcmp_core.specs.Table.{is_running, is_maintenance, is_starting, is_fresh, Next, next}
use Rattle.ddcmp_core.specs.Table.{timer_started, after_next}
use Rattle.ddcmp_core.specs.Core.{IsSound, IsReceivable, FitsState, is_sent_reply}
use Rattle.ddcmp_core.specs.NextFrame.{SentFor, sends_strt, sends_stack, sends_nak, sends_rep}
use Rattle.ddcmp_core.specs.NextFrame.{sends_data, sends_ack, sends_maint, halted_idles}
use Rattle.ddcmp_core.specs.NextFrame.{starting_idles, running_idles, maintenance_idles}
use Rattle.ddcmp_core.proofs.Fits.{fits_any}
use Rattle.ddcmp_core.proofs.Sent.{sending}
use Rattle.ddcmp_core.proofs.Windows.{window_acknowledging, window_again, window_sent, window_more}
use Rattle.ddcmp_core.proofs.Windows.{window_new, window_popped, stored_drop, stored_none}
use Rattle.ddcmp_core.proofs.Windows.{stored_more}

running_other : (p : State) → p ≡ Running → p ≢ Maintenance
running_other p e m = cc

halted_other : (p : State) → p ≡ Halted → p ≢ Maintenance
halted_other p e m = cc

-- another state, other flags and another timer
flags : (l : Limits) (s : StationState) (p : State) (due : Bool) (reply : Owed) (rep : Bool)
    (timer : Timer)
    → (IsSound l s
    → FitsState (record s { state = p; due = due; reply = reply; rep = rep; timer = timer }))
    → IsSound l s
    → IsSound l (record s { state = p; due = due; reply = reply; rep = rep; timer = timer })
flags l s p due reply rep timer f h =
    record {
      r_byte = h.r_byte;
      in_window = h.in_window;
      out_stored = h.out_stored;
      inbox_stored = h.inbox_stored;
      fits = f h;
    }

-- the state stays
same_state : (l : Limits) (s : StationState) (due : Bool) (reply : Owed) (rep : Bool)
    (timer : Timer) → is_sent_reply reply ≡ true
    → IsSound l s → IsSound l (record s { due = due; reply = reply; rep = rep; timer = timer })
same_state l s due reply rep timer r h =
    flags l s s.state due reply rep timer
    (λ k. record {
      starting_r = k.fits.starting_r;
      starting_out = k.fits.starting_out;
      starting_inbox = k.fits.starting_inbox;
      maintenance_n = k.fits.maintenance_n;
      maintenance_t = k.fits.maintenance_t;
      sent_reply = r;
    })
    h

to_running : (l : Limits) (s : StationState) (reply : Owed) → is_sent_reply reply ≡ true
    → IsSound l s
    → IsSound l (record s { state = Running; due = false; timer = Off; reply = reply })
to_running l s reply r h =
    flags l s Running false reply s.rep Off
    (λ k. fits_any (record s { state = Running; due = false; reply = reply; timer = Off }) refl
    (running_other Running refl) r)
    h

pub sound_halted : (l : Limits) (s : StationState) → IsSound l s → IsSound l (after_halt s)
sound_halted l s h =
    flags l s Halted false Quiet false Off
    (λ k. fits_any (after_halt s) refl (halted_other Halted refl) refl) h

-- ---- a beginning

begun_fits : (p : State) (due u : Bool) (inbox : List (List ℕ)) → inbox ≡ []
    → FitsState (station_begun p due u inbox)
begun_fits p due u inbox e =
    record {
      starting_r = λ q. refl;
      starting_out = λ q. refl;
      starting_inbox = λ q. e;
      maintenance_n = λ q. refl;
      maintenance_t = λ q. refl;
      sent_reply = refl;
    }

sound_begun : (l : Limits) (s : StationState) (p : State) (due : Bool) → s.inbox ≡ [] → IsSound l s
    → IsSound l (station_begun p due s.by_user s.inbox)
sound_begun l s p due e h =
    record {
      r_byte = omega arith;
      in_window = window_new;
      out_stored = stored_none l.window l.longest s.out h.out_stored;
      inbox_stored = h.inbox_stored;
      fits = begun_fits p due s.by_user s.inbox e;
    }

empty_inbox : (s : StationState) → may_start s ≡ true → s.inbox ≡ []
empty_inbox s e = let z : length s.inbox ≡ 0 = grind (arith) in nil_from_length s.inbox z

pub sound_new : (l : Limits) → IsStored l.window l.longest [] → IsStored l.room l.longest []
    → IsSound l new_station
sound_new l out inbox =
    record {
      r_byte = omega arith;
      in_window = window_new;
      out_stored = out;
      inbox_stored = inbox;
      fits = begun_fits Halted false false [] refl;
    }

pub sound_started : (l : Limits) (s : StationState) → may_start s ≡ true → IsSound l s
    → IsSound l (after_start s)
sound_started l s e h = sound_begun l s IStart true (empty_inbox s e) h

pub sound_in_maintenance : (l : Limits) (s : StationState) → may_start s ≡ true → IsSound l s
    → IsSound l (after_enter_maintenance s)
sound_in_maintenance l s e h = sound_begun l s Maintenance false (empty_inbox s e) h

sound_strt : (l : Limits) (s : StationState) → IsSound l s → IsSound l (on_strt l s)
sound_strt l s h = by (may_restart l s) refl
  where
    by : (b : Bool) → may_restart l s ≡ b → IsSound l (cond b (after_restart s) (after_halt s))
    by true e =
        let z : length s.inbox ≡ 0 = grind (arith) in
        sound_begun l s AStart true (nil_from_length s.inbox z) h
    by false e = sound_halted l s h

-- ---- what comes at a running station

sound_acknowledging : (l : Limits) (s : StationState) (q : ℕ) → s.state ≡ Running → q < 256
    → IsSound l s → IsSound l (after_ack s q)
sound_acknowledging l s q e hq h =
    record {
      r_byte = h.r_byte;
      in_window = window_acknowledging (outgoing s) q hq h.in_window;
      out_stored = stored_drop l.window l.longest (newly_acknowledged s q) s.out h.out_stored;
      inbox_stored = h.inbox_stored;
      fits =
          fits_any (after_ack s q) (ap is_starting e) (running_other s.state e) h.fits.sent_reply;
    }

sound_nak : (l : Limits) (s : StationState) (q : ℕ) → s.state ≡ Running → q < 256 → IsSound l s
    → IsSound l (on_nak s q)
sound_nak l s q e hq h = by (is_within s.a q s.n)
  where
    by : (b : Bool)
        → IsSound l
        (cond b
        (record (after_ack s q) { t = next_number (after_ack s q).a; rep = false; timer = Off }) s)
    by true =
        let u = after_ack s q in
        let k = sound_acknowledging l s q e hq h in
        record {
          r_byte = k.r_byte;
          in_window = window_again (outgoing u) k.in_window;
          out_stored = k.out_stored;
          inbox_stored = k.inbox_stored;
          fits =
              fits_any (record u { t = next_number u.a; rep = false; timer = Off })
              (ap is_starting e) (running_other s.state e) h.fits.sent_reply;
        }
    by false = h

offer_fits : (b : Bool) (o : Offer) (reply : Owed) → is_sent_reply reply ≡ true
    → is_sent_reply (reply_to_offer b o reply) ≡ true
offer_fits true offer.Accepted Quiet r = refl
offer_fits true offer.Accepted Ack r = refl
offer_fits true offer.Accepted (Nak why) r = refl
offer_fits false offer.Accepted reply r = refl
offer_fits b offer.NoRoom reply r = refl
offer_fits b offer.OutOfSequence reply r = r

byte_if : (b : Bool) (x y : ℕ) → x < 256 → y < 256 → cond b x y < 256
byte_if true x y hx hy = hx
byte_if false x y hx hy = hy

sound_put : (l : Limits) (s : StationState) (num : ℕ) (message : List ℕ) → s.state ≡ Running
    → num < 256 → 1 ≤ length message → length message ≤ l.longest
    → IsSound l s → IsSound l (after_offer l s num message)
sound_put l s num message e hn low high h =
    record {
      r_byte = byte_if (takes_data l s num) num s.r hn h.r_byte;
      in_window = h.in_window;
      out_stored = h.out_stored;
      inbox_stored = by (takes_data l s num) refl;
      fits =
          fits_any (after_offer l s num message) (ap is_starting e) (running_other s.state e)
          (offer_fits s.by_user (answer_to_offer l.room (incoming s) num) s.reply
          h.fits.sent_reply);
    }
  where
    by : (b : Bool) → takes_data l s num ≡ b
        → IsStored l.room l.longest (cond b (s.inbox ++ message ∷ []) s.inbox)
    by true t =
        let room : length s.inbox < l.room = grind (arith) in
        stored_more l.room l.longest s.inbox message room low high h.inbox_stored
    by false t = h.inbox_stored

sound_data : (l : Limits) (s : StationState) (resp num : ℕ) (message : List ℕ) → s.state ≡ Running
    → resp < 256 → num < 256 → 1 ≤ length message → length message ≤ l.longest
    → IsSound l s → IsSound l (on_data l s resp num message)
sound_data l s resp num message e hr hn low high h =
    sound_put l (after_ack s resp) num message e hn low high (sound_acknowledging l s resp e hr h)

sound_maintenance : (l : Limits) (s : StationState) (message : List ℕ) → s.state ≡ Maintenance
    → 1 ≤ length message → length message ≤ l.longest
    → IsSound l s → IsSound l (on_maintenance l s (Good (Maint message)))
sound_maintenance l s message e low high h =
    record {
      r_byte = h.r_byte;
      in_window = h.in_window;
      out_stored = h.out_stored;
      inbox_stored = by (has_room l s) refl;
      fits = record {
        starting_r = h.fits.starting_r;
        starting_out = h.fits.starting_out;
        starting_inbox = λ p. absurd (cc (p, ap is_starting e));
        maintenance_n = h.fits.maintenance_n;
        maintenance_t = h.fits.maintenance_t;
        sent_reply = h.fits.sent_reply;
      };
    }
  where
    by : (b : Bool) → has_room l s ≡ b
        → IsStored l.room l.longest (cond b (s.inbox ++ message ∷ []) s.inbox)
    by true t =
        let room : length s.inbox < l.room = grind (arith) in
        stored_more l.room l.longest s.inbox message room low high h.inbox_stored
    by false t = h.inbox_stored

pub sound_on : (l : Limits) (s : StationState) (e : Received) → IsReceivable l e → IsSound l s
    → IsSound l (on l s e)
unfolding on
sound_on l s e g h = by s.state refl e g
  where
    sent : is_sent_reply s.reply ≡ true
    sent = h.fits.sent_reply

    replies : (r : Owed) → is_sent_reply r ≡ true → IsSound l (record s { reply = r })
    replies r f = same_state l s s.due r s.rep s.timer f h

    to_astart : s.state ≡ IStart → IsSound l (record s { state = AStart; due = true; timer = Off })
    to_astart e =
        flags l s AStart true s.reply s.rep Off
        (λ k. record {
          starting_r = λ p. k.fits.starting_r (ap is_starting e);
          starting_out = λ p. k.fits.starting_out (ap is_starting e);
          starting_inbox = λ p. k.fits.starting_inbox (ap is_starting e);
          maintenance_n = λ p. absurd (cc p);
          maintenance_t = λ p. absurd (cc p);
          sent_reply = k.fits.sent_reply;
        })
        h

    runs : IsSound l (after_startup s)
    runs = to_running l s s.reply h.fits.sent_reply h

    by : (p : State) → s.state ≡ p → (e : Received) → IsReceivable l e → IsSound l (on_by p l s e)
    by Halted e f g = h
    by Maintenance e (Good (Maint message)) g = sound_maintenance l s message e g.0 g.1 h
    by Maintenance e f g = h
    by IStart e (Good Strt) g = to_astart e
    by IStart e (Good Stack) g = to_running l s _ (grind (arith, sent)) h
    by IStart e f g = h
    by AStart e (Good Strt) g = same_state l s true s.reply s.rep s.timer h.fits.sent_reply h
    by AStart e (Good Stack) g = to_running l s _ (grind (arith, sent)) h
    by AStart e (Good (Acked resp)) g = go (resp == 0)
      where
        go : (b : Bool) → IsSound l (cond b (after_startup s) s)
        go true = runs
        go false = h
    by AStart e (Good (Data resp num message)) g = go (resp == 0)
      where
        go : (b : Bool) → IsSound l (cond b (on_data l (after_startup s) resp num message) s)
        go true = sound_data l (after_startup s) resp num message refl g.0 g.1 g.2 g.3 runs
        go false = h
    by AStart e f g = h
    by Running e (Good Strt) g = sound_strt l s h
    by Running e (Good Stack) g = replies _ (grind (arith, sent))
    by Running e (Good (Acked resp)) g = sound_acknowledging l s resp e g h
    by Running e (Good (Naked why resp)) g = sound_nak l s resp e g h
    by Running e (Good (Rep num)) g = replies _ (grind (arith, sent))
    by Running e (Good (Data resp num message)) g =
        sound_data l s resp num message e g.0 g.1 g.2 g.3 h
    by Running e (Good (Maint message)) g = h
    by Running e BadHeader g = replies _ (grind (arith, sent))
    by Running e (BadData b) g = replies _ (grind (arith, sent))
    by Running e (TooLong b) g = replies _ (grind (arith, sent))
    by Running e BadFormat g = replies _ (grind (arith, sent))

-- ---- what is sent

sound_sent : (l : Limits) (s : StationState) (timer : Timer) → s.state ≡ Running
    → before_next s < length s.out → IsSound l s
    → IsSound l
    (record s {
      n = cond (s.t == next_number s.n) s.t s.n;
      t = next_number s.t;
      reply = Quiet;
      timer = timer;
    })
sound_sent l s timer e place h =
    record {
      r_byte = h.r_byte;
      in_window =
          window_sent (outgoing s) place (omega (arith, h.out_stored.count, h.out_stored.limit_max))
          h.in_window;
      out_stored = h.out_stored;
      inbox_stored = h.inbox_stored;
      fits =
          fits_any
          (record s {
            n = cond (s.t == next_number s.n) s.t s.n;
            t = next_number s.t;
            reply = Quiet;
            timer = timer;
          }) (ap is_starting e) (running_other s.state e) refl;
    }

sound_rest : (l : Limits) (s : StationState) (message : List ℕ) (rest : List (List ℕ))
    → s.state ≡ Maintenance → s.out ≡ message ∷ rest → IsSound l s
    → IsSound l (record s { out = rest })
sound_rest l s message rest e o h =
    let all : IsStored l.window l.longest (drop 1 s.out) =
    stored_drop l.window l.longest 1 s.out h.out_stored in
    record {
      r_byte = h.r_byte;
      in_window = window_popped (outgoing s) rest (h.fits.maintenance_n e) h.in_window;
      out_stored = rw o at all;
      inbox_stored = h.inbox_stored;
      fits = record {
        starting_r = h.fits.starting_r;
        starting_out = λ p. absurd (cc (p, ap is_starting e));
        starting_inbox = h.fits.starting_inbox;
        maintenance_n = h.fits.maintenance_n;
        maintenance_t = h.fits.maintenance_t;
        sent_reply = h.fits.sent_reply;
      };
    }

sound_turn : (l : Limits) (s : StationState) (t : Next) → SentFor s t → IsSound l s
    → IsSound l (after_next t s)
sound_turn l s _ (sends_strt p d) h = same_state l s false s.reply s.rep Fresh h.fits.sent_reply h
sound_turn l s _ (sends_stack p d) h = same_state l s false s.reply s.rep Fresh h.fits.sent_reply h
sound_turn l s _ (sends_nak c p r) h = same_state l s s.due Quiet s.rep s.timer refl h
sound_turn l s _ (sends_rep p r f) h = same_state l s s.due s.reply false Fresh h.fits.sent_reply h
sound_turn l s _ (sends_data p r f place) h = sound_sent l s (timer_started s.timer) p place h
sound_turn l s _ (sends_ack p r f place) h = same_state l s s.due Quiet s.rep s.timer refl h
sound_turn l s _ (sends_maint m ms p o) h = sound_rest l s m ms p o h
sound_turn l s _ (halted_idles p) h = h
sound_turn l s _ (starting_idles p d) h = h
sound_turn l s _ (running_idles p r f place) h = h
sound_turn l s _ (maintenance_idles p o) h = h

pub sound_next : (l : Limits) (s : StationState) → IsSound l s → IsSound l (after_next (next s) s)
sound_next l s h = sound_turn l s (next s) (sending s) h

-- ---- the user's calls

pub sound_expired : (l : Limits) (s : StationState) → IsSound l s → IsSound l (after_expire s)
sound_expired l s h = at s.timer
  where
    by : (p : State) → IsSound l (after_expire_in p s)
    by Halted = same_state l s s.due s.reply s.rep Off h.fits.sent_reply h
    by IStart = same_state l s true s.reply s.rep Off h.fits.sent_reply h
    by AStart = same_state l s true s.reply s.rep Off h.fits.sent_reply h
    by Running = same_state l s s.due s.reply (cond (s.a == s.n) s.rep true) Off h.fits.sent_reply h
    by Maintenance = same_state l s s.due s.reply s.rep Off h.fits.sent_reply h

    at : (t : Timer) → IsSound l (after_expire_with t s)
    at Off = h
    at Fresh = by s.state
    at On = by s.state

pub sound_armed : (l : Limits) (s : StationState) → IsSound l s → IsSound l (after_take_arm s)
sound_armed l s h =
    same_state l s s.due s.reply s.rep (cond (is_fresh s.timer) On s.timer) h.fits.sent_reply h

accepts : (l : Limits) (s : StationState) (message : List ℕ) → is_starting s.state ≡ false
    → length s.out < l.window → 1 ≤ length message → length message ≤ l.longest
    → IsSound l s → IsSound l (after_accept s message)
accepts l s message e room low high h =
    record {
      r_byte = h.r_byte;
      in_window = window_more (outgoing s) message h.in_window;
      out_stored = stored_more l.window l.longest s.out message room low high h.out_stored;
      inbox_stored = h.inbox_stored;
      fits = record {
        starting_r = h.fits.starting_r;
        starting_out = λ p. absurd (cc (p, e));
        starting_inbox = h.fits.starting_inbox;
        maintenance_n = h.fits.maintenance_n;
        maintenance_t = h.fits.maintenance_t;
        sent_reply = h.fits.sent_reply;
      };
    }

runs_only : (p : State) → is_running p ≡ true → is_starting p ≡ false
runs_only Halted e = refl
runs_only IStart e = absurd (cc)
runs_only AStart e = absurd (cc)
runs_only Running e = refl
runs_only Maintenance e = refl

maintains_only : (p : State) → is_maintenance p ≡ true → is_starting p ≡ false
maintains_only Halted e = refl
maintains_only IStart e = absurd (cc)
maintains_only AStart e = absurd (cc)
maintains_only Running e = refl
maintains_only Maintenance e = refl

pub sound_accepted : (l : Limits) (s : StationState) (message : List ℕ)
    → may_send l s message ≡ true → IsSound l s → IsSound l (after_accept s message)
sound_accepted l s message e h =
    let p : is_running s.state ≡ true = grind (arith) in
    let f : (length s.out < l.window) × (1 ≤ length message) × (length message ≤ l.longest) =
    grind (arith) in
    accepts l s message (runs_only s.state p) f.0 f.1 f.2 h

pub sound_accepted_maintenance : (l : Limits) (s : StationState) (message : List ℕ)
    → may_send_maintenance l s message ≡ true → IsSound l s → IsSound l (after_accept s message)
sound_accepted_maintenance l s message e h =
    let p : is_maintenance s.state ≡ true = grind (arith) in
    let f : (length s.out < l.window) × (1 ≤ length message) × (length message ≤ l.longest) =
    grind (arith) in
    accepts l s message (maintains_only s.state p) f.0 f.1 f.2 h

pub reply_taken : (b : Bool) (r : Owed) → is_sent_reply r ≡ true
    → is_sent_reply (cond b (owed_after_take r) r) ≡ true
reply_taken true Quiet e = refl
reply_taken true Ack e = refl
reply_taken true (Nak why) e = e
reply_taken false r e = e

pub sound_chosen : (l : Limits) (s : StationState) (b : Bool) → IsSound l s
    → IsSound l (after_choose b s)
sound_chosen l s b h = record {
  r_byte = h.r_byte;
  in_window = h.in_window;
  out_stored = h.out_stored;
  inbox_stored = h.inbox_stored;
  fits = record {
    starting_r = h.fits.starting_r;
    starting_out = h.fits.starting_out;
    starting_inbox = h.fits.starting_inbox;
    maintenance_n = h.fits.maintenance_n;
    maintenance_t = h.fits.maintenance_t;
    sent_reply = h.fits.sent_reply;
  };
}

pub sound_taken : (l : Limits) (s : StationState) → IsSound l s → IsSound l (after_take s)
sound_taken l s h =
    record {
      r_byte = h.r_byte;
      in_window = h.in_window;
      out_stored = h.out_stored;
      inbox_stored = stored_drop l.room l.longest 1 s.inbox h.inbox_stored;
      fits = record {
        starting_r = h.fits.starting_r;
        starting_out = h.fits.starting_out;
        starting_inbox = λ p. ap (drop 1) (h.fits.starting_inbox p);
        maintenance_n = h.fits.maintenance_n;
        maintenance_t = h.fits.maintenance_t;
        sent_reply = reply_taken (acknowledges_by_take s) s.reply h.fits.sent_reply;
      };
    }
