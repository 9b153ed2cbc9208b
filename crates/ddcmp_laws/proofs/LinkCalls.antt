-- Calls of a link are calls of its station.
use Rattle.std.proofs.Common.{◌≡◌, ℕ, ◌+◌, Bool, true, false, cond, List, [], ◌∷◌, ◌++◌, take, drop}
use Rattle.std.proofs.Common.{refl, sym, ◌∙◌, ap, subst, arith, append_assoc, append-nil}
use Rattle.std.specs.Prelude.{◌&&◌, option_to_list}
use Rattle.std.proofs.lemmas.List.{take-append-drop}
use Rattle.ddcmp_frame.specs.Reader.{ReaderView}
use Rattle.ddcmp_core.specs.Store.{first_message}
use Rattle.ddcmp_core.specs.Table.{is_on, may_send, after_accept, after_halt}
use Rattle.ddcmp_proto.specs.declared.config.Config.{Config}
use Rattle.ddcmp_station.specs.Driving.{deadline_at, is_due, core_after_take_arm, frame_bytes}
use Rattle.ddcmp_station.specs.Linking.{LinkView, total_plus, with_state, started, anew, after_wake}
use Rattle.ddcmp_station.specs.Linking.{after_offered, polls, frame_of_link}
use Rattle.ddcmp_station.specs.Linking.{after_polled, after_frame, after_sent, after_taking}
use Rattle.ddcmp_pair.specs.Place.{WholeFrame}
use Rattle.ddcmp_pair.specs.Run.{EndState, with_station, new_end, after_start_here, after_halt_here}
use Rattle.ddcmp_pair.specs.Run.{after_poll_here, after_arrival_here}
use Rattle.ddcmp_laws.specs.Faithful.{bytes_of}
use Rattle.ddcmp_laws.specs.PairCalls.{Call, Poll, Expire, after_arm_here, after_calls_here}
use Rattle.ddcmp_laws.specs.Links.{LinkCall, Starts, BeginsAnew, Halts, Wakes, Offers, FillsOne}
use Rattle.ddcmp_laws.specs.Links.{IsSent, Feeds, Takes, station_calls, HasFed, HasDone}
use Rattle.ddcmp_laws.specs.Links.{LinkHistory, new_history, LinkStep, after_step, IsSameEnd}
use Rattle.ddcmp_laws.specs.Links.{IsHistory, after_history, calls_in_history, offered_in_call}
use Rattle.ddcmp_laws.specs.Links.{offered_in, sent_in_call, sent_in}
use Rattle.ddcmp_laws.proofs.Turning.{calls_append, frame_written, timer_done}

-- ---- an end as a link's history has it

abbrev end_of : LinkHistory → List WholeFrame → ℕ → EndState
end_of h sent starts = record {
  core = h.link.station.core;
  syn = h.link.station.syn;
  given = h.accepted;
  taken = h.taken;
  sent = sent;
  arrived = h.used;
  acknowledged = h.acknowledged;
  starts = starts;
}

abbrev HasWritten : LinkHistory → List WholeFrame → Type 0
HasWritten h sent = bytes_of h.link.station.syn sent ≡ h.gone ++ h.link.outbox.waiting

is_end : (x : EndState) (h : LinkHistory) → IsSameEnd x h → x ≡ end_of h x.sent x.starts
is_end x h s = λ i. record {
  core = s.core i;
  syn = s.syn i;
  given = s.given i;
  taken = s.taken i;
  sent = x.sent;
  arrived = s.arrived i;
  acknowledged = s.acknowledged i;
  starts = x.starts;
}

same : (h : LinkHistory) (sent : List WholeFrame) (starts : ℕ) → HasWritten h sent
    → IsSameEnd (end_of h sent starts) h
same h sent starts w =
    record {
      core = refl;
      syn = refl;
      arrived = refl;
      wrote = w;
      given = refl;
      taken = refl;
      acknowledged = refl;
    }

has_written : (x : EndState) (h : LinkHistory) → IsSameEnd x h → HasWritten h x.sent
has_written x h s = ap (λ n. bytes_of n x.sent) (sym s.syn) ∙ s.wrote

-- ---- nothing is added to a history

plus_none : (n : ℕ) → n ≡ n + 0
plus_none n = omega arith

abbrev parts : LinkView → List ℕ → List ℕ → List (List ℕ) → List (List ℕ) → ℕ → LinkHistory
parts new used gone accepted taken acknowledged =
    record {
      link = new;
      used = used;
      gone = gone;
      accepted = accepted;
      taken = taken;
      acknowledged = acknowledged;
    }

still : (x : EndState) (new : LinkView) (h : LinkHistory) → IsSameEnd x (record h { link = new })
    → IsSameEnd x
    (parts new (h.used ++ []) (h.gone ++ []) (h.accepted ++ []) (h.taken ++ [])
    (h.acknowledged + 0))
still x new h s =
    subst (IsSameEnd x)
    (λ i. parts new (sym (append-nil h.used) i) (sym (append-nil h.gone) i)
    (sym (append-nil h.accepted) i) (sym (append-nil h.taken) i) (plus_none h.acknowledged i)) s

set_parts : (x : EndState) (new : LinkView) (u u2 g g2 : List ℕ) (a a2 t t2 : List (List ℕ))
    (k k2 : ℕ) → IsSameEnd x (parts new u g a t k)
    → u ≡ u2 → g ≡ g2 → a ≡ a2 → t ≡ t2 → k ≡ k2 → IsSameEnd x (parts new u2 g2 a2 t2 k2)
set_parts x new u u2 g g2 a a2 t t2 k k2 s eu eg ea et ek =
    subst (IsSameEnd x) (λ i. parts new (eu i) (eg i) (ea i) (et i) (ek i)) s

-- ---- each call

abbrev step_of : LinkCall → LinkView → LinkStep
step_of c new = record { call = c; link = new }

abbrev Done : LinkCall → LinkHistory → List WholeFrame → ℕ → LinkView → Type 0
Done c h sent starts new =
    IsSameEnd (after_calls_here (station_calls c h.link) (end_of h sent starts))
    (after_step (step_of c new) h)

done_anew : (h : LinkHistory) (sent : List WholeFrame) (starts : ℕ) (line : ReaderView)
    → HasWritten h sent → h.link.outbox.waiting ≡ []
    → Done BeginsAnew h sent starts (anew line h.link)
unfolding after_calls_here
done_anew h sent starts line w none =
    let new = anew line h.link in
    let x = after_start_here (after_halt_here (end_of h sent starts)) in
    still x new h (same (record h { link = new }) sent x.starts (w ∙ ap (λ ys. h.gone ++ ys) none))

done_woken : (now : ℕ) (h : LinkHistory) (sent : List WholeFrame) (starts : ℕ) → HasWritten h sent
    → Done (Wakes now) h sent starts (after_wake now h.link)
unfolding after_calls_here
done_woken now h sent starts w =
    let new = after_wake now h.link in
    let x = end_of (record h { link = new }) sent starts in
    let due =
    deadline_at h.link.milliseconds now h.link.station.core.station.timer h.link.deadline in
    let e : after_calls_here (station_calls (Wakes now) h.link) (end_of h sent starts) ≡ x =
    timer_done now due (after_arm_here (end_of h sent starts)) in
    subst (λ y. IsSameEnd y (after_step (step_of (Wakes now) new) h)) (sym e)
    (still x new h (same (record h { link = new }) sent starts w))

-- a message that may be sent is accepted
abbrev offer_link : LinkView → List ℕ → LinkView
offer_link d message =
    record (with_state (after_accept d.station.core.station message) d)
    { totals = record d.totals { sent = total_plus d.totals.sent 1 } }

done_offered : (message : List ℕ) (h : LinkHistory) (sent : List WholeFrame) (starts : ℕ)
    → HasWritten h sent → Done (Offers message) h sent starts (after_offered message h.link)
unfolding after_calls_here
done_offered message h sent starts w =
    by (may_send h.link.station.core.limits h.link.station.core.station message)
  where
    by : (b : Bool)
        → IsSameEnd
        (record
        (with_station
        (cond b (after_accept h.link.station.core.station message) h.link.station.core.station)
        (end_of h sent starts)) { given = cond b (h.accepted ++ message ∷ []) h.accepted })
        (parts (cond b (offer_link h.link message) h.link) (h.used ++ []) (h.gone ++ [])
        (h.accepted ++ cond b (message ∷ []) []) (h.taken ++ []) (h.acknowledged + 0))
    by true =
        let k : LinkHistory =
        record h { link = offer_link h.link message; accepted = h.accepted ++ message ∷ [] } in
        set_parts (end_of k sent starts) k.link _ _ _ _ _ _ _ _ _ _ (same k sent starts w)
        (sym (append-nil h.used)) (sym (append-nil h.gone)) refl (sym (append-nil h.taken))
        (plus_none h.acknowledged)
    by false = still (end_of h sent starts) h.link h (same h sent starts w)

done_polled : (h : LinkHistory) (sent : List WholeFrame) (starts : ℕ) → HasWritten h sent
    → Done FillsOne h sent starts (after_frame h.link)
unfolding after_calls_here
done_polled h sent starts w = by (polls h.link)
  where
    by : (b : Bool) → IsSameEnd (after_calls_here (cond b (Poll ∷ []) []) (end_of h sent starts))
        (parts (cond b (after_polled h.link) h.link) (h.used ++ []) (h.gone ++ [])
        (h.accepted ++ []) (h.taken ++ []) (h.acknowledged + 0))
    by true =
        let new = after_polled h.link in
        let k : LinkHistory = record h { link = new } in
        let x = after_poll_here (end_of h sent starts) in
        let put = frame_bytes h.link.station.syn (frame_of_link h.link) in
        let e = frame_written h.link.station.syn sent (frame_of_link h.link)
        ∙ ap (λ ys. ys ++ put) w
        ∙ append_assoc h.gone h.link.outbox.waiting put in
        still x new h (same k x.sent starts e)
    by false = still (end_of h sent starts) h.link h (same h sent starts w)

done_sent : (n : ℕ) (h : LinkHistory) (sent : List WholeFrame) (starts : ℕ) → HasWritten h sent
    → Done (IsSent n) h sent starts (after_sent n h.link)
unfolding after_calls_here
done_sent n h sent starts w =
    let new = after_sent n h.link in
    let xs = h.link.outbox.waiting in
    let k : LinkHistory = record h { link = new; gone = h.gone ++ take n xs } in
    let e =
    w ∙ ap (λ ys. h.gone ++ ys) (sym (take-append-drop n xs))
    ∙ sym (append_assoc h.gone (take n xs) (drop n xs)) in
    set_parts (end_of k sent starts) new _ _ _ _ _ _ _ _ _ _ (same k sent starts e)
    (sym (append-nil h.used)) refl (sym (append-nil h.accepted)) (sym (append-nil h.taken))
    (plus_none h.acknowledged)

done_fed : (used : List ℕ) (h : LinkHistory) (sent : List WholeFrame) (starts : ℕ) (new : LinkView)
    → HasWritten h sent → HasFed h.used used h.link new → Done (Feeds used) h sent starts new
unfolding after_calls_here
done_fed used h sent starts new w f =
    let x = after_arrival_here used (end_of h sent starts) in
    let k = after_step (step_of (Feeds used) new) h in
    record {
      core = sym f.core;
      syn = sym f.syn;
      arrived = refl;
      wrote =
          w ∙ ap (λ ys. ys ++ h.link.outbox.waiting) (sym (append-nil h.gone))
          ∙ ap (λ (d : LinkView). (h.gone ++ []) ++ d.outbox.waiting) (sym f.stays);
      given = sym (append-nil h.accepted);
      taken = sym (append-nil h.taken);
      acknowledged = refl;
    }

done_taken : (h : LinkHistory) (sent : List WholeFrame) (starts : ℕ) → HasWritten h sent
    → Done Takes h sent starts (after_taking h.link)
unfolding after_calls_here
done_taken h sent starts w =
    let new = after_taking h.link in
    let k : LinkHistory =
    record h {
      link = new;
      taken = h.taken ++ option_to_list (first_message h.link.station.core.station.inbox);
    } in
    set_parts (end_of k sent starts) new _ _ _ _ _ _ _ _ _ _ (same k sent starts w)
    (sym (append-nil h.used)) (sym (append-nil h.gone)) (sym (append-nil h.accepted)) refl
    (plus_none h.acknowledged)

done_quiet : (c : LinkCall) (h : LinkHistory) (new old : LinkView) (x : EndState) → new ≡ old
    → IsSameEnd x (after_step (step_of c old) h) → IsSameEnd x (after_step (step_of c new) h)
done_quiet c h new old x e s = subst (λ n. IsSameEnd x (after_step (step_of c n) h)) (sym e) s

done : (c : LinkCall) (h : LinkHistory) (sent : List WholeFrame) (starts : ℕ) (new : LinkView)
    → HasWritten h sent → HasDone c h.used h.link new → Done c h sent starts new
unfolding after_calls_here
done Starts h sent starts new w e =
    let old = with_state (started h.link.station.core.station) h.link in
    let x = after_start_here (end_of h sent starts) in
    done_quiet Starts h new old x e (still x old h (same (record h { link = old }) sent x.starts w))
done BeginsAnew h sent starts new w e =
    done_quiet BeginsAnew h new (anew new.station.line h.link) _ e.0
    (done_anew h sent starts new.station.line w e.2)
done Halts h sent starts new w e =
    let old = with_state (after_halt h.link.station.core.station) h.link in
    let x = after_halt_here (end_of h sent starts) in
    done_quiet Halts h new old x e (still x old h (same (record h { link = old }) sent starts w))
done (Wakes now) h sent starts new w e =
    done_quiet (Wakes now) h new (after_wake now h.link) _ e (done_woken now h sent starts w)
done (Offers message) h sent starts new w e =
    done_quiet (Offers message) h new (after_offered message h.link) _ e
    (done_offered message h sent starts w)
done FillsOne h sent starts new w e =
    done_quiet FillsOne h new (after_frame h.link) _ e (done_polled h sent starts w)
done (IsSent n) h sent starts new w e =
    done_quiet (IsSent n) h new (after_sent n h.link) _ e (done_sent n h sent starts w)
done (Feeds used) h sent starts new w e = done_fed used h sent starts new w e
done Takes h sent starts new w e =
    done_quiet Takes h new (after_taking h.link) _ e (done_taken h sent starts w)

pub step_same : (step : LinkStep) (h : LinkHistory) (x : EndState)
    → HasDone step.call h.used h.link step.link → IsSameEnd x h
    → IsSameEnd (after_calls_here (station_calls step.call h.link) x) (after_step step h)
step_same step h x e s =
    subst (λ y. IsSameEnd (after_calls_here (station_calls step.call h.link) y) (after_step step h))
    (sym (is_end x h s))
    (done step.call h x.sent x.starts step.link (has_written x h s) e)

-- ---- histories

pub new_same : (config : Config) (milliseconds : ℕ) (line : ReaderView)
    → IsSameEnd (new_end config) (new_history config milliseconds line)
unfolding bytes_of
new_same config milliseconds line =
    record {
      core = refl;
      syn = refl;
      arrived = refl;
      wrote = refl;
      given = refl;
      taken = refl;
      acknowledged = refl;
    }

pub history_same : (steps : List LinkStep) (h : LinkHistory) (x : EndState) → IsHistory steps h
    → IsSameEnd x h
    → IsSameEnd (after_calls_here (calls_in_history steps h) x) (after_history steps h)
unfolding after_calls_here calls_in_history after_history
history_same [] h x e s = s
history_same (step ∷ rest) h x e s =
    let calls = station_calls step.call h.link in
    subst (λ y. IsSameEnd y (after_history rest (after_step step h)))
    (sym (calls_append calls (calls_in_history rest (after_step step h)) x))
    (history_same rest (after_step step h) (after_calls_here calls x) e.1
    (step_same step h x e.0 s))

sent_append : (a b : List Call) → sent_in (a ++ b) ≡ sent_in a ++ sent_in b
unfolding sent_in
sent_append [] b = refl
sent_append (c ∷ a) b =
    ap (λ ys. sent_in_call c ++ ys) (sent_append a b)
    ∙ sym (append_assoc (sent_in_call c) (sent_in a) (sent_in b))

sent_if : (b : Bool) (c : Call) → sent_in_call c ≡ [] → sent_in (cond b (c ∷ []) []) ≡ []
unfolding sent_in
sent_if true c e = append-nil (sent_in_call c) ∙ e
sent_if false c e = refl

call_sends : (c : LinkCall) (d : LinkView) → sent_in (station_calls c d) ≡ offered_in_call c
unfolding sent_in
call_sends Starts d = refl
call_sends BeginsAnew d = refl
call_sends Halts d = refl
call_sends (Wakes now) d =
    let due = deadline_at d.milliseconds now d.station.core.station.timer d.deadline in
    sent_if (is_on (core_after_take_arm d.station.core).station.timer && is_due now due) Expire refl
call_sends (Offers message) d = refl
call_sends FillsOne d = sent_if (polls d) Poll refl
call_sends (IsSent n) d = refl
call_sends (Feeds used) d = refl
call_sends Takes d = refl

pub offers_sent : (steps : List LinkStep) (h : LinkHistory)
    → sent_in (calls_in_history steps h) ≡ offered_in steps
unfolding sent_in offered_in calls_in_history
offers_sent [] h = refl
offers_sent (step ∷ rest) h =
    sent_append (station_calls step.call h.link) (calls_in_history rest (after_step step h))
    ∙ ap (λ ys. ys ++ sent_in (calls_in_history rest (after_step step h)))
    (call_sends step.call h.link)
    ∙ ap (λ ys. offered_in_call step.call ++ ys) (offers_sent rest (after_step step h))
