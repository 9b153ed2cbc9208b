-- What a link and a driven station do by themselves.
use Rattle.std.proofs.Common.{◌≡◌, ◌≢◌, ℕ, ◌+◌, ◌<◌, ◌≤◌, ◌⊎◌, inl, inr, Bool, true, false, cond}
use Rattle.std.proofs.Common.{List}
use Rattle.std.proofs.Common.{[], ◌∷◌, ◌++◌, length, refl, sym, ◌∙◌, ap, subst, arith, Option, None}
use Rattle.std.proofs.Common.{Some, append-nil}
use Rattle.std.specs.Prelude.{◌↔◌, ◌&&◌, ◌||◌, ◌^◌, ◌==◌, not, nat_le, nat_lt, min, is_some}
use Rattle.std.specs.Prelude.{is_none, Ok}
use Rattle.ddcmp_core.specs.SendRefusal.TheVariants as refusal
use Rattle.ddcmp_core.specs.Sender.{accept_refusal, answer_unless}
use Rattle.ddcmp_core.specs.declared.state.State.{State}
use Rattle.ddcmp_core.specs.declared.state.State.TheVariants.{Halted, IStart, AStart, Running}
use Rattle.ddcmp_core.specs.declared.state.State.TheVariants.{Maintenance}
use Rattle.ddcmp_core.specs.declared.state.Timer.{Timer}
use Rattle.ddcmp_core.specs.declared.state.Timer.TheVariants.{Off, Fresh, On}
use Rattle.ddcmp_core.specs.Core.{CoreView}
use Rattle.ddcmp_core.specs.Frames.{header_of}
use Rattle.ddcmp_core.specs.Table.{Frame, Data, Acked, Naked, Rep, Strt, Stack, Maint, Limits}
use Rattle.ddcmp_core.specs.Table.{StationState, next, next_frame, after_expire, has_room, is_on}
use Rattle.ddcmp_core.specs.Table.{is_fresh, is_running, may_send, send_refusal, outgoing}
use Rattle.ddcmp_core.specs.Table.{after_accept}
use Rattle.ddcmp_station.specs.Driving.{DriveTurn, Driving, deadline_at, core_at_deadline}
use Rattle.ddcmp_station.specs.Driving.{core_after_expire, before_offer, before_read}
use Rattle.ddcmp_station.specs.Linking.{LinkView, puts_frame, polls, fits, holds_back, after_frame}
use Rattle.ddcmp_station.specs.Linking.{after_polled, is_held_back, frame_of_link}
use Rattle.ddcmp_station.specs.Linking.{is_nak_for_buffer, wants_bytes}
use Rattle.ddcmp_station.specs.Linking.{takes_message, answer_to_offered, after_offered}
use Rattle.ddcmp_station.specs.Driving.{frame_bytes}
use Rattle.ddcmp_station.specs.Linking.{delivered, wakes_at, moment_or_now, after_wake, with_state}
use Rattle.ddcmp_station.specs.Linking.{total_plus}
use Rattle.ddcmp_laws.specs.Links.{LinkCall, Starts, BeginsAnew, Halts, Wakes, Offers, FillsOne}
use Rattle.ddcmp_laws.specs.Links.{IsSent, Feeds, Takes, HasDone}
use Rattle.ddcmp_laws.specs.LinkRules.{AsksForABuffer, PutsFrame, IsNoWake}

-- ---- frames

both : (a b : Bool) → (a && b) ≡ true → (a ≡ true) × (b ≡ true)
both true b e = (refl, e)
both false b e = absurd (cc e)

-- whether a frame asks for a buffer
nak_test : (f : Frame) → (is_nak_for_buffer (header_of f) ≡ true → AsksForABuffer f)
    × (AsksForABuffer f → is_nak_for_buffer (header_of f) ≡ true)
nak_test (Naked why resp) = (λ e. grind (arith), λ e. grind (arith))
nak_test (Data resp num message) = (λ e. absurd (cc e), λ e. absurd e)
nak_test (Acked resp) = (λ e. absurd (cc e), λ e. absurd e)
nak_test (Rep num) = (λ e. absurd (cc e), λ e. absurd e)
nak_test Strt = (λ e. absurd (cc e), λ e. absurd e)
nak_test Stack = (λ e. absurd (cc e), λ e. absurd e)
nak_test (Maint message) = (λ e. absurd (cc e), λ e. absurd e)

unheld : (nak wants : Bool) → wants ≡ true → (nak && not wants) ≡ false
unheld true true e = refl
unheld false true e = refl
unheld nak false e = absurd (cc e)

free : (l : Limits) (s : StationState) (f : Frame)
    → (length s.inbox < l.room) ⊎ (0 < length s.out) ⊎ (¬ AsksForABuffer f)
    → is_held_back (Some f) l s ≡ false
free l s f (inl room) =
    let free : has_room l s ≡ true = grind (arith) in
    unheld (is_nak_for_buffer (header_of f)) (wants_bytes l s)
    (ap (λ b. b || not (length s.out == 0)) free)
free l s f (inr (inl some)) =
    let waits : (length s.out == 0) ≡ false = grind (arith) in
    unheld (is_nak_for_buffer (header_of f)) (wants_bytes l s)
    (ap (λ b. has_room l s || not b) waits ∙ or-true (has_room l s))
  where
    or-true : (b : Bool) → (b || true) ≡ true
    or-true true = refl
    or-true false = refl
free l s f (inr (inr other)) = by (is_nak_for_buffer (header_of f)) refl
  where
    by : (nak : Bool) → is_nak_for_buffer (header_of f) ≡ nak
        → (nak && not (wants_bytes l s)) ≡ false
    by true e = absurd (other ((nak_test f).0 e))
    by false e = refl

kept : (l : Limits) (s : StationState) (f : Frame) → l.room ≤ length s.inbox → s.out ≡ []
    → AsksForABuffer f → is_held_back (Some f) l s ≡ true
kept l s f full none asks =
    let room : has_room l s ≡ false = grind (arith) in
    let wants : wants_bytes l s ≡ false =
    ap (λ b. b || not (length s.out == 0)) room
    ∙ ap (λ (xs : List (List ℕ)). not (length xs == 0)) none in
    ap (λ b. b && not (wants_bytes l s)) ((nak_test f).1 asks) ∙ ap not wants

has_space : (d : LinkView) → d.station.syn + (d.station.core.limits.longest + 10) ≤ d.outbox.room
    → fits d ≡ true
has_space d few = grind (arith)

has_none : (d : LinkView) → d.outbox.room < d.station.syn + (d.station.core.limits.longest + 10)
    → fits d ≡ false
has_none d many = grind (arith)

-- a link after a call for a frame, by whether it is polled and by the frame
abbrev frame_by : LinkView → Bool → LinkView
frame_by d b = cond b (after_polled d) d

unpolled : (d : LinkView) → polls d ≡ false → (puts_frame d ≡ false) × (after_frame d ≡ d)
unpolled d e = (ap (λ b. b && is_some (frame_of_link d)) e, ap (frame_by d) e)

pub puts : (d : LinkView) (f : Frame) → next_frame (next d.station.core.station) ≡ Some f
    → d.station.syn + (d.station.core.limits.longest + 10) ≤ d.outbox.room
    → (length d.station.core.station.inbox < d.station.core.limits.room)
    ⊎ (0 < length d.station.core.station.out) ⊎ (¬ AsksForABuffer f)
    → PutsFrame f d (after_frame d)
puts d f e few either =
    record {
      puts = ap (λ b. b && is_some (frame_of_link d)) polled ∙ ap is_some e;
      waiting =
          ap (λ b. (frame_by d b).outbox.waiting) polled
          ∙ ap (λ o. d.outbox.waiting ++ frame_bytes d.station.syn o) e;
      sent = ap (λ b. (frame_by d b).station.core.station) polled;
    }
  where
    l : Limits
    l = d.station.core.limits

    s : StationState
    s = d.station.core.station

    polled : polls d ≡ true
    polled =
        ap (λ b. b && not (holds_back d)) (has_space d few)
        ∙ ap (λ o. not (is_held_back o l s)) e
        ∙ ap not (free l s f either)

pub holds : (d : LinkView) (f : Frame) → next_frame (next d.station.core.station) ≡ Some f
    → d.station.core.limits.room ≤ length d.station.core.station.inbox
    → d.station.core.station.out ≡ [] → AsksForABuffer f
    → (puts_frame d ≡ false) × (after_frame d ≡ d)
holds d f e full none asks =
    unpolled d
    (never (fits d) (holds_back d)
    (ap (λ o. is_held_back o d.station.core.limits d.station.core.station) e
    ∙ kept d.station.core.limits d.station.core.station f full none asks))
  where
    never : (a b : Bool) → b ≡ true → (a && not b) ≡ false
    never true true e = refl
    never false true e = refl
    never a false e = absurd (cc e)

pub puts_none : (d : LinkView) → next_frame (next d.station.core.station) ≡ None
    → (puts_frame d ≡ false) × ((after_frame d).outbox.waiting ≡ d.outbox.waiting)
puts_none d e = (no_frame (polls d) ∙ refl, by (polls d))
  where
    no_frame : (b : Bool) → (b && is_some (frame_of_link d)) ≡ false
    no_frame true = ap is_some e
    no_frame false = refl

    by : (b : Bool) → (frame_by d b).outbox.waiting ≡ d.outbox.waiting
    by true =
        ap (λ o. d.outbox.waiting ++ frame_bytes d.station.syn o) e ∙ append-nil d.outbox.waiting
    by false = refl

pub has_no_room : (d : LinkView)
    → d.outbox.room < d.station.syn + (d.station.core.limits.longest + 10)
    → (puts_frame d ≡ false) × (after_frame d ≡ d)
has_no_room d many = unpolled d (ap (λ b. b && not (holds_back d)) (has_none d many))

-- ---- messages

runs_if : (p : State) → is_running p ≡ true → p ≡ Running
runs_if Running e = refl
runs_if Halted e = absurd (cc e)
runs_if IStart e = absurd (cc e)
runs_if AStart e = absurd (cc e)
runs_if Maintenance e = absurd (cc e)

pub takes_exactly : (d : LinkView) → (takes_message d ≡ true)
    ↔ ((d.station.core.station.state ≡ Running)
    × (length d.station.core.station.out < d.station.core.limits.window))
takes_exactly d = (
  λ e. let k = both (is_running s.state) (nat_lt (length s.out) window) e in
      (runs_if s.state k.0, few k.1),
  λ k. ap (λ p. is_running p && nat_lt (length s.out) window) k.0 ∙ room k.1,
)
  where
    s : StationState
    s = d.station.core.station

    window : ℕ
    window = d.station.core.limits.window

    few : nat_lt (length s.out) window ≡ true → length s.out < window
    few e = grind (arith)

    room : length s.out < window → nat_lt (length s.out) window ≡ true
    room k = grind (arith)

nothing_refused : (window longest : ℕ) (s : StationState) (message : List ℕ)
    → length s.out < window → 1 ≤ length message → length message ≤ longest
    → accept_refusal window longest (outgoing s) message ≡ None
nothing_refused window longest s message few some short = grind (arith)

pub accepts : (d : LinkView) (message : List ℕ) → takes_message d ≡ true
    → 1 ≤ length message → length message ≤ d.station.core.limits.longest
    → (answer_to_offered message d ≡ Ok tt)
    × ((after_offered message d).station.core.station.out
    ≡ d.station.core.station.out ++ message ∷ [])
accepts d message takes some short = (
  ap (λ o. answer_unless o tt) none,
  ap (λ o. (cond (is_none o) accepted d).station.core.station.out) none,
)
  where
    l : Limits
    l = d.station.core.limits

    s : StationState
    s = d.station.core.station

    accepted : LinkView
    accepted = record (with_state (after_accept s message) d) {
      totals = record d.totals { sent = total_plus d.totals.sent 1 };
    }

    none : send_refusal l s message ≡ None
    none =
        let k = (takes_exactly d).0 takes in
        ap
        (λ p. cond (is_running p) (accept_refusal l.window l.longest (outgoing s) message)
        (Some refusal.WrongState)) k.0
        ∙ nothing_refused l.window l.longest s message k.1 some short

-- ---- all is delivered

no_length : {A : Type 0} (xs : List A) → (length xs == 0) ≡ true → xs ≡ []
no_length [] e = refl
no_length (x ∷ xs) e = absurd (let z : length (x ∷ xs) ≡ 0 = grind (arith) in omega (arith, z))

no_frame_if : (o : Option Frame) → is_none o ≡ true → o ≡ None
no_frame_if None e = refl
no_frame_if (Some f) e = absurd (cc e)

pub leaves_nothing : (d : LinkView) → (delivered d ≡ true)
    ↔ ((d.station.core.station.out ≡ []) × (d.outbox.waiting ≡ [])
    × (next_frame (next d.station.core.station) ≡ None))
leaves_nothing d = (
  λ e. let k = both (length out == 0 && length waiting == 0) (is_none frame) e in
      let j = both (length out == 0) (length waiting == 0) k.0 in
      (no_length out j.0, no_length waiting j.1, no_frame_if frame k.1),
  λ k. ap (λ (x : List (List ℕ)). length x == 0 && length waiting == 0 && is_none frame) k.0
      ∙ ap (λ (x : List ℕ). length x == 0 && is_none frame) k.1
      ∙ ap is_none k.2,
)
  where
    out : List (List ℕ)
    out = d.station.core.station.out

    waiting : List ℕ
    waiting = d.outbox.waiting

    frame : Option Frame
    frame = frame_of_link d

-- ---- the timer

-- a core that is looked after, by its timer and its deadline
abbrev looked_after : ℕ → Timer → Option ℕ → CoreView → CoreView
looked_after now t deadline k =
    core_at_deadline now deadline
    (record k { station = record k.station { timer = cond (is_fresh t) On t } })

not_yet : (now ms : ℕ) → 1 ≤ ms → now + ms < 2 ^ 64
    → nat_le (min (now + ms) 18446744073709551615) now ≡ false
not_yet now ms some fits = grind (arith)

within : (now ms : ℕ) → now + ms < 2 ^ 64 → min (now + ms) 18446744073709551615 ≡ now + ms
within now ms fits = omega (arith, fits)

before : (now moment : ℕ) → now < moment → nat_le moment now ≡ false
before now moment early = grind (arith)

from_then : (now moment : ℕ) → moment ≤ now → nat_le moment now ≡ true
from_then now moment late = grind (arith)

-- the core once its start is noted
abbrev noted_on : CoreView → CoreView
noted_on k = record k { station = record k.station { timer = On } }

-- the moment is set, and hasn't come
set_core : (now ms : ℕ) (k : CoreView) → 1 ≤ ms → now + ms < 2 ^ 64
    → looked_after now On (Some (min (now + ms) 18446744073709551615)) k ≡ noted_on k
set_core now ms k some fits =
    ap (λ b. cond b (core_after_expire (noted_on k)) (noted_on k)) (not_yet now ms some fits)

waiting_core : (now moment : ℕ) (k : CoreView) → k.station.timer ≡ On → now < moment
    → looked_after now On (Some moment) k ≡ k
waiting_core now moment k e early =
    ap (λ b. cond b (core_after_expire (noted_on k)) (noted_on k)) (before now moment early)
    ∙ (λ i. record k { station = record k.station { timer = sym e i } })

expired_core : (now moment : ℕ) (k : CoreView) → k.station.timer ≡ On → moment ≤ now
    → (looked_after now On (Some moment) k).station ≡ after_expire k.station
expired_core now moment k e late =
    ap (λ b. (cond b (core_after_expire (noted_on k)) (noted_on k)).station)
    (from_then now moment late)
    ∙ ap (λ t. after_expire (record k.station { timer = t })) (sym e)

-- ---- the timer of a link

abbrev woken : ℕ → Timer → Option ℕ → LinkView → LinkView
woken now t deadline d = record d {
  station = record d.station {
    core = looked_after now t (deadline_at d.milliseconds now t deadline) d.station.core;
  };
  deadline = deadline_at d.milliseconds now t deadline;
}

pub sleeps_while_off : (d : LinkView) → (wakes_at d ≡ None) ↔ (d.station.core.station.timer ≡ Off)
sleeps_while_off d = (
  by d.station.core.station.timer,
  λ e. ap (λ t. cond (is_on t) (Some (moment_or_now d.deadline)) None) e,
)
  where
    by : (t : Timer) → cond (is_on t) (Some (moment_or_now d.deadline)) None ≡ None → t ≡ Off
    by Off e = refl
    by Fresh e = absurd (cc e)
    by On e = absurd (cc e)

pub sets_its_moment : (d : LinkView) (now : ℕ) → d.station.core.station.timer ≡ Fresh
    → 1 ≤ d.milliseconds → now + d.milliseconds < 2 ^ 64
    → ((after_wake now d).station.core.station.timer ≡ On)
    × ((after_wake now d).deadline ≡ Some (now + d.milliseconds))
sets_its_moment d now e some fits = (
  ap (λ t. (woken now t d.deadline d).station.core.station.timer) e
      ∙ ap (λ (k : CoreView). k.station.timer)
      (set_core now d.milliseconds d.station.core some fits),
  ap (λ t. deadline_at d.milliseconds now t d.deadline) e
      ∙ ap (λ n. Some n) (within now d.milliseconds fits),
)

pub has_its_moment : (d : LinkView) (moment : ℕ) → d.station.core.station.timer ≢ Off
    → d.deadline ≡ Some moment → wakes_at d ≡ Some moment
has_its_moment d moment on f = by d.station.core.station.timer on
  where
    by : (t : Timer) → t ≢ Off
        → cond (is_on t) (Some (moment_or_now d.deadline)) None ≡ Some moment
    by Off w = absurd (w refl)
    by Fresh w = ap (λ o. Some (moment_or_now o)) f
    by On w = ap (λ o. Some (moment_or_now o)) f

pub waits_for_it : (d : LinkView) (now moment : ℕ) → d.station.core.station.timer ≡ On
    → d.deadline ≡ Some moment → now < moment → after_wake now d ≡ d
waits_for_it d now moment e f early =
    ap (λ t. woken now t d.deadline d) e
    ∙ ap (λ o. woken now On o d) f
    ∙ (λ i. record d {
      station = record d.station {
        core = waiting_core now moment d.station.core e early i;
      };
      deadline = sym f i;
    })

pub expires_from_it : (d : LinkView) (now moment : ℕ) → d.station.core.station.timer ≡ On
    → d.deadline ≡ Some moment → moment ≤ now
    → (after_wake now d).station.core.station ≡ after_expire d.station.core.station
expires_from_it d now moment e f late =
    ap (λ t. (woken now t d.deadline d).station.core.station) e
    ∙ ap (λ o. (woken now On o d).station.core.station) f
    ∙ expired_core now moment d.station.core e late

abbrev HasKept : LinkView → LinkView → Type 0
HasKept old new = (new.deadline ≡ old.deadline) × (new.milliseconds ≡ old.milliseconds)

kept_by : (old new : LinkView) (u : LinkView) → new ≡ u → HasKept old u → HasKept old new
kept_by old new u e k = subst (HasKept old) (sym e) k

pub stays_put : (call : LinkCall) (text : List ℕ) (old new : LinkView)
    → HasDone call text old new → IsNoWake call → HasKept old new
stays_put Starts text old new r i = kept_by old new _ r (refl, refl)
stays_put BeginsAnew text old new r i = kept_by old new _ r.0 (refl, refl)
stays_put Halts text old new r i = kept_by old new _ r (refl, refl)
stays_put (Wakes now) text old new r i = absurd i
stays_put (Offers message) text old new r i =
    kept_by old new _ r (by (may_send old.station.core.limits old.station.core.station message))
  where
    by : (b : Bool) → HasKept old (cond b
        (record (with_state (after_accept old.station.core.station message) old) {
          totals = record old.totals { sent = total_plus old.totals.sent 1 };
        }) old)
    by true = (refl, refl)
    by false = (refl, refl)
stays_put FillsOne text old new r i = kept_by old new _ r (by (polls old))
  where
    by : (b : Bool) → HasKept old (frame_by old b)
    by true = (refl, refl)
    by false = (refl, refl)
stays_put (IsSent n) text old new r i = kept_by old new _ r (refl, refl)
stays_put (Feeds used) text old new r i = kept_by old new _ r.stays (refl, refl)
stays_put Takes text old new r i = kept_by old new _ r (refl, refl)

-- ---- the timer of a driven station

pub turn_sets : (ms syn : ℕ) (turn : DriveTurn) (d : Driving)
    → (d.core.station.timer ≡ Fresh) ⊎ ((d.core.station.timer ≡ On) × (d.deadline ≡ None))
    → 1 ≤ ms → turn.now + ms < 2 ^ 64
    → ((before_offer ms turn d).station.timer ≡ On)
    × ((before_read ms syn turn d).deadline ≡ Some (turn.now + ms))
turn_sets ms syn turn d either some fits = by either
  where
    set : (looked_after turn.now On (Some (min (turn.now + ms) 18446744073709551615))
        d.core).station.timer ≡ On
    set = ap (λ (k : CoreView). k.station.timer) (set_core turn.now ms d.core some fits)

    at : Some (min (turn.now + ms) 18446744073709551615) ≡ Some (turn.now + ms)
    at = ap (λ n. Some n) (within turn.now ms fits)

    by : (d.core.station.timer ≡ Fresh) ⊎ ((d.core.station.timer ≡ On) × (d.deadline ≡ None))
        → ((before_offer ms turn d).station.timer ≡ On)
        × ((before_read ms syn turn d).deadline ≡ Some (turn.now + ms))
    by (inl e) = (
      ap
          (λ t. (looked_after turn.now t (deadline_at ms turn.now t d.deadline)
          d.core).station.timer) e
          ∙ set,
      ap (λ t. deadline_at ms turn.now t d.deadline) e ∙ at,
    )
    by (inr (e, f)) = (
      ap
          (λ t. (looked_after turn.now t (deadline_at ms turn.now t d.deadline)
          d.core).station.timer) e
          ∙ ap
          (λ o. (looked_after turn.now On (deadline_at ms turn.now On o) d.core).station.timer) f
          ∙ set,
      ap (λ t. deadline_at ms turn.now t d.deadline) e
          ∙ ap (λ o. deadline_at ms turn.now On o) f
          ∙ at,
    )

-- a core that is looked after while its timer is on and has a moment
turn_core : (ms moment : ℕ) (turn : DriveTurn) (d : Driving) → d.core.station.timer ≡ On
    → d.deadline ≡ Some moment
    → before_offer ms turn d ≡ looked_after turn.now On (Some moment) d.core
turn_core ms moment turn d e f =
    ap (λ t. looked_after turn.now t (deadline_at ms turn.now t d.deadline) d.core) e
    ∙ ap (λ o. looked_after turn.now On (deadline_at ms turn.now On o) d.core) f

pub turn_waits : (ms syn moment : ℕ) (turn : DriveTurn) (d : Driving)
    → d.core.station.timer ≡ On → d.deadline ≡ Some moment → turn.now < moment
    → (before_offer ms turn d ≡ d.core) × ((before_read ms syn turn d).deadline ≡ Some moment)
turn_waits ms syn moment turn d e f early = (
  turn_core ms moment turn d e f ∙ waiting_core turn.now moment d.core e early,
  ap (λ t. deadline_at ms turn.now t d.deadline) e
      ∙ ap (λ o. deadline_at ms turn.now On o) f,
)

pub turn_expires : (ms moment : ℕ) (turn : DriveTurn) (d : Driving)
    → d.core.station.timer ≡ On → d.deadline ≡ Some moment → moment ≤ turn.now
    → (before_offer ms turn d).station ≡ after_expire d.core.station
turn_expires ms moment turn d e f late =
    ap (λ (k : CoreView). k.station) (turn_core ms moment turn d e f)
    ∙ expired_core turn.now moment d.core e late

pub turn_leaves : (ms : ℕ) (turn : DriveTurn) (d : Driving) → d.core.station.timer ≡ Off
    → before_offer ms turn d ≡ d.core
turn_leaves ms turn d e =
    ap
    (λ t. looked_after turn.now t (deadline_at ms turn.now d.core.station.timer d.deadline) d.core)
    e
    ∙ (λ i. record d.core { station = record d.core.station { timer = sym e i } })
