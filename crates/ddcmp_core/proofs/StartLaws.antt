-- What an end does at startup, and what it sends.
use Rattle.std.proofs.Common.{◌≡◌, ◌≢◌, ℕ, ◌+◌, ◌-◌, ◌%◌, ◌<◌, ◌≤◌, Bool, true, false, cond, List}
use Rattle.std.proofs.Common.{length, refl, sym, ◌∙◌, ap, subst, arith}
use Rattle.std.specs.Prelude.{◌==◌}
use Rattle.ddcmp_frame.specs.declared.nak.Nak.{Nak as Reason}
use Rattle.ddcmp_frame.specs.declared.nak.Nak.TheVariants as reason
use Rattle.ddcmp_frame.specs.Naks.{reason_of, subtype_of}
use Rattle.ddcmp_frame.specs.Wire.{IsFrame}
use Rattle.ddcmp_frame.specs.Spelling.{IsInRange}
use Rattle.ddcmp_window.specs.Numbers.{is_within, next_number}
use Rattle.ddcmp_window.specs.Sender.{Outgoing}
use Rattle.ddcmp_core.specs.declared.state.State.{State}
use Rattle.ddcmp_core.specs.declared.state.State.TheVariants.{Halted, IStart, AStart, Running}
use Rattle.ddcmp_core.specs.declared.state.State.TheVariants.{Maintenance}
use Rattle.ddcmp_core.specs.declared.state.Timer.{Timer}
use Rattle.ddcmp_core.specs.declared.state.Timer.TheVariants.{Off, Fresh, On}
use Rattle.ddcmp_core.specs.Table.{StationState, resp_of, Limits, Frame, Data, Acked, Naked, Rep}
use Rattle.ddcmp_core.specs.Table.{Strt}
use Rattle.ddcmp_core.specs.Table.{Stack, Maint, Received, Good, BadHeader, BadData, TooLong}
use Rattle.ddcmp_core.specs.Table.{BadFormat, before_next, after_ack, on_data, on_nak, on_by, on}
use Rattle.ddcmp_core.specs.Table.{after_startup, after_halt, after_restart, may_restart, on_strt}
use Rattle.ddcmp_core.specs.Table.{after_expire_in, after_expire_with, after_expire, is_starting}
use Rattle.ddcmp_core.specs.Table.{Next, Idle, Sends, next, after_next}
use Rattle.ddcmp_core.specs.Frames.{frame_of, header_of, message_of}
use Rattle.ddcmp_core.specs.Core.{IsSound, is_sent_reason, is_sent_reply}
use Rattle.ddcmp_core.specs.Laws.{BeginsRunning, IsSentInWindow, HasNothing}
use Rattle.ddcmp_core.specs.NextFrame.{SentFor, sends_strt, sends_stack, sends_nak, sends_rep}
use Rattle.ddcmp_core.specs.NextFrame.{sends_data, sends_ack, sends_maint, halted_idles}
use Rattle.ddcmp_core.specs.NextFrame.{starting_idles, running_idles, maintenance_idles}
use Rattle.ddcmp_core.proofs.Sent.{sending}

-- ---- states

nak_state : (s : StationState) (q : ℕ) → (on_nak s q).state ≡ s.state
nak_state s q = by (is_within s.a q s.n)
  where
    by : (b : Bool)
        → (cond b
        (record (after_ack s q) { t = next_number (after_ack s q).a; rep = false; timer = Off })
        s).state ≡ s.state
    by true = refl
    by false = refl

strt_state : (l : Limits) (s : StationState) (p : State) → (Halted ≡ p → ⊥) → (AStart ≡ p → ⊥)
    → (on_strt l s).state ≡ p → ⊥
strt_state l s p no_halt no_astart = by (may_restart l s)
  where
    by : (b : Bool) → (cond b (after_restart s) (after_halt s)).state ≡ p → ⊥
    by true e = no_astart e
    by false e = no_halt e

pub istart_stays : (l : Limits) (s : StationState) (h : Received) → (on l s h).state ≡ IStart
    → s.state ≡ IStart
unfolding on
istart_stays l s h = by s.state refl h
  where
    by : (p : State) → s.state ≡ p → (h : Received) → (on_by p l s h).state ≡ IStart
        → s.state ≡ IStart
    by Halted e h i = i
    by IStart e h i = e
    by AStart e (Good Strt) i = i
    by AStart e (Good Stack) i = absurd (cc i)
    by AStart e (Good (Acked resp)) i = go (resp == 0) i
      where
        go : (b : Bool) → (cond b (after_startup s) s).state ≡ IStart → s.state ≡ IStart
        go true i = absurd (cc i)
        go false i = i
    by AStart e (Good (Data resp num message)) i = go (resp == 0) i
      where
        go : (b : Bool) → (cond b (on_data l (after_startup s) resp num message) s).state ≡ IStart
            → s.state ≡ IStart
        go true i = absurd (cc i)
        go false i = i
    by AStart e h i = i
    by Running e (Good Strt) i = absurd (strt_state l s IStart (λ q. cc q) (λ q. cc q) i)
    by Running e (Good Stack) i = i
    by Running e (Good (Acked resp)) i = i
    by Running e (Good (Naked why resp)) i = sym (nak_state s resp) ∙ i
    by Running e (Good (Rep num)) i = i
    by Running e (Good (Data resp num message)) i = i
    by Running e (Good (Maint message)) i = i
    by Running e BadHeader i = i
    by Running e (BadData b) i = i
    by Running e (TooLong b) i = i
    by Running e BadFormat i = i
    by Maintenance e (Good (Maint message)) i = i
    by Maintenance e h i = i

pub begins_running : (l : Limits) (s : StationState) (h : Received) → s.state ≢ Running
    → (on l s h).state ≡ Running → BeginsRunning s.state h
unfolding on
begins_running l s h n = by s.state refl h
  where
    by : (p : State) → s.state ≡ p → (h : Received) → (on_by p l s h).state ≡ Running
        → BeginsRunning p h
    by Halted e h i = absurd (n i)
    by IStart e (Good Strt) i = absurd (cc i)
    by IStart e (Good Stack) i = tt
    by IStart e h i = absurd (n i)
    by AStart e (Good Strt) i = absurd (n i)
    by AStart e (Good Stack) i = tt
    by AStart e (Good (Acked resp)) i = go (resp == 0) refl i
      where
        go : (b : Bool) → (resp == 0) ≡ b → (cond b (after_startup s) s).state ≡ Running → resp ≡ 0
        go true z i = grind (arith)
        go false z i = absurd (n i)
    by AStart e (Good (Data resp num message)) i = go (resp == 0) refl i
      where
        go : (b : Bool) → (resp == 0) ≡ b
            → (cond b (on_data l (after_startup s) resp num message) s).state ≡ Running → resp ≡ 0
        go true z i = grind (arith)
        go false z i = absurd (n i)
    by AStart e h i = absurd (n i)
    by Running e h i = absurd (n e)
    by Maintenance e (Good (Maint message)) i = absurd (n i)
    by Maintenance e h i = absurd (n i)

turn_state : (s : StationState) (t : Next) → SentFor s t → (after_next t s).state ≡ s.state
turn_state s _ (sends_strt p d) = refl
turn_state s _ (sends_stack p d) = refl
turn_state s _ (sends_nak c p r) = refl
turn_state s _ (sends_rep p r f) = refl
turn_state s _ (sends_data p r f place) = refl
turn_state s _ (sends_ack p r f place) = refl
turn_state s _ (sends_maint m ms p o) = refl
turn_state s _ (halted_idles p) = refl
turn_state s _ (starting_idles p d) = refl
turn_state s _ (running_idles p r f place) = refl
turn_state s _ (maintenance_idles p o) = refl

pub next_state : (s : StationState) → (after_next (next s) s).state ≡ s.state
next_state s = turn_state s (next s) (sending s)

pub expired_state : (s : StationState) → (after_expire s).state ≡ s.state
expired_state s = at s.timer
  where
    by : (p : State) → (after_expire_in p s).state ≡ s.state
    by Halted = refl
    by IStart = refl
    by AStart = refl
    by Running = refl
    by Maintenance = refl

    at : (t : Timer) → (after_expire_with t s).state ≡ s.state
    at Off = refl
    at Fresh = by s.state
    at On = by s.state

-- ---- what is sent

-- what holds of a frame that is sent, by the reason of the turn
abbrev pub OfFrame : (Frame → Type 0) → Next → Type 0
OfFrame P Idle = Unit {0}
OfFrame P (Sends f u) = P f

abbrev pub StrtIn : StationState → Frame → Type 0
StrtIn s Strt = s.state ≡ IStart
StrtIn s Stack = s.state ≡ AStart
StrtIn s (Maint message) = s.state ≡ Maintenance
StrtIn s _ = s.state ≡ Running

strt_turn : (s : StationState) (t : Next) → SentFor s t → OfFrame (StrtIn s) t
strt_turn s _ (sends_strt p d) = p
strt_turn s _ (sends_stack p d) = p
strt_turn s _ (sends_nak c p r) = p
strt_turn s _ (sends_rep p r f) = p
strt_turn s _ (sends_data p r f place) = p
strt_turn s _ (sends_ack p r f place) = p
strt_turn s _ (sends_maint m ms p o) = p
strt_turn s _ (halted_idles p) = tt
strt_turn s _ (starting_idles p d) = tt
strt_turn s _ (running_idles p r f place) = tt
strt_turn s _ (maintenance_idles p o) = tt

pub sent_in_state : (s : StationState) (f : Frame) (u : StationState) → next s ≡ Sends f u
    → StrtIn s f
sent_in_state s f u e = subst (OfFrame (StrtIn s)) e (strt_turn s (next s) (sending s))

abbrev pub DataIn : StationState → Frame → Type 0
DataIn s (Data resp num message) = (resp ≡ resp_of s) × IsSentInWindow s num message
DataIn s _ = Unit {0}

number_of : (a t : ℕ) → a < 256 → t < 256 → t ≡ (a + ((t + 511 - a) % 256 + 1)) % 256
number_of a t ha ht = omega arith

data_turn : (l : Limits) (s : StationState) (t : Next) → IsSound l s → SentFor s t
    → OfFrame (DataIn s) t
data_turn l s _ h (sends_strt p d) = tt
data_turn l s _ h (sends_stack p d) = tt
data_turn l s _ h (sends_nak c p r) = tt
data_turn l s _ h (sends_rep p r f) = tt
data_turn l s _ h (sends_data p r f place) = (
  refl,
  record {
    place = place;
    message_at = refl;
    number =
        number_of s.a s.t h.in_window.a_byte h.in_window.t_byte;
    within = h.in_window.next_sent;
  },
)
data_turn l s _ h (sends_ack p r f place) = tt
data_turn l s _ h (sends_maint m ms p o) = tt
data_turn l s _ h (halted_idles p) = tt
data_turn l s _ h (starting_idles p d) = tt
data_turn l s _ h (running_idles p r f place) = tt
data_turn l s _ h (maintenance_idles p o) = tt

pub data_sent : (l : Limits) (s : StationState) (resp num : ℕ) (message : List ℕ) (u : StationState)
    → IsSound l s → next s ≡ Sends (Data resp num message) u
    → (resp ≡ resp_of s) × IsSentInWindow s num message
data_sent l s resp num message u h e =
    subst (OfFrame (DataIn s)) e (data_turn l s (next s) h (sending s))

-- a frame that is sent is read as the frame that it is
abbrev pub IsRead : Limits → Frame → Type 0
IsRead l f =
    (frame_of (header_of f) (message_of f) ≡ f) × IsFrame (header_of f) (message_of f)
    × IsInRange (header_of f) × (length (message_of f) ≤ l.longest)

reason_read : (why : Reason) → is_sent_reason why ≡ true
    → (reason_of (subtype_of why) ≡ why) × (subtype_of why < 64)
reason_read reason.HeaderCheck e = (refl, omega arith)
reason_read reason.DataCheck e = (refl, omega arith)
reason_read reason.ReplyToRep e = (refl, omega arith)
reason_read reason.NoBuffer e = (refl, omega arith)
reason_read reason.Overrun e = absurd (cc e)
reason_read reason.TooLong e = (refl, omega arith)
reason_read reason.Format e = (refl, omega arith)
reason_read (reason.Other n) e = absurd (cc e)

read_turn : (l : Limits) (s : StationState) (t : Next) → IsSound l s → SentFor s t
    → OfFrame (IsRead l) t
read_turn l s _ h (sends_strt p d) = (refl, refl, omega arith, omega arith)
read_turn l s _ h (sends_stack p d) = (refl, refl, omega arith, omega arith)
read_turn l s _ h (sends_nak why p r) =
    let e : is_sent_reason why ≡ true = sym (ap is_sent_reply r) ∙ h.fits.sent_reply in
    let k = reason_read why e in
    (ap (λ (w : Reason). Naked w (resp_of s)) k.0, refl, k.1, omega arith)
read_turn l s _ h (sends_rep p r f) = (refl, refl, omega arith, omega arith)
read_turn l s _ h (sends_data p r f place) =
    let k = h.out_stored.lengths (before_next s) place in
    (refl, refl, (omega (arith, k.0), omega (arith, k.1, h.out_stored.longest_max)), k.1)
read_turn l s _ h (sends_ack p r f place) = (refl, refl, omega arith, omega arith)
read_turn l s _ h (sends_maint m ms p o) =
    let one : 0 < length s.out = omega (arith, ap length o) in
    let k = h.out_stored.lengths 0 one in
    let k' = rw o at k in
    (refl, refl, (omega (arith, k'.0), omega (arith, k'.1, h.out_stored.longest_max)), k'.1)
read_turn l s _ h (halted_idles p) = tt
read_turn l s _ h (starting_idles p d) = tt
read_turn l s _ h (running_idles p r f place) = tt
read_turn l s _ h (maintenance_idles p o) = tt

pub read_sent : (l : Limits) (s : StationState) (f : Frame) (u : StationState) → IsSound l s
    → next s ≡ Sends f u → IsRead l f
read_sent l s f u h e = subst (OfFrame (IsRead l)) e (read_turn l s (next s) h (sending s))

-- ---- startup and maintenance

pub nothing_at_start : (l : Limits) (s : StationState) → IsSound l s → is_starting s.state ≡ true
    → HasNothing s
nothing_at_start l s h e =
    let o = h.fits.starting_out e in
    record {
      r = h.fits.starting_r e;
      a = ap (λ (x : Outgoing). x.a) o;
      n = ap (λ (x : Outgoing). x.n) o;
      t = ap (λ (x : Outgoing). x.t) o;
      out = ap (λ (x : Outgoing). x.out) o;
      inbox = h.fits.starting_inbox e;
    }

pub maintenance_pops : (l : Limits) (s : StationState) → IsSound l s → s.state ≡ Maintenance
    → (s.a ≡ s.n) × (s.t ≡ next_number s.a)
maintenance_pops l s h e = (h.fits.maintenance_n e, h.fits.maintenance_t e)
