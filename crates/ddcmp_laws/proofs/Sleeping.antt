-- Two links that sleep.
use Rattle.std.proofs.Common.{◌≡◌, ◌≢◌, ◌⊎◌, inl, inr, ℕ, Bool, true, false, cond, List}
use Rattle.std.proofs.Common.{[], ◌∷◌, ◌++◌, length, refl, sym, ◌∙◌, ap, arith, Option, None, Some}
use Rattle.std.specs.Prelude.{option_map, is_some, not, ◌&&◌, ◌||◌, ◌==◌}
use Rattle.ddcmp_core.specs.Core.{CoreView}
use Rattle.ddcmp_core.specs.Frames.{header_of}
use Rattle.ddcmp_core.specs.declared.state.State.{State}
use Rattle.ddcmp_core.specs.declared.state.State.TheVariants.{Halted, IStart, AStart, Running}
use Rattle.ddcmp_core.specs.declared.state.State.TheVariants.{Maintenance}
use Rattle.ddcmp_core.specs.declared.state.Timer.{Timer}
use Rattle.ddcmp_core.specs.declared.state.Timer.TheVariants.{Off, Fresh, On}
use Rattle.ddcmp_core.specs.Table.{next, next_by, next_frame, next_maintenance, after_take_arm}
use Rattle.ddcmp_core.specs.Table.{is_on}
use Rattle.ddcmp_core.specs.Table.{has_room, Frame, Strt, Stack, Maint, Limits, StationState}
use Rattle.ddcmp_proto.specs.Bytes.{frame_on_line}
use Rattle.ddcmp_io.specs.declared.carrier.End.{End}
use Rattle.ddcmp_pair.proofs.Ready.{Holding}
use Rattle.ddcmp_pair.specs.Recovery.{IsDelivered}
use Rattle.ddcmp_pair.specs.Run.{EndState, PairState, handed_up, line_bytes, is_clean}
use Rattle.ddcmp_pair.specs.Run.{run}
use Rattle.ddcmp_station.specs.Linking.{frame_of_link, fits}
use Rattle.ddcmp_station.specs.Linking.{is_held_back, is_nak_for_buffer, wants_bytes}
use Rattle.ddcmp_laws.proofs.Waiting.{holding_run, sleeps-a, sleeps-b}
use Rattle.ddcmp_laws.specs.PairCalls.{Call, noted, after_arm_here, events_in, run_calls}
use Rattle.ddcmp_laws.specs.Links.{LinkStep, LinkHistory, Links, IsSameEnd, AreStartedOnce}
use Rattle.ddcmp_laws.specs.Links.{after_steps, received}
use Rattle.ddcmp_laws.specs.LinkLines.{AreLinkCalls, calls_of_steps, LinksAreUp, LinkIsAsleep}
use Rattle.ddcmp_laws.specs.LinkLines.{LinkIsDelivered}
use Rattle.ddcmp_laws.proofs.PairCallLaws.{run_same, honest_same, clean_same}
use Rattle.ddcmp_laws.proofs.Stations.{note, frame_armed}
use Rattle.ddcmp_laws.proofs.TwoLinks.{AreSame, IsStart, acknowledged_to_a, acknowledged_to_b}
use Rattle.ddcmp_laws.proofs.TwoLinks.{all_acknowledged_a, all_acknowledged_b, clean, ends}

-- ---- of one link

pub same_off : (t u : Timer) → note t ≡ note u → t ≡ Off → u ≡ Off
same_off t Off e f = refl
same_off t Fresh e f = absurd (let z = ap note f in cc (e, z))
same_off t On e f = absurd (let z = ap note f in cc (e, z))

off_of : (t : Timer) (moment : ℕ) → cond (is_on t) (Some moment) None ≡ None → t ≡ Off
off_of Off moment e = refl
off_of Fresh moment e = absurd (cc e)
off_of On moment e = absurd (cc e)

quiet_same : (x y : EndState) → after_arm_here x ≡ after_arm_here y
    → next_frame (next x.core.station) ≡ None → line_bytes y ≡ None
quiet_same x y e n =
    let f : after_take_arm x.core.station ≡ after_take_arm y.core.station =
    ap (λ (z : EndState). z.core.station) e in
    ap (λ g. option_map (frame_on_line y.syn) g)
    (frame_armed y.core.station
    ∙ (sym (ap (λ s. next_frame (next s)) f) ∙ (sym (frame_armed x.core.station) ∙ n)))

abbrev is_held_frame : Option Frame → Bool
is_held_frame None = false
is_held_frame (Some f) = is_nak_for_buffer (header_of f)

strt : (f : Frame) → ◌≡◌ {A = Option Frame} (Some Strt) (Some f)
    → is_nak_for_buffer (header_of f) ≡ true → ⊥
strt f e nak = cc (ap (λ (o : Option Frame). is_held_frame o) e ∙ nak)

stack : (f : Frame) → ◌≡◌ {A = Option Frame} (Some Stack) (Some f)
    → is_nak_for_buffer (header_of f) ≡ true → ⊥
stack f e nak = cc (ap (λ (o : Option Frame). is_held_frame o) e ∙ nak)

other : (message : List ℕ) (f : Frame) → ◌≡◌ {A = Option Frame} (Some (Maint message)) (Some f)
    → is_nak_for_buffer (header_of f) ≡ true → ⊥
other message f e nak = cc (ap (λ (o : Option Frame). is_held_frame o) e ∙ nak)

-- only a station that runs owes a NAK
runs-if : (s : StationState) (f : Frame) → next_frame (next s) ≡ Some f
    → is_nak_for_buffer (header_of f) ≡ true → s.state ≡ Running
unfolding next
runs-if s f e nak = by s.state s.due refl refl e
  where
    by : (p : State) (due : Bool) → s.state ≡ p → s.due ≡ due
        → next_frame (next_by p (record s { due = due })) ≡ Some f → s.state ≡ Running
    by Running due is same e = is
    by Halted due is same e = absurd (cc e)
    by IStart true is same e = absurd (strt f e nak)
    by IStart false is same e = absurd (cc e)
    by AStart true is same e = absurd (stack f e nak)
    by AStart false is same e = absurd (cc e)
    by Maintenance due is same e = maint s.out e
      where
        maint : (out : List (List ℕ))
            → next_frame (next_maintenance out (record s { due = due })) ≡ Some f
            → s.state ≡ Running
        maint [] e = absurd (cc e)
        maint (message ∷ rest) e = absurd (other message f e nak)

-- A link that puts no frame has none, or it runs and no message is unacknowledged.
abbrev IsHeld : StationState → Type 0
IsHeld s = (s.state ≡ Running) × (length s.out ≡ 0)

held : (l : Limits) (s : StationState) (room : Bool) → room ≡ true
    → ((room && not (is_held_back (next_frame (next s)) l s)) && is_some (next_frame (next s)))
    ≡ false
    → (next_frame (next s) ≡ None) ⊎ IsHeld s
held l s room e n = by (next_frame (next s)) refl n
  where
    none : (free : Bool) (k : ℕ) → (free || not (k == 0)) ≡ false → k ≡ 0
    none true k e = absurd (cc e)
    none false k e = at (k == 0) refl e
      where
        at : (b : Bool) → (k == 0) ≡ b → not b ≡ false → k ≡ 0
        at true is e = grind (arith, is)
        at false is e = absurd (cc e)

    split : (f : Frame) (room nak wants : Bool) → room ≡ true
        → ((room && not (nak && not wants)) && true) ≡ false
        → (nak ≡ true) × (wants ≡ false)
    split f true true false e n = (refl, refl)
    split f true true true e n = absurd (cc n)
    split f true false wants e n = absurd (cc n)
    split f false nak wants e n = absurd (cc e)

    by : (f : Option Frame) → next_frame (next s) ≡ f
        → ((room && not (is_held_back f l s)) && is_some f) ≡ false
        → (next_frame (next s) ≡ None) ⊎ IsHeld s
    by None is n = inl is
    by (Some f) is n =
        let two = split f room (is_nak_for_buffer (header_of f)) (wants_bytes l s) e n in
        inr (runs-if s f is two.0, none (has_room l s) (length s.out) two.1)

got : (x y : EndState) (h k : LinkHistory) → IsSameEnd x h → IsSameEnd y k → x.given ≡ handed_up y
    → received k ≡ h.accepted
got x y h k s t e =
    sym
    (ap (λ ys. ys ++ y.core.station.inbox) t.taken
    ∙ ap (λ (c : CoreView). k.taken ++ c.station.inbox) t.core)
    ∙ (sym e ∙ s.given)

-- ---- of two

record IsQuiet (x : EndState) : Type 0 where
  no_frame : next_frame (next x.core.station) ≡ None
  no_timer : x.core.station.timer ≡ Off

quiet : (x : EndState) (h : LinkHistory) → IsSameEnd x h → LinkIsAsleep h.link
    → IsQuiet x ⊎ IsHeld h.link.station.core.station
quiet x h s z = by
    (held h.link.station.core.limits h.link.station.core.station (fits h.link) z.room z.no_frame)
  where
    by : (frame_of_link h.link ≡ None) ⊎ IsHeld h.link.station.core.station
        → IsQuiet x ⊎ IsHeld h.link.station.core.station
    by (inl n) = inl (record {
      no_frame = ap (λ (c : CoreView). next_frame (next c.station)) s.core ∙ n;
      no_timer =
          ap (λ (c : CoreView). c.station.timer) s.core
          ∙ off_of h.link.station.core.station.timer _ z.no_moment;
    })
    by (inr f) = inr f

-- what is delivered stays so, but for the note of a started timer
pub delivered_same : (x y u v : EndState) → after_arm_here x ≡ after_arm_here u
    → after_arm_here y ≡ after_arm_here v → IsDelivered u v → IsDelivered x y
delivered_same x y u v e f d = record {
  runs = ap (λ (z : EndState). z.core.station.state) e ∙ d.runs;
  handed_up =
      ap (λ (z : EndState). z.given) e ∙ d.handed_up ∙ sym (ap (λ (z : EndState). handed_up z) f);
  acknowledged =
      ap (λ (z : EndState). z.acknowledged) e ∙ d.acknowledged
      ∙ sym (ap (λ (z : EndState). length z.given) e);
}

pub delivered_links : (x y : EndState) (h k : LinkHistory) → IsSameEnd x h → IsSameEnd y k
    → IsDelivered x y → LinkIsDelivered h k
delivered_links x y h k s t d = record {
  runs = sym (ap (λ (c : CoreView). c.station.state) s.core) ∙ d.runs;
  received = got x y h k s t d.handed_up;
  acknowledged = sym s.acknowledged ∙ d.acknowledged ∙ ap length s.given;
}

module _ (start : PairState) (begun : Links) (is : IsStart start begun)
    (steps : List (End × LinkStep)) (o : AreLinkCalls steps begun)
    (honest : (run_calls (calls_of_steps steps begun) start).honest ≡ true)
    (once : AreStartedOnce steps) (up : LinksAreUp (after_steps steps begun)) where
  abbrev links : Links
  links = after_steps steps begun

  abbrev calls : List (End × Call)
  calls = calls_of_steps steps begun

  abbrev p : PairState
  p = run_calls calls start

  abbrev q : PairState
  q = run (events_in calls) start

  same : AreSame p links
  same = ends start begun is steps o honest once

  noted_same : noted p ≡ noted q
  noted_same = run_same calls start start refl

  held_on : Holding q
  held_on = holding_run (events_in calls) start is.holding

  honest_run : q.honest ≡ true
  honest_run = sym (honest_same p q noted_same) ∙ honest

  clean_run : is_clean q ≡ true
  clean_run = sym (clean_same p q noted_same) ∙ clean start begun is steps o honest once

  up_a : q.a.core.station.state ≢ Halted
  up_a e =
      up.a
      (sym (ap (λ (c : CoreView). c.station.state) same.a.core)
      ∙ (ap (λ (r : PairState). r.a.core.station.state) noted_same ∙ e))

  up_b : q.b.core.station.state ≢ Halted
  up_b e =
      up.b
      (sym (ap (λ (c : CoreView). c.station.state) same.b.core)
      ∙ (ap (λ (r : PairState). r.b.core.station.state) noted_same ∙ e))

  pub asleep_a : LinkIsAsleep links.a.link → LinkIsDelivered links.a links.b
  asleep_a z = by (quiet p.a links.a same.a z)
    where
      by : IsQuiet p.a ⊎ IsHeld links.a.link.station.core.station
          → LinkIsDelivered links.a links.b
      by (inr h) =
          (record {
            runs = h.0;
            received =
                acknowledged_to_b start begun is steps o honest once h.1;
            acknowledged =
                all_acknowledged_a start begun is steps o honest once h.1;
          })
      by (inl n) =
          (delivered_links p.a p.b links.a links.b same.a same.b
          (delivered_same p.a p.b q.a q.b (ap (λ (r : PairState). r.a) noted_same)
          (ap (λ (r : PairState). r.b) noted_same)
          (sleeps-a q held_on honest_run clean_run up_a up_b
          (quiet_same p.a q.a (ap (λ (r : PairState). r.a) noted_same) n.no_frame)
          (same_off p.a.core.station.timer q.a.core.station.timer
          (ap (λ (r : PairState). r.a.core.station.timer) noted_same) n.no_timer))))

  pub asleep_b : LinkIsAsleep links.b.link → LinkIsDelivered links.b links.a
  asleep_b z = by (quiet p.b links.b same.b z)
    where
      by : IsQuiet p.b ⊎ IsHeld links.b.link.station.core.station
          → LinkIsDelivered links.b links.a
      by (inr h) =
          (record {
            runs = h.0;
            received =
                acknowledged_to_a start begun is steps o honest once h.1;
            acknowledged =
                all_acknowledged_b start begun is steps o honest once h.1;
          })
      by (inl n) =
          (delivered_links p.b p.a links.b links.a same.b same.a
          (delivered_same p.b p.a q.b q.a (ap (λ (r : PairState). r.b) noted_same)
          (ap (λ (r : PairState). r.a) noted_same)
          (sleeps-b q held_on honest_run clean_run up_a up_b
          (quiet_same p.b q.b (ap (λ (r : PairState). r.b) noted_same) n.no_frame)
          (same_off p.b.core.station.timer q.b.core.station.timer
          (ap (λ (r : PairState). r.b.core.station.timer) noted_same) n.no_timer))))
