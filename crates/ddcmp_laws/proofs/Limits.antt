-- What a link's calls leave of its limits, and which messages it accepts.
use Rattle.std.proofs.Common.{◌≡◌, ℕ, zero, suc, Bool, true, false, cond, List}
use Rattle.std.proofs.Common.{length, refl, ◌∙◌, ap}
use Rattle.std.proofs.Common.{arith, Some, None}
use Rattle.std.specs.Prelude.{◌&&◌, ◌==◌, nat_le, nat_lt, is_none}
use Rattle.ddcmp_window.specs.declared.sender.SendRefusal.TheVariants.{Empty as NoBytes}
use Rattle.ddcmp_window.specs.declared.sender.SendRefusal.TheVariants.{TooLong as Long, WindowFull}
use Rattle.ddcmp_window.specs.declared.sender.SendRefusal.TheVariants.{WrongState}
use Rattle.ddcmp_core.specs.Core.{CoreView}
use Rattle.ddcmp_core.specs.Table.{is_running, is_on, may_send, after_accept}
use Rattle.ddcmp_input.specs.InBinary.{Fits}
use Rattle.ddcmp_proto.proofs.FeedLaws.{after_piece-limits}
use Rattle.ddcmp_station.specs.Driving.{deadline_at, is_due, core_after_take_arm, core_after_expire}
use Rattle.ddcmp_station.specs.Linking.{LinkView, total_plus, with_state, polls, after_polled}
use Rattle.ddcmp_station.specs.Linking.{after_frame, after_frames, after_wake}
use Rattle.ddcmp_station.specs.Linking.{after_offered, takes_message}
use Rattle.ddcmp_laws.specs.Links.{HasFed}

-- ---- limits stay

abbrev pub longest_of : LinkView → ℕ
longest_of d = d.station.core.limits.longest

pub frame_longest : (d : LinkView) → longest_of (after_frame d) ≡ longest_of d
frame_longest d = by (polls d)
  where
    by : (b : Bool) → longest_of (cond b (after_polled d) d) ≡ longest_of d
    by true = refl
    by false = refl

pub frames_longest : (n : ℕ) (d : LinkView) → longest_of (after_frames n d) ≡ longest_of d
unfolding after_frames
frames_longest zero d = refl
frames_longest (suc n) d = frame_longest (after_frames n d) ∙ frames_longest n d

pub wake_longest : (now : ℕ) (d : LinkView) → longest_of (after_wake now d) ≡ longest_of d
wake_longest now d =
    by (is_on k.station.timer
    && is_due now (deadline_at d.milliseconds now d.station.core.station.timer d.deadline))
  where
    k : CoreView
    k = core_after_take_arm d.station.core

    by : (b : Bool)
        → (cond b (core_after_expire (core_after_take_arm d.station.core))
        (core_after_take_arm d.station.core)).limits.longest ≡ longest_of d
    by true = refl
    by false = refl

pub offered_longest : (message : List ℕ) (d : LinkView)
    → longest_of (after_offered message d) ≡ longest_of d
offered_longest message d = by (may_send d.station.core.limits d.station.core.station message)
  where
    by : (b : Bool)
        → longest_of
        (cond b
        (record (with_state (after_accept d.station.core.station message) d)
        { totals = record d.totals { sent = total_plus d.totals.sent 1 } }) d)
        ≡ longest_of d
    by true = refl
    by false = refl

pub fed_longest : (text used : List ℕ) (old new : LinkView) → HasFed text used old new
    → longest_of new ≡ longest_of old
fed_longest text used old new f =
    ap (λ (k : CoreView). k.limits.longest) f.core
    ∙ ap (λ l. l.longest) (after_piece-limits text used old.station.core)

-- ---- a message that fits is accepted

pub both : (a b : Bool) → a && b ≡ true → (a ≡ true) × (b ≡ true)
both true b e = (refl, e)
both false b e = cc

pub accepts : (d : LinkView) (message : List ℕ) → takes_message d ≡ true
    → Fits (longest_of d) message
    → may_send d.station.core.limits d.station.core.station message ≡ true
accepts d message takes fit =
    ap
    (λ b. is_none
    (cond b
    (cond (length message == 0) (Some NoBytes)
    (cond (nat_lt longest (length message)) (Some Long)
    (cond (nat_le window (length out)) (Some WindowFull) None)))
    (Some WrongState))) t.0
    ∙ ap
    (λ b. is_none
    (cond b (Some NoBytes)
    (cond (nat_lt longest (length message)) (Some Long)
    (cond (nat_le window (length out)) (Some WindowFull) None)))) some
    ∙ ap
    (λ b. is_none
    (cond b (Some Long) (cond (nat_le window (length out)) (Some WindowFull) None))) short
    ∙ ap (λ b. is_none (cond b (Some WindowFull) None)) room
  where
    longest : ℕ
    longest = d.station.core.limits.longest

    window : ℕ
    window = d.station.core.limits.window

    out : List (List ℕ)
    out = d.station.core.station.out

    t : (is_running d.station.core.station.state ≡ true) × (nat_lt (length out) window ≡ true)
    t = both (is_running d.station.core.station.state) (nat_lt (length out) window) takes

    some : (length message == 0) ≡ false
    some = let h = fit.0 in grind (arith, h)

    short : nat_lt longest (length message) ≡ false
    short = let h = fit.1 in grind (arith, h)

    room : nat_le window (length out) ≡ false
    room = let h = t.1 in grind (arith, h)
