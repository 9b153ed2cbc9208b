-- Rules of a session's course.
use Rattle.std.proofs.Common.{◌≡◌, ◌≤◌, ◌≢◌, Bool, true, false, ℕ, Option, Some, None, arith, refl}
use Rattle.std.specs.Prelude.{if◌then◌else◌, ◌&&◌, ◌||◌, not, nat_le}
use Rattle.ddcmp_station.specs.Linking.{delivered}
use Rattle.ddcmp_session.specs.Session.{SessionView, is_awaited, is_delivered}
use Rattle.ddcmp_session.specs.Timing.{end, had_input, is_done, is_given_up, is_listener, is_spent}
use Rattle.ddcmp_session.specs.Timing.{lingers_until, run_ends_at, stays}
use Rattle.ddcmp_session.specs.declared.session.EndReason.{EndReason}
use Rattle.ddcmp_session.specs.declared.session.EndReason.TheVariants.{Done, GivenUp}
use Rattle.ddcmp_session.specs.declared.session.EndReason.TheVariants.{Time, Restarted}

-- what comes last of a chain is Done only if its condition holds, and none before
chosen : (a b c d : Bool) → ◌≡◌ {A = Option EndReason}
    (if a then Some Time else if b then Some Restarted else if c then Some GivenUp
    else if d then Some Done else None) (Some Done) → d ≡ true
chosen true b c d e = cc
chosen false true c d e = cc
chosen false false true d e = cc
chosen false false false true e = refl
chosen false false false false e = cc

is-done : (a b c d e : Bool) → ◌≡◌ {A = Option EndReason}
    (if a then Some Time else if b then Some Restarted else if c then Some GivenUp
    else if d && e then Some Done else None) (Some Done) → (d ≡ true) × (e ≡ true)
is-done a b c d e is = both d e (chosen a b c (d && e) is)
  where
    both : (d e : Bool) → (d && e) ≡ true → (d ≡ true) × (e ≡ true)
    both true e f = (refl, f)
    both false e f = cc

spent-read : (read delivered ran has_line : Bool)
    → ((read && delivered) || (read && (ran && not has_line))) ≡ true → read ≡ true
spent-read true d r h e = refl
spent-read false d r h e = cc

spent-delivered : (read delivered ran has_line : Bool) → has_line ≡ true
    → ((read && delivered) || (read && (ran && not has_line))) ≡ true
    → (read && delivered) ≡ true
spent-delivered true true r h l e = refl
spent-delivered true false true true l e = cc
spent-delivered true false false h l e = cc
spent-delivered true false true false l e = cc
spent-delivered false d r h l e = cc

first-holds : (a b : Bool) → (a && b) ≡ true → a ≡ true
first-holds true b e = refl
first-holds false b e = cc

no-stay : (a w b c : Bool) → b ≡ true → (a && (w && not (b || c))) ≡ true → ⊥
no-stay true true true c e f = cc
no-stay true false b c e f = cc
no-stay false w b c e f = cc
no-stay true true false c e f = cc

no-wait : (a w b : Bool) → w ≡ true → (a && (not w && b)) ≡ true → ⊥
no-wait true true b e f = cc
no-wait false w b e f = cc
no-wait true false b e f = cc

done-of : (s : SessionView) → end s ≡ Some Done
    → (is_done s ≡ true) × (nat_le (lingers_until s) s.course.moment ≡ true)
done-of s e =
    is-done (nat_le (run_ends_at s) s.course.moment) (s.has_line && s.course.leaves)
    (s.has_line && is_given_up s) (is_done s) (nat_le (lingers_until s) s.course.moment) e

spent-of : (s : SessionView) → end s ≡ Some Done → is_spent s ≡ true
spent-of s e = first-holds (is_spent s) (not (is_awaited s) && not (stays s)) (done-of s e).0

pub read-of : (s : SessionView) → end s ≡ Some Done → s.is_read ≡ true
read-of s e = spent-read s.is_read (delivered s.link) s.course.has_run s.has_line (spent-of s e)

pub delivered-of : (s : SessionView) → end s ≡ Some Done → s.has_line ≡ true
    → is_delivered s ≡ true
delivered-of s e line =
    spent-delivered s.is_read (delivered s.link) s.course.has_run s.has_line line (spent-of s e)

over : (m n : ℕ) → nat_le m n ≡ true → m ≤ n
over m n c = grind (arith, c)

pub quiet-of : (s : SessionView) → end s ≡ Some Done → lingers_until s ≤ s.course.moment
quiet-of s e = over (lingers_until s) s.course.moment (done-of s e).1

pub stays-of : (s : SessionView) → s.options.stay ≡ true → end s ≢ Some Done
stays-of s stay e =
    no-stay (is_spent s) (not (is_awaited s)) s.options.stay
    (is_listener s.kind && not (had_input s)) stay (done-of s e).0

pub waits-of : (s : SessionView) → is_awaited s ≡ true → end s ≢ Some Done
waits-of s waits e = no-wait (is_spent s) (is_awaited s) (not (stays s)) waits (done-of s e).0
