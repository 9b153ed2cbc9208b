-- How the run gets on after bytes of the line.
use Rattle.std.proofs.Common.{◌≡◌, ◌∙◌, ap, sym, refl, ℕ, arith, Bool, true, false, ◌&&◌, ◌||◌, not}
use Rattle.std.proofs.Common.{List, [], ◌∷◌, cond, Some, None, nat_le}
use Rattle.std.proofs.lemmas.Bool.{le-leb}
use Rattle.ddcmp_core.specs.Table.{is_running}
use Rattle.ddcmp_core.specs.declared.counters.NakCounts.{NakCounts}
use Rattle.ddcmp_core.specs.declared.notice.Notice.{Notice}
use Rattle.ddcmp_station.specs.Linking.{LinkView, after_wake}
use Rattle.ddcmp_session.specs.declared.course.Course.{Course}
use Rattle.ddcmp_session.specs.declared.session.EndReason.TheVariants.{Time}
use Rattle.ddcmp_session.specs.Course.{after_looked, after_moment, after_notice, after_notices}
use Rattle.ddcmp_session.specs.Course.{after_pauses, after_unheard, after_writing}
use Rattle.ddcmp_session.specs.Course.{expiry_counted, silence_counted, try_counted}
use Rattle.ddcmp_session.specs.Session.{SessionView, after_told, after_timeout, awaits_peer}
use Rattle.ddcmp_session.specs.Session.{course_tried}
use Rattle.ddcmp_session.specs.Session.{course_received, expires, is_deaf, is_sending, timed_out}
use Rattle.ddcmp_streams.specs.Options.{report_ms, speed_of}
use Rattle.ddcmp_session.specs.Timing.{end, run_ends_at}
use Rattle.ddcmp_session.specs.Session.{wants_line}

wanted : {A : Type 0} (b : Bool) (x y : A) → true ≡ b → x ≡ cond b x y
wanted b x y e = ap (λ w. cond w x y) e

-- a session that was looked at, and whose link had received these NAKs before
module _ (s : SessionView) (link : LinkView) (notices : List Notice) (before : NakCounts)
    (c : Course) (wants : true ≡ wants_line s)
    (had : before ≡ s.link.station.core.counters.nak_received)
    (look : c ≡ after_looked s.options.timer_ms before link s.course) where
  looked : Course
  looked = after_looked s.options.timer_ms s.link.station.core.counters.nak_received link s.course

  is-looked : c ≡ looked
  unfolding looked
  is-looked = look ∙ ap (λ k. after_looked s.options.timer_ms k link s.course) had

  as-received : after_notices notices looked ≡ course_received s link notices
  unfolding looked
  as-received = wanted (wants_line s) (after_notices notices looked) s.course wants

  pub received-one : (n : Notice) (new : Course) → notices ≡ n ∷ [] → new ≡ after_notice n c
      → new ≡ course_received s link notices
  unfolding after_notices
  received-one n new is was =
      was ∙ ap (after_notice n) is-looked ∙ ap (λ ns. after_notices ns looked) (sym is)
      ∙ as-received

  pub received-none : notices ≡ [] → c ≡ course_received s link notices
  unfolding after_notices
  received-none is = is-looked ∙ ap (λ ns. after_notices ns looked) (sym is) ∙ as-received

-- ---- the time of the run

either : (b : Bool) (x y : Course) (n : ℕ) → x.moment ≡ n → y.moment ≡ n → (cond b x y).moment ≡ n
either true x y n p q = p
either false x y n p q = q

moment-is : (now : ℕ) (s : SessionView) → (after_timeout now s).course.moment ≡ now
unfolding course_tried
moment-is now s =
    let c =
    after_writing (speed_of s.options) s.link.totals.written
    (after_pauses (after_moment (report_ms s.options) now s.course)) in
    let t = record s { link = after_wake now s.link; course = c } in
    let u = timed_out now s in
    let runs = is_running t.link.station.core.station.state in
    let one = either runs (silence_counted c) (try_counted None c) now refl refl in
    let counted =
    either (is_sending t || is_deaf t) c (expiry_counted runs s.is_read c) now refl
    (either s.is_read _ (cond runs (silence_counted c) (try_counted None c)) now one one) in
    let at = either (expires now s && not (awaits_peer t)) _ c now counted refl in
    either (wants_line u) _ (after_unheard (after_told (expires now s) u).course) now at at

pub time-is-over : (s new : SessionView) (now : ℕ) → now ≡ run_ends_at s
    → new ≡ after_timeout now s → end new ≡ Some Time
time-is-over s new now at is =
    let v = after_timeout now s in
    let past =
    le-leb (run_ends_at v) v.course.moment (omega (arith, moment-is now s, at)) in
    ap (λ (x : SessionView). end x) is
    ∙ sym (wanted (nat_le (run_ends_at v) v.course.moment) (Some Time) _ (sym past))
