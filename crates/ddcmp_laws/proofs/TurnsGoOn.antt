-- Each line has a sweep of turns before the deadlines.
use Rattle.std.proofs.Common.{◌≡◌, ℕ, ◌<◌, ◌≤◌, Bool, true, false, List, [], length}
use Rattle.std.proofs.Common.{refl, ◌∙◌, arith, append-nil, Option, Some, None}
use Rattle.std.specs.Prelude.{◌&&◌, nat_le, nat_lt}
use Rattle.ddcmp_core.specs.declared.state.Timer.{Timer}
use Rattle.ddcmp_core.specs.declared.state.Timer.TheVariants.{Off, Fresh, On}
use Rattle.ddcmp_core.specs.Table.{Limits, StationState, is_running, may_send}
use Rattle.ddcmp_station.specs.Driving.{DriveTurn, before_offer, expires_at, later}
use Rattle.ddcmp_laws.specs.DrivenSweeps.{Reads, DrivenEnd, DrivenLine, after_part}
use Rattle.ddcmp_laws.specs.DrivenSweeps.{TurnsLoseNothing, IsQuietTurn, bytes_read_at}
use Rattle.ddcmp_laws.specs.DrivenSweeps.{is_driven_in, IsSweepOfTurns, sweep_at, IsEarly}
use Rattle.ddcmp_laws.proofs.Seen.{sent_where_asked}

-- ---- a turn before the deadline

not-yet : (ms now : ℕ) → 1 ≤ ms → now < 18446744073709551615 → nat_le (later now ms) now ≡ false
not-yet ms now w l = grind (arith, w, l)

too-early : (moment now : ℕ) → now < moment → nat_le moment now ≡ false
too-early moment now l = grind (arith, l)

stays-on : (ms now : ℕ) (t : Timer) (deadline : Option ℕ) → 1 ≤ ms
    → now < 18446744073709551615 → ((moment : ℕ) → deadline ≡ Some moment → now < moment)
    → expires_at ms now t deadline ≡ false
stays-on ms now Off deadline w l b = refl
stays-on ms now Fresh deadline w l b = not-yet ms now w l
stays-on ms now On None w l b = not-yet ms now w l
stays-on ms now On (Some moment) w l b = too-early moment now (b moment refl)

never : (b : Bool) → (b && false) ≡ false
never true = refl
never false = refl

empty-refused : (k : Limits) (s : StationState) → may_send k s [] ≡ false
empty-refused k s =
    sent_where_asked k s []
    ∙ never (is_running s.state && nat_lt (length s.out) k.window)

idle : (now : ℕ) (came : List ℕ) (x : DrivenEnd) → IsEarly now x
    → IsQuietTurn (record { now = now; offered = []; came = [] }) (after_part (Reads came) x)
idle now came x e =
    let turn : DriveTurn = record { now = now; offered = []; came = [] } in
    let y = after_part (Reads came) x in
    let k = before_offer y.milliseconds turn y.driving in
    record {
      timer =
          stays-on x.milliseconds now y.driving.core.station.timer x.driving.deadline e.waits
          e.later e.before;
      message = empty-refused k.limits k.station;
    }

-- ---- the sweep

pub shortest : (now : ℕ) (l : DrivenLine) → IsEarly now l.a → IsEarly now l.b
    → IsSweepOfTurns (sweep_at now l) l
unfolding bytes_read_at is_driven_in
shortest now l a b = record {
  quiet = (tt, (tt, (idle now l.to_a l.a a, (idle now l.to_b l.b b, tt))));
  all_to_a = omega arith;
  all_to_b = omega arith;
  turn_a = refl;
  turn_b = refl;
}

pub loses-nothing : (now : ℕ) (l : DrivenLine) → TurnsLoseNothing (sweep_at now l) l
loses-nothing now l = (([], append-nil l.to_a), (([], refl), ((_, refl), ((_, refl), tt))))
