-- Stations that acknowledge messages when they are received.
use Rattle.std.proofs.Common.{◌≡◌, ◌<◌, Bool, true, false, arith, cond, length}
use Rattle.std.proofs.Common.{drop, sym}
use Rattle.std.proofs.Common.{◌∙◌, ap}
use Rattle.std.specs.Prelude.{◌&&◌, nat_lt}
use Rattle.ddcmp_core.specs.Sequence.{distance}
use Rattle.ddcmp_core.specs.Table.{StationState, resp_of, is_running, owed_after_take, after_take}
use Rattle.ddcmp_io.specs.declared.carrier.End.TheVariants.{A, B}
use Rattle.ddcmp_pair.specs.declared.event.Event.{Event}
use Rattle.ddcmp_pair.specs.Pairs.{IsRun}
use Rattle.ddcmp_pair.specs.Run.{PairState, after_event, new_pair}
use Rattle.ddcmp_pair.proofs.Modes.{after-mode, run-modes}
use Rattle.ddcmp_laws.specs.LossFree.{IsEarly}

pub early-resp : (s : StationState) → s.by_user ≡ false → resp_of s ≡ s.r
early-resp s e = ap (λ (b : Bool). cond b (distance (length s.inbox) s.r) s.r) e

pub resp-byte : (s : StationState) → s.r < 256 → resp_of s < 256
resp-byte s h = by s.by_user
  where
    by : (b : Bool) → cond b (distance (length s.inbox) s.r) s.r < 256
    by true = omega arith
    by false = h

pub early-take : (s : StationState) → s.by_user ≡ false
    → after_take s ≡ record s { inbox = drop 1 s.inbox }
early-take s e =
    ap
    (λ (b : Bool). record s {
      inbox = drop 1 s.inbox;
      reply =
          cond ((b && is_running s.state) && nat_lt 0 (length s.inbox)) (owed_after_take s.reply)
          s.reply;
    }) e

pub early-event : (e : Event) (p : PairState) → IsEarly p → IsEarly (after_event e p)
early-event e p h = record { a = after-mode e p A ∙ h.a; b = after-mode e p B ∙ h.b }

pub early-run : (p : PairState) → IsRun p → IsEarly p
early-run p r =
    let q = new_pair r.first r.second in
    record {
      a = ap (λ (t : PairState). t.a.core.station.by_user) (sym r.leads) ∙ run-modes r.events q A;
      b = ap (λ (t : PairState). t.b.core.station.by_user) (sym r.leads) ∙ run-modes r.events q B;
    }
