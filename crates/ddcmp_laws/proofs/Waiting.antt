-- An end that sleeps has nothing left to be done.
use Rattle.std.proofs.Common.{◌≡◌, ◌≢◌, ◌⊎◌, inl, inr, ℕ, ◌<◌, true, false, List}
use Rattle.std.proofs.Common.{[], ◌∷◌, length, None, arith}
use Rattle.ddcmp_core.specs.declared.state.State.TheVariants.{Halted, Running}
use Rattle.ddcmp_core.specs.declared.state.Timer.TheVariants.{Off}
use Rattle.ddcmp_core.specs.Numbers.{next_number}
use Rattle.ddcmp_core.specs.Core.{IsTimed}
use Rattle.ddcmp_core.specs.Table.{StationState}
use Rattle.ddcmp_pair.specs.Recovery.{IsDelivered}
use Rattle.ddcmp_pair.specs.Run.{EndState, PairState, after_event, handed_up, is_clean, line_bytes}
use Rattle.ddcmp_pair.specs.Run.{new_pair, run}
use Rattle.ddcmp_pair.specs.declared.event.Event.{Event}
use Rattle.ddcmp_proto.specs.Config.{first_refusal}
use Rattle.ddcmp_proto.specs.declared.config.Config.{Config}
use Rattle.ddcmp_pair.proofs.Alone.{alone-after, alone-begun}
use Rattle.ddcmp_pair.proofs.Ordered.{holds-after, holds-new}
use Rattle.ddcmp_pair.proofs.Numbering.{next_is}
use Rattle.ddcmp_pair.proofs.Ready.{Holding, holding-kept}
use Rattle.ddcmp_pair.proofs.Relation.{face, Counts}
use Rattle.ddcmp_pair.proofs.Steady.{Shows}
use Rattle.ddcmp_laws.proofs.Hearing.{sight}
use Rattle.ddcmp_laws.proofs.Starting.{Idles, i_starts, i_runs}
use Rattle.ddcmp_laws.proofs.Delivering.{Both}
use Rattle.ddcmp_laws.proofs.Rounding.{idles, base-of, counted-of, back-to, delivered-to}

-- if the timer is off and there is nothing to send, all was acknowledged
all-told : (s : StationState) (w : ℕ) (given : List (List ℕ)) (acked sent next up : ℕ)
    → Counts s w given acked sent next up → length given < next
    → (s.a ≡ s.n) ⊎ (s.t ≡ next_number s.a) → acked ≡ length given
all-told s w given acked sent next up c room (inl e) =
    omega
    (arith, e, c.a_is, c.n_is, c.t_high, c.window, c.small, c.acked_given, c.sent_given, room)
all-told s w given acked sent next up c room (inr e) =
    omega (
      arith,
      e,
      c.a_is,
      c.t_is,
      c.t_low,
      c.t_high,
      c.window,
      c.small,
      c.acked_given,
      c.sent_given,
      room,
    )

either : (s : StationState) → IsTimed s → s.state ≡ Running → s.rep ≡ false → s.timer ≡ Off
    → (s.a ≡ s.n) ⊎ (s.t ≡ next_number s.a)
either s t p f o = by (t.waits p o)
  where
    by : (s.a ≡ s.n) ⊎ ((s.rep ≡ true) ⊎ (s.t ≡ next_number s.a))
        → (s.a ≡ s.n) ⊎ (s.t ≡ next_number s.a)
    by (inl e) = inl e
    by (inr (inl e)) = absurd (cc (e, f))
    by (inr (inr e)) = inr e

waits-for-none : (x y : EndState) → Shows x y → IsTimed x.core.station → Idles (sight (face x))
    → x.core.station.timer ≡ Off → IsDelivered x y
waits-for-none x y h t (i_starts s d) o = absurd (let z = t.asks s o in cc (z, d))
waits-for-none x y h t (i_runs p r f room) o =
    let n =
    next_is x.core.station x.core.limits.window x.given x.acknowledged h.sent h.next
    (length (handed_up x)) h.numbers in
    let all =
    all-told x.core.station x.core.limits.window x.given x.acknowledged h.sent h.next
    (length (handed_up x)) h.numbers (omega (arith, n, room)) (either x.core.station t p f o) in
    let low = h.low in
    let high = h.high in
    let c = h.numbers.sent_given in
    delivered-to x y h p (omega (arith, all, low, high, c)) (omega (arith, all, low, high, c))

-- what holds of two stations after a run
pub holding_run : (events : List Event) (p : PairState) → Holding p → Holding (run events p)
unfolding run
holding_run [] p h = h
holding_run (e ∷ rest) p h =
    holding_run rest (after_event e p)
    (record { holds = holds-after e p h.holds; alone = alone-after e p h.alone })

pub new_holding : (first second : Config) → first_refusal first ≡ None
    → first_refusal second ≡ None → Holding (new_pair first second)
new_holding first second f g =
    record { holds = holds-new first second f g; alone = alone-begun first second }

module _ (p : PairState) (r : Holding p) (h : p.honest ≡ true) (c : is_clean p ≡ true)
    (wa : p.a.core.station.state ≢ Halted) (wb : p.b.core.station.state ≢ Halted) where
  from-a : Shows p.a p.b
  from-a = holding-kept.from_a p r h c (record { a = wa; b = wb })

  from-b : Shows p.b p.a
  from-b = holding-kept.from_b p r h c (record { a = wa; b = wb })

  both : Both (face p.a) (face p.b) [] []
  both =
      record {
        base = base-of p.a p.b from-a wa;
        base_there = base-of p.b p.a from-b wb;
        counted = counted-of p.a p.b from-a;
        counted_there = counted-of p.b p.a from-b;
      }

  pub sleeps-a : line_bytes p.a ≡ None → p.a.core.station.timer ≡ Off → IsDelivered p.a p.b
  sleeps-a n o =
      waits-for-none p.a p.b from-a r.alone.a.timed (idles p.a p.b [] [] both n) o

  pub sleeps-b : line_bytes p.b ≡ None → p.b.core.station.timer ≡ Off → IsDelivered p.b p.a
  sleeps-b n o =
      waits-for-none p.b p.a from-b r.alone.b.timed
      (idles p.b p.a [] [] (back-to p.a p.b both) n) o
