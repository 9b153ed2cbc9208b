-- A settle is a run: what holds of two ends at any time of it, and each frame as their numbers see
-- it.
use Rattle.std.proofs.Common.{◌≡◌, ◌≢◌, ◌⊎◌, inl, inr, ℕ, ◌≤◌, max, Bool, true, false, List, []}
use Rattle.std.proofs.Common.{◌∷◌, length, refl, sym, subst, arith}
use Rattle.std.specs.Prelude.{◌&&◌, nat_le, is_some}
use Rattle.ddcmp_frame.specs.Reading.{open_at_end, good_frames}
use Rattle.ddcmp_core.specs.declared.state.State.{State}
use Rattle.ddcmp_core.specs.declared.state.State.TheVariants.{Halted, IStart, AStart, Running}
use Rattle.ddcmp_core.specs.declared.state.State.TheVariants.{Maintenance}
use Rattle.ddcmp_core.specs.Table.{StationState, Next, after_next, after_expire_in}
use Rattle.ddcmp_core.specs.Table.{after_expire_with, after_expire, is_starting}
use Rattle.ddcmp_core.specs.declared.state.Timer.{Timer}
use Rattle.ddcmp_core.specs.declared.state.Timer.TheVariants.{Off, Fresh, On}
use Rattle.ddcmp_core.specs.Counting.{count_plus}
use Rattle.ddcmp_core.specs.Core.{IsSound, IsTimed}
use Rattle.ddcmp_core.specs.NextFrame.{SentFor, sends_strt, sends_stack, sends_nak, sends_rep}
use Rattle.ddcmp_core.specs.NextFrame.{sends_data, sends_ack, sends_maint, halted_idles}
use Rattle.ddcmp_core.specs.NextFrame.{starting_idles, running_idles, maintenance_idles}
use Rattle.ddcmp_io.specs.declared.carrier.End.TheVariants.{A, B}
use Rattle.ddcmp_pair.specs.declared.event.Event.{Event}
use Rattle.ddcmp_pair.specs.Place.{place_of}
use Rattle.ddcmp_pair.specs.Prefix.{IsPrefixOf}
use Rattle.ddcmp_pair.specs.Run.{EndState, PairState, handed_up, after_event, run, is_clean}
use Rattle.ddcmp_pair.specs.Settle.{crossing}
use Rattle.ddcmp_pair.proofs.Crossings.{turned, half, crossing-a, crossing-b}
use Rattle.ddcmp_pair.proofs.Relation.{Counts}

-- ---- what a recovery needs to know of two ends that have begun, at any time of an honest and
-- clean run: of the direction from x to y

pub record Shows (x y : EndState) : Type 0 where
  pub sent : ℕ
  pub next : ℕ
  pub numbers : Counts x.core.station x.core.limits.window x.given x.acknowledged sent next
      (length (handed_up x))
  pub low : x.acknowledged ≤ length (handed_up y)
  pub high : length (handed_up y) ≤ sent
  pub prefix : IsPrefixOf (handed_up y) x.given
  pub fresh : is_starting x.core.station.state ≡ true → x.given ≡ []
  pub young : is_starting x.core.station.state ≡ true → handed_up x ≡ []
  pub no_maintenance : x.core.station.state ≢ Maintenance
  pub apart : x.core.station.state ≡ Running → y.core.station.state ≢ IStart
  pub placed : is_some (place_of (good_frames y.core.limits.longest y.arrived) x.sent) ≡ true

pub record IsAwake (p : PairState) : Type 0 where
  pub a : p.a.core.station.state ≢ Halted
  pub b : p.b.core.station.state ≢ Halted

-- a property of pairs that each event keeps, and that shows this of both directions
pub record IsKept (Holds : PairState → Type 0) : Type 0 where
  pub event : (e : Event) (p : PairState) → Holds p → Holds (after_event e p)
  pub from_a : (p : PairState) → Holds p → p.honest ≡ true → is_clean p ≡ true → IsAwake p
      → Shows p.a p.b
  pub from_b : (p : PairState) → Holds p → p.honest ≡ true → is_clean p ≡ true → IsAwake p
      → Shows p.b p.a

pub run-keeps : (Holds : PairState → Type 0) → IsKept Holds → (events : List Event) (p : PairState)
    → Holds p → Holds (run events p)
unfolding run
run-keeps Holds k [] p h = h
run-keeps Holds k (e ∷ rest) p h = run-keeps Holds k rest (after_event e p) (k.event e p h)

-- ---- at any time of a settle

-- an end of a pair that settles
pub record Settles (W : ℕ) (x : EndState) : Type 0 where
  pub sound : IsSound x.core.limits x.core.station
  pub timed : IsTimed x.core.station
  pub awake : x.core.station.state ≢ Halted
  pub empty : x.core.station.inbox ≡ []
  pub window : x.core.limits.window ≤ W
  pub closed : open_at_end x.core.limits.longest x.arrived ≡ 0

pub record Steady (Holds : PairState → Type 0) (W : ℕ) (p : PairState) : Type 0 where
  pub kept : Holds p ⊎ Holds (turned p)
  pub honest : p.honest ≡ true
  pub clean : is_clean p ≡ true
  pub a : Settles W p.a
  pub b : Settles W p.b
  pub same : p.a.core.limits.longest ≡ p.b.core.limits.longest
  pub larger : max p.a.core.limits.window p.b.core.limits.window ≡ W

clean-turned : (p : PairState) → is_clean p ≡ true → is_clean (turned p) ≡ true
clean-turned p e = by (nat_le p.a.starts 1) (nat_le p.b.starts 1) e
  where
    by : (b d : Bool) → (b && d) ≡ true → (d && b) ≡ true
    by true true e = refl
    by true false e = absurd (cc)
    by false d e = absurd (cc)

pub steady-turned : (Holds : PairState → Type 0) (W : ℕ) (p : PairState) → Steady Holds W p
    → Steady Holds W (turned p)
steady-turned Holds W p h = record {
  kept = by h.kept;
  honest = h.honest;
  clean = clean-turned p h.clean;
  a = h.b;
  b = h.a;
  same = sym h.same;
  larger = larger h.larger;
}
  where
    by : Holds p ⊎ Holds (turned p) → Holds (turned p) ⊎ Holds p
    by (inl k) = inr k
    by (inr k) = inl k

    larger : max p.a.core.limits.window p.b.core.limits.window ≡ W
        → max p.b.core.limits.window p.a.core.limits.window ≡ W
    larger e = omega (arith, e)

pub steady-shows : (Holds : PairState → Type 0) → IsKept Holds → (W : ℕ) (p : PairState)
    → Steady Holds W p → Shows p.a p.b
steady-shows Holds k W p h = by h.kept
  where
    by : Holds p ⊎ Holds (turned p) → Shows p.a p.b
    by (inl g) = k.from_a p g h.honest h.clean (record { a = h.a.awake; b = h.b.awake })
    by (inr g) =
        k.from_b (turned p) g h.honest (clean-turned p h.clean)
        (record { a = h.b.awake; b = h.a.awake })

-- ---- half an exchange

pub half-kept : (Holds : PairState → Type 0) → IsKept Holds → (p : PairState)
    → Holds p ⊎ Holds (turned p) → Holds (half p) ⊎ Holds (turned (half p))
half-kept Holds k p (inl g) =
    inr (subst (λ (q : PairState). Holds q) (crossing-a p) (run-keeps Holds k (crossing A p) p g))
half-kept Holds k p (inr g) =
    inl
    (subst (λ (q : PairState). Holds q) (crossing-b (turned p))
    (run-keeps Holds k (crossing B (turned p)) (turned p) g))

-- the inbox stays while an end sends
pub inbox-sent : (s : StationState) (z : Next) → SentFor s z → (after_next z s).inbox ≡ s.inbox
inbox-sent s _ (sends_strt e d) = refl
inbox-sent s _ (sends_stack e d) = refl
inbox-sent s _ (sends_nak c e r) = refl
inbox-sent s _ (sends_rep e r f) = refl
inbox-sent s _ (sends_data e r f room) = refl
inbox-sent s _ (sends_ack e r f room) = refl
inbox-sent s _ (sends_maint m ms e o) = refl
inbox-sent s _ (halted_idles e) = refl
inbox-sent s _ (starting_idles e d) = refl
inbox-sent s _ (running_idles e r f room) = refl
inbox-sent s _ (maintenance_idles e o) = refl

-- and when its timer expires
pub expired-inbox : (s : StationState) → (after_expire s).inbox ≡ s.inbox
expired-inbox s = at s.timer
  where
    by : (p : State) → (after_expire_in p s).inbox ≡ s.inbox
    by Halted = refl
    by IStart = refl
    by AStart = refl
    by Running = refl
    by Maintenance = refl

    at : (t : Timer) → (after_expire_with t s).inbox ≡ s.inbox
    at Off = refl
    at Fresh = by s.state
    at On = by s.state

pub starts-same : (n r : ℕ) → r ≡ 0 → nat_le n 1 ≡ true → count_plus n r ≡ n
starts-same n r z e = let low : n ≤ 1 = grind (arith) in omega (arith, z, low)
