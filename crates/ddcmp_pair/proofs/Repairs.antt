-- If a pair is ready, a recovery repairs it.
use Rattle.std.proofs.Common.{◌≡◌, ◌≢◌, inl, ℕ, zero, suc, ◌+◌, ◌*◌, ◌≤◌, Bool, true, false, []}
use Rattle.std.proofs.Common.{◌∷◌, refl, sym, ap, ◌∙◌, subst, arith}
use Rattle.std.specs.Prelude.{◌&&◌, ◌==◌, not}
use Rattle.std.specs.List.{All}
use Rattle.ddcmp_frame.specs.Reading.{open_at_end}
use Rattle.ddcmp_core.specs.declared.state.State.{State}
use Rattle.ddcmp_core.specs.declared.state.State.TheVariants.{Halted, IStart, AStart, Running}
use Rattle.ddcmp_core.specs.declared.state.State.TheVariants.{Maintenance}
use Rattle.ddcmp_core.specs.Table.{is_halted}
use Rattle.ddcmp_core.specs.Core.{IsSound}
use Rattle.ddcmp_pair.specs.Run.{EndState, PairState, is_clean}
use Rattle.ddcmp_pair.specs.Settle.{most_exchanges}
use Rattle.ddcmp_pair.specs.Recovery.{is_ready_here, is_ready, larger_window, IsRepaired}
use Rattle.ddcmp_pair.proofs.Recoveries.{recovering-is}
use Rattle.ddcmp_pair.proofs.Alone.{Alone, BothAlone}
use Rattle.ddcmp_pair.proofs.Steady.{IsKept}
use Rattle.ddcmp_pair.proofs.Rounds.{Calm, steady-mailed, Recovers, steady-recovers}

both : (b d : Bool) → (b && d) ≡ true → (b ≡ true) × (d ≡ true)
both true d e = (refl, e)
both false d e = absurd (cc e)

awake-is : (p : State) → not (is_halted p) ≡ true → p ≢ Halted
awake-is Halted e z = absurd (cc e)
awake-is IStart e z = absurd (cc z)
awake-is AStart e z = absurd (cc z)
awake-is Running e z = absurd (cc z)
awake-is Maintenance e z = absurd (cc z)

same-is : (m n : ℕ) → (m == n) ≡ true → m ≡ n
same-is m n e = grind (arith)

all-three : (most a b c : ℕ) → a ≤ most → b ≤ most → c ≤ most → All (λ n. n ≤ most) (a ∷ b ∷ c ∷ [])
all-three most a b c ea eb ec zero d h = ea
all-three most a b c ea eb ec (suc zero) d h = eb
all-three most a b c ea eb ec (suc (suc zero)) d h = ec
all-three most a b c ea eb ec (suc (suc (suc i))) d h = absurd (omega (arith, h))

module _ (Holds : PairState → Type 0) (k : IsKept Holds) where
  calm : (W : ℕ) (x : EndState) → Alone x → IsSound x.core.limits x.core.station
      → x.core.limits.window ≤ W → is_ready_here x ≡ true → Calm Holds k W x
  calm W x a s w e =
      let z =
      both (not (is_halted x.core.station.state))
      (open_at_end x.core.limits.longest x.arrived == 0) e in
      record {
        sound = s;
        timed = a.timed;
        awake = awake-is x.core.station.state z.0;
        window = w;
        closed = same-is (open_at_end x.core.limits.longest x.arrived) 0 z.1;
      }

  repaired-by : (p : PairState) → Recovers Holds k (larger_window p) p → IsRepaired p
  repaired-by p r =
      let e = recovering-is p in
      let f = r.settles.count in
      let g = r.once.count in
      let h = r.twice.count in
      record {
        quiet =
            ap (λ t. t.quiet) e ∙ (λ i. r.settles.quiet i && (r.once.quiet i && r.twice.quiet i));
        within =
            subst (λ t. All (λ n. n ≤ most_exchanges p) t.exchanges) (sym e)
            (all-three (most_exchanges p) _ _ _ (omega (arith, f)) (omega (arith, g))
            (omega (arith, h)));
        fewer =
            subst (λ t. All (λ n. n ≤ 12 * larger_window p + 12) t.exchanges) (sym e)
            (all-three (12 * larger_window p + 12) _ _ _ f g h);
        done = r.done;
      }

  pub ready-recovers : (p : PairState) → Holds p → BothAlone p
      → IsSound p.a.core.limits p.a.core.station → IsSound p.b.core.limits p.b.core.station
      → is_ready p ≡ true
      → Recovers Holds k (larger_window p) p
  ready-recovers p h alone a b e =
      let z = both (p.honest && is_clean p) _ e in
      let honest = both p.honest (is_clean p) z.0 in
      let y =
      both (is_ready_here p.a && is_ready_here p.b)
      (p.a.core.limits.longest == p.b.core.limits.longest) z.1 in
      let here = both (is_ready_here p.a) (is_ready_here p.b) y.0 in
      let W = larger_window p in
      steady-recovers Holds k W p refl
      (steady-mailed Holds k W p (inl h) honest.0 honest.1
      (calm W p.a alone.a a (omega arith) here.0) (calm W p.b alone.b b (omega arith) here.1)
      (same-is _ _ y.1) refl)

  pub ready-repaired : (p : PairState) → Holds p → BothAlone p
      → IsSound p.a.core.limits p.a.core.station → IsSound p.b.core.limits p.b.core.station
      → is_ready p ≡ true → IsRepaired p
  ready-repaired p h alone a b e = repaired-by p (ready-recovers p h alone a b e)
