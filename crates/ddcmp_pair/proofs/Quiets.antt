-- A settle is quiet within its count, since each frame costs something.
use Rattle.std.proofs.Common.{◌≡◌, ℕ, zero, suc, ◌+◌, ◌*◌, ◌<◌, ◌≤◌, max, Bool, true, false, List}
use Rattle.std.proofs.Common.{Option, Some, None, refl, sym, ap, ◌∙◌, subst, arith}
use Rattle.std.specs.Prelude.{◌||◌, is_some}
use Rattle.ddcmp_pair.specs.Run.{PairState, line_bytes, run}
use Rattle.ddcmp_pair.specs.Settle.{Settling, counted, exchange, either_writes, exchanges_within}
use Rattle.ddcmp_pair.specs.Settle.{all_mail, most_exchanges, settling, settled}
use Rattle.ddcmp_pair.proofs.Runs.{run-append}
use Rattle.ddcmp_pair.proofs.Settles.{exchanged, quieted, settling-exchanges, settling-quiet}
use Rattle.ddcmp_pair.proofs.Settles.{settled-is}
use Rattle.ddcmp_pair.proofs.Crossings.{mailed, all-mail, turned, crossed_by, half, exchange-is}
use Rattle.ddcmp_pair.proofs.Crossings.{either-is}
use Rattle.ddcmp_pair.proofs.Costs.{cost, cost_most, Falls, falls}
use Rattle.ddcmp_pair.proofs.Steady.{IsKept, Steady, steady-turned}
use Rattle.ddcmp_pair.proofs.Halves.{view, steady-ordered, steady-crossing}

-- neither end has a frame to send
pub record Rests (p : PairState) : Type 0 where
  pub a : is_some (line_bytes p.a) ≡ false
  pub b : is_some (line_bytes p.b) ≡ false

half-idle : (p : PairState) → is_some (line_bytes p.a) ≡ false → half p ≡ turned p
half-idle p e = by (line_bytes p.a) e
  where
    by : (o : Option (List ℕ)) → is_some o ≡ false → turned (crossed_by o p) ≡ turned p
    by None e = refl
    by (Some bytes) e = absurd (cc)

abbrev pub price : ℕ → PairState → ℕ
price W p = cost W (view p.a) + cost W (view p.b)

falls-swapped : (b : Bool) (m n o : ℕ) → Falls b (m + n) o → Falls b (n + m) o
falls-swapped true m n o h = omega (arith, h)
falls-swapped false m n o h = omega (arith, h)

-- a settle that was quiet after so many exchanges, and left a pair at rest with this property
pub record Quiets (Kept : PairState → Type 0) (most : ℕ) (s : Settling) (last : PairState)
    : Type 0 where
  pub quiet : s.quiet ≡ true
  pub count : s.exchanges ≤ most
  pub kept : Kept last
  pub rests : Rests last

first-false : (b c : Bool) → (b || c) ≡ false → b ≡ false
first-false true c e = absurd (cc)
first-false false c e = refl

second-false : (b c : Bool) → (b || c) ≡ false → c ≡ false
second-false true c e = absurd (cc)
second-false false c e = e

module _ (Holds : PairState → Type 0) (k : IsKept Holds) (W : ℕ) where
  pub price-most : (p : PairState) → Steady Holds W p → price W p ≤ 12 * W + 12
  price-most p h =
      let m = cost_most W (view p.a) (view p.b) (steady-ordered Holds k W p h) in
      let n =
      cost_most W (view p.b) (view p.a)
      (steady-ordered Holds k W (turned p) (steady-turned Holds W p h)) in
      omega (arith, m, n)

  price-falls : (p : PairState) → Steady Holds W p
      → Falls (is_some (line_bytes p.a)) (price W (half p)) (price W p)
  price-falls p h =
      falls-swapped (is_some (line_bytes p.a)) (cost W (view (half p).b)) (cost W (view (half p).a))
      (price W p)
      (falls W (view p.a) (view p.b) (is_some (line_bytes p.a)) (view (half p).b) (view (half p).a)
      (steady-ordered Holds k W p h)
      (steady-ordered Holds k W (turned p) (steady-turned Holds W p h))
      (steady-crossing Holds k W p h))

  -- what each half exchange keeps
  module _ (Kept : PairState → Type 0) (steady : (p : PairState) → Kept p → Steady Holds W p)
      (keeps : (p : PairState) → Kept p → Kept (half p)) where
    -- an exchange in which neither end sends changes nothing
    idle : (p : PairState) → Kept p → either_writes p ≡ false
        → Quiets Kept 0 (record { events = exchange p; exchanges = 0; quiet = true })
        (run (exchange p) p)
    idle p h e =
        let w = sym (either-is p) ∙ e in
        let e1 : is_some (line_bytes p.a) ≡ false =
        first-false (is_some (line_bytes p.a)) (is_some (line_bytes (half p).a)) w in
        let e2 : is_some (line_bytes (half p).a) ≡ false =
        second-false (is_some (line_bytes p.a)) (is_some (line_bytes (half p).a)) w in
        let t = half-idle p e1 in
        let s : run (exchange p) p ≡ p = exchange-is p ∙ half-idle (half p) e2 ∙ ap turned t in
        let r : is_some (line_bytes p.b) ≡ false =
        ap (λ (q : PairState). is_some (line_bytes q.a)) (sym t) ∙ e2 in
        let a : Kept (run (exchange p) p) × Rests (run (exchange p) p) =
        subst (λ (q : PairState). Kept q × Rests q) (sym s) (h, record { a = e1; b = r }) in
        record { quiet = refl; count = omega arith; kept = a.0; rests = a.1 }

    price-exchanged : (p : PairState) → Kept p → either_writes p ≡ true
        → price W (half (half p)) < price W p
    price-exchanged p h e =
        by (is_some (line_bytes p.a)) (is_some (line_bytes (half p).a)) (sym (either-is p) ∙ e)
        (price-falls p (steady p h)) (price-falls (half p) (steady (half p) (keeps p h)))
      where
        by : (b c : Bool) → (b || c) ≡ true → Falls b (price W (half p)) (price W p)
            → Falls c (price W (half (half p))) (price W (half p))
            → price W (half (half p)) < price W p
        by true true t f g = omega (arith, f, g)
        by true false t f g = omega (arith, f, g)
        by false true t f g = omega (arith, f, g)
        by false false t f g = absurd (cc)

    more : {m n : ℕ} {s : Settling} {q : PairState} → m ≤ n → Quiets Kept m s q → Quiets Kept n s q
    more h q =
        let c = q.count in
        record { quiet = q.quiet; count = omega (arith, c, h); kept = q.kept; rests = q.rests }

    -- one exchange, and the rest
    after-exchange : (n : ℕ) (p : PairState) (rest : Settling)
        → Quiets Kept n rest (run rest.events (run (exchange p) p))
        → Quiets Kept (n + 1) (counted (exchange p) rest) (run (counted (exchange p) rest).events p)
    after-exchange n p rest q =
        let c = q.count in
        let e = run-append (exchange p) rest.events p in
        record {
          quiet = q.quiet;
          count = omega (arith, c);
          kept = subst (λ (z : PairState). Kept z) (sym e) q.kept;
          rests = subst (λ (z : PairState). Rests z) (sym e) q.rests;
        }

    pub exchanges-quiet : (n : ℕ) (p : PairState) → Kept p → price W p < n
        → Quiets Kept (price W p) (exchanges_within n p) (run (exchanges_within n p).events p)
    exchanges-quiet zero p h lt = absurd (omega (arith, lt))
    exchanges-quiet (suc n) p h lt =
        by (either_writes p) refl (exchanges-quiet n (half (half p)) (keeps (half p) (keeps p h)))
      where
        by : (b : Bool) → either_writes p ≡ b
            → (price W (half (half p)) < n
            → Quiets Kept (price W (half (half p))) (exchanges_within n (half (half p)))
            (run (exchanges_within n (half (half p))).events (half (half p))))
            → Quiets Kept (price W p) (exchanges_within (suc n) p)
            (run (exchanges_within (suc n) p).events p)
        by true e on =
            let f = price-exchanged p h e in
            let i = on (omega (arith, f, lt)) in
            let j =
            subst
            (λ (z : PairState). Quiets Kept (price W (half (half p))) (exchanges_within n z)
            (run (exchanges_within n z).events z)) (sym (exchange-is p)) i in
            subst (λ (s : Settling). Quiets Kept (price W p) s (run s.events p))
            (sym (exchanged n p e))
            (more (omega (arith, f))
            (after-exchange (price W (half (half p))) p
            (exchanges_within n (run (exchange p) p)) j))
        by false e on =
            subst (λ (s : Settling). Quiets Kept (price W p) s (run s.events p))
            (sym (quieted n p e)) (more (omega arith) (idle p h e))

    -- a settle takes the mail first
    pub settles-quiet : (p : PairState) → Kept (mailed p)
        → max p.a.core.limits.window p.b.core.limits.window ≡ W
        → Quiets Kept (12 * W + 12) (settling p) (settled p)
    settles-quiet p h larger =
        let m = price-most (mailed p) (steady (mailed p) h) in
        let q = exchanges-quiet (most_exchanges p) (mailed p) h (omega (arith, m, larger)) in
        let j =
        subst
        (λ (z : PairState). Quiets Kept (price W (mailed p))
        (exchanges_within (most_exchanges p) z)
        (run (exchanges_within (most_exchanges p) z).events z)) (sym (all-mail p)) q in
        let e =
        settled-is p
        (run (exchanges_within (most_exchanges p) (run (all_mail p) p)).events
        (run (all_mail p) p)) refl in
        let c = j.count in
        let x = settling-exchanges p in
        record {
          quiet = settling-quiet p ∙ j.quiet;
          count = omega (arith, c, x, m);
          kept = subst (λ (z : PairState). Kept z) e j.kept;
          rests = subst (λ (z : PairState). Rests z) e j.rests;
        }
