-- The faults that a bridge draws, by their number.
use Rattle.std.proofs.Common.{◌≡◌, ◌∙◌, ap, refl, ℕ, zero, suc, ◌+◌, ◌*◌, ◌≤◌, ◌<◌, ◌%◌}
use Rattle.std.proofs.Common.{◌/◌, ◌-◌, Bool, true, false, cond, arith}
use Rattle.std.specs.Prelude.{min, nat_lt, ◌≢◌, ◌^◌}
use Rattle.rand_pcg.specs.Lcg.{Lcg}
use Rattle.ddcmp_bridge.specs.Delaying.{due_after}
use Rattle.ddcmp_bridge.specs.Faults.{fate_by, loses, start_of}
use Rattle.ddcmp_bridge.specs.declared.faults.Faults.{Faults}
use Rattle.ddcmp_bridge.specs.declared.faults.Fate.TheVariants.{Passed, Lost, Altered}
use Rattle.ddcmp_laws.specs.BridgeFaults.{IsAltered, lost_among}

-- one frame is lost, or not, whatever else would come of it
one-lost : (faults : Faults) (size word second : ℕ) (n : ℕ) → word % 100 ≡ n
    → loses (fate_by faults size word second) ≡ cond (nat_lt n faults.lose) 1 0
one-lost faults size word second n is =
    by (nat_lt (word % 100) faults.lose) (nat_lt (word / 100 % 100) faults.damage)
    ∙ ap (λ m. cond (nat_lt m faults.lose) 1 0) is
  where
    by : (lost damaged : Bool)
        → loses
        (cond lost Lost
        (cond damaged (Altered (1 + second % (size - 1)) (1 + second / 65536 % 255)) Passed))
        ≡ cond lost 1 0
    by true d = refl
    by false true = refl
    by false false = refl

count-more : (n lose : ℕ) → cond (nat_lt n lose) 1 0 + min n lose ≡ min (suc n) lose
count-more n lose = grind arith

pub lost-in : (faults : Faults) (size k : ℕ) (second : ℕ → ℕ) (n : ℕ) → n ≤ 100
    → lost_among faults size (100 * k) second n ≡ min n faults.lose
unfolding lost_among
lost-in faults size k second zero h = omega arith
lost-in faults size k second (suc n) h =
    ap (λ m. m + lost_among faults size (100 * k) second n)
    (one-lost faults size (100 * k + n) (second n) n (omega (arith, h)))
    ∙ ap (λ m. cond (nat_lt n faults.lose) 1 0 + m)
    (lost-in faults size k second n (omega (arith, h)))
    ∙ count-more n faults.lose

not-below : (n limit : ℕ) → limit ≡ 0 → nat_lt n limit ≡ false
not-below n limit none = grind (arith, none)

below : (n limit : ℕ) → n < 100 → 100 ≤ limit → nat_lt n limit ≡ true
below n limit h all = grind (arith, h, all)

pub altered-by : (faults : Faults) (size first second : ℕ) → faults.lose ≡ 0 → 100 ≤ faults.damage
    → IsAltered (fate_by faults size first second)
altered-by faults size first second none all =
    by (nat_lt (first % 100) faults.lose) (nat_lt (first / 100 % 100) faults.damage)
    (not-below (first % 100) faults.lose none)
    (below (first / 100 % 100) faults.damage (omega arith) all)
  where
    by : (lost damaged : Bool) → lost ≡ false → damaged ≡ true
        → IsAltered
        (cond lost Lost
        (cond damaged (Altered (1 + second % (size - 1)) (1 + second / 65536 % 255)) Passed))
    by true d e f = cc
    by false false e f = cc
    by false true e f = tt

pub passed-by : (faults : Faults) (size first second : ℕ) → faults.lose ≡ 0 → faults.damage ≡ 0
    → fate_by faults size first second ≡ Passed
passed-by faults size first second none clean =
    by (nat_lt (first % 100) faults.lose) (nat_lt (first / 100 % 100) faults.damage)
    (not-below (first % 100) faults.lose none) (not-below (first / 100 % 100) faults.damage clean)
  where
    by : (lost damaged : Bool) → lost ≡ false → damaged ≡ false
        → cond lost Lost
        (cond damaged (Altered (1 + second % (size - 1)) (1 + second / 65536 % 255)) Passed)
        ≡ Passed
    by true d e f = cc
    by false true e f = cc
    by false false e f = refl

pub apart : (seed : ℕ) → start_of seed 0 ≢ start_of seed 1
apart seed e = no (ap (λ (l : Lcg). l.increment) e)
  where
    no : ◌≡◌ {A = ℕ} 1 3 → ⊥
    no f = omega (arith, f)

pub due-later : (delay now : ℕ) → now + delay < 2 ^ 64 → due_after delay now ≡ now + delay
due-later delay now h = grind (arith, h)
