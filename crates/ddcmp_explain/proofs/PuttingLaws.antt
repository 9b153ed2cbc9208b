-- Texts that are put one after another, and the digits of numbers.
use Rattle.std.proofs.Common.{◌≡◌, ℕ, zero, suc, ◌+◌, ◌-◌, ◌/◌, ◌%◌, ◌^◌, ◌<◌, ◌≤◌, List, [], ◌∷◌}
use Rattle.std.proofs.Common.{◌++◌, length, take, map, get_or, refl, sym, ◌∙◌, ap, drop, subst}
use Rattle.std.proofs.Common.{arith, append_assoc, length-append, length-drop, take_all}
use Rattle.std.proofs.Common.{Bool, true, false, inl, inr}
use Rattle.std.specs.Prelude.{◌*◌, ◌&&◌, nat_lt}
use Rattle.std.proofs.lemmas.Bool.{cases_lt}
use Rattle.std.proofs.lemmas.Nat.{leading_top}
use lib.Count.{count_leading_zeros}
use Rattle.ddcmp_frame.proofs.Tests.{ltb-less}
use Rattle.std.proofs.Math.Seq.{take-add}
use Rattle.std.proofs.lemmas.List.{take-take, take_at, drop_at, length-take}
use Rattle.std.proofs.lemmas.Fmt.{decimal_digit, decimal_step}
use Rattle.std.specs.Fmt.{decimal}
use Rattle.std.specs.List.{range_with_len}
use Rattle.std.proofs.lemmas.List.FromFn.{get_or-map-range_with_len}
use Rattle.ddcmp_explain.specs.declared.put.TheConstants.{POWERS}
use Rattle.ddcmp_explain.specs.Inside.Putting.{Puts}

-- one text after another
pub puts-then : {a b c : List ℕ} {i j k : ℕ} {s t : List ℕ} → Puts a i b j s → Puts b j c k t
    → Puts a i c k (s ++ t)
puts-then {a} {b} {c} {i} {j} {k} {s} {t} p q = record {
  ends = omega (arith, p.ends, q.ends, length-append s t);
  holds = q.holds ∙ ap (λ x. x ++ t) p.holds ∙ append_assoc (take i a) s t;
}

pub puts-as : {a b : List ℕ} {i j : ℕ} {s t : List ℕ} → s ≡ t → Puts a i b j s → Puts a i b j t
puts-as {a} {b} {i} {j} e p = subst (λ t. Puts a i b j t) e p

-- the front of a text: what comes after it is of no account
pub puts-front : {a b : List ℕ} {i j : ℕ} {s : List ℕ} (k : ℕ) → i ≤ length a → k ≤ length s
    → Puts a i b j s → Puts a i b (i + k) (take k s)
puts-front {a} {b} {i} {j} {s} k inside short p =
    let front = length-take i a in
    record {
      ends = omega (arith, length-take k s);
      holds = sym (take-take (i + k) j b (omega (arith, p.ends)))
          ∙ ap (take (i + k)) p.holds
          ∙ take-add i k (take i a ++ s)
          ∙ ap (λ x. x ++ take k (drop i (take i a ++ s)))
          (take_at (take i a) s i (omega (arith, front)))
          ∙ ap (λ x. take i a ++ take k x) (drop_at (take i a) s i (omega (arith, front)));
    }

-- what stands in an array that held nothing
pub puts-whole : {a b : List ℕ} {k : ℕ} {t : List ℕ} → Puts a 0 b k t → take k b ≡ t
puts-whole p = p.holds

-- the same without its first bytes
pub puts-rest : {a b : List ℕ} {k : ℕ} {t : List ℕ} (n : ℕ) → Puts a 0 b k t
    → take (length (take k b) - n) (drop n (take k b)) ≡ drop n t
puts-rest {a} {b} {k} {t} n p =
    take_all (length (take k b) - n) (drop n (take k b)) (omega (arith, length-drop n (take k b)))
    ∙ ap (drop n) p.holds

-- ---- numbers

pub decimal-two : (n : ℕ) → 10 ≤ n → n < 100 → (48 + n / 10) ∷ (48 + n % 10) ∷ [] ≡ decimal n
decimal-two n low high =
    sym (decimal_step n low (omega arith)
    ∙ ap (λ t. t ++ (48 + n % 10) ∷ []) (decimal_digit (n / 10) (omega arith)))

pub decimal-three : (n : ℕ) → 100 ≤ n → n < 1000
    → (48 + n / 10 / 10) ∷ (48 + n / 10 % 10) ∷ (48 + n % 10) ∷ [] ≡ decimal n
decimal-three n low high =
    sym (decimal_step n (omega arith) (omega arith)
    ∙ ap (λ t. t ++ (48 + n % 10) ∷ [])
    (sym (decimal-two (n / 10) (omega arith) (omega arith))))

-- how many digits a number has that stands between two powers of ten
pub decimal-long : (k n : ℕ) → 10 ^ k ≤ n → n < 10 ^ (suc k) → n < 2 ^ 64
    → length (decimal n) ≡ suc k
decimal-long zero n low high fits = ap length (decimal_digit n (omega arith))
decimal-long (suc k) n low high fits =
    let shorter = decimal-long k (n / 10) (omega arith) (omega arith) (omega arith) in
    let least : 10 ≤ n = omega arith in
    ap length (decimal_step n least fits) ∙ length-append (decimal (n / 10)) ((48 + n % 10) ∷ [])
    ∙ omega (arith, shorter)

-- so many digits: at least the power of ten below, or one digit, and below the next power
pub decimal-digits : (d n : ℕ) → 0 < d → (1 < d → 10 ^ (d - 1) ≤ n) → n < 10 ^ d → n < 2 ^ 64
    → d ≡ length (decimal n)
decimal-digits zero n some low high fits = absurd (omega arith)
decimal-digits (suc zero) n some low high fits = sym (ap length (decimal_digit n (omega arith)))
decimal-digits (suc (suc k)) n some low high fits =
    let below : suc (suc k) - 1 ≡ suc k = omega arith in
    sym (decimal-long (suc k) n (subst (λ d. 10 ^ d ≤ n) below (low (omega arith))) high fits)

power : ℕ → ℕ
power k = 10 ^ k

powers-computed : POWERS ≡ map power (range_with_len 0 20)
unfolding power
powers-computed = refl

pub power-at : (k : ℕ) → k < 20 → get_or POWERS k 0 ≡ 10 ^ k
unfolding power
power-at k h =
    ap (λ t. get_or t k 0) powers-computed
    ∙ get_or-map-range_with_len power 0 20 k k 0 h (omega arith)

-- ---- how many digits a number has, by its highest bit

-- a power of ten that is within 2^j
abbrev power_within : ℕ → ℕ
power_within j = j * 1233 / 4096

-- and the next power of two within the next but one of ten: for each j below n
fits : ℕ → Bool
fits zero = true
fits (suc j) =
    nat_lt (10 ^ power_within j) (2 ^ j + 1)
    && (nat_lt (2 ^ suc j) (10 ^ (power_within j + 2) + 1) && fits j)

fits-computed : fits 64 ≡ true
unfolding fits
fits-computed = refl

both : (a b : Bool) → (a && b) ≡ true → (a ≡ true) × (b ≡ true)
both true b e = (refl, e)
both false b e = cc

fits-at : (n j : ℕ) → j < n → fits n ≡ true
    → (10 ^ power_within j ≤ 2 ^ j) × (2 ^ suc j ≤ 10 ^ (power_within j + 2))
unfolding fits
fits-at zero j h e = absurd (omega arith)
fits-at (suc n) j h e =
    let here = both (nat_lt (10 ^ power_within n) (2 ^ n + 1)) _ e in
    let next = both (nat_lt (2 ^ suc n) (10 ^ (power_within n + 2) + 1)) (fits n) here.1 in
    elim (cases_lt j n) [
      | inl below ↦ fits-at n j below next.1
      | inr last ↦
          subst (λ j. (10 ^ power_within j ≤ 2 ^ j) × (2 ^ suc j ≤ 10 ^ (power_within j + 2)))
          (let same : n ≡ j = omega arith in same) (
            omega (arith, ltb-less (10 ^ power_within n) (2 ^ n + 1) here.0),
            omega (arith, ltb-less (2 ^ suc n) (10 ^ (power_within n + 2) + 1) next.0),
          )
    ]

-- what is within the number decides between two counts of digits
pub digits-by-bit : (n : ℕ) → 10 ≤ n → n < 2 ^ 64
    → (10 ^ (power_within (63 - count_leading_zeros 64 n) + 1) ≤ n
    → power_within (63 - count_leading_zeros 64 n) + 1 + 1 ≡ length (decimal n))
    × (n < 10 ^ (power_within (63 - count_leading_zeros 64 n) + 1)
    → power_within (63 - count_leading_zeros 64 n) + 1 ≡ length (decimal n))
digits-by-bit n least wide =
    let top = leading_top 64 n (omega arith) wide in
    let j = top.0 in
    let is : 63 - count_leading_zeros 64 n ≡ j = omega (arith, top.1) in
    let within = fits-at 64 j (omega (arith, top.1)) fits-computed in
    let k = power_within j in
    let more : k + 1 + 1 - 1 ≡ k + 1 = omega arith in
    let two : k + 2 ≡ k + 1 + 1 = omega arith in
    let same : k + 1 - 1 ≡ k = omega arith in
    rw is (
      λ high. decimal-digits (k + 1 + 1) n (omega arith)
          (λ _. subst (λ d. 10 ^ d ≤ n) (sym more) high)
          (subst (λ d. n < 10 ^ d) two (omega (arith, within.1, top.3))) wide,
      λ low. decimal-digits (k + 1) n (omega arith)
          (λ _. subst (λ d. 10 ^ d ≤ n) (sym same) (omega (arith, within.0, top.2))) low wide,
    )
