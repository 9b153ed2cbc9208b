-- An end's numbers after an acknowledgement.
use Rattle.std.proofs.Common.{◌≡◌, ℕ, ◌+◌, ◌-◌, ◌%◌, ◌<◌, ◌≤◌, max, Bool, true, false, cond, List}
use Rattle.std.proofs.Common.{drop, refl, ap, ◌∙◌, arith}
use Rattle.std.proofs.lemmas.List.{drop-drop}
use Rattle.std.specs.Prelude.{◌==◌, nat_lt}
use Rattle.ddcmp_core.specs.Sequence.{distance}
use Rattle.ddcmp_core.specs.Numbers.{is_within, next_number}
use Rattle.ddcmp_core.specs.Table.{StationState, before_next, newly_acknowledged, after_ack}
use Rattle.ddcmp_pair.proofs.Modulo.{distance-near, within-near}
use Rattle.ddcmp_pair.proofs.Relation.{Counts}

newly-number : (w a q n : ℕ) → w ≤ 255 → a ≤ q → q ≤ n → n ≤ a + w
    → cond (is_within (a % 256) (q % 256) (n % 256)) (distance (a % 256) (q % 256)) 0 ≡ q - a
newly-number w a q n small low high near =
    let within = within-near w a q n small low high near in
    let t : is_within (a % 256) (q % 256) (n % 256) ≡ true = grind (arith, within) in
    ap (λ b. cond b (distance (a % 256) (q % 256)) 0) t ∙ distance-near a q low (omega arith)

pub newly-is : (s : StationState) (w : ℕ) (given : List (List ℕ)) (acked sent next up q : ℕ)
    → Counts s w given acked sent next up
    → acked ≤ q → q ≤ sent → newly_acknowledged s (q % 256) ≡ q - acked
newly-is s w given acked sent next up q c low high =
    ap (λ (p : ℕ × ℕ). cond (is_within p.0 (q % 256) p.1) (distance p.0 (q % 256)) 0)
    (λ i. (c.a_is i, c.n_is i))
    ∙ newly-number w acked q sent c.small low high (omega (arith, c.sent_given, c.window))

pub before-is : (s : StationState) (w : ℕ) (given : List (List ℕ)) (acked sent next up : ℕ)
    → Counts s w given acked sent next up
    → before_next s ≡ next - 1 - acked
before-is s w given acked sent next up c =
    omega (arith, c.a_is, c.t_is, c.t_low, c.t_high, c.sent_given, c.window, c.small)

next-after : (p m q next acked t : ℕ) → t ≡ next % 256 → acked < next → acked ≤ q
    → p ≡ next - 1 - acked → m ≡ q - acked
    → cond (nat_lt p m) (next_number (q % 256)) t ≡ max next (q + 1) % 256
next-after p m q next acked t e low far ep em = by (nat_lt p m) refl
  where
    by : (b : Bool) → nat_lt p m ≡ b → cond b (next_number (q % 256)) t ≡ max next (q + 1) % 256
    by true x =
        let y : p < m = grind (arith) in let z : max next (q + 1) ≡ q + 1 = omega arith in
        rw z (omega arith)
    by false x =
        let y : m ≤ p = grind (arith) in let z : max next (q + 1) ≡ next = omega arith in rw z e

a-after : (m q acked a : ℕ) → a ≡ acked % 256 → acked ≤ q → m ≡ q - acked
    → cond (m == 0) a (q % 256) ≡ q % 256
a-after m q acked a e low em = by (m == 0) refl
  where
    by : (b : Bool) → (m == 0) ≡ b → cond b a (q % 256) ≡ q % 256
    by true x =
        let z : m ≡ 0 = grind (arith) in let y : acked ≡ q = omega arith in e ∙ ap (λ n. n % 256) y
    by false x = refl

pub counts-after-ack : (s : StationState) (w : ℕ) (given : List (List ℕ)) (acked sent next up q : ℕ)
    → Counts s w given acked sent next up
    → acked ≤ q → q ≤ sent → Counts (after_ack s (q % 256)) w given q sent (max next (q + 1)) up
counts-after-ack s w given acked sent next up q c low high =
    let m = newly-is s w given acked sent next up q c low high in
    record {
      a_is = a-after (newly_acknowledged s (q % 256)) q acked s.a c.a_is low m;
      n_is = c.n_is;
      t_is =
          next-after (before_next s) (newly_acknowledged s (q % 256))
          q next acked s.t c.t_is c.t_low low (before-is s w given acked sent next up c) m;
      r_is = c.r_is;
      out_is =
          ap (λ l. drop (newly_acknowledged s (q % 256)) l) c.out_is
          ∙ drop-drop (newly_acknowledged s (q % 256)) acked given
          ∙ ap (λ n. drop n given) (omega (arith, m));
      t_low = omega arith;
      t_high = omega (arith, c.t_high);
      window = omega (arith, c.window);
      small = c.small;
      acked_given = high;
      sent_given = c.sent_given;
    }
